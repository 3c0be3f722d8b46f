-- What the code finds for the text of a field.
use Rattle.std.specs.Prelude.{◌≡◌, true, Option, Some, None, decimal, is_some, MatchOption}
use Rattle.json.specs.Json.{Json, null, number, string}
use Rattle.line_shapes.specs.Fields.{hex_list_of, list_of, number_of, pair_of}
use Rattle.line_shapes.specs.declared.fields.Found.{Found}
use Rattle.line_shapes.specs.declared.fields.Found.TheVariants as found
use Rattle.line_shapes.specs.declared.fields.Item.{Item}
use Rattle.line_shapes.specs.declared.fields.Item.TheVariants as item

abbrev pub found_json : Found → Option Json
found_json found.Null = Some null
found_json (found.Text text) = Some (string text.now)
found_json (found.Number text) = number_of text.now
found_json (found.Unsigned n) = Some (number (decimal n))
found_json (found.List text) = list_of text.now
found_json (found.Words text) = hex_list_of text.now

-- This is found, and stands for the value; or nothing, if there is no value.
abbrev pub IsFound : Option Found → Option Json → Type 0
IsFound r j = MatchOption r (j ≡ None) (λ f. (found_json f ≡ j) × (is_some j ≡ true))

abbrev pub item_json : Item → Option Json
item_json (item.One text) = number_of text.now
item_json (item.Pair one other) = pair_of one.now other.now

abbrev pub IsItem : Option Item → Option Json → Type 0
IsItem r j = MatchOption r (j ≡ None) (λ i. (item_json i ≡ j) × (is_some j ≡ true))
