-- A reader of JSON gets the object of a line back.
use Rattle.std.proofs.Common.{◌≡◌, ◌∙◌, ◌≤◌, ℕ, Bool, cond, true, false, sym, ap, arith, List, [], ◌∷◌, Option, Some, None, append-nil, option_map}
use Rattle.std.specs.Prelude.{IfSome, bytes_eq, codes, decimal, option_and_then, unwrap_or}
use Rattle.std.specs.List.{list_all}
use Rattle.json.specs.Json.{Json, Items, Members, array, document, if_last, item, max_depth, no_items, no_members, null, number, string, value}
use Rattle.json.specs.Lex.{tokens}
use Rattle.json.specs.Print.{print}
use Rattle.json.specs.Token.{Token}
use Rattle.json.specs.Tree.{depth, items_depth, json_tokens, members_depth}
use Rattle.json.proofs.Printed.Trees.{value-json_tokens}
use Rattle.line_shapes.specs.Cuts.{after, upto, words_of}
use Rattle.line_shapes.specs.Fields.{hex_items_of, hex_number, counted, hex_value_after, is_code, is_empty, is_hex_digit, is_number, item_at, item_of, items_of}
use Rattle.line_shapes.specs.Fields.{number_of, pair_of, plural, value_of}
use Rattle.line_shapes.specs.Shapes.{field_in, members_of, object_of, object_with, with_member}
use Rattle.line_shapes.specs.declared.shape.Kind.{Kind}
use Rattle.line_shapes.specs.declared.shape.Kind.TheVariants as kind
use Rattle.line_shapes.specs.declared.shape.Part.{Part}
use Rattle.line_shapes.specs.declared.shape.Part.TheVariants as part
use Rattle.line_shapes.specs.declared.shape.Shape.{Shape}

-- If its tokens are those of a value that is not too deep, a text reads as the value.
pub read_back : (j : Json) (ts : List Token) (text : List ℕ) → text ≡ print ts → tokens (print ts) ≡ ts → ts ≡ json_tokens j → depth j ≤ max_depth
    → document text ≡ Some j
read_back j ts text printed reads is shallow =
    ap document printed
    ∙ ap (option_and_then (λ p. if_last p.0 p.1))
    (ap (value max_depth) (reads ∙ is ∙ sym (append-nil (json_tokens j))) ∙ value-json_tokens j max_depth [] shallow)

-- ---- how deep an object is

abbrev IsFlat : ℕ → Option Json → Type 0
IsFlat n o = IfSome o (λ j. depth j ≤ n)

number_flat : (text : List ℕ) (n : ℕ) → IsFlat n (number_of text)
number_flat text n = go (is_number text)
  where
    go : (b : Bool) → IsFlat n (cond b (Some (number text)) None)
    go true = omega arith
    go false = tt

if_flat : (b : Bool) (j : Json) (o : Option Json) (n : ℕ) → depth j ≤ n → IsFlat n o → IsFlat n (cond b (Some j) o)
if_flat true j o n h k = h
if_flat false j o n h k = k

pair_flat : (one other : List ℕ) → IsFlat 1 (pair_of one other)
pair_flat one other = go (is_number one) (is_number other)
  where
    go : (a b : Bool) → IsFlat 1 (option_and_then (λ x. option_map (λ y. array (item x (item y no_items))) (cond b (Some (number other)) None))
        (cond a (Some (number one)) None))
    go true true = omega arith
    go true false = tt
    go false b = tt

item_flat : (word : List ℕ) → IsFlat 1 (item_of word)
item_flat word = go (upto (codes "x") word)
  where
    rest : (one : List ℕ) (o : Option (List ℕ)) → IsFlat 1 (option_and_then (pair_of one) o)
    rest one None = tt
    rest one (Some other) = pair_flat one other

    go : (o : Option (List ℕ × List ℕ)) → IsFlat 1 (item_at word o)
    go None = number_flat word 1
    go (Some x) = rest x.0 (after (codes "x") x.1)

item_more : (o : Option Json) (rest : Option Items) → IsFlat 1 o → IfSome rest (λ js. items_depth js ≤ 1)
    → IfSome (option_and_then (λ j. option_map (item j) rest) o) (λ js. items_depth js ≤ 1)
item_more None rest h k = tt
item_more (Some j) None h k = tt
item_more (Some j) (Some js) h k = omega arith

items_flat : (words : List (List ℕ)) → IfSome (items_of words) (λ js. items_depth js ≤ 1)
items_flat [] = omega arith
items_flat (word ∷ words) = item_more (item_of word) (items_of words) (item_flat word) (items_flat words)

hex_items_flat : (words : List (List ℕ)) → IfSome (hex_items_of words) (λ js. items_depth js ≤ 1)
hex_items_flat [] = omega arith
hex_items_flat (word ∷ words) =
    item_more (hex_number 8 word) (hex_items_of words) (if_flat _ (number (decimal (hex_value_after 0 word))) None 1 (omega arith) tt) (hex_items_flat words)

list_flat : (o : Option Items) → IfSome o (λ js. items_depth js ≤ 1) → IsFlat 2 (option_map array o)
list_flat None h = tt
list_flat (Some js) h = omega arith

count_flat : (noun : List ℕ) (o : Option (List ℕ × List ℕ)) → IsFlat 2 (option_and_then (λ x. counted noun x.0 x.1) o)
count_flat noun None = tt
count_flat noun (Some x) = go (after noun x.1)
  where
    test : (b : Bool) → IsFlat 2 (cond b (number_of x.0) None)
    test true = number_flat x.0 2
    test false = tt

    go : (o : Option (List ℕ)) → IsFlat 2 (option_and_then (λ end. cond (bytes_eq end (plural x.0)) (number_of x.0) None) o)
    go None = tt
    go (Some end) = test (bytes_eq end (plural x.0))

value_flat : (k : Kind) (text : List ℕ) → IsFlat 2 (value_of k text)
unfolding value_of
value_flat kind.Number text = number_flat text 2
value_flat kind.NumberOrNone text = if_flat (bytes_eq text (codes "-")) null (number_of text) 2 (omega arith) (number_flat text 2)
value_flat kind.Word text = if_flat _ (number (decimal (hex_value_after 0 text))) None 2 (omega arith) tt
value_flat kind.Byte text = if_flat _ (number (decimal (hex_value_after 0 text))) None 2 (omega arith) tt
value_flat kind.Bytes text =
    if_flat (bytes_eq text (codes "-")) (string []) _ 2 (omega arith) (if_flat (list_all is_hex_digit text) (string text) None 2 (omega arith) tt)
value_flat kind.Code text = if_flat (is_code text) (string text) None 2 (omega arith) tt
value_flat kind.Text text = omega arith
value_flat kind.Function text = omega arith
value_flat (kind.Count noun) text = count_flat noun.now (upto noun.now text)
value_flat kind.List text = list_flat (items_of (words_of text)) (items_flat (words_of text))
value_flat kind.Words text = list_flat (hex_items_of (words_of text)) (hex_items_flat (words_of text))
value_flat (kind.Is word) text = if_flat (is_empty text) (string word.now) None 2 (omega arith) tt
value_flat kind.Zero text = if_flat (is_empty text) (number (decimal 0)) None 2 (omega arith) tt

abbrev AreFlat : Option Members → Type 0
AreFlat o = IfSome o (λ ms. members_depth ms ≤ 2)

member_more : (name : List ℕ) (o : Option Json) (rest : Option Members) → IsFlat 2 o → AreFlat rest → AreFlat (with_member name o rest)
member_more name None rest h k = tt
member_more name (Some j) None h k = tt
member_more name (Some j) (Some ms) h k = omega arith

after_flat : (o : Option (List ℕ)) (then : List ℕ → Option Members) → ((rest : List ℕ) → AreFlat (then rest)) → AreFlat (option_and_then then o)
after_flat None then all = tt
after_flat (Some rest) then all = all rest

field_flat : (o : Option (List ℕ × List ℕ)) (then : List ℕ × List ℕ → Option Members) → ((x : List ℕ × List ℕ) → AreFlat (then x))
    → AreFlat (option_and_then then o)
field_flat None then all = tt
field_flat (Some x) then all = all x

members_flat : (parts : List Part) (text : List ℕ) → AreFlat (members_of parts text)
unfolding members_of
members_flat [] text = go (is_empty text)
  where
    go : (b : Bool) → AreFlat (cond b (Some no_members) None)
    go true = omega arith
    go false = tt
members_flat (part.Literal word ∷ parts) text = after_flat (after word.now text) (members_of parts) (members_flat parts)
members_flat (part.Field word name k ∷ parts) text =
    after_flat (after word.now text) _
    (λ rest. field_flat (field_in parts rest) _ (λ x. member_more name.now (value_of k x.0) (members_of parts x.1) (value_flat k x.0) (members_flat parts x.1)))

shape_flat : (kind : List ℕ) (o : Option Members) (other : Json) → AreFlat o → depth other ≤ 3 → depth (unwrap_or (option_map (object_with kind) o) other) ≤ 3
shape_flat kind None other h k = k
shape_flat kind (Some ms) other h k = omega arith

object_flat : (shapes : List Shape) (line : List ℕ) → depth (object_of shapes line) ≤ 3
unfolding object_of
object_flat [] line = omega arith
object_flat (s ∷ shapes) line = shape_flat s.0.now (members_of s.1.now line) (object_of shapes line) (members_flat s.1.now line) (object_flat shapes line)

-- So a reader of JSON takes it.
pub is_shallow : (shapes : List Shape) (line : List ℕ) → depth (object_of shapes line) ≤ max_depth
is_shallow shapes line = omega (arith, object_flat shapes line)
