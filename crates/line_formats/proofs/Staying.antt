-- Lines without names.
use Rattle.std.proofs.Common.{◌≡◌, ◌∙◌, ◌==◌, ℕ, Bool, cond, true, false, refl, sym, ap, List, [], ◌∷◌, ◌++◌, Option, Some, None, append-nil, append_assoc}
use Rattle.std.proofs.Common.{is_some, option_map}
use Rattle.std.specs.Prelude.{IfSome, bytes_eq, codes, find, option_and_then}
use Rattle.std.specs.Option.{option_map_or}
use Rattle.std.proofs.lemmas.Bool.{eqb-true}
use Rattle.line_shapes.specs.json.Json.{Json, Members}
use Rattle.line_shapes.specs.Cuts.{after, upto}
use Rattle.line_shapes.specs.Fields.{value_of}
use Rattle.line_formats.specs.Names.{Writing, field_text, is_address, line_address, named_line, named_parts, place_after, writing}
use Rattle.line_formats.specs.Names.{address_of_word}
use Rattle.line_shapes.specs.Numbers.{word_value}
use Rattle.line_shapes.specs.Parts.{cuts_of, has_shape}
use Rattle.line_formats.specs.Places.{NamedPlace, place_between}
use Rattle.line_shapes.specs.Shapes.{field_in, members_of, text_of, with_member}
use Rattle.line_shapes.specs.declared.shape.Kind.{Kind}
use Rattle.line_shapes.specs.declared.shape.Kind.TheVariants as kinds
use Rattle.line_shapes.specs.declared.shape.Part.{Part}
use Rattle.line_shapes.specs.declared.shape.Part.TheVariants as part
use Rattle.line_shapes.specs.declared.shape.Shape.{Shape}

-- ---- cuts

after_joins : (begin text : List ℕ) → IfSome (after begin text) (λ rest. text ≡ begin ++ rest)
unfolding after
after_joins [] text = refl
after_joins (x ∷ begin) [] = tt
after_joins (x ∷ begin) (y ∷ text) = go (x == y) refl (after_joins begin text)
  where
    cons : (o : Option (List ℕ)) → x ≡ y → IfSome o (λ rest. text ≡ begin ++ rest) → IfSome o (λ rest. y ∷ text ≡ x ∷ (begin ++ rest))
    cons None same more = tt
    cons (Some rest) same more = rw (same, more) refl

    go : (b : Bool) → (x == y) ≡ b → IfSome (after begin text) (λ rest. text ≡ begin ++ rest)
        → IfSome (cond b (after begin text) None) (λ rest. y ∷ text ≡ x ∷ (begin ++ rest))
    go true e more = cons (after begin text) (eqb-true x y e) more
    go false e more = tt

upto_joins : (word text : List ℕ) → IfSome (upto word text) (λ x. text ≡ x.0 ++ x.1)
unfolding upto
upto_joins word [] = go (is_some (after word []))
  where
    go : (b : Bool) → IfSome {T = List ℕ × List ℕ} (cond b (Some ([], [])) None) (λ x. [] ≡ x.0 ++ x.1)
    go true = refl
    go false = tt
upto_joins word (b ∷ text) = go (is_some (after word (b ∷ text))) (upto_joins word text)
  where
    cons : (o : Option (List ℕ × List ℕ)) → IfSome o (λ x. text ≡ x.0 ++ x.1) →
        IfSome {T = List ℕ × List ℕ} (option_map (λ x. (b ∷ x.0, x.1)) o) (λ x. b ∷ text ≡ x.0 ++ x.1)
    cons None more = tt
    cons (Some x) more = ap (λ t. b ∷ t) more

    go : (is : Bool) → IfSome (upto word text) (λ x. text ≡ x.0 ++ x.1)
        → IfSome {T = List ℕ × List ℕ} (cond is (Some ([], b ∷ text)) (option_map (λ x. (b ∷ x.0, x.1)) (upto word text))) (λ x. b ∷ text ≡ x.0 ++ x.1)
    go true more = refl
    go false more = cons (upto word text) more

field_joins : (next : List Part) (text : List ℕ) → IfSome (field_in next text) (λ x. text ≡ x.0 ++ x.1)
field_joins [] text = sym (append-nil text)
field_joins (p ∷ next) text = upto_joins (text_of p) text

-- ---- fields

abbrev nowhere : ℕ → Option NamedPlace
nowhere address = None

abbrev plain : Option ℕ → Writing
plain at = writing nowhere false false at

abbrev Stays : Option ℕ → List Part → Type 0
Stays at parts = (text : List ℕ) → is_some (members_of parts text) ≡ true → named_parts nowhere (plain at) (cuts_of parts text) ≡ text

field_stays : (at : Option ℕ) (name : List ℕ) (k : Kind) (text : List ℕ) → field_text (plain at) name k text ≡ text
field_stays at name kinds.Text text = go (bytes_eq name (codes "instruction"))
  where
    go : (b : Bool) → cond b text text ≡ text
    go true = refl
    go false = refl
field_stays at name kinds.Word text = go (is_address name)
  where
    go : (b : Bool) → cond b text text ≡ text
    go true = refl
    go false = refl
field_stays at name other text = refl

no_place : (before behind : List ℕ) (o : Option ℕ) → place_between before behind (option_and_then nowhere o) ≡ []
no_place before behind None = refl
no_place before behind (Some address) = refl

if_nothing : (b : Bool) (bytes : List ℕ) → bytes ≡ [] → cond b bytes [] ≡ []
if_nothing true bytes e = e
if_nothing false bytes e = refl

nothing_after : (name : List ℕ) (k : Kind) (text : List ℕ) → place_after nowhere name k text ≡ []
nothing_after name kinds.Word text = if_nothing (is_address name) _ (no_place (codes " <") (codes ">") (word_value text))
nothing_after name kinds.Number text = if_nothing (bytes_eq name (codes "word")) _ (no_place (codes " (") (codes ")") (address_of_word text))
nothing_after name other text = refl

-- ---- lines

rest_has : (name : List ℕ) (o : Option Json) (rest : Option Members) → is_some (with_member name o rest) ≡ true → is_some rest ≡ true
rest_has name None rest e = cc
rest_has name (Some j) None e = cc
rest_has name (Some j) (Some ms) e = refl

parts_stay : (at : Option ℕ) (parts : List Part) (text : List ℕ) → is_some (members_of parts text) ≡ true
    → named_parts nowhere (plain at) (cuts_of parts text) ≡ text
unfolding members_of cuts_of
parts_stay at [] [] e = refl
parts_stay at [] (b ∷ text) e = cc
parts_stay at (part.Literal word ∷ parts) text e = go (after word.now text) (after_joins word.now text) e (parts_stay at parts)
  where
    go : (o : Option (List ℕ)) → IfSome o (λ rest. text ≡ word.now ++ rest) → is_some (option_and_then (members_of parts) o) ≡ true
        → Stays at parts
        → named_parts nowhere (plain at) (option_map_or (λ rest. (part.Literal word, []) ∷ cuts_of parts rest) o []) ≡ text
    go None joins e stays = cc
    go (Some rest) joins e stays = ap (λ t. word.now ++ t) (stays rest e) ∙ sym joins
parts_stay at (part.Field word name k ∷ parts) text e = go (after word.now text) (after_joins word.now text) e (parts_stay at parts)
  where
    field : (rest : List ℕ) (o : Option (List ℕ × List ℕ)) → text ≡ word.now ++ rest → IfSome o (λ x. rest ≡ x.0 ++ x.1)
        → is_some (option_and_then (λ x. with_member name.now (value_of k x.0) (members_of parts x.1)) o) ≡ true → Stays at parts
        → named_parts nowhere (plain at) (option_map_or (λ x. (part.Field word name k, x.0) ∷ cuts_of parts x.1) o []) ≡ text
    field rest None joins parted e stays = cc
    field rest (Some x) joins parted e stays =
        let more = stays x.1 (rest_has name.now (value_of k x.0) (members_of parts x.1) e) in
        rw (field_stays at name.now k x.0, nothing_after name.now k x.0, more, joins, parted) (simp (append-nil, append_assoc))

    go : (o : Option (List ℕ)) → IfSome o (λ rest. text ≡ word.now ++ rest)
        → is_some (option_and_then (λ rest. option_and_then (λ x. with_member name.now (value_of k x.0) (members_of parts x.1)) (field_in parts rest)) o) ≡ true
        → Stays at parts
        → named_parts nowhere (plain at)
        (option_map_or (λ rest. option_map_or (λ x. (part.Field word name k, x.0) ∷ cuts_of parts x.1) (field_in parts rest) []) o []) ≡ text
    go None joins e stays = cc
    go (Some rest) joins e stays = field rest (field_in parts rest) joins (field_joins parts rest) e stays

found_fits : (line : List ℕ) (shapes : List Shape) → IfSome (find (has_shape line) shapes) (λ s. has_shape line s ≡ true)
found_fits line [] = tt
found_fits line (s ∷ shapes) = go (has_shape line s) refl (found_fits line shapes)
  where
    go : (b : Bool) → has_shape line s ≡ b → IfSome (find (has_shape line) shapes) (λ t. has_shape line t ≡ true)
        → IfSome (cond b (Some s) (find (has_shape line) shapes)) (λ t. has_shape line t ≡ true)
    go true e more = e
    go false e more = more

-- Without names, a line goes as it is.
pub lines_stay : (shapes : List Shape) (line : List ℕ) → named_line nowhere false false shapes line ≡ line
unfolding named_line
lines_stay shapes line = go (find (has_shape line) shapes) (found_fits line shapes)
  where
    go : (o : Option Shape) → IfSome o (λ s. has_shape line s ≡ true)
        → option_map_or (λ s. named_parts nowhere (plain (line_address (cuts_of s.1.now line))) (cuts_of s.1.now line)) o line ≡ line
    go None fits = refl
    go (Some s) fits = parts_stay (line_address (cuts_of s.1.now line)) s.1.now line fits
