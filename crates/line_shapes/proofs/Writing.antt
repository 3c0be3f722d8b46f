-- The tokens that are written.
use Rattle.std.proofs.Common.{◌≡◌, Bool, cond, true, false, refl, List, [], ◌∷◌, ◌++◌, ℕ, Option, Some, None, is_some, option_map, append_assoc}
use Rattle.std.specs.Prelude.{IfSome, option_and_then}
use Rattle.json.specs.Json.{Json, Items, array, item, no_items, number}
use Rattle.json.specs.Print.{IsNumber}
use Rattle.json.specs.Token.{Token, begin_array, end_array}
use Rattle.json.specs.Tree.{items_tokens, json_tokens}
use Rattle.json.specs.Word.{after_number}
use Rattle.line_shapes.specs.Fields.{is_end, is_number, number_of, pair_of}

-- ---- numbers

pub number_by_test : (text : List ℕ) → is_number text ≡ true → IsNumber text
unfolding is_number
number_by_test text is = go (after_number text) is
  where
    go : (o : Option (List ℕ)) → is_end o ≡ true → o ≡ Some []
    go None e = cc
    go (Some []) e = refl
    go (Some (x ∷ xs)) e = cc

-- A text that has a number is a number of JSON.
pub number_there : (text : List ℕ) → is_some (number_of text) ≡ true → IsNumber text
number_there text there = number_by_test text (go (is_number text) there)
  where
    go : (b : Bool) → is_some (cond b (Some (number text)) None) ≡ true → b ≡ true
    go true e = refl
    go false e = cc

-- So are both texts of a pair.
pub pair_there : (one other : List ℕ) → is_some (pair_of one other) ≡ true → IsNumber one × IsNumber other
pair_there one other there =
    let both = go (is_number one) (is_number other) there in
    (number_by_test one both.0, number_by_test other both.1)
  where
    go : (a b : Bool) → is_some (option_and_then (λ x. option_map (λ y. array (item x (item y no_items))) (cond b (Some (number other)) None))
        (cond a (Some (number one)) None)) ≡ true → (a ≡ true) × (b ≡ true)
    go true true e = (refl, refl)
    go true false e = cc
    go false b e = cc

-- ---- arrays

-- The last item and the end of an array.
pub last_item : (o : Option Json) (old mid new : List Token) → IfSome o (λ j. mid ≡ old ++ json_tokens j) → new ≡ mid ++ end_array ∷ []
    → IfSome (option_and_then (λ j. option_map (item j) (Some no_items)) o) (λ js. new ≡ old ++ items_tokens js)
last_item None old mid new one end = tt
last_item (Some j) old mid new one end = rw (end, one, append_assoc) refl

-- An item, and the items after it.
pub more_items : (o : Option Json) (rest : Option Items) (old mid new : List Token) → IfSome o (λ j. mid ≡ old ++ json_tokens j)
    → IfSome rest (λ js. new ≡ mid ++ items_tokens js) → IfSome (option_and_then (λ j. option_map (item j) rest) o) (λ js. new ≡ old ++ items_tokens js)
more_items None rest old mid new one more = tt
more_items (Some j) None old mid new one more = tt
more_items (Some j) (Some js) old mid new one more = rw (more, one, append_assoc) refl

-- An array begins, and its items follow.
pub array_written : (o : Option Items) (old mid new : List Token) → mid ≡ old ++ begin_array ∷ [] → IfSome o (λ js. new ≡ mid ++ items_tokens js)
    → IfSome (option_map array o) (λ j. new ≡ old ++ json_tokens j)
array_written None old mid new begin items = tt
array_written (Some js) old mid new begin items = rw (items, begin, append_assoc) refl
