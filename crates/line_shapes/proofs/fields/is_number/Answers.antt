use Rattle.std.proofs.Common.{◌≡◌, ◌↔◌, Bool, true, false, List, [], ◌∷◌, ℕ, Option, Some, None, refl}
use Rattle.std.specs.Bool.{IsTrue}
use Rattle.json.specs.Word.{after_number}
use Rattle.line_shapes.specs.Fields.{is_end, is_number}
use Rattle.line_shapes.proofs.fields.is_number.Goals as goal

test_is : (r : Bool) (o : Option (List ℕ)) → (IsTrue r ↔ (o ≡ Some [])) → r ≡ is_end o
test_is true None exact = let bad : None ≡ Some [] = exact.0 refl in cc
test_is false None exact = refl
test_is true (Some []) exact = refl
test_is false (Some []) exact = exact.1 refl
test_is true (Some (x ∷ xs)) exact = let bad : Some (x ∷ xs) ≡ Some [] = exact.0 refl in cc
test_is false (Some (x ∷ xs)) exact = refl

pub returns : goal.returns
unfolding is_number
returns c = test_is c.is_number.result (after_number c.args.text.now) c.is_number.ensures
