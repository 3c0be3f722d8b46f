-- A register's number is one of the 32.
use Rattle.std.proofs.Common.{◌≡◌, ℕ, ◌<◌, Bool, true, false, List, [], ◌∷◌, Some, refl, IfSome}
use Rattle.std.specs.Prelude.{find, nat_lt, if◌then◌else◌, ◌||◌}
use Rattle.std.specs.List.{list_all}
use Rattle.std.proofs.lemmas.Bool.{and_parts, ltb-true}
use Rattle.std.specs.Str.{bytes_eq}
use Rattle.asm_lines.specs.Names.{register_of, numbers, x_name, use_name}

found_below : (p : ℕ → Bool) (n : ℕ) (xs : List ℕ) → list_all (λ x. nat_lt x n) xs ≡ true → IfSome (find p xs) (λ x. x < n)
found_below p n [] h = tt
found_below p n (x ∷ xs) h = let a = and_parts (nat_lt x n) (list_all (λ y. nat_lt y n) xs) h in by_case (p x) (ltb-true x n a.0) (found_below p n xs a.1)
  where
    by_case : (t : Bool) → x < n → IfSome (find p xs) (λ y. y < n) → IfSome (if t then Some x else find p xs) (λ y. y < n)
    by_case true here there = here
    by_case false here there = there

-- The number of a register is below 32.
pub register_below : (word : List ℕ) → IfSome (register_of word) (λ x. x < 32)
unfolding register_of
register_below word = found_below (λ number. bytes_eq (x_name number) word || bytes_eq (use_name number) word) 32 numbers refl
