-- Compositions of functions in range.
use Rattle.std.proofs.Common.{◌≡◌, ℕ, ◌%◌, ◌^◌, ◌<◌, Some, sym, ap, ◌∙◌, arith, mod-eq_of_lt}
use Rattle.std.proofs.lemmas.Nat.{mod_below}
use Rattle.messages.specs.phi_algebra.declared.phi.Phi.{Phi}
use Rattle.messages.specs.phi_algebra.Functions.{apply, IsInRange}
use Rattle.messages.specs.phi_algebra.Composition.{composed}
use Rattle.messages.proofs.Lemmas.phi_algebra.{meaning_of, range_of, value_small}
use Rattle.messages.specs.Queues.{applied}

-- A function in range makes a word below 2^32 of any number.
pub applied_small : (f : Phi) (x : ℕ) → IsInRange f → applied f x < 2 ^ 32
unfolding applied
applied_small f x p = value_small f (x % 2 ^ 32) p (mod_below x (2 ^ 32) (omega arith))

-- The composition of two functions in range does to a word what the first does, and then the second.
pub composed_law : (f g h : Phi) → IsInRange f → IsInRange g → composed f g ≡ Some h → (x : ℕ) → applied h x ≡ applied g (applied f x)
unfolding applied
composed_law f g h p q e x =
    meaning_of f g h e p q (x % 2 ^ 32) (mod_below x (2 ^ 32) (omega arith))
    ∙ ap (apply g) (sym (mod-eq_of_lt (applied_small f x p)))

-- The composition of two functions in range is in range.
pub composed_in_range : (f g h : Phi) → IsInRange f → IsInRange g → composed f g ≡ Some h → IsInRange h
composed_in_range f g h p q e = range_of f g h e p q
