-- Flags that say which processors faults have stopped.
use Rattle.std.proofs.Common.{◌≡◌, ℕ, zero, suc, ◌<◌, ◌≤◌, ◌⊎◌, inl, inr, ◌∙◌, Bool, false, List, length, refl, arith}
use Rattle.std.specs.Prelude.{replicate, slice_set}
use Rattle.std.proofs.lemmas.Bool.{cases_eq, cases_lt}
use Rattle.std.proofs.lemmas.List.{get_or-set_same, get_or-set_other}
use Rattle.std.proofs.lemmas.Option.{slice_get_past}
use Rattle.flat_machine.specs.State.{FlatState}
use Rattle.debug_replies.specs.Stops.{is_faulted_at, is_flagged}

-- No processor is flagged if all flags are false.
pub none_flagged : (n p : ℕ) → is_flagged (replicate n false) p ≡ false
none_flagged zero p = refl
none_flagged (suc n) zero = refl
none_flagged (suc n) (suc p) = none_flagged n p

-- If the flags before a place agree with a test, and the one written there does, those up to it agree.
pub more_flags : (flags : List Bool) (i : ℕ) (b : Bool) (test : ℕ → Bool) → i < length flags → b ≡ test i
    → ((p : ℕ) → p < i → is_flagged flags p ≡ test p) → (p : ℕ) → p ≤ i → is_flagged (slice_set flags i b) p ≡ test p
more_flags flags i b test within is fact p below = by (cases_eq p i)
  where
    by : (p ≡ i) ⊎ (p ≡ i → ⊥) → is_flagged (slice_set flags i b) p ≡ test p
    by (inl same) = rw same (get_or-set_same flags i b false within ∙ is)
    by (inr other) = get_or-set_other flags i p b false other ∙ fact p (omega arith)

-- The flags after the one that is written are still false.
pub rest_more : (flags : List Bool) (i : ℕ) (b : Bool) → ((p : ℕ) → i ≤ p → is_flagged flags p ≡ false) → (p : ℕ) → i < p →
    is_flagged (slice_set flags i b) p ≡ false
rest_more flags i b rest p behind = get_or-set_other flags i p b false (λ same. absurd (omega arith)) ∙ rest p (omega arith)

-- Flags that agree on all processors, and are false after them, agree everywhere.
pub all_flags : (flags : List Bool) (m : FlatState) → ((p : ℕ) → p < length m.processors → is_flagged flags p ≡ is_faulted_at m p)
    → ((p : ℕ) → length m.processors ≤ p → is_flagged flags p ≡ false) → (p : ℕ) → is_flagged flags p ≡ is_faulted_at m p
all_flags flags m fact rest p = by (cases_lt p (length m.processors))
  where
    by : (p < length m.processors) ⊎ (length m.processors ≤ p) → is_flagged flags p ≡ is_faulted_at m p
    by (inl there) = fact p there
    by (inr past) = rw (slice_get_past m.processors p past) (rest p past)
