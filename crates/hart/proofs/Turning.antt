-- Local instructions are turns of the flat machine.
use Rattle.std.proofs.Common.{◌≡◌, ℕ, suc, zero, List, [], ◌∷◌, ◌++◌, length, Some, refl, sym, ap, ap₂, ◌∙◌, subst}
use Rattle.std.specs.Prelude.{slice_get, slice_set}
use Rattle.std.proofs.lemmas.List.{set-set, length-set}
use Rattle.flat_machine.specs.declared.event.Event.TheVariants as event
use Rattle.flat_machine.specs.declared.event.Retired.{Retired}
use Rattle.flat_machine.specs.declared.poke.Entry.TheVariants as entry
use Rattle.flat_machine.specs.State.{FlatState, Processor, setting_of}
use Rattle.flat_machine.specs.Flat.{taken, with_taken, turned, turn_event, flat_step, flat_event, flat_run, flat_events, with_processor_number}
use Rattle.hart.specs.LocalRuns.{TakesOne, TakesLocal, turns_of, shown_by}

set_there : {X : Type 0} (xs : List X) (k : ℕ) (x y : X) → slice_get xs k ≡ Some y → slice_get (slice_set xs k x) k ≡ Some x
set_there [] k x y e = absurd (cc)
set_there (z ∷ zs) zero x y e = refl
set_there (z ∷ zs) (suc k) x y e = set_there zs k x y e

set_same : {X : Type 0} (xs : List X) (k : ℕ) (x : X) → slice_get xs k ≡ Some x → slice_set xs k x ≡ xs
set_same [] k x e = absurd (cc)
set_same (z ∷ zs) zero x e = let same : z ≡ x = cc in ap (λ v. v ∷ zs) (sym same)
set_same (z ∷ zs) (suc k) x e = ap (λ vs. z ∷ vs) (set_same zs k x e)

-- the machine with processor k replaced
abbrev with_other : FlatState → ℕ → Processor → FlatState
with_other m k p = record m { processors = slice_set m.processors k p }

module _ (k : ℕ) where
  one_turn : (m : FlatState) (p next : Processor) (retired : Retired) → slice_get m.processors k ≡ Some p →
      TakesOne (setting_of m k) m.code p retired next →
      (flat_step m (entry.Processor k) ≡ with_other m k next) × (flat_event m (entry.Processor k) ≡ Some (event.Retired retired))
  unfolding flat_step flat_event
  one_turn m p next retired there one = (
    ap (turned m k) there ∙ rw one.runs (ap (λ t. with_taken m k (taken p m.shared t)) one.turn),
    ap (turn_event m k) there ∙ rw one.runs (ap (λ t. Some (taken p m.shared t).2) one.turn),
  )

  setting_kept : (m : FlatState) (p : Processor) → setting_of (with_other m k p) k ≡ setting_of m k
  setting_kept m p = ap (λ n. record { number = k; processors = n; shared_words = length m.shared }) (length-set m.processors k p)

  -- The local instructions that processor k takes by itself are its next turns on the flat machine: these leave k in
  -- the same state, change nothing else, and show what retired.
  pub are_turns : (m : FlatState) (p last : Processor) (rs : List Retired) → slice_get m.processors k ≡ Some p →
      TakesLocal (setting_of m k) m.code p rs last →
      (flat_run m (turns_of k (length rs)) ≡ with_other m k last) × (flat_events m (turns_of k (length rs)) ≡ shown_by k rs)
  are_turns m p last [] there run =
      (sym (ap (λ ps. record m { processors = ps }) (ap (slice_set m.processors k) run ∙ set_same m.processors k p there)), refl)
  are_turns m p last (r ∷ rs) there (next, one, run) =
      let once = one_turn m p next r there one in
      let rest = are_turns (with_other m k next) next last rs (set_there m.processors k next p there)
      (subst (λ s. TakesLocal s m.code next rs last) (sym (setting_kept m next)) run) in (
        ap (λ m'. flat_run m' (turns_of k (length rs))) once.0 ∙ rest.0
            ∙ ap (λ ps. record m { processors = ps }) (set-set m.processors k next last),
        ap₂ (λ e m'. with_processor_number (entry.Processor k) e ++ flat_events m' (turns_of k (length rs))) once.1 once.0
            ∙ ap (λ es. (k, event.Retired r) ∷ es) rest.1,
      )
