-- Local turns of two processors commute.
use Rattle.std.proofs.Common.{◌≡◌, ◌≢◌, ℕ, ◌+◌, ◌<◌, Bool, true, false, cond, zero, suc, List, []}
use Rattle.std.proofs.Common.{◌∷◌, Option, Some, None, length, refl, sym, ap, subst, ◌∙◌, arith}
use Rattle.std.specs.Prelude.{slice_get, slice_set, slice_index}
use Rattle.std.proofs.lemmas.List.{length-set}
use Rattle.flat_machine.specs.declared.event.Event.{Event}
use Rattle.flat_machine.specs.declared.poke.Entry.{Entry}
use Rattle.flat_machine.specs.declared.poke.Entry.TheVariants as entry
use Rattle.flat_machine.specs.declared.setting.Setting.{Setting}
use Rattle.flat_machine.specs.State.{FlatState, Processor, is_running, status_of, setting_of}
use Rattle.flat_machine.specs.Turns.{Turn, Retires, Reaches, Stops, turn_of}
use Rattle.flat_machine.specs.Flat.{taken, with_taken, step_of, turned, flat_step}
use Rattle.flat_machine.specs.Laws.{IsLocalAt, NeedsNoWord}
use Rattle.flat_machine.proofs.Steps.{set_other}

sets_commute : {X : Type 0} (xs : List X) (j k : ℕ) (x y : X) → j ≢ k → slice_set (slice_set xs j x) k y ≡ slice_set (slice_set xs k y) j x
sets_commute [] j k x y ne = refl
sets_commute (z ∷ zs) zero zero x y ne = absurd (ne refl)
sets_commute (z ∷ zs) zero (suc k) x y ne = refl
sets_commute (z ∷ zs) (suc j) zero x y ne = refl
sets_commute (z ∷ zs) (suc j) (suc k) x y ne = ap (λ rest. z ∷ rest) (sets_commute zs j k x y (λ e. ne (ap suc e)))

-- the processor after a turn that reaches no shared word
own : Processor → Turn → Processor
own p (Retires after retired) = after
own p (Reaches word change after) = p
own p (Stops cause) = record p { status = status_of cause }

own_taken : (p : Processor) (shared : List ℕ) (t : Turn) → NeedsNoWord t → ((taken p shared t).0 ≡ own p t) × ((taken p shared t).1 ≡ shared)
unfolding own
own_taken p shared (Retires after retired) l = (refl, refl)
own_taken p shared (Reaches word change after) l = absurd l
own_taken p shared (Stops cause) l = (refl, refl)

-- what a local turn leaves at the processor's place, from the code and what the processor knows of its machine
own_of : Setting → List ℕ → Option Processor → Option Processor
own_of s code None = None
own_of s code (Some p) = cond (is_running p.status) (Some (own p (turn_of s code p))) None

with_own : FlatState → ℕ → Option Processor → FlatState
with_own m k None = m
with_own m k (Some p) = record m { processors = slice_set m.processors k p }

turned_own : (m : FlatState) (k : ℕ) (p : Option Processor) → IsLocalAt m k p → turned m k p ≡ with_own m k (own_of (setting_of m k) m.code p)
unfolding own_of with_own
turned_own m k None l = refl
turned_own m k (Some p) l = by_running (is_running p.status)
  where
    by_running : (b : Bool) → cond b (with_taken m k (step_of m k p)) m ≡ with_own m k (cond b (Some (own p (turn_of (setting_of m k) m.code p))) None)
    by_running true =
        let is = own_taken p m.shared (turn_of (setting_of m k) m.code p) l in
        ap (λ q. record m { processors = slice_set m.processors k q; shared = (step_of m k p).1 }) is.0
        ∙ ap (λ w. record m { processors = slice_set m.processors k (own p (turn_of (setting_of m k) m.code p)); shared = w }) is.1
    by_running false = refl

-- A turn of one processor does not change what another knows of the machine.
own_setting : (m : FlatState) (j k : ℕ) (q : Option Processor) → setting_of (with_own m j q) k ≡ setting_of m k
unfolding with_own
own_setting m j k None = refl
own_setting m j k (Some p) = let e : length (slice_set m.processors j p) ≡ length m.processors =
    simp length-set in ap (λ n. record { number = k; processors = n; shared_words = length m.shared }) e

own_code : (m : FlatState) (j : ℕ) (q : Option Processor) → (with_own m j q).code ≡ m.code
unfolding with_own
own_code m j None = refl
own_code m j (Some p) = refl

own_other : (m : FlatState) (j k : ℕ) (q : Option Processor) → k ≢ j → slice_get (with_own m j q).processors k ≡ slice_get m.processors k
unfolding with_own
own_other m j k None ne = refl
own_other m j k (Some p) ne = set_other m.processors j k p ne

own_commute : (m : FlatState) (j k : ℕ) (p q : Option Processor) → j ≢ k → with_own (with_own m j p) k q ≡ with_own (with_own m k q) j p
unfolding with_own
own_commute m j k None q ne = refl
own_commute m j k (Some p) None ne = refl
own_commute m j k (Some p) (Some q) ne = ap (λ ps. record m { processors = ps }) (sets_commute m.processors j k p q ne)

local_there : (m n : FlatState) (k : ℕ) (p : Option Processor) → setting_of m k ≡ setting_of n k → m.code ≡ n.code → IsLocalAt m k p → IsLocalAt n k p
local_there m n k None setting code l = l
local_there m n k (Some p) setting code l = subst (λ (x : Setting × List ℕ). NeedsNoWord (turn_of x.0 x.1 p)) (λ i. (setting i, code i)) l

after_other : (m : FlatState) (j k : ℕ) → k ≢ j → IsLocalAt m j (slice_get m.processors j) → IsLocalAt m k (slice_get m.processors k) →
    flat_step (flat_step m (entry.Processor j)) (entry.Processor k)
    ≡ with_own (with_own m j (own_of (setting_of m j) m.code (slice_get m.processors j))) k (own_of (setting_of m k) m.code (slice_get m.processors k))
unfolding flat_step
after_other m j k ne at_j at_k =
    let q = own_of (setting_of m j) m.code (slice_get m.processors j) in
    let n = with_own m j q in
    let first : turned m j (slice_get m.processors j) ≡ n = turned_own m j (slice_get m.processors j) at_j in
    let there : slice_get n.processors k ≡ slice_get m.processors k = own_other m j k q ne in
    let setting : setting_of n k ≡ setting_of m k = own_setting m j k q in
    let code : n.code ≡ m.code = own_code m j q in
    let local : IsLocalAt n k (slice_get n.processors k) = rw there (local_there m n k (slice_get m.processors k) (sym setting) (sym code) at_k) in
    ap (λ x. turned x k (slice_get x.processors k)) first
    ∙ turned_own n k (slice_get n.processors k) local
    ∙ ap (λ x. with_own n k (own_of (setting_of n k) n.code x)) there
    ∙ ap (λ x. with_own n k (own_of x n.code (slice_get m.processors k))) setting
    ∙ ap (λ x. with_own n k (own_of (setting_of m k) x (slice_get m.processors k))) code

-- Steps of two processors that reach no shared word leave the same machine in either order.
pub local_turns : (m : FlatState) (j k : ℕ) → j ≢ k → IsLocalAt m j (slice_get m.processors j) → IsLocalAt m k (slice_get m.processors k) →
    flat_step (flat_step m (entry.Processor j)) (entry.Processor k) ≡ flat_step (flat_step m (entry.Processor k)) (entry.Processor j)
local_turns m j k ne at_j at_k =
    after_other m j k (λ e. ne (sym e)) at_j at_k
    ∙ own_commute m j k _ _ ne
    ∙ sym (after_other m k j ne at_k at_j)
