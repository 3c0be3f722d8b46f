-- Lists as functions of places.
use Rattle.std.proofs.Common.{◌≡◌, ℕ, zero, suc, ◌<◌, List, [], ◌∷◌, length, get_or-set_same, get_or-set_other}
use Rattle.std.proofs.Common.{Some, None, ◌⊎◌, inl, inr, refl, sym, ap, ap₂, ◌∙◌, arith}
use Rattle.std.specs.Prelude.{slice_get, slice_set, slice_index_or}
use Rattle.std.proofs.lemmas.Bool.{cases_eq}
use mathlib.Core.Path.{fun_ext}
use Rattle.machine_ports.specs.flat_machine.declared.event.Event.{Event}
use Rattle.machine_ports.specs.flat_machine.State.{Processor}
use Rattle.serialization.specs.messages.Places.{put}
use Rattle.serialization.proofs.Lemmas.messages.{put_other, put_same}
use Rattle.machine_theory.specs.Processors.{ObservedCore, no_processor}

-- A list with an element replaced is the function of the old list with that value put there.
pub read_set : {X : Type 0} (xs : List X) (p : ℕ) (x d : X) → p < length xs →
    (λ q. slice_index_or (slice_set xs p x) q d) ≡ put (λ q. slice_index_or xs q d) p x
read_set {X} xs p x d within = fun_ext (λ q. at q (cases_eq q p))
  where
    at : (q : ℕ) → (q ≡ p) ⊎ (q ≡ p → ⊥) → slice_index_or (slice_set xs p x) q d ≡ put (λ j. slice_index_or xs j d) p x q
    at q (inl e) = ap (λ j. slice_index_or (slice_set xs p x) j d) e ∙ get_or-set_same xs p x d within ∙ sym (put_same (λ j. slice_index_or xs j d) p x)
        ∙ ap (put (λ j. slice_index_or xs j d) p x) (sym e)
    at q (inr n) = get_or-set_other xs p q x d n ∙ sym (put_other (λ j. slice_index_or xs j d) p x q n)

-- An element found at a place is read there, and the place is in the list.
pub read_found : {X : Type 0} (xs : List X) (p : ℕ) (x d : X) → slice_get xs p ≡ Some x → (slice_index_or xs p d ≡ x) × (p < length xs)
read_found [] p x d e = absurd (cc)
read_found (y ∷ ys) zero x d e = ((let same : y ≡ x = cc in same), omega arith)
read_found (y ∷ ys) (suc p) x d e = let g = read_found ys p x d e in (g.0, (let l = g.1 in omega arith))

-- A place that a list does not have is read as the default.
pub read_none : {X : Type 0} (xs : List X) (p : ℕ) (d : X) → slice_get xs p ≡ None → slice_index_or xs p d ≡ d
read_none [] p d e = refl
read_none (y ∷ ys) zero d e = absurd (cc)
read_none (y ∷ ys) (suc p) d e = read_none ys p d e

-- At a place that a list has, the element found is the one that is read with any default.
pub found_within : {X : Type 0} (xs : List X) (p : ℕ) (d : X) → p < length xs → slice_get xs p ≡ Some (slice_index_or xs p d)
found_within [] p d within = absurd (omega arith)
found_within (y ∷ ys) zero d within = refl
found_within (y ∷ ys) (suc p) d within = found_within ys p d (omega arith)

-- A list of processors with one of them and its events replaced is the old function with that core put there.
pub observed_set : (ps : List Processor) (p : ℕ) (x : Processor) (shown : ℕ → List Event) (events : List Event) → p < length ps →
    (λ q. record { state = slice_index_or (slice_set ps p x) q no_processor; events = put shown p events q })
    ≡ put {X = ObservedCore} (λ q. record { state = slice_index_or ps q no_processor; events = shown q }) p (record { state = x; events = events })
observed_set ps p x shown events within = fun_ext (λ q. at q (cases_eq q p))
  where
    f : ℕ → ObservedCore
    f q = record { state = slice_index_or ps q no_processor; events = shown q }

    at : (q : ℕ) → (q ≡ p) ⊎ (q ≡ p → ⊥) → record { state = slice_index_or (slice_set ps p x) q no_processor; events = put shown p events q }
        ≡ put {X = ObservedCore} f p (record { state = x; events = events }) q
    at q (inl e) =
        ap (λ j. record { state = slice_index_or (slice_set ps p x) j no_processor; events = put shown p events j }) e
        ∙ ap₂ (λ s es. record { state = s; events = es }) (get_or-set_same ps p x no_processor within) (put_same shown p events)
        ∙ sym (put_same f p (record { state = x; events = events })) ∙ ap (put {X = ObservedCore} f p (record { state = x; events = events })) (sym e)
    at q (inr n) =
        ap₂ (λ s es. record { state = s; events = es }) (get_or-set_other ps p q x no_processor n) (put_other shown p events q n)
        ∙ sym (put_other f p (record { state = x; events = events }) q n)

-- The same, if the events stay.
pub observed_changed : (ps : List Processor) (p : ℕ) (x : Processor) (shown : ℕ → List Event) → p < length ps →
    (λ q. record { state = slice_index_or (slice_set ps p x) q no_processor; events = shown q })
    ≡ put {X = ObservedCore} (λ q. record { state = slice_index_or ps q no_processor; events = shown q }) p (record { state = x; events = shown p })
observed_changed ps p x shown within = fun_ext (λ q. at q (cases_eq q p))
  where
    f : ℕ → ObservedCore
    f q = record { state = slice_index_or ps q no_processor; events = shown q }

    at : (q : ℕ) → (q ≡ p) ⊎ (q ≡ p → ⊥) → record { state = slice_index_or (slice_set ps p x) q no_processor; events = shown q }
        ≡ put {X = ObservedCore} f p (record { state = x; events = shown p }) q
    at q (inl e) =
        ap (λ j. record { state = slice_index_or (slice_set ps p x) j no_processor; events = shown j }) e
        ∙ ap (λ s. record { state = s; events = shown p }) (get_or-set_same ps p x no_processor within)
        ∙ sym (put_same f p (record { state = x; events = shown p })) ∙ ap (put {X = ObservedCore} f p (record { state = x; events = shown p })) (sym e)
    at q (inr n) =
        ap (λ s. record { state = s; events = shown q }) (get_or-set_other ps p q x no_processor n)
        ∙ sym (put_other f p (record { state = x; events = shown p }) q n)
