-- Ports as functions of processors' numbers, after one of them changes.
use Rattle.std.proofs.Common.{◌≡◌, ℕ, ◌<◌, Bool, List, length, get_or-set_same, get_or-set_other, ◌⊎◌, inl, inr, sym, ap, ap₂, ◌∙◌}
use Rattle.std.specs.Prelude.{slice_set}
use Rattle.std.proofs.lemmas.Bool.{cases_eq}
use mathlib.Core.Path.{fun_ext}
use Rattle.machine_ports.specs.flat_machine.declared.event.Event.{Event}
use Rattle.machine_ports.specs.Ports.{PortState}
use Rattle.serialization.specs.messages.Places.{put}
use Rattle.serialization.proofs.Lemmas.messages.{put_other, put_same}
use Rattle.machine_theory.specs.Processors.{ObservedCore, port_at, observed_at, open_at, no_port}

-- A function is as before if its own value is put at a place.
pub put_self : {X : Type 0} (f : ℕ → X) (p : ℕ) → put f p (f p) ≡ f
put_self {X} f p = fun_ext (λ q. at q (cases_eq q p))
  where
    at : (q : ℕ) → (q ≡ p) ⊎ (q ≡ p → ⊥) → put f p (f p) q ≡ f q
    at q (inl e) = ap (put f p (f p)) e ∙ put_same f p (f p) ∙ ap f (sym e)
    at q (inr n) = put_other f p (f p) q n

module _ (ports : List PortState) (p : ℕ) (x : PortState) (within : p < length ports) where
  here : port_at (slice_set ports p x) p ≡ x
  here = get_or-set_same ports p x no_port within

  there : (q : ℕ) → (q ≡ p → ⊥) → port_at (slice_set ports p x) q ≡ port_at ports q
  there q n = get_or-set_other ports p q x no_port n

  -- If a port is replaced and its processor's events too, that processor is the new one with the new events.
  pub core_set : (shown : ℕ → List Event) (events : List Event) →
      observed_at (slice_set ports p x) (put shown p events)
      ≡ put {X = ObservedCore} (observed_at ports shown) p (record { state = x.core.state; events = events })
  core_set shown events = fun_ext (λ q. at q (cases_eq q p))
    where
      f : ℕ → ObservedCore
      f = observed_at ports shown

      at : (q : ℕ) → (q ≡ p) ⊎ (q ≡ p → ⊥) → record { state = (port_at (slice_set ports p x) q).core.state; events = put shown p events q }
          ≡ put {X = ObservedCore} f p (record { state = x.core.state; events = events }) q
      at q (inl e) =
          ap (λ j. record { state = (port_at (slice_set ports p x) j).core.state; events = put shown p events j }) e
          ∙ ap₂ (λ (s : PortState) es. record { state = s.core.state; events = es }) here (put_same shown p events)
          ∙ sym (put_same f p (record { state = x.core.state; events = events }))
          ∙ ap (put {X = ObservedCore} f p (record { state = x.core.state; events = events })) (sym e)
      at q (inr n) =
          ap₂ (λ (s : PortState) es. record { state = s.core.state; events = es }) (there q n) (put_other shown p events q n)
          ∙ sym (put_other f p (record { state = x.core.state; events = events }) q n)

  -- If a port is replaced, its processor is the new one with the events that it had.
  pub core_changed : (shown : ℕ → List Event) →
      observed_at (slice_set ports p x) shown
      ≡ put {X = ObservedCore} (observed_at ports shown) p (record { state = x.core.state; events = shown p })
  core_changed shown =
      ap (observed_at (slice_set ports p x)) (sym (put_self shown p))
      ∙ core_set shown (shown p)

  -- If a port is replaced by one with the same processor, the processors are as before.
  pub core_kept : (shown : ℕ → List Event) → x.core.state ≡ (port_at ports p).core.state →
      observed_at (slice_set ports p x) shown
      ≡ (observed_at ports shown)
  core_kept shown same =
      core_changed shown
      ∙ ap (λ s. put {X = ObservedCore} (observed_at ports shown) p (record { state = s; events = shown p })) same
      ∙ put_self (observed_at ports shown) p

  -- If a port is replaced, its reference is open if that of the new port is, and the others are as before.
  pub open_set : open_at (slice_set ports p x) ≡ put {X = Bool} (open_at ports) p x.is_open
  open_set = fun_ext (λ q. at q (cases_eq q p))
    where
      f : ℕ → Bool
      f = open_at ports

      at : (q : ℕ) → (q ≡ p) ⊎ (q ≡ p → ⊥) → (port_at (slice_set ports p x) q).is_open ≡ put {X = Bool} f p x.is_open q
      at q (inl e) = ap (λ j. (port_at (slice_set ports p x) j).is_open) e ∙ ap (λ (s : PortState). s.is_open) here ∙ sym (put_same f p x.is_open)
          ∙ ap (put {X = Bool} f p x.is_open) (sym e)
      at q (inr n) = ap (λ (s : PortState). s.is_open) (there q n) ∙ sym (put_other f p x.is_open q n)

  -- If a port is replaced by one that is open if it was, the same references are open as before.
  pub open_kept : x.is_open ≡ (port_at ports p).is_open → open_at (slice_set ports p x) ≡ (open_at ports)
  open_kept same = open_set ∙ ap (put {X = Bool} (open_at ports) p) same ∙ put_self (open_at ports) p
