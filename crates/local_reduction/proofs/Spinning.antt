-- Processors that spin. What a processor does alone does not depend on what it has printed.
use Rattle.std.proofs.Common.{◌≡◌, ℕ, Bool, true, false, cond, zero, suc, List, [], refl, sym, ap, subst, ◌∙◌}
use Rattle.flat_machine.specs.declared.setting.Setting.{Setting}
use Rattle.flat_machine.specs.State.{Processor, is_running, status_of}
use Rattle.flat_machine.specs.Turns.{Turn, Retires, Reaches, Stops, turn_of}
use Rattle.local_reduction.specs.LocalStates.{LocalState, alone_by, alone_once, alone, GoesOn, Spins}
use Rattle.local_reduction.specs.Closing.{local_state_of}

-- the processor after a turn alone
abbrev pub made : Processor → Turn → Processor
made p (Retires after retired) = after
made p (Reaches word change after) = p
made p (Stops cause) = record p { status = status_of cause }

-- The processor after a turn alone does not depend on the console.
pub by_made : (a : LocalState) (t : Turn) → (alone_by a t).processor ≡ made a.processor t
by_made a (Retires after retired) = refl
by_made a (Reaches word change after) = refl
by_made a (Stops cause) = refl

if_made : (b : Bool) (a : LocalState) (t : Turn) → (cond b (alone_by a t) a).processor ≡ cond b (made a.processor t) a.processor
if_made true a t = by_made a t
if_made false a t = refl

module _ (s : Setting) (code : List ℕ) where
  pub once_processor : (a b : LocalState) → a.processor ≡ b.processor → (alone_once s code a).processor ≡ (alone_once s code b).processor
  once_processor a b e =
      if_made (is_running a.processor.status) a (turn_of s code a.processor)
      ∙ (ap (λ p. cond (is_running p.status) (made p (turn_of s code p)) p) e
      ∙ sym (if_made (is_running b.processor.status) b (turn_of s code b.processor)))

-- Local states with the same processor do the same alone, whatever they have printed.
pub alone_processor : (n : ℕ) (s : Setting) (code : List ℕ) (a b : LocalState) → a.processor ≡ b.processor →
    (alone n s code a).processor ≡ (alone n s code b).processor
alone_processor zero s code a b e = e
alone_processor (suc n) s code a b e = alone_processor n s code (alone_once s code a) (alone_once s code b) (once_processor s code a b e)

module _ (s : Setting) (code : List ℕ) where
  -- A processor that spins still spins after a turn alone.
  pub spins_on : (a : LocalState) → Spins s code a.processor → Spins s code (alone_once s code a).processor
  spins_on a h = λ n.
      subst (GoesOn s code)
      (alone_processor n s code (alone_once s code (local_state_of a.processor [])) (local_state_of (alone_once s code a).processor [])
      (once_processor s code (local_state_of a.processor []) a refl))
      (h (suc n))

  -- A processor that goes on, and spins after a turn alone, spins.
  pub spins_from : (a : LocalState) → GoesOn s code a.processor → Spins s code (alone_once s code a).processor → Spins s code a.processor
  spins_from a now h zero = now
  spins_from a now h (suc n) =
      subst (GoesOn s code)
      (alone_processor n s code (local_state_of (alone_once s code a).processor []) (alone_once s code (local_state_of a.processor []))
      (once_processor s code a (local_state_of a.processor []) refl))
      (h n)
