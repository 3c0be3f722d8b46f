-- Local states with their processors' settings, and how turns change them.
use Rattle.std.specs.Prelude.{◌≡◌, ℕ, Bool, true, List, [], Some}
use Rattle.flat_machine.specs.declared.setting.Setting.{Setting}
use Rattle.flat_machine.specs.declared.event.Retired.{Retired}
use Rattle.flat_machine.specs.State.{Processor, is_running}
use Rattle.flat_machine.specs.Turns.{turn_of}
use Rattle.hart.specs.State.{CoreState}
use Rattle.hart.specs.Deciding.{after_reply}
use Rattle.local_reduction.specs.LocalStates.{LocalState, retire, with_byte, alone, alone_once, IsReference, GoesOn}
use Rattle.local_reduction.specs.LocalStates.{IsAtReference}
use Rattle.local_reduction.specs.Closing.{if_running}
use Rattle.local_reduction.specs.Exchanging.{Asks, AskNot, NeverAsks}
use Rattle.local_reduction.specs.Live.{is_live}
use Rattle.local_reduction.specs.Forgetting.{kept_by, only}

pub record Placed : Type 0 where
  pub setting : Setting
  pub local_state : LocalState

-- a processor that has printed nothing
abbrev pub placed_of : CoreState → Placed
placed_of c = record { setting = c.setting; local_state = record { processor = c.state; console = [] } }

-- the local state after an instruction's byte, if any, is printed
abbrev pub printing : Placed → Retired → Placed
printing a retired = record
    a { local_state = record a.local_state { console = with_byte a.local_state.console retired.out } }

-- Both have the same setting, and are equal but for registers and local memory of stopped processors.
pub record IsEqual (a b : Placed) : Type 0 where
  pub setting : a.setting ≡ b.setting
  pub equal : if_running a.local_state ≡ if_running b.local_state

-- Both have the same setting, and the same is kept of them.
pub record IsSame (live : List (List Bool)) (a b : Placed) : Type 0 where
  pub setting : a.setting ≡ b.setting
  pub kept : kept_by live a.local_state ≡ kept_by live b.local_state

-- The registers that are not live hold 0.
abbrev pub IsBare : (live : List (List Bool)) → Placed → Type 0
IsBare live a = only (is_live live a.local_state.processor.pc) a.local_state.processor.registers
    ≡ a.local_state.processor.registers

-- A reference leads from the old local state to the new one, given the word's old value.
pub record HasRetired (code : List ℕ) (before : ℕ) (old new : Placed) : Type 0 where
  pub setting : new.setting ≡ old.setting
  pub retired : (done : Processor × Retired) →
      after_reply (turn_of old.setting code old.local_state.processor) before ≡ Some done →
      new.local_state ≡ retire old.local_state done

-- A turn alone leads from old to new. If `quietly` is set, it does not ask for the processor's own number.
pub record HasTurned (quietly : Bool) (code : List ℕ) (old new : Placed) : Type 0 where
  pub setting : new.setting ≡ old.setting
  pub once : new.local_state ≡ alone_once old.setting code old.local_state
  pub quiet : quietly ≡ true → is_running old.local_state.processor.status ≡ true →
      Asks code old.local_state.processor → ⊥

-- Some turns alone lead from old to new. If `quietly` is set, none of them asks for the processor's own number.
pub record HasGone (quietly : Bool) (code : List ℕ) (old new : Placed) : Type 0 where
  pub setting : new.setting ≡ old.setting
  pub count : ℕ
  pub gone : new.local_state ≡ alone count old.setting code old.local_state
  pub quiet : quietly ≡ true → AskNot count old.setting code old.local_state

-- The processor has stopped, or its next turn is a reference.
abbrev pub IsStanding : (code : List ℕ) → Placed → Type 0
IsStanding code a = is_running a.local_state.processor.status ≡ true →
    IsReference (turn_of a.setting code a.local_state.processor)

-- The processor runs, and its next turn is not a reference.
abbrev pub IsGoingOn : (code : List ℕ) → Placed → Type 0
IsGoingOn code a = GoesOn a.setting code a.local_state.processor

-- The processor has stopped, its next turn is a reference, or it spins.
abbrev pub IsStill : (code : List ℕ) → Placed → Type 0
IsStill code a = IsAtReference a.setting code a.local_state.processor

-- If `quietly` is set, the processor never asks for its own number alone.
abbrev pub IsQuiet : (quietly : Bool) → (code : List ℕ) → Placed → Type 0
IsQuiet quietly code a = quietly ≡ true → NeverAsks a.setting code a.local_state
