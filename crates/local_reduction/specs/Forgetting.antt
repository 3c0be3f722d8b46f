-- Local states without the contents of registers that are not live.
use Rattle.std.specs.Prelude.{◌≡◌, ℕ, suc, Bool, false, List, [], ◌∷◌, slice_set, if◌then◌else◌}
use Rattle.flat_machine.specs.declared.setting.Setting.{Setting}
use Rattle.local_reduction.specs.LocalStates.{LocalState}
use Rattle.local_reduction.specs.Closing.{IsForgetful, if_running}
use Rattle.local_reduction.specs.Live.{is_live, HasAllLive}

-- the list, with 0 at the places that are not in the set
abbrev pub only : (ℕ → Bool) → List ℕ → List ℕ
only set [] = []
only set (x ∷ xs) = (if set 0 then x else 0) ∷ only (λ r. set (suc r)) xs

-- the local state, with 0 in the registers that are not live
abbrev pub with_live : (live : List (List Bool)) → LocalState → LocalState
with_live live a =
    record a { processor = record a.processor { registers = only (is_live live a.processor.pc) a.processor.registers } }

-- what is kept of a local state: if its processor runs, all but the contents of registers that are not live; if it has
-- stopped, all but registers and local memory
abbrev pub kept_by : (live : List (List Bool)) → LocalState → LocalState
kept_by live a = if_running (with_live live a)

-- What is written to a register that is not live is not kept.
abbrev pub DeadAreNotKept : Type 0
DeadAreNotKept =
    (live : List (List Bool)) (a : LocalState) (r value : ℕ) → is_live live a.processor.pc r ≡ false →
    kept_by live (record a { processor = record a.processor { registers = slice_set a.processor.registers r value } })
    ≡ kept_by live a

-- What is not kept can be forgotten.
abbrev pub DeadAreForgotten : Type 0
DeadAreForgotten = (at : ℕ → Setting) (code : List ℕ) (live : List (List Bool)) → HasAllLive code live →
    IsForgetful at code (kept_by live)
