-- Runs of local instructions on a core by itself.
use Rattle.std.specs.Prelude.{◌≡◌, ℕ, ◌<◌, true, List, [], ◌∷◌, ◌++◌, Option, Some, None, All, length, map, replicate}
use Rattle.std.specs.Prelude.{slice_get, slice_set}
use Rattle.flat_machine.specs.declared.setting.Setting.{Setting}
use Rattle.flat_machine.specs.declared.event.Event.{Event}
use Rattle.flat_machine.specs.declared.event.Event.TheVariants as event
use Rattle.flat_machine.specs.declared.event.Retired.{Retired}
use Rattle.flat_machine.specs.declared.poke.Entry.{Entry}
use Rattle.flat_machine.specs.declared.poke.Entry.TheVariants as entry
use Rattle.flat_machine.specs.State.{FlatState, Processor, is_running, setting_of}
use Rattle.flat_machine.specs.Turns.{Retires, turn_of}
use Rattle.flat_machine.specs.Flat.{flat_run, flat_events}
use Rattle.hart.specs.State.{CoreState}
use Rattle.hart.specs.Deciding.{IsLocal}
use Rattle.hart.specs.declared.run.LocalEnd.{LocalEnd}
use Rattle.hart.specs.declared.run.LocalEnd.TheVariants.{Out, Most, Other}

-- instructions that retired, and the most that the list may hold
pub record RetirementList : Type 0 where
  pub most : ℕ
  pub items : List Retired

-- ---- local instructions

-- The processor runs, and its next turn is a local instruction with this retirement, after which it is `after`.
pub record TakesOne (s : Setting) (code : List ℕ) (before : Processor) (retired : Retired)
    (after : Processor) : Type 0 where
  pub runs : is_running before.status ≡ true
  pub turn : turn_of s code before ≡ Retires after retired

-- The processor takes local instructions one after another, with these retirements.
abbrev pub TakesLocal : Setting → (code : List ℕ) → (before : Processor) → List Retired → (after : Processor) → Type 0
TakesLocal s code before [] after = after ≡ before
TakesLocal s code before (retired ∷ later) after = (next : Processor) × TakesOne s code before retired next
    × TakesLocal s code next later after

-- The processor is not running, or its next turn is not local.
abbrev pub TakesNoMore : Setting → (code : List ℕ) → Processor → Type 0
TakesNoMore s code p = is_running p.status ≡ true → IsLocal (turn_of s code p) → ⊥

-- The instruction writes nothing to the console.
abbrev pub IsQuiet : Retired → Type 0
IsQuiet retired = retired.out ≡ None

-- ---- a run

-- The last of these instructions, and no other, wrote to the console: it wrote this byte.
pub record GivesAtLast (taken : List Retired) (byte : ℕ) : Type 0 where
  pub earlier : List Retired
  pub last : Retired
  pub taken_are : taken ≡ earlier ++ last ∷ []
  pub quiet : All IsQuiet earlier
  pub gives : last.out ≡ Some byte

-- Why a run ends that has taken these instructions, with this processor and this list at its end. A byte for the
-- console takes precedence over a full list.
abbrev pub EndsAt : LocalEnd → Setting → (code : List ℕ) → (taken : List Retired) → Processor → RetirementList → Type 0
EndsAt (Out byte) s code taken p list = GivesAtLast taken byte
EndsAt Most s code taken p list = All IsQuiet taken × (length list.items ≡ list.most)
EndsAt Other s code taken p list = All IsQuiet taken × (length list.items < list.most) × TakesNoMore s code p

-- A run takes local instructions and lists each of them, up to the end that it reports.
pub record HasRunLocally (code : List ℕ) (old new : CoreState) (before after : RetirementList)
    (end : LocalEnd) : Type 0 where
  pub taken : List Retired
  pub turns : TakesLocal old.setting code old.state taken new.state
  pub setting : new.setting ≡ old.setting
  pub most : after.most ≡ before.most
  pub listed : after.items ≡ before.items ++ taken
  pub ends : EndsAt end old.setting code taken new.state after

-- ---- one instruction of a run

abbrev pub end_of : Option ℕ → Option LocalEnd
end_of (Some byte) = Some (Out byte)
end_of None = None

-- The run takes and lists the next instruction.
pub record IsListed (code : List ℕ) (old new : CoreState) (before after : RetirementList)
    (end : Option LocalEnd) : Type 0 where
  pub retired : Retired
  pub turn : TakesOne old.setting code old.state retired new.state
  pub setting : new.setting ≡ old.setting
  pub list : after ≡ record before { items = before.items ++ retired ∷ [] }
  pub ends : end ≡ end_of retired.out

-- The run takes and lists the next instruction, or ends before it.
abbrev pub HasTaken : (code : List ℕ) → (old new : CoreState) → (before after : RetirementList) → Option LocalEnd →
    Type 0
HasTaken code old new before after (Some Other) = (new ≡ old) × (after ≡ before)
    × TakesNoMore old.setting code old.state
HasTaken code old new before after end = IsListed code old new before after end

-- ---- the law

-- `count` turns of processor k
abbrev pub turns_of : (k count : ℕ) → List Entry
turns_of k count = replicate count (entry.Processor k)

-- these retirements, as events of processor k
abbrev pub shown_by : ℕ → List Retired → List (ℕ × Event)
shown_by k taken = map (λ (retired : Retired). (k, event.Retired retired)) taken

-- The local instructions that a processor takes by itself are its next turns on the flat machine: these leave the
-- processor in the same state, change nothing else, and show what retired.
abbrev pub LocalRunsAreTurns : Type 0
LocalRunsAreTurns = (m : FlatState) (k : ℕ) (before after : Processor) (taken : List Retired) →
    slice_get m.processors k ≡ Some before →
    TakesLocal (setting_of m k) m.code before taken after →
    (flat_run m (turns_of k (length taken)) ≡ record m { processors = slice_set m.processors k after })
    × (flat_events m (turns_of k (length taken)) ≡ shown_by k taken)
