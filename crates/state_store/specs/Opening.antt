-- The state after processors that have printed nothing have run alone.
use Rattle.std.specs.Prelude.{◌≡◌, ℕ, Bool, if◌then◌else◌, ◌<◌, List, length, map, slice_get, Some}
use Rattle.flat_machine.specs.State.{FlatState}
use Rattle.hart.specs.State.{CoreState}
use Rattle.local_reduction.specs.LocalStates.{alone, IsAtReference}
use Rattle.local_reduction.specs.Forgetting.{kept_by}
use Rattle.state_store.specs.declared.state_tables.Extent.{Extent}
use Rattle.state_store.specs.Placed.{placed_of}
use Rattle.state_store.specs.StateTables.{TableLists, placed_at, setting_at}

-- These are the cores of a machine of this extent.
pub record AreOfExtent (e : Extent) (cores : List CoreState) : Type 0 where
  pub all : length cores ≡ e.processors
  pub settings : (p : ℕ) (c : CoreState) → slice_get cores p ≡ Some c → c.setting ≡ setting_at e p

-- the flat machine of these cores and words
abbrev pub flat_of : (code : List ℕ) → List CoreState → (words : List ℕ) → FlatState
flat_of code cores words = record { processors = map (λ (c : CoreState). c.state) cores; shared = words; code = code }

-- The tables have, under this number, the local state after some turns alone.
pub record IsOpened (exchanged : Bool) (code : List ℕ) (c : CoreState) (t : TableLists) (number : ℕ) : Type 0 where
  pub there : number < length t.local_states
  pub setting : (placed_at t number).setting ≡ record c.setting { number = if exchanged then 0 else c.setting.number }
  pub count : ℕ
  pub gone : kept_by t.live (placed_at t number).local_state
      ≡ kept_by t.live (alone count c.setting code (placed_of c).local_state)
  pub at_reference : IsAtReference c.setting code (alone count c.setting code (placed_of c).local_state).processor
