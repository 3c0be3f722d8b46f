-- Tables of local states and of lists of words, and what rows of their numbers mean.
use Rattle.std.specs.Prelude.{◌≡◌, ℕ, ◌<◌, ◌≤◌, Bool, true, if◌then◌else◌, List, [], Some, length, map, slice_index}
use Rattle.std.specs.Prelude.{slice_index_or}
use Rattle.std.specs.List.{range_with_len}
use Rattle.flat_machine.specs.declared.setting.Setting.{Setting}
use Rattle.flat_machine.specs.declared.event.Retired.{Retired}
use Rattle.flat_machine.specs.declared.event.Status.TheVariants.{Halted}
use Rattle.flat_machine.specs.State.{Processor}
use Rattle.flat_machine.specs.Turns.{turn_of}
use Rattle.hart.specs.Deciding.{after_reply}
use Rattle.local_reduction.specs.LocalStates.{retire, alone, IsAtReference}
use Rattle.local_reduction.specs.Closing.{MacroState}
use Rattle.local_reduction.specs.Exchanging.{AskNot, NeverAsks}
use Rattle.local_reduction.specs.Forgetting.{kept_by}
use Rattle.state_store.specs.declared.state_tables.Extent.{Extent}
use Rattle.state_store.specs.Placed.{Placed, IsBare}

-- the tables, and the live registers at each word of code: of a local state, only live registers are kept
pub record TableLists : Type 0 where
  pub live : List (List Bool)
  pub local_states : List Placed
  pub words : List (List ℕ)

-- what a read past the end of the table gives
abbrev pub nowhere : Placed
nowhere = record {
  setting = record { number = 0; processors = 0; shared_words = 0 };
  local_state = record { processor = record { pc = 0; registers = []; local = []; status = Halted 0 }; console = [] };
}

abbrev pub placed_at : TableLists → (number : ℕ) → Placed
placed_at t i = slice_index_or t.local_states i nowhere

abbrev pub words_at : TableLists → (number : ℕ) → List ℕ
words_at t i = slice_index_or t.words i []

-- In every local state, the registers that are not live hold 0.
abbrev pub AreLeast : TableLists → Type 0
AreLeast t = (i : ℕ) → i < length t.local_states → IsBare t.live (placed_at t i)

-- No two local states of one setting are kept alike, and no two lists have the same words.
pub record AreDifferent (t : TableLists) : Type 0 where
  pub local_states : (i j : ℕ) → i < length t.local_states → j < length t.local_states →
      (placed_at t i).setting ≡ (placed_at t j).setting →
      kept_by t.live (placed_at t i).local_state ≡ kept_by t.live (placed_at t j).local_state → i ≡ j
  pub words : (i j : ℕ) → i < length t.words → j < length t.words → words_at t i ≡ words_at t j → i ≡ j

-- ---- tables that grow

-- Every number of the old tables has the same meaning in the new ones.
pub record HasGrown (old new : TableLists) : Type 0 where
  pub live : new.live ≡ old.live
  pub local_states : length old.local_states ≤ length new.local_states
  pub words : length old.words ≤ length new.words
  pub same_local_state : (i : ℕ) → i < length old.local_states → placed_at new i ≡ placed_at old i
  pub same_words : (i : ℕ) → i < length old.words → words_at new i ≡ words_at old i

-- ---- rows

-- the setting of processor p of a machine of this extent
abbrev pub setting_at : Extent → ℕ → Setting
setting_at e p = record { number = p; processors = e.processors; shared_words = e.shared_words }

-- the setting in the local states of processor p: if processors are exchanged, all have the number 0
abbrev pub own_setting : Extent → ℕ → Setting
own_setting e p = setting_at e (if e.exchanged then 0 else p)

-- the state that a row means
abbrev pub means : Extent → TableLists → (row : List ℕ) → MacroState
means e t row = record {
  local_states = map (λ p. kept_by t.live (placed_at t (slice_index row p)).local_state)
      (range_with_len 0 e.processors);
  shared = words_at t (slice_index row e.processors);
}

-- The row has, for each processor, the number of one of its local states, then the number of a list of all shared
-- words, then zeros.
pub record IsRow (e : Extent) (t : TableLists) (row : List ℕ) : Type 0 where
  pub there : (p : ℕ) → p < e.processors → slice_index row p < length t.local_states
  pub own : (p : ℕ) → p < e.processors → (placed_at t (slice_index row p)).setting ≡ own_setting e p
  pub words : slice_index row e.processors < length t.words
  pub all : length (words_at t (slice_index row e.processors)) ≡ e.shared_words
  pub rest : (k : ℕ) → e.processors < k → slice_index row k ≡ 0

-- The tables have, under this number, the local state after a reference to a word with the old value `before`, and some
-- turns alone after it.
pub record IsAfterReference (quietly : Bool) (code : List ℕ) (before : ℕ) (old : Placed) (t : TableLists)
    (number : ℕ) : Type 0 where
  pub there : number < length t.local_states
  pub setting : (placed_at t number).setting ≡ old.setting
  pub count : ℕ
  pub gone : (done : Processor × Retired) →
      after_reply (turn_of old.setting code old.local_state.processor) before ≡ Some done →
      kept_by t.live (placed_at t number).local_state
      ≡ kept_by t.live (alone count old.setting code (retire old.local_state done))
  pub at_reference : (done : Processor × Retired) →
      after_reply (turn_of old.setting code old.local_state.processor) before ≡ Some done →
      IsAtReference old.setting code (alone count old.setting code (retire old.local_state done)).processor
  pub quiet : quietly ≡ true → (done : Processor × Retired) →
      after_reply (turn_of old.setting code old.local_state.processor) before ≡ Some done →
      AskNot count old.setting code (retire old.local_state done)
  pub later : quietly ≡ true → (done : Processor × Retired) →
      after_reply (turn_of old.setting code old.local_state.processor) before ≡ Some done →
      NeverAsks old.setting code (alone count old.setting code (retire old.local_state done))
