-- Classes of processors, and the moves that a row has.
use Rattle.std.specs.Prelude.{◌≡◌, ℕ, ◌<◌, false, List, Option, Some, None, length}
use Rattle.local_reduction.specs.Closing.{MacroState, MayMove, HasSpinner}
use Rattle.local_reduction.specs.Exchanging.{AreAlike, IsMoveOfAny}
use Rattle.local_reduction.specs.Forgetting.{kept_by}
use Rattle.state_store.specs.declared.state_tables.Extent.{Extent}
use Rattle.state_store.specs.StateTables.{TableLists, setting_at, means, IsRow}

-- Every processor has a class. If processors are not exchanged, each has a class of its own.
pub record AreClasses (e : Extent) (classes : List ℕ) : Type 0 where
  pub all : length classes ≡ e.processors
  pub own : e.exchanged ≡ false → (j k : ℕ) → k < e.processors → AreAlike classes j k → j ≡ k

-- The processor runs, and its next turn is a reference.
abbrev pub CanMove : Extent → (code : List ℕ) → MacroState → (processor : ℕ) → Type 0
CanMove e code s k = MayMove (setting_at e) code s k

-- Some processor runs, and its next turn is not a reference: it spins.
abbrev pub Spinning : Extent → (code : List ℕ) → MacroState → Type 0
Spinning e code s = HasSpinner (setting_at e) code s

module _ (e : Extent) (code : List ℕ) (classes : List ℕ) where
  -- A lookup of a processor's move gives the row to which it leads, or None if there is no move.
  abbrev pub IsNext : TableLists → MacroState → (processor : ℕ) → Option (List ℕ) → Type 0
  IsNext t s k None = CanMove e code s k → ⊥
  IsNext t s k (Some row) =
      IsRow e t row × IsMoveOfAny (setting_at e) code (kept_by t.live) classes s k (means e t row)
