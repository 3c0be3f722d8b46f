-- Whether every fair schedule ends.
use Rattle.std.specs.Prelude.{ℕ, List, Option, Some, None, length}
use Rattle.local_reduction.specs.flat_machine.State.{FlatState}
use Rattle.local_reduction.specs.Forgetting.{kept_by}
use Rattle.local_reduction.specs.Closing.{MacroState}
use Rattle.local_reduction.specs.Termination.{AreFairlyRanked, EveryFairScheduleEnds, IsEndlessBy, IsFairCycle, IsWalk}
use Rattle.local_reduction.specs.Termination.{SomeFairScheduleNeverEnds}
use Rattle.state_graph.specs.declared.certificate.FairCertificate.{FairCertificate}
use Rattle.state_graph.specs.declared.certificate.FairCertificate.TheVariants as certificate
use Rattle.state_graph.specs.declared.lasso.Lasso.{Lasso}
use Rattle.state_graph.specs.Fairness.{helper_at}
use Rattle.state_graph.specs.Ranks.{rank_at}
use Rattle.state_search.specs.state_store.declared.state_tables.Extent.{Extent}
use Rattle.state_search.specs.state_store.StateTables.{TableLists, setting_at}
use Rattle.state_search.specs.Search.{state_at}
use Rattle.exploration.specs.declared.outcome.Fairness.{Fairness}
use Rattle.exploration.specs.declared.outcome.Fairness.TheVariants as fairness

-- This is true of the schedules of the flat machine.
abbrev pub IsFairnessOf : FlatState → Fairness → Type 0
IsFairnessOf m fairness.Ends = EveryFairScheduleEnds m
IsFairnessOf m (fairness.Endless lasso) =
    SomeFairScheduleNeverEnds m × IsEndlessBy m lasso.stem.items lasso.cycle.items
IsFairnessOf m fairness.Unknown = Unit {0}

-- The rows have ranks by which every fair schedule ends.
pub record HaveFairRanks (e : Extent) (code : List ℕ) (t : TableLists) (rows : List (List ℕ)) : Type 0 where
  pub ranks : List ℕ
  pub helpers : List ℕ
  pub are : AreFairlyRanked (setting_at e) code (kept_by t.live) (state_at e t rows) (length rows) (rank_at ranks)
      (helper_at helpers)

-- The stem leads from the first row to a state, and the cycle from there back to it, in which each processor that may
-- move there moves.
pub record HaveFairLasso (e : Extent) (code : List ℕ) (t : TableLists) (rows : List (List ℕ)) (lasso : Lasso) : Type 0
  where
    pub state : MacroState
    pub stem : IsWalk (setting_at e) code (kept_by t.live) (state_at e t rows 0) lasso.stem.items state
    pub cycle : IsFairCycle (setting_at e) code (kept_by t.live) state lasso.cycle.items

-- This is shown by the rows.
abbrev pub IsFairnessAt : Extent → (code : List ℕ) → TableLists → (rows : List (List ℕ)) → Fairness → Type 0
IsFairnessAt e code t rows fairness.Ends = HaveFairRanks e code t rows
IsFairnessAt e code t rows (fairness.Endless lasso) = HaveFairLasso e code t rows lasso
IsFairnessAt e code t rows fairness.Unknown = Unit {0}

-- what is said of fair schedules if this is found
abbrev pub fairness_by : Option FairCertificate → Fairness
fairness_by None = fairness.Unknown
fairness_by (Some (certificate.Ranks ranks)) = fairness.Ends
fairness_by (Some (certificate.Lasso lasso)) = fairness.Endless lasso
