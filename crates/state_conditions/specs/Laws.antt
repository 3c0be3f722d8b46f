-- Conditions only count processors.
use Rattle.std.specs.Prelude.{◌≡◌, ℕ, List, slice_get}
use Rattle.state_conditions.specs.declared.condition.Comparison.{Comparison}
use Rattle.state_conditions.specs.declared.condition.ProcessorState.{ProcessorState}
use Rattle.state_conditions.specs.declared.property.Kind.{Kind}
use Rattle.state_conditions.specs.Conditions.{breaks}

-- Each processor of the second list is at another place in the first, and none is at two.
pub record AreExchanged (some others : List ProcessorState) : Type 0 where
  pub place : ℕ → ℕ
  pub taker : ℕ → ℕ
  pub taken : (i : ℕ) → place (taker i) ≡ i
  pub takes : (k : ℕ) → taker (place k) ≡ k
  pub each : (k : ℕ) → slice_get others k ≡ slice_get some (place k)

-- A state breaks a property exactly if it does so with its processors in other places.
abbrev pub ExchangesKeepConditions : Type 0
ExchangesKeepConditions =
    (kind : Kind) (condition : List (List Comparison)) (some others : List ProcessorState) (words : List ℕ) →
    AreExchanged some others → breaks kind condition others words ≡ breaks kind condition some words
