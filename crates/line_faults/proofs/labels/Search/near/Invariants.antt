use Rattle.std.proofs.Common.{List, ℕ, Bor}
use Rattle.std.specs.Prelude.{All, IfSome, IsSome}
use Rattle.line_faults.specs.AdviceAtFault.{IsNearLabel}
use Rattle.line_faults.specs.Places.{label_values}
use Rattle.line_faults.proofs.labels.Search.near.Given as goal

abbrev pub invariant-loop-name : goal.invariant-loop-name
invariant-loop-name l = record {
  labels : All (λ (k : Bor (List ℕ)). IsSome (label_values l.labels k.now)) l.name-iterator;
  near : IfSome l.nearest (λ p. IsNearLabel (label_values l.labels) l.word p.1.now);
}
