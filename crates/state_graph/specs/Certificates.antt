-- What shows whether every fair schedule ends.
use Rattle.std.specs.Prelude.{ℕ, List}
use Rattle.state_graph.specs.declared.certificate.FairCertificate.{FairCertificate}
use Rattle.state_graph.specs.declared.certificate.FairCertificate.TheVariants as certificate
use Rattle.state_graph.specs.Fairness.{AreFairRanks}
use Rattle.state_graph.specs.Lassos.{IsFairLasso}

-- The targets have these ranks, or this lasso.
abbrev pub IsFairCertificate : (targets : List (List ℕ)) → FairCertificate → Type 0
IsFairCertificate targets (certificate.Ranks ranks) = AreFairRanks targets ranks.ranks.items ranks.helpers.items
IsFairCertificate targets (certificate.Lasso lasso) = IsFairLasso targets lasso.stem.items lasso.cycle.items
