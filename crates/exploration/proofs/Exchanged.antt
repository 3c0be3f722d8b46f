-- Results up to exchanges.
use Rattle.state_search.proofs.Lemmas.{stands_for_on}
use Rattle.exploration.specs.Laws.{ExploringEitherWayStandsForTheSame, ResultsAreClosedUnderExchange}

-- If a list stands for the results of a machine, every exchange of a result of the machine is again one.
pub closed : ResultsAreClosedUnderExchange
closed m classes results q p are is exchanged =
    let x = are.complete q is in
    are.sound x.0 p x.1 (stands_for_on classes x.0 q p x.2 exchanged)

-- Results found with one list of classes stand for the same results as those found with another.
pub same : ExploringEitherWayStandsForTheSame
same m classes others some more q are too = (
  λ x. too.complete q (are.sound x.0 q x.1 x.2),
  λ x. are.complete q (too.sound x.0 q x.1 x.2),
)
