use Rattle.std.proofs.Common.{All, sym}
use Rattle.std.specs.Prelude.{Vec}
use Rattle.std.specs.Global.{Global}
use Rattle.std.proofs.lemmas.List.Elements.{All-append, All-head, All-rest, All-same}
use Rattle.std.proofs.lemmas.List.Sorted.{All-permutation}
use Rattle.hunt_command.specs.declared.ahead.Taken.{Taken}
use Rattle.hunt_command.specs.Taken.{IsTaken}
use Rattle.hunt_command.proofs.ahead.in_order.Goals as goal

pub loop-part-preserved : goal.loop-part-preserved
loop-part-preserved c = λ hunt size image right.
    let before = c.loop-part.invariant hunt size image right in
    let next = c.in-Some.ensures.steps.0 in
    let R = λ (part : Vec Taken Global). All (IsTaken hunt size image) part.items in (
      All-rest R c.in-Some.part _ _ next before.0,
      All-same (IsTaken hunt size image) _ _ c.in_ok-append.ensures.items
          (All-append (IsTaken hunt size image) _ _ before.1 (All-head R c.in-Some.part _ (All-same R _ _ (sym next) before.0))),
    )

pub returns : goal.returns
returns c = λ hunt size image right.
    All-permutation (IsTaken hunt size image) _ _ c.sort_unstable_by.ensures.permutation (c.loop-part.invariant hunt size image right).1
