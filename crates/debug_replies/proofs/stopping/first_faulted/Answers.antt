use Rattle.std.proofs.Common.{◌∙◌, arith, length, not, sym, ap}
use Rattle.std.proofs.lemmas.Bool.{and_from}
use Rattle.machine_steps.specs.Runs.{flat_state}
use Rattle.debug_replies.proofs.Smallest.{smallest_is}
use Rattle.debug_replies.specs.Stops.{is_flagged, is_newly_faulted}
use Rattle.debug_replies.proofs.stopping.first_faulted.Goals as goal

pub returns-then-not-contains : goal.returns-then-not-contains
returns-then-not-contains c =
    let m = flat_state c.args.machine.now in
    sym (smallest_is (is_newly_faulted (is_flagged c.args.before.now) m) c.loop-processor.processor (length m.processors)
    (omega (arith, c.loop-processor-test.true, c.flat_processors-processor-end.ensures.count))
    c.loop-processor.invariant
    (and_from _ _ (sym c.is_faulted.ensures ∙ c.if-is_faulted.true) (ap not (sym c.contains.ensures ∙ c.if-not-contains.true))))
