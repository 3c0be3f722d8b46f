use Rattle.std.proofs.Common.{◌≡◌, ◌∙◌, arith, length, subst, sym, true}
use Rattle.machine_steps.specs.Runs.{flat_state}
use Rattle.debug_replies.proofs.Halts.{one_goes_on}
use Rattle.debug_replies.specs.Stops.{are_halted}
use Rattle.debug_replies.proofs.stopping.are_all_halted.Goals as goal

pub returns-then-not-is_halted : goal.returns-then-not-is_halted
returns-then-not-is_halted c =
    let m = flat_state c.args.machine.now in
    sym (one_goes_on m c.loop-processor.processor (length m.processors)
    (omega (arith, c.loop-processor-test.true, c.flat_processors-processor-end.ensures.count))
    (sym c.is_halted.ensures ∙ c.if-not-is_halted.true))

pub returns : goal.returns
returns c =
    let m = flat_state c.args.machine.now in
    let all : c.loop-processor.processor ≡ length m.processors =
    omega (arith, c.loop-processor-test.false, c.loop-processor.auto.processor-end, c.flat_processors-processor-end.ensures.count) in
    subst (λ n. true ≡ are_halted m n) all (sym c.loop-processor.invariant)
