use Rattle.std.proofs.Common.{◌≡◌, ◌∙◌, arith, length, subst, sym, None}
use Rattle.machine_steps.specs.Runs.{flat_state}
use Rattle.debug_replies.proofs.Smallest.{smallest_is}
use Rattle.debug_replies.specs.Stops.{is_at_break, smallest}
use Rattle.debug_replies.proofs.stopping.first_at_break.Goals as goal

pub returns-then-is_at_break : goal.returns-then-is_at_break
returns-then-is_at_break c =
    let m = flat_state c.args.machine.now in
    sym (smallest_is (is_at_break c.args.breaks.now m) c.loop-processor.processor (length m.processors)
    (omega (arith, c.loop-processor-test.true, c.flat_processors-processor-end.ensures.count))
    c.loop-processor.invariant (sym c.is_at_break.ensures ∙ c.if-is_at_break.true))

pub returns : goal.returns
returns c =
    let m = flat_state c.args.machine.now in
    let all : c.loop-processor.processor ≡ length m.processors =
    omega (arith, c.loop-processor-test.false, c.loop-processor.auto.processor-end, c.flat_processors-processor-end.ensures.count) in
    subst (λ n. None ≡ smallest (is_at_break c.args.breaks.now m) n) all (sym c.loop-processor.invariant)
