use Rattle.std.proofs.Common.{◌≤◌, length, sym, ◌∙◌, arith, eq-eqb, eqb-true}
use Rattle.processor_threads.proofs.Buffering.{none_left}
use Rattle.processor_threads.proofs.step_buffer.StepBuffer.is_empty.Goals as goal

pub returns : goal.returns
returns c =
    let b = c.self.inside in
    let long = c.self.invariant.0 in
    let few = c.self.invariant.2 in
    let all : b.named ≤ length b.steps = omega (arith, few, long) in
    let none = none_left b.steps b.used b.named c.self.invariant.1 all in
    (λ same. sym c.self.view_is ∙ none.0 (eqb-true b.used b.named same), λ empty. eq-eqb b.used b.named (none.1 (c.self.view_is ∙ empty)))
