use Rattle.std.proofs.Common.{◌-◌, drop, take, ap, ◌∙◌}
use Rattle.processor_threads.proofs.Buffering.{all_left, first_left}
use Rattle.processor_threads.proofs.step_buffer.StepBuffer.steps.Goals.{then-most-self, else-most-self}
use Rattle.processor_threads.proofs.step_buffer.StepBuffer.steps.Goals as goal

pub returns : goal.returns
returns c =
    let b = c.self.inside in
    let end = c.if-most-self.end in
    let within = c.self.invariant.1 in
    elim c.if-most-self.branch [
      | then-most-self w ↦ first_left b.steps b.used b.named within c.args.most end w.if-most-self.true w.end-is ∙ ap (take c.args.most) c.self.view_is
      | else-most-self w ↦
          ap (λ n. take (n - b.used) (drop b.used b.steps)) w.end-is ∙ all_left b.steps b.used b.named within c.args.most w.if-most-self.false
          ∙ ap (take c.args.most) c.self.view_is
    ]
