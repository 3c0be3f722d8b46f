use Rattle.std.proofs.Common.{◌∙◌}
use Rattle.processor_threads.proofs.Buffering.{filled_kept, filled_new}
use Rattle.processor_threads.proofs.step_buffer.StepBuffer.fill.Goals as goal

pub returns-then-not-is_empty : goal.returns-then-not-is_empty
returns-then-not-is_empty g c = filled_kept c.args.count c.args.self.now (λ none. let no = c.is_empty.ensures.1 none in absurd (cc))

pub returns : goal.returns
returns g c = filled_new c.args.count c.args.self.now c.name_steps.new.self (c.is_empty.ensures.0 c.if-not-is_empty.false)
    (c.name_steps.ensures ∙ c.clamp-count.ensures)
