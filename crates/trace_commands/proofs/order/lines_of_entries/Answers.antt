use Rattle.std.specs.Prelude.{string_bytes}
use Rattle.trace_commands.proofs.Orders.{are_lines}
use Rattle.trace_commands.proofs.order.lines_of_entries.Goals as goal

pub returns-clause-lines : goal.returns-clause-lines
returns-clause-lines c = λ steps all home order.
    are_lines c.args.config c.args.image.now steps all home c.args.entries.now c.in_ok-before.before c.order_text.new.before c.in_ok-before.ensures.opening
    order c.in_ok-text.ensures.config c.in_ok-text.ensures.both.one_is c.args.choice (string_bytes c.in_ok-text.text) c.exit_status.result
    c.in_ok-text.ensures.lines c.exit_status.ensures
