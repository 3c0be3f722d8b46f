use Rattle.std.proofs.Common.{take}
use Rattle.std.specs.Prelude.{string_bytes}
use Rattle.trace_commands.proofs.OrderTelling.{AreShown}
use Rattle.trace_commands.proofs.lines.order_text.Given as goal

abbrev pub invariant-loop-number : goal.invariant-loop-number
invariant-loop-number l = AreShown l.choice l.initial.before (take l.number l.entries) (string_bytes l.text) l.before l.after
