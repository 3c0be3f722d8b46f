use Rattle.std.proofs.Common.{arith}
use Rattle.schedules.proofs.Choices.{up_at, serve_at, down_at}
use Rattle.schedules.proofs.choice.choice_in.Goals as goal

pub returns-then-row-k : goal.returns-then-row-k
returns-then-row-k c = up_at c.args.k c.args.row c.args.wire (omega arith) c.requires.wire

pub returns-then-row-k-2 : goal.returns-then-row-k-2
returns-then-row-k-2 c = serve_at c.args.k c.args.row c.args.wire (omega arith) c.requires.wire

pub returns-else-row-k-2 : goal.returns-else-row-k-2
returns-else-row-k-2 c = down_at c.args.k c.args.row c.args.wire (omega arith) c.requires.row c.requires.wire
