use Rattle.std.proofs.Common.{arith}
use Rattle.schedules.proofs.Places.{turn_at, up_at, serve_at, down_at}
use Rattle.schedules.proofs.schedule.step_at.Goals as goal

pub returns-then-row-eq0 : goal.returns-then-row-eq0
returns-then-row-eq0 c = turn_at c.args.k c.args.row c.args.wire c.requires.stages c.requires.row c.requires.wire (omega arith)

pub returns-then-row-k : goal.returns-then-row-k
returns-then-row-k c = up_at c.args.k c.args.row c.args.wire c.requires.stages c.requires.row c.requires.wire (omega arith) (omega arith)

pub returns-then-row-k-2 : goal.returns-then-row-k-2
returns-then-row-k-2 c = serve_at c.args.k c.args.row c.args.wire c.requires.stages c.requires.row c.requires.wire (omega arith)

pub returns-else-row-k-2 : goal.returns-else-row-k-2
returns-else-row-k-2 c = down_at c.args.k c.args.row c.args.wire c.requires.stages c.requires.row c.requires.wire (omega arith)
