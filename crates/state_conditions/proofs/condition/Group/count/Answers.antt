use Rattle.std.proofs.Common.{rules}
use Rattle.state_conditions.proofs.condition.Group.count.Goals as goal

pub returns : goal.returns
returns c = search rules
