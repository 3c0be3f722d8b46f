use Rattle.std.proofs.Common.{◌∙◌}
use Rattle.debug_replies.proofs.Flags.{cleared}
use Rattle.debug_replies.proofs.breaks.Breaks.clear.Goals as goal

pub returns-clause-breaks : goal.returns-clause-breaks
returns-clause-breaks c a = c.write.ensures.breaks a ∙ cleared c.args.self.now a c.args.address
