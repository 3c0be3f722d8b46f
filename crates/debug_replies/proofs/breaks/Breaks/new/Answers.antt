use Rattle.debug_replies.proofs.Flags.{none_set}
use Rattle.debug_replies.proofs.breaks.Breaks.new.Goals as goal

pub returns : goal.returns
returns c = none_set
