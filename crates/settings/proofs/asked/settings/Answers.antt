use Rattle.settings.proofs.Plain.{plain_given}
use Rattle.settings.proofs.asked.settings.Goals as goal

pub returns-clause-plain : goal.returns-clause-plain
returns-clause-plain c s plain = plain_given s _ plain c.read.result c.read.ensures.asked c.read.ensures.kinds
