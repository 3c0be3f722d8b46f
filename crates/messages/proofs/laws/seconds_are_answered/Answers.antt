use Rattle.messages.proofs.AnsweredSeconds.{all_answered}
use Rattle.messages.proofs.laws.seconds_are_answered.Goals as goal

pub returns : goal.returns
returns c = all_answered
