use Rattle.schedules.proofs.Choices.{in_a_row}
use Rattle.schedules.proofs.choice.choice_at.Goals as goal

pub choice_in-requires-clause-row : goal.choice_in-requires-clause-row
choice_in-requires-clause-row c = in_a_row c.args.k c.args.place c.requires.stages c.requires.place
