use Rattle.schedules.proofs.Choices.{in_the_list}
use Rattle.schedules.proofs.shuffled.ShuffledArbiter.next.Goals as goal

pub choice_at-requires-clause-place : goal.choice_at-requires-clause-place
choice_at-requires-clause-place c = in_the_list c.args.k c.from.result c.next_state-self-inside.result c.from.ensures c.requires
