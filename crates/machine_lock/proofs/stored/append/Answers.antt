use Rattle.std.proofs.Common.{◌∙◌, sym}
use Rattle.machine_lock.proofs.stored.append.Goals as goal

pub push_reserved-requires : goal.push_reserved-requires
push_reserved-requires c = c.requires.room c.args.processor (sym c.is_turn_of.ensures ∙ c.if-not-is_turn_of.false)

pub push_reserved-requires-in-Stopped : goal.push_reserved-requires-in-Stopped
push_reserved-requires-in-Stopped c = c.requires.room c.args.processor (sym c.is_turn_of.ensures ∙ c.if-not-is_turn_of.false)
