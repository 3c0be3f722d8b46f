use Rattle.debug_session.proofs.laws.runs_are_in_order.Goals as goal

pub returns : goal.returns
returns c old new before after idle run =
    (c.runs_are_serialized.ensures.each old.machine run.more new.machine before.sound idle after.sound run.replay.run).flat run.idle
