use Rattle.state_store.proofs.Remembering.{noted_on}
use Rattle.state_store.proofs.transition_cache.TransitionCache.remember.Goals as goal

pub returns : goal.returns
returns c = noted_on _ _ _ _ _ c.make_room.ensures c.keep.ensures
