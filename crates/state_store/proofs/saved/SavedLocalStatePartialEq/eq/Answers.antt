use Rattle.state_store.proofs.Keys.{eq_is_same_key}
use Rattle.state_store.proofs.saved.SavedLocalStatePartialEq.eq.Goals as goal

pub returns : goal.returns
returns c = eq_is_same_key c.is_equal.result c.args.self.now c.args.other.now c.is_equal.ensures
