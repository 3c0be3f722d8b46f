use Rattle.state_store.proofs.Still.{HasGoneOn}
use Rattle.state_store.proofs.local_state.LocalState.watch.Given as goal

abbrev pub invariant-loop-turn : goal.invariant-loop-turn
invariant-loop-turn l = HasGoneOn l.quietly l.code l.fn.self l.self
