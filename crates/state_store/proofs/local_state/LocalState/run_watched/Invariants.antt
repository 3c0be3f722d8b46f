use Rattle.state_store.specs.Placed.{HasGone}
use Rattle.state_store.proofs.local_state.LocalState.run_watched.Given as goal

abbrev pub invariant-loop-turns : goal.invariant-loop-turns
invariant-loop-turns l = HasGone l.quietly l.code l.fn.self l.self
