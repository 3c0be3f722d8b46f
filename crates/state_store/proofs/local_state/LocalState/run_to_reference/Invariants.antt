use Rattle.state_store.specs.Placed.{HasGone}
use Rattle.state_store.proofs.local_state.LocalState.run_to_reference.Given as goal

abbrev pub invariant-loop-turn : goal.invariant-loop-turn
invariant-loop-turn l = HasGone l.quietly l.code l.fn.self l.self
