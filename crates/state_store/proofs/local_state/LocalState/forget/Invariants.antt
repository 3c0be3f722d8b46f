use Rattle.state_store.proofs.Clearing.{IsCleared}
use Rattle.state_store.proofs.local_state.LocalState.forget.Given as goal

abbrev pub invariant-loop-number : goal.invariant-loop-number
invariant-loop-number l = IsCleared l.live l.fn.self l.pc l.self-inside.core l.self-inside.console.items l.number
