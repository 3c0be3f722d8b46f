use Rattle.std.proofs.Common.{◌≡◌, ℕ, List, ◌++◌, length, false}
use Rattle.machine_steps.specs.Machines.{IsIdle}
use Rattle.debug_session.specs.Answers.{session}
use Rattle.debug_session.specs.Conversations.{Goes}
use Rattle.debug_session.proofs.serving.serve_piece.Given as goal

-- All events in the bytes fed so far were answered whole.
abbrev pub invariant-loop-rest : goal.invariant-loop-rest
invariant-loop-rest g l =
    (g.W.Link.has_failed l.writer ≡ false) × IsIdle l.log.machine
    × ((input : List ℕ) × (l.piece ≡ input ++ l.rest)
    × Goes (g.C.Runner.spec l.budget) l.fn.lines (session l.fn.log l.fn.breaks) (g.W.Write.contents l.fn.writer) input
    l.lines (session l.log l.breaks) (g.W.Write.contents l.writer))

abbrev pub decreases-loop-rest : goal.decreases-loop-rest
decreases-loop-rest g l = length l.rest
