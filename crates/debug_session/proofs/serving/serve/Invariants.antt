use Rattle.std.proofs.Common.{◌≡◌, ℕ, List, [], length, false}
use Rattle.std.specs.Io.KnownBytes.{Consumes}
use Rattle.debug_lines.specs.Lines.{Held, IsAfter}
use Rattle.debug_replies.specs.Breaking.{is_break}
use Rattle.machine_steps.specs.Machines.{IsIdle}
use Rattle.debug_session.specs.Answers.{session}
use Rattle.debug_session.specs.Conversations.{Goes, HasDrained}
use Rattle.debug_session.proofs.serving.serve.Given as goal

-- All bytes taken were read, and all their events were answered whole.
abbrev pub invariant-loop : goal.invariant-loop
invariant-loop g l =
    (g.R.Link.has_failed l.reader ≡ false) × (g.W.Link.has_failed l.writer ≡ false) × (length l.piece ≡ 256) × IsIdle l.log.machine
    × HasDrained l.fn.log l.initial.log × ((a : ℕ) → is_break l.initial.breaks a ≡ false)
    × ((held : Held) × (input : List ℕ) × IsAfter [] [] held × Consumes (g.R.Read.remaining l.fn.reader) (g.R.Read.remaining l.reader) input
    × Goes (g.C.Runner.spec l.budget) held (session l.initial.log l.initial.breaks) (g.W.Write.contents l.fn.writer) input l.lines
    (session l.log l.breaks) (g.W.Write.contents l.writer))
