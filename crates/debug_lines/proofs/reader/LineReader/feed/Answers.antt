use Rattle.std.proofs.Common.{length, arith}
use Rattle.std.proofs.lemmas.List.{take_all, append-nil}
use Rattle.debug_lines.proofs.Reading.{IsAfter-more, IsAfter-piece}
use Rattle.debug_lines.proofs.reader.LineReader.feed.Goals as goal

pub returns-in-None-clause-events : goal.returns-in-None-clause-events
returns-in-None-clause-events c = λ bytes events a.
    rw (take_all (length c.args.piece.now) c.args.piece.now (omega arith), append-nil, c.hold.ensures)
    (IsAfter-more bytes events c.args.self.now c.args.piece.now a c.in-None.ensures.none)

pub returns-in-Some-clause-events : goal.returns-in-Some-clause-events
returns-in-Some-clause-events c = λ bytes events a.
    rw (c.finish.ensures.event, c.finish.ensures.empty, c.hold-in-Some.ensures)
    (IsAfter-piece bytes events c.args.self.now c.args.piece.now c.in-Some.at c.in-Some.ensures.some.0 c.in-Some.ensures.some.1 c.in-Some.ensures.some.2 a)
