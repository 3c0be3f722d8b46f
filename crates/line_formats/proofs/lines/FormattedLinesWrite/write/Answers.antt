use Rattle.std.proofs.Common.{◌≡◌, ◌++◌, arith, take}
use Rattle.std.proofs.KnownBytes.{Appends-nil}
use Rattle.line_formats.proofs.Feeding.{line_at, none_at}
use Rattle.line_formats.proofs.lines.FormattedLinesWrite.write.Goals as goal

pub returns-in_ok-end_line-in-Some-clause-lines : goal.returns-in_ok-end_line-in-Some-clause-lines
returns-in_ok-end_line-in-Some-clause-lines g c =
    let old = c.args.self.now in
    let kept : c.extend_from_slice.new.self.items ≡ old.kept.items ++ take c.in-Some.at c.args.buf.now = grind arith in
    let fed = line_at (g.F.LineFormat.text old.format) old.kept.items c.args.buf.now c.in-Some.at c.in-Some.ensures in
    let ended = rw kept at c.in_ok-end_line-in-Some.ensures.text in
    rw fed ended

pub returns-in_ok-extend_from_slice-in-None-clause-lines : goal.returns-in_ok-extend_from_slice-in-None-clause-lines
returns-in_ok-extend_from_slice-in-None-clause-lines g c =
    let old = c.args.self.now in
    let kept : c.extend_from_slice-in-None.new.self.items ≡ old.kept.items ++ c.args.buf.now = grind arith in
    let fed = none_at (g.F.LineFormat.text old.format) old.kept.items c.args.buf.now c.in-None.ensures in
    rw fed (kept, Appends-nil (g.W.Write.contents old.device))
