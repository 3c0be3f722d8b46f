use Rattle.std.proofs.Common.{ap, arith, Bor, List, [], ℕ}
use Rattle.std.specs.Prelude.{fold}
use Rattle.assembler.specs.Meaning.{after}
use Rattle.assembler.specs.Passes.{nows}
use Rattle.line_faults.specs.Places.{first_lines}
use Rattle.fault_lists.proofs.Found.{passed_more, passed_all, lines_more, lines_all}
use Rattle.fault_lists.proofs.faults.end_place.Goals as goal

nothing : Bor (List ℕ)
nothing = record { ref_ptr = (0, 0); now = [] }

pub loop-at-init : goal.loop-at-init
loop-at-init c = record {
  place = ap (λ place. fold after place (nows c.args.lines.now)) c.new-cursor.ensures.place;
  lines = c.new-cursor.ensures.lines;
}

pub loop-at-preserved : goal.loop-at-preserved
unfolding nothing
loop-at-preserved c = record {
  place =
      passed_more c.args.lines.now c.loop-at.at nothing c.loop-at.cursor c.pass_line.new.cursor (omega arith) c.loop-at.invariant.place
      c.in_ok-pass_line.ensures.place;
  lines =
      lines_more c.args.lines.now c.loop-at.at nothing (first_lines c.loop-at.cursor) (first_lines c.pass_line.new.cursor) (omega arith)
      c.loop-at.invariant.lines c.in_ok-pass_line.ensures.lines;
}

pub returns-clause-place : goal.returns-clause-place
returns-clause-place c = passed_all c.args.lines.now c.loop-at.at c.loop-at.cursor (omega arith) c.loop-at.invariant.place

pub returns-clause-lines : goal.returns-clause-lines
returns-clause-lines c = lines_all c.args.lines.now c.loop-at.at (first_lines c.loop-at.cursor) (omega arith) c.loop-at.invariant.lines
