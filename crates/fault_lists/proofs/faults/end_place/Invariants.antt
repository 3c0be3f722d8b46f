use Rattle.std.proofs.Common.{◌≡◌, drop, take}
use Rattle.std.specs.Prelude.{fold}
use Rattle.assembler.specs.Meaning.{start, after}
use Rattle.assembler.specs.Passes.{nows}
use Rattle.line_faults.specs.Places.{first_lines, place_of}
use Rattle.fault_lists.specs.Faults.{first_line_with}
use Rattle.fault_lists.proofs.faults.end_place.Given as goal

abbrev pub invariant-loop-at : goal.invariant-loop-at
invariant-loop-at l = record {
  place : fold after (place_of l.cursor) (nows (drop l.at l.lines)) ≡ fold after start (nows l.lines);
  lines : first_lines l.cursor ≡ first_line_with (take l.at (nows l.lines));
}
