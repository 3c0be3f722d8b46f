use Rattle.std.proofs.Common.{arith, Bor, List, [], ℕ}
use Rattle.line_faults.specs.Places.{label_values}
use Rattle.fault_lists.proofs.Found.{found_none, found_more, found_all}
use Rattle.fault_lists.proofs.faults.faults_of.Goals as goal

nothing : Bor (List ℕ)
nothing = record { ref_ptr = (0, 0); now = [] }

pub loop-at-init : goal.loop-at-init
loop-at-init c =
    found_none (label_values c.args.labels.now) c.args.lines.now c.new-faults.result.items c.new-cursor.result c.new-faults.ensures.items
    c.new-cursor.ensures.place c.new-cursor.ensures.lines

pub loop-at-preserved : goal.loop-at-preserved
unfolding nothing
loop-at-preserved c = found_more (label_values c.args.labels.now) c.args.lines.now c.loop-at.at nothing c.loop-at.faults.items c.keep.new.faults.items
    c.loop-at.cursor c.take_line.new.cursor c.in_ok-found.found (omega arith) c.loop-at.invariant c.in_ok-found.ensures.fault c.in_ok-found.ensures.placed
    c.in_ok-found.ensures.place c.in_ok-found.ensures.lines c.in_ok-keep.ensures

pub returns : goal.returns
returns c = record {
  errors = found_all (label_values c.args.labels.now) c.args.lines.now c.loop-at.at c.loop-at.faults.items c.loop-at.cursor (omega arith) c.loop-at.invariant;
  placed = c.loop-at.invariant.placed;
}
