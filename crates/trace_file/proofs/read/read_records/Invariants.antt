use Rattle.std.proofs.Common.{◌≡◌, ◌≤◌, ◌-◌, [], length, false}
use Rattle.trace_file.specs.Reading.{AddsRead}
use Rattle.trace_file.proofs.read.read_records.Given as goal

-- The records so far were read.
abbrev pub invariant-loop-left : goal.invariant-loop-left
invariant-loop-left g l =
    (g.R.Link.has_failed l.reader ≡ false) × (length l.piece ≡ 4092) × (l.left ≤ l.header.count)
    × AddsRead l.header.k (l.header.count - l.left) [] l.steps.items (g.R.Read.remaining l.fn.reader) (g.R.Read.remaining l.reader)

abbrev pub decreases-loop-left : goal.decreases-loop-left
decreases-loop-left g l = l.left
