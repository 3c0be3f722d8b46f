use Rattle.std.proofs.Common.{◌≡◌, ◌≤◌, length}
use Rattle.hart.proofs.Going.{HasGone}
use Rattle.hart.proofs.run.run_local.Given as goal

-- nothing was printed so far, and there are as many retirements as places were gone through
abbrev pub invariant-loop-place : goal.invariant-loop-place
invariant-loop-place l = record {
  gone : HasGone l.code l.fn.core l.core l.fn.retirements l.retirements;
  count : length l.retirements.items ≡ l._place;
  few : l._place ≤ l.fn.retirements.most;
}
