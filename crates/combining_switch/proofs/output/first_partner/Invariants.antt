use Rattle.std.proofs.Common.{◌≡◌}
use Rattle.std.specs.Prelude.{slice_get}
use Rattle.combining_switch.specs.Pools.{requests_at}
use Rattle.messages.proofs.Lemmas.{NoneBefore}
use Rattle.combining_switch.proofs.output.first_partner.Given as goal

-- The next entry is at hand, and no entry before it combines with the request.
abbrev pub invariant-loop-place : goal.invariant-loop-place
invariant-loop-place l = record {
  here : l.next ≡ slice_get (requests_at l.pool l.queue) l.place;
  none : NoneBefore l.most_marks l.request (requests_at l.pool l.queue) l.place;
}
