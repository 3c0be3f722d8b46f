use Rattle.messages.proofs.Lemmas.{NoneBefore}
use Rattle.ring_network.proofs.output.first_partner.Given as goal

-- No entry so far combines with the request.
abbrev pub invariant-loop-place : goal.invariant-loop-place
invariant-loop-place l = NoneBefore l.most_marks l.request l.queue.items l.place
