use Rattle.std.proofs.Common.{◌≡◌, Some, sym, ◌∙◌, arith}
use Rattle.std.specs.Prelude.{slice_get}
use Rattle.std.proofs.lemmas.Option.{slice_get_within}
use Rattle.messages.proofs.Lemmas.{combined_at, combined_nowhere, joint_fewer}
use Rattle.ring_network.proofs.output.first_partner.Goals as goal

pub returns-in-Some-joint-clause-first : goal.returns-in-Some-joint-clause-first
returns-in-Some-joint-clause-first c =
    let there : slice_get c.args.queue.now.items c.loop-place.place ≡ Some c.in-Some.entry = sym c.get.ensures ∙ sym c.copied.ensures ∙ c.in-Some.is in
    sym (combined_at c.args.most_marks c.args.request.now c.args.queue.now.items c.loop-place.place c.in-Some.entry c.in-Some-joint.joint there
    c.loop-place.invariant (sym c.joint.ensures ∙ c.in-Some-joint.is))

pub returns-in-Some-joint-clause-partner : goal.returns-in-Some-joint-clause-partner
returns-in-Some-joint-clause-partner c =
    let there : slice_get c.args.queue.now.items c.loop-place.place ≡ Some c.in-Some.entry = sym c.get.ensures ∙ sym c.copied.ensures ∙ c.in-Some.is in
    record {
      in_queue = slice_get_within c.args.queue.now.items c.loop-place.place c.in-Some.entry there;
      fewer = joint_fewer c.args.most_marks c.args.request.now c.in-Some.entry c.in-Some-joint.joint (sym c.joint.ensures ∙ c.in-Some-joint.is);
    }

pub returns-clause-first : goal.returns-clause-first
returns-clause-first c =
    sym (combined_nowhere c.args.most_marks c.args.request.now c.args.queue.now.items
    (λ j e below there. c.loop-place.invariant j e (omega (arith, c.len-place-end.ensures.len, c.loop-place-test.false)) there))
