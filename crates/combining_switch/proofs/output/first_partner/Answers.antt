use Rattle.std.proofs.Common.{◌≡◌, Some, sym, ◌∙◌, arith}
use Rattle.std.specs.Prelude.{slice_get}
use Rattle.combining_switch.specs.Pools.{requests_at}
use Rattle.messages.proofs.Lemmas.{combined_at, combined_nowhere, joint_fewer}
use Rattle.combining_switch.proofs.output.first_partner.Goals as goal

pub returns-in-Some-clause-first : goal.returns-in-Some-clause-first
returns-in-Some-clause-first c =
    let there : slice_get (requests_at c.args.pool.now c.args.queue) c.loop-place.place ≡ Some c.in_ok-entry.entry =
    sym c.loop-place.invariant.here ∙ c.in_ok-entry.was in
    sym (combined_at c.args.most_marks c.args.request.now (requests_at c.args.pool.now c.args.queue) c.loop-place.place c.in_ok-entry.entry
    c.in-Some.joint there c.loop-place.invariant.none (sym c.joint.ensures ∙ c.in-Some.is))

pub returns-in-Some-clause-partner : goal.returns-in-Some-clause-partner
returns-in-Some-clause-partner c = record {
  there = sym c.loop-place.invariant.here ∙ c.in_ok-entry.was;
  fewer = joint_fewer c.args.most_marks c.args.request.now c.in_ok-entry.entry c.in-Some.joint (sym c.joint.ensures ∙ c.in-Some.is);
}

pub returns-clause-first : goal.returns-clause-first
returns-clause-first c =
    sym (combined_nowhere c.args.most_marks c.args.request.now (requests_at c.args.pool.now c.args.queue)
    (λ j e below there. c.loop-place.invariant.none j e (omega (arith, c.request_count.ensures, c.from-place-end.ensures, c.loop-place-test.false)) there))
