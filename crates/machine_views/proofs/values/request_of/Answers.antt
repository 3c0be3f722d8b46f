use Rattle.std.proofs.Common.{◌≡◌, ◌+◌, ◌∙◌, suc, sym, ap, arith, eq-eqb}
use Rattle.std.specs.Prelude.{◌==◌, Some, slice_get}
use Rattle.messages.specs.declared.message.Request.{Request}
use Rattle.omega_network.specs.Networks.{net_of}
use Rattle.machine_views.proofs.Finding.{found_at, found_nowhere}
use Rattle.machine_views.proofs.values.request_of.Goals as goal

pub returns-then-request-leader : goal.returns-then-request-leader
returns-then-request-leader c =
    let xs = (net_of c.args.network.now).requests (suc c.args.stage) c.args.wire in
    let next : suc c.args.stage ≡ c.args.stage + 1 = omega arith in
    let there : slice_get xs c.loop-place.place ≡ Some c.in_ok-request.request =
    ap (λ s. slice_get ((net_of c.args.network.now).requests s c.args.wire) c.loop-place.place) next ∙ sym c.request.ensures ∙ c.in_ok-request.was in
    sym (found_at (λ (x : Request). x.leader == c.args.leader) xs c.loop-place.place c.in_ok-request.request c.loop-place.invariant there
    (eq-eqb c.in_ok-request.request.leader c.args.leader c.if-request-leader.true))

pub returns : goal.returns
returns c =
    let xs = (net_of c.args.network.now).requests (suc c.args.stage) c.args.wire in
    sym (found_nowhere (λ (x : Request). x.leader == c.args.leader) xs
    (λ i x below at. c.loop-place.invariant i x (omega (arith, below, c.request_count-place-end.ensures, c.loop-place-test.false)) at))
