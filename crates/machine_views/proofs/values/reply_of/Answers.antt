use Rattle.std.proofs.Common.{◌≡◌, ◌∙◌, sym, arith, eq-eqb}
use Rattle.std.specs.Prelude.{◌==◌, Some, slice_get}
use Rattle.messages.specs.declared.message.Reply.{Reply}
use Rattle.omega_network.specs.Networks.{net_of}
use Rattle.machine_views.proofs.Finding.{found_at, found_nowhere}
use Rattle.machine_views.proofs.values.reply_of.Goals as goal

pub returns-then-reply-leader : goal.returns-then-reply-leader
returns-then-reply-leader c =
    let xs = (net_of c.args.network.now).replies c.args.stage c.args.wire in
    let there : slice_get xs c.loop-place.place ≡ Some c.in_ok-reply.reply = sym c.reply.ensures ∙ c.in_ok-reply.was in
    sym (found_at (λ (x : Reply). x.leader == c.args.leader) xs c.loop-place.place c.in_ok-reply.reply c.loop-place.invariant there
    (eq-eqb c.in_ok-reply.reply.leader c.args.leader c.if-reply-leader.true))

pub returns : goal.returns
returns c =
    let xs = (net_of c.args.network.now).replies c.args.stage c.args.wire in
    sym (found_nowhere (λ (x : Reply). x.leader == c.args.leader) xs
    (λ i x below at. c.loop-place.invariant i x (omega (arith, below, c.reply_count-place-end.ensures, c.loop-place-test.false)) at))
