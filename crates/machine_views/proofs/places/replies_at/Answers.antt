use Rattle.std.proofs.Common.{◌≡◌, ◌^◌, ◌∙◌, sym, ap, ◌++◌, ◌∷◌, [], length, rules}
use Rattle.std.specs.Prelude.{slice_get}
use Rattle.omega_network.specs.Networks.{net_of}
use Rattle.machine_views.specs.Places.{reply_view}
use Rattle.machine_views.proofs.Rows.{views_all, views_more}
use Rattle.machine_views.proofs.places.replies_at.Goals as goal

pub loop-reply-preserved : goal.loop-reply-preserved
loop-reply-preserved c =
    let n = c.args.network.now in
    let l = c.loop-reply in
    let x = c.in-Some.reply in
    let many : c.len.result ≡ length l.replies.items = search rules in
    views_more (reply_view (net_of n) (2 ^ n.k) c.args.depth) ((net_of n).replies c.args.depth c.args.wire) l.replies.items c.push.new.self.items x
    l.invariant (sym c.in-Some.is ∙ c.reply.ensures ∙ ap (slice_get ((net_of n).replies c.args.depth c.args.wire)) many)
    (c.in_ok-push.ensures.items ∙ ap (λ group. l.replies.items ++ record { reply = x; group = group } ∷ []) c.in_ok-group.ensures)

pub returns : goal.returns
returns c =
    let n = c.args.network.now in
    let l = c.loop-reply in
    let many : c.len.result ≡ length l.replies.items = search rules in
    c.of.ensures
    ∙ views_all (reply_view (net_of n) (2 ^ n.k) c.args.depth) ((net_of n).replies c.args.depth c.args.wire) l.replies.items l.invariant
    (sym c.in_default.is ∙ c.reply.ensures ∙ ap (slice_get ((net_of n).replies c.args.depth c.args.wire)) many)
