use Rattle.std.proofs.Common.{◌≡◌, ◌^◌, ◌∙◌, sym, ap, ◌++◌, ◌∷◌, [], length, rules}
use Rattle.std.specs.Prelude.{slice_get}
use Rattle.omega_network.specs.Networks.{net_of}
use Rattle.machine_views.specs.Places.{request_view}
use Rattle.machine_views.proofs.Rows.{views_all, views_more}
use Rattle.machine_views.proofs.places.requests_at.Goals as goal

pub loop-request-preserved : goal.loop-request-preserved
loop-request-preserved c =
    let n = c.args.network.now in
    let l = c.loop-request in
    let x = c.in-Some.request in
    let many : c.len.result ≡ length l.requests.items = search rules in
    views_more (request_view (net_of n) (2 ^ n.k) c.args.depth) ((net_of n).requests c.args.depth c.args.wire) l.requests.items c.push.new.self.items x
    l.invariant (sym c.in-Some.is ∙ c.request.ensures ∙ ap (slice_get ((net_of n).requests c.args.depth c.args.wire)) many)
    (c.in_ok-push.ensures.items ∙ ap (λ group. l.requests.items ++ record { request = x; group = group } ∷ []) c.in_ok-group.ensures)

pub returns : goal.returns
returns c =
    let n = c.args.network.now in
    let l = c.loop-request in
    let many : c.len.result ≡ length l.requests.items = search rules in
    c.of.ensures
    ∙ views_all (request_view (net_of n) (2 ^ n.k) c.args.depth) ((net_of n).requests c.args.depth c.args.wire) l.requests.items l.invariant
    (sym c.in_default.is ∙ c.request.ensures ∙ ap (slice_get ((net_of n).requests c.args.depth c.args.wire)) many)
