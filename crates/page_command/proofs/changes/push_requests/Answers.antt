use Rattle.std.proofs.Common.{sym, ◌∙◌, arith}
use Rattle.std.proofs.Common.{◌<◌, ◌^◌, length, rules}
use Rattle.std.specs.Prelude.{string_bytes}
use Rattle.std.proofs.lemmas.Option.{slice_get_within}
use Rattle.omega_network.specs.Networks.{net_of}
use Rattle.page_command.specs.Changes.{request_item}
use Rattle.page_command.proofs.Items.{all_items, none_yet, one_item}
use Rattle.page_command.proofs.changes.push_requests.Goals as goal

pub loop-request-init : goal.loop-request-init
loop-request-init c = none_yet request_item ((net_of c.args.network.now).requests c.args.depth c.args.wire) (string_bytes c.args.text.now)

pub loop-request-preserved : goal.loop-request-preserved
loop-request-preserved c =
    let l = c.loop-request in
    one_item request_item ((net_of c.args.network.now).requests c.args.depth c.args.wire) l.place (string_bytes c.args.text.now) (string_bytes l.text)
    (string_bytes c.push_request.new.text) c.in-Some.request l.invariant (sym c.in-Some.is ∙ c.request.ensures) c.in_ok-push_request.ensures (omega arith)

pub overflow_add-place : goal.overflow_add-place
overflow_add-place c =
    let counted = c.loop-request.invariant.counted in
    let small : length (string_bytes c.loop-request.text) < 2 ^ 63 = search rules in
    omega (arith, counted, small)

pub loop-request-smaller : goal.loop-request-smaller
loop-request-smaller c =
    let within = slice_get_within ((net_of c.args.network.now).requests c.args.depth c.args.wire) c.loop-request.place c.in-Some.request
    (sym (sym c.in-Some.is ∙ c.request.ensures)) in
    omega (arith, within)

pub returns : goal.returns
returns c =
    let l = c.loop-request in
    all_items request_item ((net_of c.args.network.now).requests c.args.depth c.args.wire) l.place (string_bytes c.args.text.now) (string_bytes l.text)
    l.invariant (sym c.in_default.is ∙ c.request.ensures)
