use Rattle.std.proofs.Common.{sym, ◌∙◌, arith}
use Rattle.std.proofs.Common.{◌<◌, ◌^◌, length, rules}
use Rattle.std.specs.Prelude.{string_bytes}
use Rattle.std.proofs.lemmas.Option.{slice_get_within}
use Rattle.omega_network.specs.Networks.{net_of}
use Rattle.page_command.specs.Changes.{reply_item}
use Rattle.page_command.proofs.Items.{all_items, none_yet, one_item}
use Rattle.page_command.proofs.changes.push_replies.Goals as goal

pub loop-reply-init : goal.loop-reply-init
loop-reply-init c = none_yet reply_item ((net_of c.args.network.now).replies c.args.depth c.args.wire) (string_bytes c.args.text.now)

pub loop-reply-preserved : goal.loop-reply-preserved
loop-reply-preserved c =
    let l = c.loop-reply in
    one_item reply_item ((net_of c.args.network.now).replies c.args.depth c.args.wire) l.place (string_bytes c.args.text.now) (string_bytes l.text)
    (string_bytes c.push_reply.new.text) c.in-Some.reply l.invariant (sym c.in-Some.is ∙ c.reply.ensures) c.in_ok-push_reply.ensures (omega arith)

pub overflow_add-place : goal.overflow_add-place
overflow_add-place c =
    let counted = c.loop-reply.invariant.counted in
    let small : length (string_bytes c.loop-reply.text) < 2 ^ 63 = search rules in
    omega (arith, counted, small)

pub loop-reply-smaller : goal.loop-reply-smaller
loop-reply-smaller c =
    let within = slice_get_within ((net_of c.args.network.now).replies c.args.depth c.args.wire) c.loop-reply.place c.in-Some.reply
    (sym (sym c.in-Some.is ∙ c.reply.ensures)) in
    omega (arith, within)

pub returns : goal.returns
returns c =
    let l = c.loop-reply in
    all_items reply_item ((net_of c.args.network.now).replies c.args.depth c.args.wire) l.place (string_bytes c.args.text.now) (string_bytes l.text)
    l.invariant (sym c.in_default.is ∙ c.reply.ensures)
