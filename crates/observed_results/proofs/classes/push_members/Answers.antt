use Rattle.std.proofs.Common.{◌≡◌, ◌+◌, ◌++◌, suc, append_assoc, ap, ◌∙◌, arith}
use Rattle.std.specs.Prelude.{string_bytes}
use Rattle.observed_results.specs.Lines.{member_text, members_text}
use Rattle.observed_results.proofs.classes.push_members.Goals as goal

pub loop-p-preserved : goal.loop-p-preserved
loop-p-preserved c =
    let old = string_bytes c.args.text.now in
    let first = members_text c.args.classes.now c.args.class in
    let one = member_text c.args.classes.now c.args.class c.loop-p.p in
    let next : suc c.loop-p.p ≡ c.loop-p.p + 1 = omega arith in
    c.in_ok-push_member.ensures
    ∙ (ap (λ bytes. bytes ++ one) c.loop-p.invariant
    ∙ (append_assoc old (first c.loop-p.p) one ∙ ap (λ k. old ++ first k) next))
