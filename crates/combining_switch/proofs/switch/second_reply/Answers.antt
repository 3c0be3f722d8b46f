use Rattle.std.proofs.Common.{ℕ, ◌∙◌, ap, arith}
use Rattle.messages.proofs.Lemmas.{in_range}
use Rattle.combining_switch.proofs.switch.second_reply.Goals as goal

pub returns : goal.returns
returns c =
    let second : ℕ = c.args.made.now.second in
    ap (λ (y : ℕ). record { leader = second; value = y }) (c.apply.ensures ∙ in_range c.args.made.now c.args.value (omega arith))
