use Rattle.std.proofs.Common.{◌≡◌, ℕ, ◌+◌, Bool, true, false, cond, refl, ap, ◌∙◌}
use Rattle.std.specs.Prelude.{◌==◌}
use mir.Val.{bool_byte}
use Rattle.omega_wires.specs.Wires.{bit}
use Rattle.combining_switch.proofs.Replying.{counted}
use Rattle.combining_switch.proofs.switch.count_for.Goals as goal

one_if : (b : Bool) → bool_byte b ≡ cond b 1 0
one_if true = refl
one_if false = refl

pub returns : goal.returns
returns c = λ reply same.
    let own : c.from.result ≡ cond (bit c.args.its_bit c.args.leader == c.args.inp) 1 0 =
    c.from.ensures ∙ one_if (c.bit.result == c.args.inp) ∙ ap (λ (b : ℕ). cond (b == c.args.inp) 1 0) c.bit.ensures.exact in
    (λ j. own j + c.count_seconds.ensures.exact j) ∙ counted c.args.its_bit c.args.inp c.args.leader c.args.records.now reply same
