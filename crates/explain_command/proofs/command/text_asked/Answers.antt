use Rattle.std.proofs.Common.{◌∙◌, ap, arith, Some}
use Rattle.explain_command.proofs.Joining.{joined_asked}
use Rattle.explain_command.proofs.command.text_asked.Goals as goal

pub returns-in_ok-join-in_default : goal.returns-in_ok-join-in_default
returns-in_ok-join-in_default c =
    ap (λ text. Some text) c.in_ok-join-in_default.ensures.ok ∙ joined_asked c.args.words.now (omega (arith, c.in_default.len_at_least))
