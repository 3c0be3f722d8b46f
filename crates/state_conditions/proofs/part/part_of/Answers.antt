use Rattle.std.proofs.Common.{◌∙◌}
use Rattle.state_conditions.proofs.Parts.{of_none, of_one, of_two}
use Rattle.state_conditions.proofs.part.part_of.Goals as goal

pub returns-in_err-first : goal.returns-in_err-first
returns-in_err-first c = c.from_residual.ensures ∙ of_none c.args.names.now c.args.shared_words c.args.text.now c.in_err-first.ensures

pub returns-in_err-second : goal.returns-in_err-second
returns-in_err-second c =
    c.from_residual-in_err-second.ensures
    ∙ of_one c.args.names.now c.args.shared_words c.args.text.now c.in_ok-first.first.now c.in_ok-first.rest.now c.in_ok-first.ensures c.in_err-second.ensures

pub returns-in_default : goal.returns-in_default
returns-in_default c =
    c.any_part.ensures
    ∙ of_two c.args.names.now c.args.shared_words c.args.text.now c.in_ok-first.first.now c.in_ok-first.rest.now c.in_ok-first.ensures c.in_ok-second.second.now
    c.in_ok-second.rest.now c.in_ok-second.ensures c.in_default.ensures
