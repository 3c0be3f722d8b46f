use Rattle.std.proofs.Common.{◌∙◌}
use Rattle.state_conditions.proofs.Numerals.{parsed_is}
use Rattle.state_conditions.proofs.number.numeral.Goals as goal

pub returns : goal.returns
returns c = c.ok.ensures.value ∙ parsed_is c.args.radix c.args.digits.now c.from_str_radix.result c.from_str_radix.ensures.value
