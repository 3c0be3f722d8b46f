use Rattle.std.proofs.Common.{◌∙◌, length, sym, ap}
use Rattle.hart.specs.State.{CoreState}
use Rattle.hart.proofs.processor.core_has_registers.Goals as goal

pub returns : goal.returns
returns c = ap (λ (core : CoreState). length core.state.registers) (sym c.core.view_is) ∙ c.registers.ensures.all
