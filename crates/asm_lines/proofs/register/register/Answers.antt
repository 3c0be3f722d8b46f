use Rattle.std.proofs.Common.{◌<◌, subst, sym}
use Rattle.std.specs.Prelude.{IfSome}
use Rattle.asm_lines.proofs.Registers.{register_below}
use Rattle.asm_lines.proofs.register.register.Goals as goal

pub new-requires : goal.new-requires
new-requires c = subst (λ o. IfSome o (λ x. x < 32)) (sym c.in_ok-number.ensures) (register_below c.args.word.now)
