use Rattle.std.proofs.Common.{arith}
use Rattle.decode.proofs.Opcodes.{no_jalr}
use Rattle.decode.proofs.decoder.decode_jalr.Goals as goal

pub returns-in_default : goal.returns-in_default
returns-in_default c = no_jalr c.args.word c.requires (λ e. omega arith)
