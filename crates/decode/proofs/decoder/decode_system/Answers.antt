use Rattle.std.proofs.Common.{arith}
use Rattle.decode.proofs.Opcodes.{no_system}
use Rattle.decode.proofs.decoder.decode_system.Goals as goal

pub returns-in_default : goal.returns-in_default
returns-in_default c = no_system c.args.word (omega arith) c.requires (λ e. omega arith) (λ e. omega arith)
