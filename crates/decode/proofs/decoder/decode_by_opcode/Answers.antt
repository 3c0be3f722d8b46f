use Rattle.std.proofs.Common.{arith}
use Rattle.decode.proofs.Opcodes.{opcode_from_spells}
use Rattle.decode.proofs.decoder.decode_by_opcode.Goals as goal

pub returns-in_default : goal.returns-in_default
returns-in_default c = λ i s. grind (arith, opcode_from_spells c.args.word i s)
