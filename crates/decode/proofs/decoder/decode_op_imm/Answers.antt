use Rattle.std.proofs.Common.{refl}
use Rattle.decode.proofs.Opcodes.{unread, no_op_imm}
use Rattle.decode.proofs.decoder.decode_op_imm.Goals as goal

pub returns-in_err-shift_op-in-None : goal.returns-in_err-shift_op-in-None
returns-in_err-shift_op-in-None c =
    unread c.from_residual.ensures (no_op_imm c.args.word c.requires (c.in-None.ensures.none refl) (c.in_err-shift_op-in-None.ensures.none refl))
