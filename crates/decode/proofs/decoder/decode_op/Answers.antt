use Rattle.std.proofs.Common.{refl}
use Rattle.decode.proofs.Opcodes.{unread, no_op}
use Rattle.decode.proofs.decoder.decode_op.Goals as goal

pub returns-in_err-register_op : goal.returns-in_err-register_op
returns-in_err-register_op c = unread c.from_residual.ensures (no_op c.args.word c.requires (c.in_err-register_op.ensures.none refl))
