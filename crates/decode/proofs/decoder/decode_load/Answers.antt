use Rattle.std.proofs.Common.{refl}
use Rattle.decode.proofs.Opcodes.{unread, no_load}
use Rattle.decode.proofs.decoder.decode_load.Goals as goal

pub returns-in_err-load_op : goal.returns-in_err-load_op
returns-in_err-load_op c = unread c.from_residual.ensures (no_load c.args.word c.requires (c.in_err-load_op.ensures.none refl))
