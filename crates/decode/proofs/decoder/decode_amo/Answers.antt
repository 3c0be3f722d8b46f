use Rattle.std.proofs.Common.{refl}
use Rattle.decode.proofs.Opcodes.{unread, no_amo}
use Rattle.decode.proofs.decoder.decode_amo.Goals as goal

pub returns-in_err-amo_op : goal.returns-in_err-amo_op
returns-in_err-amo_op c = unread c.from_residual.ensures (no_amo c.args.word c.requires (c.in_err-amo_op.ensures.none refl))
