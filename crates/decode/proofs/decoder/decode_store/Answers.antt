use Rattle.std.proofs.Common.{refl}
use Rattle.decode.proofs.Opcodes.{unread, no_store}
use Rattle.decode.proofs.decoder.decode_store.Goals as goal

pub returns-in_err-store_op : goal.returns-in_err-store_op
returns-in_err-store_op c = unread c.from_residual.ensures (no_store c.args.word c.requires (c.in_err-store_op.ensures.none refl))
