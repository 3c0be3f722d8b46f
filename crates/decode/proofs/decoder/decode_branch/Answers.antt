use Rattle.std.proofs.Common.{refl}
use Rattle.decode.proofs.Opcodes.{unread, no_branch}
use Rattle.decode.proofs.decoder.decode_branch.Goals as goal

pub returns-in_err-branch_op : goal.returns-in_err-branch_op
returns-in_err-branch_op c = unread c.from_residual.ensures (no_branch c.args.word c.requires (c.in_err-branch_op.ensures.none refl))
