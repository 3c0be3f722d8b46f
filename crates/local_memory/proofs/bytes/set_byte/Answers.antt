use Rattle.std.proofs.Common.{◌<◌, ◌%◌, length, arith, length-set}
use Rattle.local_memory.proofs.Padded.{set_padded}
use Rattle.local_memory.proofs.bytes.set_byte.Goals as goal

pub returns-clause-set : goal.returns-clause-set
returns-clause-set c =
    let items = c.args.written.now.items in
    let byte = c.args.value % 256 in
    let less : c.args.place < length items = omega (arith, c.requires) in
    set_padded 65536 items c.args.place byte less (length-set items c.args.place byte)
