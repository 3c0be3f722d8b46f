use Rattle.std.proofs.Common.{arith}
use Rattle.hart.proofs.References.{load_fits}
use Rattle.hart.proofs.processor.Core.finish.Goals as goal

pub part-old-requires : goal.part-old-requires
part-old-requires c =
    let fits = load_fits c.args.self.now.setting c.args.code.now c.args.self.now.state c.args.insn c.in-Load.op c.in-Load.rd c.in-Load.address
    (rw c.in-Load.is at c.requires) in
    omega (arith, fits, c.load_size.ensures)
