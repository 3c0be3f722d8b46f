use Rattle.std.proofs.Common.{◌<◌, ◌^◌, ◌∙◌, sym, arith}
use Rattle.std.specs.Prelude.{not}
use Rattle.machine_steps.specs.machine_theory.Processors.{port_at}
use Rattle.machine_steps.specs.Machines.{away_at}
use Rattle.debug_session.proofs.Few.{below_64, is_there}
use Rattle.debug_session.proofs.sweep.is_at_break.Goals as goal

pub bounds-retired-from : goal.bounds-retired-from
bounds-retired-from c =
    let m = c.args.machine.now in
    let there : c.args.p < 2 ^ m.config.k =
    is_there c.args.p (2 ^ m.config.k) (not (away_at m c.args.p)) (port_at m.ports c.args.p).core.state.pc c.in-Some.pc (sym c.pc.ensures.value
    ∙ c.in-Some.is) in
    let within = below_64 m.config.k c.args.p c.machine_is_well_formed.ensures.limits.stages there in
    let same = c.from.ensures in omega (arith, within, same)
