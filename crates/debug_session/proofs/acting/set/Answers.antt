use Rattle.std.proofs.Common.{arith}
use Rattle.machine_steps.specs.Runs.{flat_state}
use Rattle.debug_session.proofs.Sound.{few, set_is_lawful, set_processor, set_register}
use Rattle.debug_session.proofs.acting.set.Goals as goal

pub overflow_cast-processor : goal.overflow_cast-processor
overflow_cast-processor c =
    let m = c.args.log.now.machine in
    let is = c.log_is_well_formed.ensures.kept.sound in
    let there = set_processor (flat_state m) c.args.processor c.args.register c.args.value c.requires.sound in
    let small = few m c.args.processor is (c.flat_states_are_read.ensures.processors m is).0 there in
    omega (arith, small)

pub overflow_cast-register : goal.overflow_cast-register
overflow_cast-register c =
    let there = set_register (flat_state c.args.log.now.machine) c.args.processor c.args.register c.args.value c.requires.sound in
    omega (arith, there)

pub pokes-requires-clause-lawful : goal.pokes-requires-clause-lawful
pokes-requires-clause-lawful c =
    let m = c.args.log.now.machine in
    set_is_lawful m c.args.processor c.args.register c.args.value (c.flat_states_are_read.ensures.processors m c.log_is_well_formed.ensures.kept.sound).0
    c.requires.sound c.if-register-eq0.false (omega (arith, c.ranges.value.fits))
