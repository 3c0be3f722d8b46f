use Rattle.std.proofs.Common.{ap, arith, length, true}
use Rattle.machine_steps.specs.Runs.{flat_state}
use Rattle.debug_session.proofs.Sound.{few, write_processor, write_range}
use Rattle.debug_session.proofs.Writing.{array_is_lawful, range_end, written_more}
use Rattle.debug_session.proofs.acting.write.Goals as goal

pub overflow_cast-processor : goal.overflow_cast-processor
overflow_cast-processor c =
    let m = c.args.log.now.machine in
    let is = c.log_is_well_formed.ensures.kept.sound in
    let there = write_processor (flat_state m) c.args.processor c.args.address c.args.bytes.now c.requires.sound in
    let small = few m c.args.processor is (c.flat_states_are_read.ensures.processors m is).0 there in
    omega (arith, small)

pub overflow_add-address : goal.overflow_add-address
overflow_add-address c =
    let m = flat_state c.args.log.now.machine in
    let range = write_range m c.args.processor c.args.address c.args.bytes.now c.requires.sound in
    let last = range_end m true c.args.address (length c.args.bytes.now) range in
    let same = ap length c.bytes-values.ensures.bytes in
    omega (arith, last, same, c.loop-i-test.true)

pub loop-i-preserved : goal.loop-i-preserved
loop-i-preserved c =
    written_more c.args.processor c.args.address c.loop-i.i c.bytes-values.result.now c.loop-i.pokes c.poke_of.result c.loop-i.invariant c.loop-i-test.true
    c.bytes-values.ensures.few c.poke_of.ensures (λ k. omega (arith, c.type_inv.values k))

pub pokes-requires-clause-lawful : goal.pokes-requires-clause-lawful
pokes-requires-clause-lawful c =
    let m = c.args.log.now.machine in
    let is = c.log_is_well_formed.ensures.kept.sound in
    let there = write_processor (flat_state m) c.args.processor c.args.address c.args.bytes.now c.requires.sound in
    let count = (c.flat_states_are_read.ensures.processors m is).0 in
    array_is_lawful m.config (flat_state m) c.args.processor c.args.address c.loop-i.i c.bytes-values.result.now c.args.bytes.now c.loop-i.pokes
    c.loop-i.invariant (omega (arith, c.loop-i-test.false, c.loop-i.auto.i-end)) c.bytes-values.ensures.bytes
    (c.flat_states_are_read.ensures.words m is).0 (omega (arith, there, count))
    (write_range (flat_state m) c.args.processor c.args.address c.args.bytes.now c.requires.sound)
