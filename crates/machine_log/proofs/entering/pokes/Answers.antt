use Rattle.std.proofs.Common.{◌≡◌, ◌∙◌, ◌<◌, length, take, slice_index_or, refl, sym, subst, arith}
use Rattle.std.proofs.lemmas.List.{take_more, take_all, length-take-le}
use Rattle.flat_machine.specs.declared.poke.Poke.TheVariants as poke
use Rattle.machine_steps.proofs.Lemmas.{run_home}
use Rattle.machine_log.specs.Logs.{ArePoked}
use Rattle.machine_log.proofs.Taking.{entered_length, poked_none, poked_more}
use Rattle.machine_log.proofs.entering.pokes.Goals as goal

pub loop-poke-init : goal.loop-poke-init
loop-poke-init c = record { poked = poked_none c.args.machine.now c.args.steps.now.items c.machine_is_well_formed.ensures c.requires.idle; capacity = refl }

pub enter-requires : goal.enter-requires
enter-requires c =
    let w = c.loop-poke.invariant in
    let i = c.loop-poke.poke-index in
    let pokes = c.args.pokes.now in
    let within : i < length pokes = c.loop-poke-test.true in
    let taken : length (take i pokes) ≡ i = length-take-le i pokes (omega (arith, within)) in
    let few = entered_length c.args.machine.now c.loop-poke.machine c.args.steps.now.items c.loop-poke.steps.items (length (take i pokes)) w.poked.entered in
    let same = w.capacity in
    let room = c.requires.room in
    omega (arith, few, same, room, within, taken)

pub loop-poke-preserved : goal.loop-poke-preserved
loop-poke-preserved c =
    let w = c.loop-poke.invariant in
    let i = c.loop-poke.poke-index in
    let pokes = c.args.pokes.now in
    let e = c.enter.ensures in
    let q = slice_index_or pokes i (poke.Register 0 0 0) in
    record {
      poked =
          subst (λ done. ArePoked c.args.machine.now c.args.steps.now.items done c.enter.new.machine c.enter.new.steps.items)
          (sym (take_more pokes i (poke.Register 0 0 0) c.loop-poke-test.true))
          (poked_more c.args.machine.now c.loop-poke.machine c.enter.new.machine c.args.steps.now.items c.loop-poke.steps.items c.enter.new.steps.items
          (take i pokes) q c.enter.result w.poked
          (c.requires.lawful i (poke.Register 0 0 0) c.loop-poke-test.true) e.step
          (e.poked w.poked.idle (run_home c.args.machine.now c.loop-poke.machine _ w.poked.replay.run c.requires.home) q refl) e.steps e.entered);
      capacity = e.capacity ∙ w.capacity;
    }

pub returns : goal.returns
returns c =
    let w = c.loop-poke.invariant in
    record {
      poked =
          subst (λ done. ArePoked c.args.machine.now c.args.steps.now.items done c.loop-poke.machine c.loop-poke.steps.items)
          (take_all c.loop-poke.poke-index c.args.pokes.now c.loop-poke-test.false) w.poked;
      capacity = w.capacity;
    }
