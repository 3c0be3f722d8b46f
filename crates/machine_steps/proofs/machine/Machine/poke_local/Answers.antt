use Rattle.std.proofs.Common.{refl, sym, subst, arith}
use Rattle.machine_steps.specs.Machines.{MachineLists, AreHome, IsIdle}
use Rattle.machine_steps.proofs.Handling.{same_by, step_by, local_unnamed, local_there}
use Rattle.machine_steps.proofs.machine.Machine.poke_local.Goals as goal

pub returns-then-place-len : goal.returns-then-place-len
returns-then-place-len c = same_by c.self.view_is
    (local_unnamed _ c.self.invariant (subst (λ (m : MachineLists). IsIdle m) (sym c.self.view_is) c.requires.idle)
    (subst (λ (m : MachineLists). AreHome m) (sym c.self.view_is) c.requires.home) c.args.p c.args.address c.args.value
    (omega (arith, c.if-place-len.true, c.from-place.ensures, c.len.ensures)))

pub invariant_of-self : goal.invariant_of-self
invariant_of-self c = (local_there _ c.self.invariant c.args.p c.from-place.result c.from-place.ensures (let all = c.self.invariant.ports.all in
    omega (arith, all, c.if-place-len.false, c.from-place.ensures, c.len.ensures)) c.index_mut.result.now c.index_mut.ensures.value c.args.address c.args.value
    c.poke_byte.new.self c.poke_outcome.result c.poke_byte.result
    (subst (λ (m : MachineLists). IsIdle m) (sym c.self.view_is) c.requires.idle)
    (subst (λ (m : MachineLists). AreHome m) (sym c.self.view_is) c.requires.home) c.ranges.value.fits c.poke_byte.ensures.lawful c.poke_byte.ensures.written
    c.poke_outcome.ensures).1

pub returns : goal.returns
returns c = step_by c.self.view_is refl (local_there _ c.self.invariant c.args.p c.from-place.result c.from-place.ensures
    (let all = c.self.invariant.ports.all in omega (arith, all, c.if-place-len.false, c.from-place.ensures, c.len.ensures)) c.index_mut.result.now
    c.index_mut.ensures.value c.args.address c.args.value c.poke_byte.new.self c.poke_outcome.result c.poke_byte.result
    (subst (λ (m : MachineLists). IsIdle m) (sym c.self.view_is) c.requires.idle)
    (subst (λ (m : MachineLists). AreHome m) (sym c.self.view_is) c.requires.home) c.ranges.value.fits c.poke_byte.ensures.lawful c.poke_byte.ensures.written
    c.poke_outcome.ensures).0
