use Rattle.std.proofs.Common.{◌≡◌, ◌<◌, ◌^◌, refl, sym, subst, ℕ, ◌%◌}
use Rattle.machine_steps.specs.Machines.{MachineLists, AreHome, IsIdle}
use Rattle.flat_machine.specs.Words.{with_part}
use Rattle.hart.specs.phi_algebra.Functions.{apply}
use Rattle.machine_steps.proofs.Handling.{same_by, step_by, below, beyond, shared_unnamed, shared_there}
use Rattle.machine_steps.proofs.machine.Machine.poke_shared.Goals as goal

pub returns-then-address-lt-SHARED_START : goal.returns-then-address-lt-SHARED_START
returns-then-address-lt-SHARED_START c =
    shared_unnamed c.args.self.now c.machine_is_well_formed.ensures c.requires.idle c.requires.home c.args.address c.args.value
    (below c.args.address _ c.if-address-lt-SHARED_START.true)

pub returns-then-word-self : goal.returns-then-word-self
returns-then-word-self c =
    same_by c.self.view_is (shared_unnamed _ c.self.invariant
    (subst (λ (m : MachineLists). IsIdle m) (sym c.self.view_is) c.requires.idle)
    (subst (λ (m : MachineLists). AreHome m) (sym c.self.view_is) c.requires.home) c.args.address c.args.value
    (beyond c.args.address _ c.if-address-lt-SHARED_START.false c.if-word-self.true))

pub invariant_of-self : goal.invariant_of-self
invariant_of-self c = (shared_there _ c.self.invariant c.module_of.result c.from-place.result c.from-place.ensures c.module_of.ensures.small
    c.index_mut.result.now c.index_mut.ensures.value c.args.address c.args.value c.store_byte-byte.result c.serve.new.self
    (subst (λ (m : MachineLists). IsIdle m) (sym c.self.view_is) c.requires.idle)
    (subst (λ (m : MachineLists). AreHome m) (sym c.self.view_is) c.requires.home) c.ranges.value.fits c.if-address-lt-SHARED_START.false c.if-word-self.false
    c.module_of.ensures.exact (subst (λ v. (x : ℕ) → x < 2 ^ 32 →
    apply c.store_byte-byte.result x ≡ with_part 1 (c.args.address % 4) x v) c.from.ensures c.store_byte-byte.ensures.meaning) c.serve.ensures.new_word
    c.serve.ensures.in_range).1

pub returns : goal.returns
returns c = step_by c.self.view_is refl (shared_there _ c.self.invariant c.module_of.result c.from-place.result c.from-place.ensures c.module_of.ensures.small
    c.index_mut.result.now c.index_mut.ensures.value c.args.address c.args.value c.store_byte-byte.result c.serve.new.self
    (subst (λ (m : MachineLists). IsIdle m) (sym c.self.view_is) c.requires.idle)
    (subst (λ (m : MachineLists). AreHome m) (sym c.self.view_is) c.requires.home) c.ranges.value.fits c.if-address-lt-SHARED_START.false c.if-word-self.false
    c.module_of.ensures.exact (subst (λ v. (x : ℕ) → x < 2 ^ 32 →
    apply c.store_byte-byte.result x ≡ with_part 1 (c.args.address % 4) x v) c.from.ensures c.store_byte-byte.ensures.meaning) c.serve.ensures.new_word
    c.serve.ensures.in_range).0
