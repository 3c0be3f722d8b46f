-- If a command has no error, what it names exists.
use Rattle.std.proofs.Common.{◌≡◌, ◌≢◌, ℕ, zero, suc, ◌<◌, ◌≤◌, ◌^◌, ◌%◌, ◌==◌, ◌&&◌, ◌||◌, not, Bool, true}
use Rattle.std.proofs.Common.{false, List, [], ◌∷◌, length, Option, Some, None, Ok, Err, refl, subst, arith}
use Rattle.std.specs.Prelude.{if◌then◌else◌}
use Rattle.std.proofs.Math.Pow.{pow_mono}
use Rattle.std.proofs.lemmas.Bool.{ltb-true, lt-ltb, le-leb}
use Rattle.std.proofs.lemmas.Bool.Decides.{nat_tests}
use Rattle.std.specs.List.{All}
use Rattle.flat_machine.specs.declared.config.Config.{Config}
use Rattle.flat_machine.specs.declared.poke.Poke.{Poke}
use Rattle.flat_machine.specs.declared.poke.Poke.TheVariants as poke
use Rattle.flat_machine.specs.State.{FlatState}
use Rattle.machine_steps.specs.machine_theory.Processors.{is_lawful_poke}
use Rattle.machine_steps.specs.Machines.{IsMachine, MachineLists}
use Rattle.machine_steps.specs.Runs.{flat_state}
use Rattle.machine_log.specs.Logs.{AreLawful}
use Rattle.debug_lines.specs.declared.command.Command.{Command}
use Rattle.debug_lines.specs.declared.command.Command.TheVariants.{Set, Write, Step}
use Rattle.debug_session.specs.Answers.{ActsUnless, Session}
use Rattle.debug_session.specs.Runs.{RunSpec}
use Rattle.debug_replies.specs.declared.error.Error.{Error}
use Rattle.debug_replies.specs.declared.error.Error.TheVariants as error
use Rattle.debug_replies.specs.Errors.{error_of, has_addresses, is_malformed, is_named_below, is_range, processor_of, register_of}

-- If none of four tests in a row gives its error, all of them pass.
all_pass : (a b p r : Bool) →
    (if a then Some error.Form else if not b then Some error.Address else if not p then Some error.Processor else if not r then Some error.Register else
    None) ≡ None → (b ≡ true) × (p ≡ true) × (r ≡ true)
all_pass true b p r e = cc
all_pass false false p r e = cc
all_pass false true false r e = cc
all_pass false true true false e = cc
all_pass false true true true e = (refl, refl, refl)

sound : (m : FlatState) (c : Command) → error_of m c ≡ None →
    (has_addresses m c ≡ true) × (is_named_below (length m.processors) (processor_of c) ≡ true) × (is_named_below 33 (register_of c) ≡ true)
unfolding error_of
sound m c e = all_pass (is_malformed c) (has_addresses m c) (is_named_below (length m.processors) (processor_of c)) (is_named_below 33 (register_of c)) e

-- The number of a processor is below 64.
pub few : (m : MachineLists) (p : ℕ) → IsMachine m → length (flat_state m).processors ≡ 2 ^ m.config.k → p < length (flat_state m).processors → p < 64
few m p is count there = let most : 2 ^ m.config.k ≤ 2 ^ 6 = pow_mono is.limits.stages in omega (arith, most, count, there)

-- If a command `set` has no error, the processor that it names exists.
pub set_processor : (m : FlatState) (p r value : ℕ) → error_of m (Set p r value) ≡ None → p < length m.processors
set_processor m p r value e = ltb-true p (length m.processors) (sound m (Set p r value) e).1

-- If a command `write` has no error, the processor that it names exists.
pub write_processor : (m : FlatState) (p address : ℕ) (bytes : List ℕ) → error_of m (Write p address bytes) ≡ None → p < length m.processors
write_processor m p address bytes e = ltb-true p (length m.processors) (sound m (Write p address bytes) e).1

-- If a command `step` has no error, the processor that it names exists.
pub step_processor : (m : FlatState) (p : ℕ) → error_of m (Step p) ≡ None → p < length m.processors
step_processor m p e = ltb-true p (length m.processors) (sound m (Step p) e).1

-- If a command `set` has no error, its register is one of the 32, or the pc, which is 32.
pub set_register : (m : FlatState) (p r value : ℕ) → error_of m (Set p r value) ≡ None → r < 33
set_register m p r value e = ltb-true r 33 (sound m (Set p r value) e).2

-- If a command `set` has no error and writes the pc, its value is a multiple of 4.
set_value : (m : FlatState) (p r value : ℕ) → error_of m (Set p r value) ≡ None → (not (r == 32) || value % 4 == 0) ≡ true
unfolding has_addresses
set_value m p r value e = (sound m (Set p r value) e).0

-- If a command `write` has no error, its addresses are a range that can be written.
pub write_range : (m : FlatState) (p address : ℕ) (bytes : List ℕ) → error_of m (Write p address bytes) ≡ None →
    is_range m true address (length bytes) ≡ true
unfolding has_addresses
write_range m p address bytes e = (sound m (Write p address bytes) e).0

lawful : (c : Config) (p r value : ℕ) → p < 2 ^ c.k → r < 33 → r ≢ 0 → value < 2 ^ 32 → (not (r == 32) || value % 4 == 0) ≡ true →
    is_lawful_poke c (poke.Register p r value) ≡ true
lawful c p r value there few some small right = grind (arith, nat_tests)

only : (P : Poke → Type 0) (q : Poke) → P q → All P (q ∷ [])
only P q is zero d below = is
only P q is (suc k) d below = absurd (omega arith)

-- If a command `set` has no error, its poke is lawful.
pub set_is_lawful : (m : MachineLists) (p r value : ℕ) → length (flat_state m).processors ≡ 2 ^ m.config.k → error_of (flat_state m) (Set p r value) ≡ None →
    r ≢ 0 → value < 2 ^ 32 → AreLawful m.config (poke.Register p r value ∷ [])
set_is_lawful m p r value count e some small =
    only (λ q. is_lawful_poke m.config q ≡ true) (poke.Register p r value)
    (lawful m.config p r value (let there = set_processor (flat_state m) p r value e in omega (arith, there, count))
    (set_register (flat_state m) p r value e) some small (set_value (flat_state m) p r value e))

-- ---- an executed command

no_error : (run : RunSpec) (e : Option Error) (old new : Session) (c : Command) (done : Unit {0}) → ActsUnless run e old c (Ok done) new → e ≡ None
no_error run None old new c done acts = refl
no_error run (Some e) old new c done acts = let refused : Ok done ≡ Err e = acts.0 in cc

-- If a command `step` is executed, the number of its processor is a byte.
pub step_is_small : (run : RunSpec) (old new : Session) (c : Command) (done : Unit {0}) (p : ℕ) → IsMachine old.log.machine →
    length (flat_state old.log.machine).processors ≡ 2 ^ old.log.machine.config.k →
    ActsUnless run (error_of (flat_state old.log.machine) c) old c (Ok done) new → c ≡ Step p → p < 256
step_is_small run old new c done p is count acts same =
    let m = old.log.machine in
    let none : error_of (flat_state m) (Step p) ≡ None =
    subst (λ (d : Command). error_of (flat_state m) d ≡ None) same (no_error run (error_of (flat_state m) c) old new c done acts) in
    let small : p < 64 = few m p is count (step_processor (flat_state m) p none) in
    omega (arith, small)
