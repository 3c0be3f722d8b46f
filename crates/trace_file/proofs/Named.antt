-- The step that a record names is the one whose record it is.
use Rattle.std.proofs.Common.{◌≡◌, ℕ, ◌<◌, ◌^◌, true, nat_lt, Option, Some, refl, sym, ap, ◌∙◌, arith}
use Rattle.std.proofs.lemmas.Bool.Decides.{nat_tests}
use Rattle.flat_machine.specs.declared.poke.Poke.TheVariants.{Register, Local, Shared}
use Rattle.steps.specs.declared.step.Step.{Step}
use Rattle.steps.specs.declared.step.Step.TheVariants.{Turn, Up, Serve, Down, Poke}
use Rattle.trace_file.specs.declared.fields.Fields.{Fields}
use Rattle.trace_file.specs.Records.{fields_of, named_step, HasRecord}

pub named_step-fields_of : (k : ℕ) (step : Step) → HasRecord k step → named_step (fields_of step) ≡ Some step
unfolding named_step
named_step-fields_of k (Turn p) h = refl
named_step-fields_of k (Up s w) h = refl
named_step-fields_of k (Serve m) h = refl
named_step-fields_of k (Down s w) h = refl
named_step-fields_of k (Poke (Register p r value)) h = refl
named_step-fields_of k (Poke (Local p address value)) h = let small : nat_lt value 256 ≡ true = grind (arith, nat_tests, h) in rw small refl
named_step-fields_of k (Poke (Shared address value)) h = let small : nat_lt value 256 ≡ true = grind (arith, nat_tests, h) in rw small refl

-- The address and value of a record are numbers of four bytes.
pub fields_fit : (k : ℕ) (step : Step) → HasRecord k step → ((fields_of step).address < 2 ^ 32) × ((fields_of step).value < 2 ^ 32)
fields_fit k (Turn p) h = (omega arith, omega arith)
fields_fit k (Up s w) h = (omega arith, omega arith)
fields_fit k (Serve m) h = (omega arith, omega arith)
fields_fit k (Down s w) h = (omega arith, omega arith)
fields_fit k (Poke (Register p r value)) h = (omega arith, grind (arith, nat_tests, h))
fields_fit k (Poke (Local p address value)) h = (grind (arith, nat_tests, h), grind (arith, nat_tests, h))
fields_fit k (Poke (Shared address value)) h = (grind (arith, nat_tests, h), grind (arith, nat_tests, h))

-- The step that some fields name is the only one that can have them.
pub only_named : (k : ℕ) (f : Fields) (named : Option Step) (step : Step) → named ≡ named_step f → HasRecord k step → fields_of step ≡ f → named ≡ Some step
only_named k f named step e h same = e ∙ ap named_step (sym same) ∙ named_step-fields_of k step h
