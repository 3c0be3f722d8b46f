-- What a write from outside does: a step of the flat machine.
use Rattle.std.specs.Prelude.{◌≡◌, if◌then◌else◌}
use Rattle.flat_machine.specs.declared.poke.Poke.{Poke}
use Rattle.flat_machine.specs.declared.poke.Entry.TheVariants as entry
use Rattle.flat_machine.specs.Flat.{flat_step}
use Rattle.steps.specs.declared.step.Outcome.{Outcome}
use Rattle.steps.specs.declared.step.Outcome.TheVariants.{Poked, Stalled}
use Rattle.machine_theory.specs.Processors.{is_lawful_poke}
use Rattle.machine_steps.specs.Machines.{MachineLists, IsIdle}
use Rattle.machine_steps.specs.Openings.{flat_state}

-- A write from outside, if no reference is open and no core is away: a lawful one is a step of the flat machine, and
-- any other changes nothing of it.
pub record IsPoked (old : MachineLists) (q : Poke) (o : Outcome) (new : MachineLists) : Type 0 where
  pub answer : o ≡ (if is_lawful_poke old.config q then Poked else Stalled)
  pub idle : IsIdle new
  pub flat : flat_state new
      ≡ (if is_lawful_poke old.config q then flat_step (flat_state old) (entry.Poke q) else flat_state old)
