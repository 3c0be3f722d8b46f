use Rattle.std.proofs.Common.{◌≡◌, ◌==◌, true, List, [], ◌∷◌, length, refl, sym, arith}
use Rattle.std.proofs.lemmas.Bool.Decides.{nat_tests}
use Rattle.steps.specs.declared.step.Step.{Step}
use Rattle.machine_steps.specs.Machines.{MachineLists}
use Rattle.machine_steps.specs.serialization.Order.{passes}
use Rattle.page_command.specs.Windows.{entry_count}
use Rattle.page_command.proofs.data.entry_count.Goals as goal

-- No steps have no entries.
none : (opening : MachineLists) (steps : List Step) → length steps ≡ 0 → 0 ≡ entry_count opening steps
unfolding passes
none opening [] empty = refl
none opening (s ∷ steps) empty = absurd (omega arith)

pub returns-then-is_empty-clause-count : goal.returns-then-is_empty-clause-count
returns-then-is_empty-clause-count c =
    let test : (length c.args.steps.now == 0) ≡ true = sym c.if-is_empty.ensures in
    let empty : length c.args.steps.now ≡ 0 = grind (arith, nat_tests) in
    λ opening opens. none opening c.args.steps.now empty
