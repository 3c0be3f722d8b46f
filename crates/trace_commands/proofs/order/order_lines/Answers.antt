use Rattle.std.proofs.Common.{◌≡◌, List, sym, subst}
use Rattle.std.proofs.lemmas.Result.{IfOk-weaker}
use Rattle.flat_machine.specs.declared.poke.Entry.{Entry}
use Rattle.machine_steps.specs.Machines.{MachineLists}
use Rattle.machine_steps.specs.Runs.{IsOpening, passed}
use Rattle.trace_commands.proofs.order.order_lines.Goals as goal

pub returns-clause-lines : goal.returns-clause-lines
returns-clause-lines c =
    let order = subst (λ (entries : List Entry). (opening : MachineLists) → IsOpening c.args.config c.args.image.now opening →
    entries ≡ (passed opening c.args.all.now).order) (sym c.as_slice.ensures.value) c.in_ok-entries.ensures.order in
    IfOk-weaker c.lines_of_entries.result _ _ (λ done lines steps home. lines steps c.args.all.now home order)
    c.lines_of_entries.ensures.lines
