use Rattle.std.proofs.Common.{refl}
use Rattle.refinement_command.proofs.Single.{all_alone}
use Rattle.refinement_command.proofs.searching.search_all.Goals as goal

pub returns-in-Ok-clause-results : goal.returns-in-Ok-clause-results
returns-in-Ok-clause-results g c =
    let explored = c.in-Ok.explored in
    let found = c.in-Ok.ensures in
    all_alone c.args.machine.now explored.classes.items explored.results.items found.sound found.complete found.once (found.single refl)
