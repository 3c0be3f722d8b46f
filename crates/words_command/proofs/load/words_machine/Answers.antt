use Rattle.machine_steps.specs.Runs.{flat_state}
use Rattle.words_command.proofs.Loading.{words_are_placed, words_open}
use Rattle.words_command.proofs.load.words_machine.Goals as goal

pub image_of-requires-clause-placed : goal.image_of-requires-clause-placed
image_of-requires-clause-placed c = words_are_placed c.args.words.now c.in_ok-layout.layout c.in_ok-layout.ensures c.requires

pub returns-in-Ok-new-clause-flat : goal.returns-in-Ok-new-clause-flat
returns-in-Ok-new-clause-flat c =
    words_open c.args.words.now c.in_ok-layout.layout c.in-Ok.image
    (flat_state c.in-Ok-new.machine) c.in_ok-layout.ensures c.in-Ok.ensures.ok c.in-Ok-new.ensures.opening.flat
