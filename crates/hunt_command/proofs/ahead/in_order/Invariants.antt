use Rattle.std.proofs.Common.{All}
use Rattle.std.specs.Prelude.{Vec}
use Rattle.std.specs.Global.{Global}
use Rattle.hunt_command.specs.declared.ahead.Taken.{Taken}
use Rattle.flat_machine.specs.declared.config.Config.{Config}
use Rattle.hunt_command.specs.declared.command.Hunt.{Hunt}
use Rattle.elf_image.specs.Images.{ImageContents}
use Rattle.hunt_command.specs.Taken.{IsTaken}
use Rattle.hunt_command.proofs.ahead.in_order.Given as goal

abbrev pub invariant-loop-part : goal.invariant-loop-part
invariant-loop-part l = (hunt : Hunt) (c : Config) (image : ImageContents) →
    All (λ (part : Vec Taken Global). All (IsTaken hunt c image) part.items) l.fn.parts.items →
    All (λ (part : Vec Taken Global). All (IsTaken hunt c image) part.items) l.part-iterator.rest.items × All (IsTaken hunt c image) l.all.items
