use Rattle.std.proofs.Common.{◌≡◌, take}
use Rattle.std.specs.Vec.{vec_capacity}
use Rattle.machine_log.specs.Logs.{ArePoked}
use Rattle.machine_log.proofs.entering.pokes.Given as goal

abbrev pub invariant-loop-poke : goal.invariant-loop-poke
invariant-loop-poke l = record {
  poked : ArePoked l.fn.machine l.fn.steps.items (take l.poke-index l.pokes) l.machine l.steps.items;
  capacity : vec_capacity l.steps ≡ vec_capacity l.fn.steps;
}
