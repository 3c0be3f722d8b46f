use Rattle.std.proofs.Common.{arith, length}
use Rattle.std.proofs.lemmas.Option.{slice_get_within}
use Rattle.machine_steps.specs.Machines.{IsMachine, MachineLists}
use Rattle.schedules.specs.Rounds.{round}
use Rattle.schedules.specs.Skips.{AreQuiet}
use Rattle.machine_steps.specs.Standing.{HasRunning}
use Rattle.schedules.proofs.Progress.{in_round, some_step_moves}
use Rattle.schedules.proofs.laws.rounds_go_on.Goals as goal

moves : (m : MachineLists) → IsMachine m → HasRunning m → AreQuiet m 0 (length (round m.config.k)) → ⊥
moves m is running quiet =
    let goes = some_step_moves m is running in
    let there = in_round m.config.k goes.0 goes.1.0 in
    goes.1.1 (quiet there.0 (omega arith) (slice_get_within (round m.config.k) there.0 goes.0 there.1) goes.0 there.1)

pub returns : goal.returns
returns c = moves
