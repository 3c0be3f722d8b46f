use Rattle.std.specs.Prelude.{◌^◌}
use Rattle.run_command.proofs.run.run_to_log.Given as goal

-- the new table, and the log's opening, steps and number of processors
abbrev pub ghosts-run_on_threads-N-Naming : goal.ghosts-run_on_threads-N-Naming
ghosts-run_on_threads-N-Naming g a = record { table = a.room }

abbrev pub ghosts-run_on_threads-N-Run : goal.ghosts-run_on_threads-N-Run
ghosts-run_on_threads-N-Run g a = record { opening = a.log.opening; first = a.log.steps; count = 2 ^ a.log.opening.config.k }
