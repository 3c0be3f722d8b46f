use Rattle.std.specs.Prelude.{◌^◌}
use Rattle.surface_tests.proofs.tests.threads.attempt.Given as goal

-- the table that was just made, and the machine in the log
abbrev pub ghosts-go-N-Naming : goal.ghosts-go-N-Naming
ghosts-go-N-Naming g a = record { table = a.room }

abbrev pub ghosts-go-N-Run : goal.ghosts-go-N-Run
ghosts-go-N-Run g a = record { opening = a.logged.opening; first = a.logged.steps; count = 2 ^ a.logged.opening.config.k }
