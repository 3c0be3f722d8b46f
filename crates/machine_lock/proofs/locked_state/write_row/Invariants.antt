use Rattle.machine_lock.specs.Passes.{row_of}
use Rattle.machine_lock.proofs.locked_state.write_row.Given as goal

abbrev pub ghosts-write_row_as : goal.ghosts-write_row_as
ghosts-write_row_as g a = record { next = row_of a.stored.now }
