use Rattle.flat_machine.proofs.InRange.{run_in_range}
use Rattle.flat_machine.proofs.laws.words_stay_words.Goals as goal

pub returns-clause-run : goal.returns-clause-run
returns-clause-run c = run_in_range
