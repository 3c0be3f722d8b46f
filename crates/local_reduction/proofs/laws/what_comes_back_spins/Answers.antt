use Rattle.local_reduction.proofs.Returning.{comes_back, comes_back_quiet}
use Rattle.local_reduction.proofs.laws.what_comes_back_spins.Goals as goal

pub returns : goal.returns
returns c = record { spins = comes_back; quiet = comes_back_quiet }
