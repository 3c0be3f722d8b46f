use Rattle.assembler.proofs.Fits.{meaning_fits}
use Rattle.assembler.proofs.laws.meaning_fits.Goals as goal

pub returns : goal.returns
returns c = meaning_fits
