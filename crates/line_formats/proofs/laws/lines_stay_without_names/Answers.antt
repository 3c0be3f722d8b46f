use Rattle.line_formats.proofs.Staying.{lines_stay}
use Rattle.line_formats.proofs.laws.lines_stay_without_names.Goals as goal

pub returns : goal.returns
returns c = lines_stay
