use Rattle.page_command.proofs.Escapes.{none_begins}
use Rattle.page_command.proofs.laws.no_tag_begins.Goals as goal

pub returns : goal.returns
returns c = none_begins
