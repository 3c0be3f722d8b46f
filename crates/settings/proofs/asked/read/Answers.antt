use Rattle.settings.proofs.Complete.{complete}
use Rattle.settings.proofs.asked.read.Goals as goal

pub subcommand_settings-requires : goal.subcommand_settings-requires
subcommand_settings-requires c = rw c.in_ok-matches.ensures.rows (complete _ c.in_ok-matches.ensures.kinds)
