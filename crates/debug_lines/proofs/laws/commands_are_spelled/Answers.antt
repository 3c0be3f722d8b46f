use Rattle.debug_lines.proofs.Spelled.{spelled-read, read-spelled, none-malformed}
use Rattle.debug_lines.proofs.laws.commands_are_spelled.Goals as goal

pub returns-clause-spelled_is_read : goal.returns-clause-spelled_is_read
returns-clause-spelled_is_read c = spelled-read

pub returns-clause-read_is_spelled : goal.returns-clause-read_is_spelled
returns-clause-read_is_spelled c = read-spelled

pub returns-clause-others_are_malformed : goal.returns-clause-others_are_malformed
returns-clause-others_are_malformed c = none-malformed
