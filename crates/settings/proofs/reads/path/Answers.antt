use Rattle.std.proofs.Common.{◌∙◌}
use Rattle.clap.specs.Words.{found_of}
use Rattle.clap.proofs.WalkLemmas.{first_value-rows}
use Rattle.settings.proofs.Getters.{text_there, text_given}
use Rattle.settings.proofs.reads.path.Goals as goal

pub unwrap-requires : goal.unwrap-requires
unwrap-requires c = text_there c.get_str.result _ (c.get_str.ensures ∙ first_value-rows (found_of c.args.matches.now) c.args.id.now) c.requires

pub returns : goal.returns
returns c = text_given c.get_str.result _ c.unwrap.result (c.get_str.ensures ∙ first_value-rows (found_of c.args.matches.now) c.args.id.now) c.unwrap.ensures
