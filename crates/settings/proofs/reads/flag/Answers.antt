use Rattle.std.proofs.Common.{◌∙◌}
use Rattle.clap.specs.Words.{found_of}
use Rattle.clap.proofs.WalkLemmas.{first_value-rows}
use Rattle.settings.proofs.Getters.{flag_by, no_flag}
use Rattle.settings.proofs.reads.flag.Goals as goal

pub returns-in-Some : goal.returns-in-Some
returns-in-Some c = rw c.eq.ensures (flag_by c.in-Some.text.now _ (c.in-Some.ensures ∙ first_value-rows (found_of c.args.matches.now) c.args.id.now))

pub returns-in-None : goal.returns-in-None
returns-in-None c = no_flag _ (c.in-None.ensures ∙ first_value-rows (found_of c.args.matches.now) c.args.id.now)
