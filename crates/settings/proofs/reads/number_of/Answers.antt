use Rattle.clap.specs.Words.{first_of, found_of, rows_of}
use Rattle.settings.proofs.Getters.{or_default}
use Rattle.settings.proofs.reads.number_of.Goals as goal

pub returns : goal.returns
returns c =
    let m = found_of c.args.matches.now in
    rw c.unwrap_or.ensures
    (or_default c.args.default c.args.low c.args.high (first_of c.args.id.now (rows_of m)) c.choice_of.result c.choice_of.ensures
    c.requires.least c.requires.most)
