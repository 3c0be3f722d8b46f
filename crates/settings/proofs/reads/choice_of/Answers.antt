use Rattle.std.proofs.Common.{◌∙◌, ◌<◌, ◌^◌}
use Rattle.std.specs.Str.Parse.{ParsesUnsigned, ExplainsUnsignedError, HasUnsignedDigitsIfOk}
use Rattle.clap.specs.Words.{first_of, found_of, one_of, rows_of}
use Rattle.clap.proofs.WalkLemmas.{one_text-rows}
use Rattle.settings.proofs.Getters.{choice_given}
use Rattle.settings.proofs.reads.choice_of.Goals as goal

pub returns : goal.returns
returns c =
    let m = found_of c.args.matches.now in
    let same = one_text-rows m c.args.id.now in
    let text = c.requires in
    let small : c.args.high < 2 ^ 32 = c.ranges.high.fits in
    choice_given (λ bs r. ParsesUnsigned 32 10 bs r × ExplainsUnsignedError 10 bs r × HasUnsignedDigitsIfOk bs r) (λ u x g. g.0) c.args.low c.args.high
    (first_of c.args.id.now (rows_of m)) (one_of c.args.id.now (rows_of m)) c.get_one.result text.0 text.1
    (λ e. c.get_one.ensures.none (same ∙ e)) (λ t e. c.get_one.ensures.value t (same ∙ e)) small
