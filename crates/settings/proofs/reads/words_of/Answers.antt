use Rattle.std.proofs.Common.{◌∙◌, ap}
use Rattle.std.proofs.lemmas.Result.{IfOk-weaker}
use Rattle.clap.specs.Words.{found_of}
use Rattle.clap.proofs.WalkLemmas.{raw_values-rows}
use Rattle.settings.specs.Plain.{texts_of}
use Rattle.settings.proofs.Getters.{no_texts, texts_given}
use Rattle.settings.proofs.reads.words_of.Goals as goal

pub returns-in-Some : goal.returns-in-Some
returns-in-Some c =
    let given = texts_given c.in-Some.words.now _ (c.in-Some.ensures ∙ raw_values-rows (found_of c.args.matches.now) c.args.id.now) in
    IfOk-weaker c.copy_of.result _ _ (λ copy is. ap texts_of is ∙ given) c.copy_of.ensures

pub returns-in-None : goal.returns-in-None
returns-in-None c = ap texts_of c.new.ensures.items ∙ no_texts _ (c.in-None.ensures ∙ raw_values-rows (found_of c.args.matches.now) c.args.id.now)
