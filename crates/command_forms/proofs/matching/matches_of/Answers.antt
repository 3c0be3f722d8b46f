use Rattle.std.proofs.Common.{◌∙◌, List, ap, map}
use Rattle.std.proofs.lemmas.Result.{IfOk-weaker}
use Rattle.clap.specs.Words.{App, Text, fault_of, is_simple, is_simple_and_free, subcommand_of}
use Rattle.clap.proofs.FaultLemmas.{fails_as}
use Rattle.command_forms.proofs.Simple.{is_free_ultra, is_simple_ultra}
use Rattle.command_forms.proofs.matching.matches_of.Goals as goal

pub returns-clause-rows : goal.returns-clause-rows
returns-clause-rows c =
    let words : List Text = map (λ w. w.now) c.args.words.now in
    let shape = c.in_ok-ultra_shape.ensures in
    IfOk-weaker c.try_get_matches_from.result _ _ (λ m exact. (exact (ap is_simple shape ∙ is_simple_ultra)).1 ∙ ap (λ (a : App). subcommand_of a words) shape)
    c.try_get_matches_from.ensures.matches

pub returns-clause-kinds : goal.returns-clause-kinds
returns-clause-kinds c =
    let words : List Text = map (λ w. w.now) c.args.words.now in
    let shape = c.in_ok-ultra_shape.ensures in
    fails_as c.try_get_matches_from.result _ _ (ap (λ (a : App). fault_of a words) shape)
    (c.try_get_matches_from.ensures.kinds (ap is_simple_and_free shape ∙ is_free_ultra))
