use Rattle.std.proofs.Common.{◌≡◌, List, ℕ, String, Global, length, take, ap, subst, string_bytes, sym, ◌∙◌, arith}
use Rattle.std.proofs.Math.Seq.{take-length}
use Rattle.std.specs.Prelude.{string_eq}
use Rattle.std.specs.List.{list_any}
use Rattle.exploration.specs.local_reduction.Results.{FinalResult}
use Rattle.indexmap.specs.IndexSet.{contains}
use Rattle.observed_results.specs.Outcomes.{HasOutcomes, outcome_of}
use Rattle.observed_results.proofs.Comparing.{outcome_more}
use Rattle.observed_results.proofs.comparison.outcomes_of.Goals as goal

pub loop-last-init : goal.loop-last-init
loop-last-init c = λ key. ap (list_any (string_eq key)) c.new-known.ensures.empty

pub loop-last-preserved : goal.loop-last-preserved
loop-last-preserved c = λ (key : String Global).
    let marks = c.args.words.now in
    let last = c.last-item.result in
    outcome_more marks c.args.results.now c.loop-last.last-index last (string_bytes key) (string_bytes c.in_ok-text.text)
    (contains string_eq c.loop-last.known key) (contains string_eq c.insert.new.self key) (omega arith) (c.loop-last.invariant key)
    (c.in_ok-text.ensures ∙ ap (outcome_of marks) c.last-item.is) (c.in_ok-insert.ensures.updates.0 key)

pub returns : goal.returns
returns c =
    let rs = c.args.results.now in
    let all : c.loop-last.last-index ≡ length rs = omega arith in
    subst (λ (xs : List FinalResult). HasOutcomes c.args.words.now xs c.loop-last.known) (ap (λ n. take n rs) all ∙ take-length rs) c.loop-last.invariant
