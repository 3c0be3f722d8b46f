use Rattle.std.proofs.Common.{◌+◌, ◌∙◌, refl, ap, arith, rules}
use Rattle.std.proofs.lemmas.List.Elements.{All-nil, All-same}
use Rattle.hunt_command.specs.Findings.{FindingsState}
use Rattle.hunt_command.specs.Taken.{IsTaken}
use Rattle.hunt_command.proofs.Gathering.{none_found, one_observed}
use Rattle.hunt_command.proofs.runs.findings_of.Goals as goal

pub loop-place-init : goal.loop-place-init
loop-place-init g c =
    let taken = IsTaken c.args.hunt c.args.config c.args.image.now in
    rw c.new-findings.ensures
    (record {
      found = none_found _ c.args.config c.args.image.now c.args.hunt.policy c.args.hunt.start;
      noted = refl;
      low = omega arith;
      ahead = All-same taken _ _ c.new-ahead.ensures (All-nil taken);
    })

pub loop-place-preserved : goal.loop-place-preserved
loop-place-preserved g c =
    let i = c.loop-place.invariant in
    record {
      found = one_observed _ _ _ _ _ _ _ _ _ _ _ _ _ i.found (search rules) c.in_ok-text.ensures.result.0 c.in_ok-add.ensures c.in_ok-note_end.ensures
          (search rules);
      noted = ap (λ (f : FindingsState). f.noted) c.in_ok-note_end.ensures
          ∙ (ap (λ (f : FindingsState). f.noted) c.in_ok-add.ensures ∙ ap (λ n. n + 1) i.noted);
      low = search rules;
      ahead = c.in_ok-text.ensures.ahead;
    }
