use Rattle.observed_results.proofs.comparison.missing_parts.Goals as goal

pub returns : goal.returns
returns c = c.in_ok-missing.ensures c.args.others.now c.in_ok-known.ensures
