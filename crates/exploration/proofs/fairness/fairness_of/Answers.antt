use Rattle.std.proofs.Common.{length, sym, subst}
use Rattle.std.specs.Prelude.{IfSome}
use Rattle.state_search.specs.Targets.{AreTargets}
use Rattle.exploration.specs.Fairness.{IsFairnessAt}
use Rattle.exploration.proofs.FairCertificates.{certified}
use Rattle.exploration.proofs.fairness.fairness_of.Goals as goal

pub returns-clause-fairness : goal.returns-clause-fairness
returns-clause-fairness g c =
    let e = c.args.extent in
    let code = c.args.code.now in
    let t = c.args.state_tables.now in
    let rows = c.args.found.now.rows.keys in
    let are = subst (λ o. IfSome o (λ targets. AreTargets e code c.args.classes.now t rows targets (length rows)))
    c.in-Some.is c.in_ok-targets.ensures.targets in
    subst (IsFairnessAt e code t rows) (sym c.fairness_by.ensures)
    (certified e code c.args.classes.now t rows c.in-Some.targets are c.requires.few c.in-Ok.certificate c.in-Ok.ensures)
