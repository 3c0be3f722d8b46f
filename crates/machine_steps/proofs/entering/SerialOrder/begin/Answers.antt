use Rattle.std.proofs.Common.{◌∙◌, ◌∷◌, [], sym, ap, subst, arith}
use Rattle.std.specs.Prelude.{slice_set}
use Rattle.machine_theory.specs.Theory as theory
use Rattle.machine_steps.specs.Ordering.{IsEntered}
use Rattle.machine_steps.proofs.Grouping.{enters_issue}
use Rattle.machine_steps.proofs.entering.SerialOrder.begin.Goals as goal

pub returns-clause-entered : goal.returns-clause-entered
returns-clause-entered c =
    let groups = c.args.self.now.groups.items in
    let entries = c.args.self.now.entries.items in
    subst (λ p. IsEntered groups entries (theory.Issued p) (slice_set groups c.from.result c.one.result) entries) c.from.ensures
    (enters_issue groups entries c.from.result c.one.result (omega (arith, c.from.ensures, c.ranges.p.fits, c.requires.leaders))
    (c.one.ensures ∙ ap (λ p. p ∷ []) (sym c.from.ensures)))
