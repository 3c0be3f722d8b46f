use Rattle.std.proofs.Common.{ℕ, List, [], refl, sym, subst, ◌∙◌, arith}
use Rattle.local_reduction.specs.Results.{FinalResult}
use Rattle.state_search.proofs.Lemmas.{any_default}
use Rattle.state_search.specs.state_store.StateTables.{IsRow, means}
use Rattle.exploration.specs.Endings.{AreShown, IsEndingAdded}
use Rattle.exploration.proofs.Endings.{AreEndings, no_endings, row_more}
use Rattle.exploration.proofs.Shown.{none_shown}
use Rattle.exploration.proofs.ending.results_of.Goals as goal

pub loop-row-preserved : goal.loop-row-preserved
loop-row-preserved g c = record {
  place = omega (arith, c.loop-row.invariant.place);
  endings = row_more c.args.extent c.args.classes.now c.args.state_tables.now c.args.rows.now c.loop-row.row-index
      c.loop-row.endings.results.items c.add_ending.new.endings.results.items c.loop-row.invariant.endings c.loop-row-test.true
      (subst (λ row. IsEndingAdded c.args.classes.now (means c.args.extent c.args.state_tables.now row) c.loop-row.endings.results.items
      c.add_ending.new.endings.results.items)
      (c.row-item.is ∙ any_default c.args.rows.now c.loop-row.row-index c.row-item.result [] c.loop-row-test.true)
      c.in_ok-add_ending.ensures.added);
  shown = c.in_ok-add_ending.ensures.shown;
}

pub loop-row-init : goal.loop-row-init
loop-row-init g c = record {
  place = refl;
  endings = subst (AreEndings c.args.extent c.args.classes.now c.args.state_tables.now c.args.rows.now 0) (sym c.new.ensures.items)
      (no_endings c.args.extent c.args.classes.now c.args.state_tables.now c.args.rows.now);
  shown = subst (λ (x : List (List ℕ) × List FinalResult). AreShown g.row.N c.args.extent c.args.state_tables.now x.0 x.1)
      (λ i. (sym c.new-3.ensures.empty i, sym c.new.ensures.items i)) (none_shown g.row.N c.args.extent c.args.state_tables.now);
}

pub returns-clause-complete : goal.returns-clause-complete
returns-clause-complete g c = λ i l h. c.loop-row.invariant.endings.complete i (omega (arith, l)) h

pub add_ending-requires : goal.add_ending-requires
add_ending-requires g c = (
  omega (arith, c.requires.narrow),
  (
    omega (arith, c.requires.narrow),
    (
      subst (IsRow c.args.extent c.args.state_tables.now)
          (sym (c.row-item.is ∙ any_default c.args.rows.now c.loop-row.row-index c.row-item.result [] c.loop-row-test.true))
          (c.requires.rows c.loop-row.row-index c.loop-row-test.true),
      (c.requires.classes, (c.requires.room, (c.requires.narrow, (c.are_different.ensures, c.loop-row.invariant.shown)))),
    ),
  ),
)
