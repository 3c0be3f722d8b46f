use Rattle.std.proofs.Common.{◌+◌, sym, subst, arith}
use Rattle.std.specs.Prelude.{IfSome}
use Rattle.state_search.specs.Targets.{AreTargetsOf, IsTarget}
use Rattle.state_store.specs.StateTables.{means}
use Rattle.state_store.proofs.Lemmas.{kept_all, kept_on, means_kept, row_kept}
use Rattle.state_search.proofs.Targeting.{none_yet, one_more, rows_kept, target_kept}
use Rattle.state_search.proofs.targets.find_targets.Goals as goal

pub loop-p-init : goal.loop-p-init
loop-p-init g c = record {
  kept = kept_all _;
  local_states = c.requires.local_states;
  lists = c.requires.lists;
  rows = c.requires.rows;
  is_row = c.requires.row;
  targets = subst (λ vs. AreTargetsOf c.args.extent c.args.code.now c.args.classes.now c.args.state_tables.now c.args.rows.now.keys
      (means c.args.extent c.args.state_tables.now c.args.row) vs 0) (sym c.clear.ensures.items)
      (none_yet c.args.extent c.args.code.now c.args.classes.now c.args.state_tables.now c.args.rows.now.keys _);
}

pub loop-p-preserved : goal.loop-p-preserved
loop-p-preserved g c =
    let e = c.args.extent in
    let code = c.args.code.now in
    let classes = c.args.classes.now in
    let t = c.args.state_tables.now in
    let u = c.loop-p.state_tables in
    let rows = c.args.rows.now.keys in
    let row = c.args.row in
    let p = c.loop-p.p in
    let kept = c.in_ok-target.ensures.kept in
    let target = c.in-Some.target in
    let is = subst (λ o. IfSome o (IsTarget e code classes u rows (means e u row) p)) c.in-Some.is c.in_ok-target.ensures.target in
    let its = subst (λ s. IsTarget e code classes t rows s p target) (sym (means_kept e t u row c.loop-p.invariant.kept c.requires.row))
    (target_kept e code classes t rows u c.loop-p.invariant.kept c.requires.rows (means e u row) p target is) in
    record {
      kept = kept_on _ _ _ c.loop-p.invariant.kept kept;
      local_states = c.in_ok-target.ensures.local_states;
      lists = c.in_ok-target.ensures.lists;
      rows = rows_kept e code classes u rows c.target_of.new.state_tables kept c.loop-p.invariant.rows;
      is_row = row_kept e u c.target_of.new.state_tables row kept c.loop-p.invariant.is_row;
      targets = subst (λ vs. AreTargetsOf e code classes t rows (means e t row) vs (p + 1)) (sym c.in-Ok.ensures.items)
          (one_more e code classes t rows (means e t row) c.loop-p.list.items p target c.loop-p.invariant.targets its);
    }

pub returns-clause-targets : goal.returns-clause-targets
returns-clause-targets g c = λ _.
    let far = c.loop-p-test.false in
    let near = c.loop-p.auto.p-end in
    subst (AreTargetsOf c.args.extent c.args.code.now c.args.classes.now c.args.state_tables.now c.args.rows.now.keys
    (means c.args.extent c.args.state_tables.now c.args.row) c.loop-p.list.items) (omega (arith, far, near)) c.loop-p.invariant.targets
