use Rattle.std.proofs.Common.{◌≡◌, ◌+◌, [], ◌∷◌, ◌++◌, sym, ap, subst, ◌∙◌, refl, arith}
use Rattle.state_search.specs.Search.{state_at, AreAllFound, Searched, Expanded}
use Rattle.state_store.specs.Moves.{Spinning}
use Rattle.state_store.specs.StateTables.{means}
use Rattle.state_store.proofs.Lemmas.{kept_all, kept_on, row_kept, means_kept}
use Rattle.state_search.proofs.Searching.{completed, completed_all, expanding, spun}
use Rattle.state_search.proofs.finding.expand.Goals as goal

pub loop-p-init : goal.loop-p-init
loop-p-init g c = record {
  kept = kept_all _;
  local_states = c.requires.local_states;
  lists = c.requires.lists;
  there = c.requires.there;
  row_is = c.requires.row;
  is_row = c.requires.is_row;
  expanded = λ first moves h all.
      subst (λ vs. Expanded c.args.extent c.args.code.now c.args.classes.now c.args.state_tables.now c.args.rows.now.keys moves first vs
      c.args.at 0) (sym c.clear.ensures.items)
      (expanding c.args.extent c.args.code.now c.args.classes.now c.args.state_tables.now c.args.rows.now.keys moves first c.args.at h all
      c.requires.there);
}

pub loop-p-preserved : goal.loop-p-preserved
loop-p-preserved g c =
    let kept = c.in_ok-add_successor.ensures.kept in
    let there = c.in_ok-add_successor.ensures.there c.args.at c.loop-p.invariant.there c.loop-p.invariant.row_is in
    record {
      kept = kept_on _ _ _ c.loop-p.invariant.kept kept;
      local_states = c.in_ok-add_successor.ensures.local_states;
      lists = c.in_ok-add_successor.ensures.lists;
      there = there.0;
      row_is = there.1;
      is_row = row_kept c.args.extent c.loop-p.state_tables c.add_successor.new.state_tables c.args.row kept c.loop-p.invariant.is_row;
      expanded = λ first moves h all.
          c.in_ok-add_successor.ensures.expanded first moves c.args.at c.loop-p.invariant.row_is
          (c.loop-p.invariant.expanded first moves h all);
    }

pub returns-clause-searched : goal.returns-clause-searched
returns-clause-searched g c =
    let all : c.loop-p.p ≡ c.args.extent.processors = omega arith in
    let old_is : state_at c.args.extent c.loop-p.state_tables c.loop-p.rows.keys c.args.at ≡ means c.args.extent c.args.state_tables.now c.args.row =
    ap (means c.args.extent c.loop-p.state_tables) c.loop-p.invariant.row_is
    ∙ sym (means_kept c.args.extent c.args.state_tables.now c.loop-p.state_tables c.args.row c.loop-p.invariant.kept c.requires.is_row) in
    let none_spins : Spinning c.args.extent c.args.code.now (state_at c.args.extent c.loop-p.state_tables c.loop-p.rows.keys c.args.at) → ⊥ = λ spins.
    (let both = c.if-has_spinner.ensures.1 (subst (Spinning c.args.extent c.args.code.now) old_is spins) in absurd (cc)) in
    λ first moves h found.
    let done = subst (Expanded c.args.extent c.args.code.now c.args.classes.now c.loop-p.state_tables c.loop-p.rows.keys moves first
    c.loop-p.successors.items c.args.at) all (c.loop-p.invariant.expanded first moves h found) in (
      completed c.args.extent c.args.code.now c.args.classes.now c.loop-p.state_tables c.loop-p.rows.keys moves first
          c.loop-p.successors.items c.args.at done (λ spins. absurd (none_spins spins)),
      completed_all c.args.extent c.args.code.now c.args.classes.now c.loop-p.state_tables c.loop-p.rows.keys moves first
          c.loop-p.successors.items c.args.at done,
    )

pub returns-then-has_spinner-clause-searched : goal.returns-then-has_spinner-clause-searched
returns-then-has_spinner-clause-searched g c =
    let t = c.args.state_tables.now in
    let items : c.push.new.self.items ≡ c.args.at ∷ [] = c.in-Ok.ensures.items ∙ ap (λ vs. vs ++ c.args.at ∷ []) c.clear.ensures.items in
    let spins : Spinning c.args.extent c.args.code.now (state_at c.args.extent t c.args.rows.now.keys c.args.at) =
    subst (λ r. Spinning c.args.extent c.args.code.now (means c.args.extent t r)) (sym c.requires.row) (c.if-has_spinner.ensures.0 refl) in
    λ first moves h found.
    let done = spun c.args.extent c.args.code.now c.args.classes.now t c.args.rows.now.keys moves first c.args.at h found c.requires.there spins in
    subst (λ vs. Searched c.args.extent c.args.code.now c.args.classes.now t c.args.rows.now.keys (moves ++ vs ∷ []) first (c.args.at + 1)
    × AreAllFound c.args.rows.now.keys (moves ++ vs ∷ [])) (sym items) (
      completed c.args.extent c.args.code.now c.args.classes.now t c.args.rows.now.keys moves first (c.args.at ∷ []) c.args.at done (λ _. refl),
      completed_all c.args.extent c.args.code.now c.args.classes.now t c.args.rows.now.keys moves first (c.args.at ∷ []) c.args.at done,
    )
