use Rattle.std.proofs.Common.{◌≡◌, ◌+◌, ℕ, List, [], ◌∷◌, ◌++◌, Some, length, sym, ap, subst, ◌∙◌, arith}
use Rattle.std.specs.Prelude.{slice_get}
use Rattle.state_store.specs.local_reduction.Live.{HasAllLive}
use Rattle.state_search.specs.Search.{AreAllFound, Searched}
use Rattle.state_store.specs.StateTables.{IsRow, means}
use Rattle.state_search.proofs.Lemmas.{found_at, past}
use Rattle.state_store.proofs.Lemmas.{kept_all, kept_on}
use Rattle.state_search.proofs.Searching.{all_begun, begun}
use Rattle.state_search.proofs.finding.breadth_first.Goals as goal

pub loop-at-init : goal.loop-at-init
loop-at-init g c =
    let keys = rw c.requires.nothing.0 at c.in-Ok.ensures.keys in
    record {
      kept = kept_all _;
      local_states = c.requires.local_states;
      lists = c.requires.lists;
      searched = subst (λ (z : List (List ℕ) × List (List ℕ)).
          Searched c.args.extent c.args.code.now c.args.classes.now c.args.state_tables.now z.0 z.1
          (means c.args.extent c.args.state_tables.now c.args.first) 0)
          (λ i. (sym keys i, sym c.requires.nothing.1 i))
          (begun c.args.extent c.args.code.now c.args.classes.now c.args.state_tables.now c.args.first c.requires.row);
      all = subst (λ (z : List (List ℕ) × List (List ℕ)). AreAllFound z.0 z.1) (λ i. (sym keys i, sym c.requires.nothing.1 i))
          (all_begun c.args.extent c.args.code.now c.args.classes.now c.args.first);
    }

pub expand-requires : goal.expand-requires
expand-requires g c =
    let found : slice_get c.loop-at.found.rows.keys c.loop-at.at ≡ Some c.in-Some.row =
    sym c.get_index.ensures.key ∙ (sym c.copied.ensures ∙ c.in-Some.is) in
    let there = found_at c.loop-at.found.rows.keys c.loop-at.at c.in-Some.row [] found in (
      omega (arith, c.requires.narrow),
      (
        subst (HasAllLive c.args.code.now) (sym c.loop-at.invariant.kept.live) c.requires.live,
        (
          c.requires.classes,
          (
            there.0,
            (
              there.1,
              (
                subst (IsRow c.args.extent c.loop-at.state_tables) there.1 (c.loop-at.invariant.searched.are_rows c.loop-at.at there.0),
                (c.requires.room, (c.requires.narrow, (c.loop-at.invariant.local_states, c.loop-at.invariant.lists))),
              ),
            ),
          ),
        ),
      ),
    )

pub loop-at-preserved : goal.loop-at-preserved
loop-at-preserved g c =
    let moves : c.push.new.self ≡ c.loop-at.found.moves ++ c.expand.new.successors.items ∷ [] =
    c.in-Ok-push.ensures.added ∙ ap (λ vs. c.loop-at.found.moves ++ vs ∷ []) c.as_slice.ensures.value in
    record {
      kept = kept_on _ _ _ c.loop-at.invariant.kept c.in_ok-expand.ensures.kept;
      local_states = c.in_ok-expand.ensures.local_states;
      lists = c.in_ok-expand.ensures.lists;
      searched = subst (λ ms. Searched c.args.extent c.args.code.now c.args.classes.now c.expand.new.state_tables c.expand.new.rows.keys ms
          (means c.args.extent c.args.state_tables.now c.args.first) (c.loop-at.at + 1)) (sym moves)
          (c.in_ok-expand.ensures.searched (means c.args.extent c.args.state_tables.now c.args.first) c.loop-at.found.moves
          c.loop-at.invariant.searched c.loop-at.invariant.all).0;
      all = subst (AreAllFound c.expand.new.rows.keys) (sym moves)
          (c.in_ok-expand.ensures.searched (means c.args.extent c.args.state_tables.now c.args.first) c.loop-at.found.moves
          c.loop-at.invariant.searched c.loop-at.invariant.all).1;
    }

pub returns-in_default-copied-clause-searched : goal.returns-in_default-copied-clause-searched
returns-in_default-copied-clause-searched g c =
    let none = sym c.get_index.ensures.key ∙ (sym c.copied.ensures ∙ c.in_default-copied.is) in
    let end = past c.loop-at.found.rows.keys c.loop-at.at none in
    let within = c.loop-at.invariant.searched.within in
    let all : c.loop-at.at ≡ length c.loop-at.found.rows.keys = omega (arith, end, within) in
    subst (Searched c.args.extent c.args.code.now c.args.classes.now c.loop-at.state_tables c.loop-at.found.rows.keys c.loop-at.found.moves
    (means c.args.extent c.args.state_tables.now c.args.first)) all c.loop-at.invariant.searched

pub returns-then-len-limit-clause-some : goal.returns-then-len-limit-clause-some
returns-then-len-limit-clause-some g c =
    λ has. (c.loop-at.invariant.kept, record { done = c.loop-at.at; searched = c.loop-at.invariant.searched })

pub returns-then-not-progress-clause-some : goal.returns-then-not-progress-clause-some
returns-then-not-progress-clause-some g c =
    λ has. (c.loop-at.invariant.kept, record { done = c.loop-at.at; searched = c.loop-at.invariant.searched })
