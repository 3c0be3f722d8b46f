use Rattle.std.proofs.Common.{ℕ, ◌<◌, List, [], All, Contains, length, sym, subst, arith}
use Rattle.std.specs.Prelude.{slice_index_or}
use Rattle.local_reduction.specs.Live.{HasAllLive}
use Rattle.local_reduction.specs.Results.{HaveStopped, result_at}
use Rattle.state_search.specs.Search.{state_at}
use Rattle.state_search.specs.state_store.Moves.{AreClasses}
use Rattle.state_search.proofs.Lemmas.{row_kept}
use Rattle.exploration.specs.Endings.{AreInOrder, IsEnding, IsStoodFor}
use Rattle.exploration.proofs.run.results_of_space.Goals as goal

pub returns-clause-complete : goal.returns-clause-complete
returns-clause-complete g c =
    subst (λ (z : List ℕ × List (List ℕ)). (i : ℕ) → i < length z.1 →
    HaveStopped (state_at c.args.extent c.args.state_tables.now z.1 i) →
    IsStoodFor z.0 c.in-Ok.endings.results.items (result_at (state_at c.args.extent c.args.state_tables.now z.1 i)))
    (λ j. (c.as_slice.ensures.value j, c.as_slice-2.ensures.keys j)) c.in-Ok.ensures.complete

pub returns-clause-order : goal.returns-clause-order
returns-clause-order g c =
    subst (λ (z : List ℕ × List (List ℕ)). AreInOrder z.0 (state_at c.args.extent c.args.state_tables.now z.1) (length z.1)
    c.in-Ok.endings.results.items)
    (λ j. (c.as_slice.ensures.value j, c.as_slice-2.ensures.keys j)) c.in-Ok.ensures.order

pub way_of-requires : goal.way_of-requires
way_of-requires g c =
    let e = c.args.extent in
    let t = c.args.state_tables.now in
    let kept = c.in_ok-fairness.ensures.kept in (
      omega arith,
      (
        subst (HasAllLive c.args.code.now) (sym kept.live) c.requires.live,
        (
          λ i less. row_kept e t c.fairness_of.new.state_tables (slice_index_or c.args.found.rows.keys i []) kept (c.requires.rows i less),
          (
            subst (AreClasses e) (sym c.as_slice-in-Some.ensures.value) c.requires.classes,
            (
              c.requires.room,
              (c.requires.narrow, (c.in_ok-fairness.ensures.local_states, c.in_ok-fairness.ensures.lists)),
            ),
          ),
        ),
      ),
    )

-- What holds of each element of a list holds of those that it contains.
all_of : {X : Type 0} (P : X → Type 0) (xs : List X) → All P xs → (x : X) → Contains xs x → P x
all_of P xs all x there = subst P there.2 (all there.0 x there.1)

pub returns-clause-sound : goal.returns-clause-sound
returns-clause-sound g c = λ r there.
    all_of (IsEnding c.args.extent c.args.classes.items c.args.state_tables.now c.args.found.rows.keys) c.in-Ok.endings.results.items
    (subst (λ (z : List ℕ × List (List ℕ)). All (IsEnding c.args.extent z.0 c.args.state_tables.now z.1) c.in-Ok.endings.results.items)
    (λ j. (c.as_slice.ensures.value j, c.as_slice-2.ensures.keys j)) c.in-Ok.ensures.sound) r there
