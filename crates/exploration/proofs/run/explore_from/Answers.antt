use Rattle.std.proofs.Common.{◌≡◌, [], Err, sym, ap, subst, ◌∙◌, arith}
use Rattle.local_reduction.specs.Closing.{ReachesMacroState}
use Rattle.local_reduction.specs.Results.{StandsFor}
use Rattle.local_reduction.specs.Live.{HasAllLive}
use Rattle.local_reduction.specs.Forgetting.{kept_by}
use Rattle.std.proofs.lemmas.Result.{err_from_is_err_and}
use Rattle.state_search.specs.Ends.{AreFound, AreSome}
use Rattle.state_search.specs.state_store.Moves.{AreClasses}
use Rattle.state_search.specs.state_store.StateTables.{TableLists, setting_at, means}
use Rattle.state_search.specs.state_store.Opening.{flat_of}
use Rattle.exploration.specs.Endings.{IsStoodFor}
use Rattle.exploration.specs.States.{AreAllStates}
use Rattle.exploration.proofs.Exploring.{all_states, are_partial, ends_with, flat_sound, flat_complete, flat_fairness, flat_schedules}
use Rattle.exploration.proofs.Exploring.{moves_end, uniform}
use Rattle.exploration.proofs.run.explore_from.Goals as goal

pub results_of_space-requires : goal.results_of_space-requires
results_of_space-requires g c =
    let found = c.in-Ok-searched.ensures.found in
    let few = found.successors.few in
    let all = found.successors.all in
    let is : c.explore_states-searched.new.state_tables.live ≡ c.in-Ok.live =
    c.in-Ok-searched.ensures.kept.live ∙ (c.in_ok-first.ensures.kept.live ∙ ap (λ (t : TableLists). t.live) c.new-state_tables.ensures) in (
      omega arith,
      (
        subst (HasAllLive c.args.code.now) (sym is) c.in-Ok.ensures,
        (
          found.some.are_rows,
          (
            c.in-Ok-classes_of.ensures.classes,
            (
              c.requires.room,
              (
                c.requires.narrow,
                (
                  omega (arith, few, all),
                  (
                    found.successors.all,
                    (c.in-Ok-searched.ensures.local_states, c.in-Ok-searched.ensures.lists),
                  ),
                ),
              ),
            ),
          ),
        ),
      ),
    )

pub returns-in-Ok-searched-clause-sound : goal.returns-in-Ok-searched-clause-sound
returns-in-Ok-searched-clause-sound g c =
    let e = c.args.extent in
    let code = c.args.code.now in
    let t = c.explore_states-searched.new.state_tables in
    let rows = c.explore_states-searched.new.found.rows.keys in
    let moves = c.explore_states-searched.new.found.moves in
    let first = means e c.open.new.self c.in_ok-first.first in
    let m = flat_of code c.args.cores.now c.args.words in
    let reaches = subst (λ live. ReachesMacroState (setting_at e) code (kept_by live) m (λ k. []) first)
    (sym c.in-Ok-searched.ensures.kept.live) c.in_ok-first.ensures.reaches in
    let is : t.live ≡ c.in-Ok.live =
    c.in-Ok-searched.ensures.kept.live ∙ (c.in_ok-first.ensures.kept.live ∙ ap (λ (t : TableLists). t.live) c.new-state_tables.ensures) in
    let right = subst (HasAllLive code) (sym is) c.in-Ok.ensures in
    let f = c.dead_registers_can_be_forgotten.ensures.forgotten (setting_at e) code t.live right in
    let all = subst (λ cs. AreFound e code cs t rows moves first) c.as_slice.ensures.value c.in-Ok-searched.ensures.found in
    let explored = c.in_ok-explored-in-Ok-searched in
    λ r q there stands.
    flat_sound e code c.in-Ok-classes_of.classes.items t rows first m f all.some reaches c.all_stood_for_are_results.ensures.sound
    (uniform e c.in-Ok-classes_of.classes.items c.open.new.self c.in_ok-first.first c.in-Ok-classes_of.ensures.classes
    c.in-Ok-classes_of.ensures.alike) explored.explored.results.items
    explored.ensures.sound r q there (subst (λ cs. StandsFor cs r q) explored.ensures.classes stands)

pub returns-in-Ok-searched-clause-complete : goal.returns-in-Ok-searched-clause-complete
returns-in-Ok-searched-clause-complete g c =
    let e = c.args.extent in
    let code = c.args.code.now in
    let t = c.explore_states-searched.new.state_tables in
    let rows = c.explore_states-searched.new.found.rows.keys in
    let moves = c.explore_states-searched.new.found.moves in
    let first = means e c.open.new.self c.in_ok-first.first in
    let m = flat_of code c.args.cores.now c.args.words in
    let reaches = subst (λ live. ReachesMacroState (setting_at e) code (kept_by live) m (λ k. []) first)
    (sym c.in-Ok-searched.ensures.kept.live) c.in_ok-first.ensures.reaches in
    let is : t.live ≡ c.in-Ok.live =
    c.in-Ok-searched.ensures.kept.live ∙ (c.in_ok-first.ensures.kept.live ∙ ap (λ (t : TableLists). t.live) c.new-state_tables.ensures) in
    let right = subst (HasAllLive code) (sym is) c.in-Ok.ensures in
    let f = c.dead_registers_can_be_forgotten.ensures.forgotten (setting_at e) code t.live right in
    let all = subst (λ cs. AreFound e code cs t rows moves first) c.as_slice.ensures.value c.in-Ok-searched.ensures.found in
    let explored = c.in_ok-explored-in-Ok-searched in
    λ q h.
    subst (λ cs. IsStoodFor cs explored.explored.results.items q) (sym explored.ensures.classes)
    (flat_complete e code c.in-Ok-classes_of.classes.items t rows moves first m f all reaches explored.explored.results.items
    c.each_result_is_stood_for.ensures.complete explored.ensures.complete q h)

pub returns-in-Ok-searched-clause-termination : goal.returns-in-Ok-searched-clause-termination
returns-in-Ok-searched-clause-termination g c =
    let e = c.args.extent in
    let code = c.args.code.now in
    let t = c.explore_states-searched.new.state_tables in
    let rows = c.explore_states-searched.new.found.rows.keys in
    let moves = c.explore_states-searched.new.found.moves in
    let first = means e c.open.new.self c.in_ok-first.first in
    let m = flat_of code c.args.cores.now c.args.words in
    let reaches = subst (λ live. ReachesMacroState (setting_at e) code (kept_by live) m (λ k. []) first)
    (sym c.in-Ok-searched.ensures.kept.live) c.in_ok-first.ensures.reaches in
    let is : t.live ≡ c.in-Ok.live =
    c.in-Ok-searched.ensures.kept.live ∙ (c.in_ok-first.ensures.kept.live ∙ ap (λ (t : TableLists). t.live) c.new-state_tables.ensures) in
    let right = subst (HasAllLive code) (sym is) c.in-Ok.ensures in
    let f = c.dead_registers_can_be_forgotten.ensures.forgotten (setting_at e) code t.live right in
    let all = subst (λ cs. AreFound e code cs t rows moves first) c.as_slice.ensures.value c.in-Ok-searched.ensures.found in
    let explored = c.in_ok-explored-in-Ok-searched in
    flat_schedules e code c.in-Ok-classes_of.classes.items t rows moves first m f all reaches explored.explored.results.items
    c.successors_decide_termination.ensures.termination_claim explored.explored.termination explored.ensures.termination

pub returns-in-Ok-searched-clause-fairness : goal.returns-in-Ok-searched-clause-fairness
returns-in-Ok-searched-clause-fairness g c =
    let e = c.args.extent in
    let code = c.args.code.now in
    let t = c.explore_states-searched.new.state_tables in
    let rows = c.explore_states-searched.new.found.rows.keys in
    let moves = c.explore_states-searched.new.found.moves in
    let first = means e c.open.new.self c.in_ok-first.first in
    let m = flat_of code c.args.cores.now c.args.words in
    let reaches = subst (λ live. ReachesMacroState (setting_at e) code (kept_by live) m (λ k. []) first)
    (sym c.in-Ok-searched.ensures.kept.live) c.in_ok-first.ensures.reaches in
    let is : t.live ≡ c.in-Ok.live =
    c.in-Ok-searched.ensures.kept.live ∙ (c.in_ok-first.ensures.kept.live ∙ ap (λ (t : TableLists). t.live) c.new-state_tables.ensures) in
    let right = subst (HasAllLive code) (sym is) c.in-Ok.ensures in
    let f = c.dead_registers_can_be_forgotten.ensures.forgotten (setting_at e) code t.live right in
    let all = subst (λ cs. AreFound e code cs t rows moves first) c.as_slice.ensures.value c.in-Ok-searched.ensures.found in
    let explored = c.in_ok-explored-in-Ok-searched in
    flat_fairness e code c.in-Ok-classes_of.classes.items t rows moves first m f all reaches explored.explored.results.items
    c.fairly_ranked_schedules_end.ensures.ends c.fair_cycles_never_end.ensures.endless explored.explored.fairness explored.ensures.fairness

pub returns-in-Ok-searched-clause-states : goal.returns-in-Ok-searched-clause-states
returns-in-Ok-searched-clause-states g c =
    let e = c.args.extent in
    let code = c.args.code.now in
    let t = c.explore_states-searched.new.state_tables in
    let rows = c.explore_states-searched.new.found.rows.keys in
    let moves = c.explore_states-searched.new.found.moves in
    let first = means e c.open.new.self c.in_ok-first.first in
    let m = flat_of code c.args.cores.now c.args.words in
    let reaches = subst (λ live. ReachesMacroState (setting_at e) code (kept_by live) m (λ k. []) first)
    (sym c.in-Ok-searched.ensures.kept.live) c.in_ok-first.ensures.reaches in
    let is : t.live ≡ c.in-Ok.live =
    c.in-Ok-searched.ensures.kept.live ∙ (c.in_ok-first.ensures.kept.live ∙ ap (λ (t : TableLists). t.live) c.new-state_tables.ensures) in
    let right = subst (HasAllLive code) (sym is) c.in-Ok.ensures in
    let f = c.dead_registers_can_be_forgotten.ensures.forgotten (setting_at e) code t.live right in
    let all = subst (λ cs. AreFound e code cs t rows moves first) c.as_slice.ensures.value c.in-Ok-searched.ensures.found in
    let explored = c.in_ok-explored-in-Ok-searched in
    let found = explored.explored in
    subst (λ cs. AreAllStates m cs found.results.items found.termination found.states) (sym explored.ensures.classes)
    (all_states e code c.in-Ok-classes_of.classes.items t rows moves first m f all reaches found.results.items right found.termination
    found.states explored.ensures.termination explored.ensures.order explored.ensures.states)

pub returns-in_err-first-clause-given_up : goal.returns-in_err-first-clause-given_up
returns-in_err-first-clause-given_up g c =
    let p = err_from_is_err_and c.from_residual.result c.from_residual.ensures.1 in
    rw (p.1, p.2) (moves_end _ _ _ _)

pub returns-in_err-explored-in-Ok-searched-clause-given_up : goal.returns-in_err-explored-in-Ok-searched-clause-given_up
returns-in_err-explored-in-Ok-searched-clause-given_up g c =
    let p = err_from_is_err_and c.from_residual-in_err-explored-in-Ok-searched.result c.from_residual-in_err-explored-in-Ok-searched.ensures.1 in
    rw (p.1, p.2) (moves_end _ _ _ _)

pub returns-clause-given_up : goal.returns-clause-given_up
returns-clause-given_up g c =
    let e = c.args.extent in
    let code = c.args.code.now in
    let t = c.explore_states-searched.new.state_tables in
    let rows = c.explore_states-searched.new.found.rows.keys in
    let classes = c.in-Ok-classes_of.classes.items in
    let first = means e c.open.new.self c.in_ok-first.first in
    let m = flat_of code c.args.cores.now c.args.words in
    ends_with e classes t rows m c.args.wish.limit c.in-Err.refusal _ c.end_of_search.ensures
    (λ has partial of.
    let some = c.in-Err.ensures.some has in
    let is : t.live ≡ c.in-Ok.live =
    some.0.live ∙ (c.in_ok-first.ensures.kept.live ∙ ap (λ (t : TableLists). t.live) c.new-state_tables.ensures) in
    let right = subst (HasAllLive code) (sym is) c.in-Ok.ensures in
    are_partial e code classes t rows first m (c.dead_registers_can_be_forgotten.ensures.forgotten (setting_at e) code t.live right)
    (subst (λ cs. AreSome e code cs t rows first) c.as_slice.ensures.value some.1)
    (subst (λ live. ReachesMacroState (setting_at e) code (kept_by live) m (λ k. []) first) (sym some.0.live) c.in_ok-first.ensures.reaches)
    c.all_stood_for_are_results.ensures.sound
    (uniform e classes c.open.new.self c.in_ok-first.first c.in-Ok-classes_of.ensures.classes c.in-Ok-classes_of.ensures.alike) right partial of)
    (λ why. c.in-Err.ensures.many (ap Err why))
