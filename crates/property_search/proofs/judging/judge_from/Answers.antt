use Rattle.std.proofs.Common.{◌≡◌, [], Err, length, sym, ap, subst, ◌∙◌, arith}
use Rattle.local_reduction.specs.Closing.{ReachesMacroState}
use Rattle.local_reduction.specs.Live.{HasAllLive}
use Rattle.local_reduction.specs.Forgetting.{kept_by}
use Rattle.std.proofs.lemmas.Result.{err_from_is_err_and}
use Rattle.state_search.specs.state_store.Moves.{AreClasses}
use Rattle.state_search.specs.state_store.StateTables.{TableLists, setting_at, means}
use Rattle.state_search.specs.state_store.Opening.{flat_of}
use Rattle.property_search.specs.Verdicts.{IsFoundVerdict, IsVerdict}
use Rattle.exploration.proofs.Lemmas.{moves_refuse, refusal_stands, some_states}
use Rattle.state_search.specs.Refusals.{HasFound}
use Rattle.property_search.proofs.Verdicts.{flat_broken, flat_verdict}
use Rattle.property_search.proofs.judging.judge_from.Goals as goal

pub returns-in-Ok-searched-clause-verdict : goal.returns-in-Ok-searched-clause-verdict
returns-in-Ok-searched-clause-verdict g c =
    let e = c.args.extent in
    let code = c.args.code.now in
    let t = c.explore_states-searched.new.state_tables in
    let rows = c.explore_states-searched.new.found.rows.keys in
    let moves = c.explore_states-searched.new.found.moves in
    let first = means e c.open.new.self c.in_ok-first.first in
    let m = flat_of code c.args.cores.now c.args.words in
    let reaches = subst (λ live. ReachesMacroState (setting_at e) code (kept_by live) m (λ k. []) first)
    (sym c.in-Ok-searched.ensures.kept.live) c.in_ok-first.ensures.reaches in
    let is : t.live ≡ c.in-Ok.live =
    c.in-Ok-searched.ensures.kept.live ∙ (c.in_ok-first.ensures.kept.live ∙ ap (λ (t : TableLists). t.live) c.new-state_tables.ensures) in
    let right = subst (HasAllLive code) (sym is) c.in-Ok.ensures in
    let f = c.dead_registers_can_be_forgotten.ensures.forgotten (setting_at e) code t.live right in
    let judged = c.in_ok-judged-in-Ok-searched in
    flat_verdict e code _ t rows moves first m f c.in-Ok-searched.ensures.found reaches
    c.exchanges_keep_conditions.ensures.kept c.args.property.now.kind c.args.property.now.condition c.each_state_is_stood_for.ensures.complete
    c.each_result_is_stood_for.ensures.complete
    c.each_found_state_is_reached.ensures.reached c.each_found_state_is_reached.ensures.spins judged.judged.verdict judged.ensures.verdict

pub returns-in_err-first-clause-given_up : goal.returns-in_err-first-clause-given_up
returns-in_err-first-clause-given_up g c =
    let p = err_from_is_err_and c.from_residual.result c.from_residual.ensures.1 in
    rw (p.1, p.2) (moves_refuse _ _ _)

pub returns-in_err-judged-in-Ok-searched-clause-given_up : goal.returns-in_err-judged-in-Ok-searched-clause-given_up
returns-in_err-judged-in-Ok-searched-clause-given_up g c =
    let p = err_from_is_err_and c.from_residual-in_err-judged-in-Ok-searched.result c.from_residual-in_err-judged-in-Ok-searched.ensures.1 in
    rw (p.1, p.2) (moves_refuse _ _ _)

pub judge_part-requires : goal.judge_part-requires
judge_part-requires g c = (
  omega arith,
  (
    λ has.
        subst (HasAllLive c.args.code.now)
        (sym ((c.in-Err.ensures.some has).0.live
        ∙ (c.in_ok-first.ensures.kept.live ∙ ap (λ (t : TableLists). t.live) c.new-state_tables.ensures))) c.in-Ok.ensures,
    (
      λ has. (c.in-Err.ensures.some has).1.are_rows,
      (
        subst (AreClasses c.args.extent) (sym c.as_slice-in-Err.ensures.value) c.in-Ok-classes_of.ensures.classes,
        (c.requires.room, (c.requires.narrow, c.in-Err.ensures.known)),
      ),
    ),
  ),
)

pub returns-clause-verdict : goal.returns-clause-verdict
returns-clause-verdict g c =
    let e = c.args.extent in
    let code = c.args.code.now in
    let t = c.explore_states-searched.new.state_tables in
    let rows = c.explore_states-searched.new.found.rows.keys in
    let first = means e c.open.new.self c.in_ok-first.first in
    let m = flat_of code c.args.cores.now c.args.words in
    let judged = c.in_ok-judged-in-Err in
    let some = c.in-Err.ensures.some judged.ensures.found in
    let reaches = subst (λ live. ReachesMacroState (setting_at e) code (kept_by live) m (λ k. []) first)
    (sym some.0.live) c.in_ok-first.ensures.reaches in
    let is : t.live ≡ c.in-Ok.live =
    some.0.live ∙ (c.in_ok-first.ensures.kept.live ∙ ap (λ (t : TableLists). t.live) c.new-state_tables.ensures) in
    let f = c.dead_registers_can_be_forgotten.ensures.forgotten (setting_at e) code t.live (subst (HasAllLive code) (sym is) c.in-Ok.ensures) in
    let property = c.args.property.now in
    subst (IsVerdict m property.kind property.condition) (sym judged.ensures.broken)
    (flat_broken e code _ t rows first m f some.1 reaches c.exchanges_keep_conditions.ensures.kept property.kind property.condition
    c.each_found_state_is_reached.ensures.reached
    (subst (IsFoundVerdict e code t rows property.kind property.condition) judged.ensures.broken judged.ensures.verdict))

pub returns-in_err-judged-in-Err-clause-given_up : goal.returns-in_err-judged-in-Err-clause-given_up
returns-in_err-judged-in-Err-clause-given_up g c =
    let e = c.args.extent in
    let code = c.args.code.now in
    let t = c.explore_states-searched.new.state_tables in
    let rows = c.explore_states-searched.new.found.rows.keys in
    let first = means e c.open.new.self c.in_ok-first.first in
    let m = flat_of code c.args.cores.now c.args.words in
    let p = err_from_is_err_and c.from_residual-in_err-judged-in-Err.result c.from_residual-in_err-judged-in-Err.ensures.1 in
    rw (p.1, p.2)
    (c.in_err-judged-in-Err.ensures.given_up m c.args.limit
    (refusal_stands m c.args.limit c.in-Err.refusal
    (λ why.
    let some = c.in-Err.ensures.some (subst HasFound (sym why) tt) in
    let is : t.live ≡ c.in-Ok.live =
    some.0.live ∙ (c.in_ok-first.ensures.kept.live ∙ ap (λ (t : TableLists). t.live) c.new-state_tables.ensures) in
    let right = subst (HasAllLive code) (sym is) c.in-Ok.ensures in
    record {
      classes = c.as_slice.result.now;
      count = length rows;
      many = c.in-Err.ensures.many (ap Err why);
      states = some_states e code c.as_slice.result.now t rows first m
          (c.dead_registers_can_be_forgotten.ensures.forgotten (setting_at e) code t.live right) some.1
          (subst (λ live. ReachesMacroState (setting_at e) code (kept_by live) m (λ k. []) first) (sym some.0.live) c.in_ok-first.ensures.reaches)
          right;
    })))
