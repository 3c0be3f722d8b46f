use Rattle.std.proofs.Common.{List, [], ◌∷◌, ◌++◌, slice_index_or, take, sym, subst}
use Rattle.std.specs.List.{AllZip}
use Rattle.std.proofs.lemmas.List.{get_or_default, take_more}
use Rattle.std.proofs.lemmas.Result.{err_from_is_err_and}
use Rattle.study_command.specs.Rows.{IsRow}
use Rattle.study_rows.specs.declared.row.Row.{Row}
use Rattle.study_rows.specs.declared.size.Size.{Size}
use Rattle.study_command.proofs.Failing.{no_row}
use Rattle.study_command.proofs.Growing.{zip_more}
use Rattle.study_command.proofs.running.rows_of.Goals as goal

pub returns-in_err-row-clause-refused : goal.returns-in_err-row-clause-refused
returns-in_err-row-clause-refused c =
    let sizes = c.args.sizes.now in
    let i = c.loop-size.size-index in
    let none : Size = record { k = 0; b = 0; r = 0 } in
    let p = err_from_is_err_and c.from_residual-in_err-row.result c.from_residual-in_err-row.ensures.1 in
    rw (p.1, p.2)
    (no_row c.args.config sizes (slice_index_or sizes i none)
    (i, c.loop-size-test.true, get_or_default sizes i (slice_index_or sizes i none) none c.loop-size-test.true) c.in_err-row.field-0.0
    c.in_err-row.ensures.refused)

pub loop-size-preserved : goal.loop-size-preserved
loop-size-preserved c =
    let sizes = c.args.sizes.now in
    let i = c.loop-size.size-index in
    let none : Size = record { k = 0; b = 0; r = 0 } in
    let Is = IsRow c.args.budget c.args.image.now c.args.config in
    subst (λ (done : List Size). AllZip Is done c.push_row.new.rows.items) (sym (take_more sizes i none c.loop-size-test.true))
    (subst (λ (rows : List Row). AllZip Is (take i sizes ++ slice_index_or sizes i none ∷ []) rows) (sym c.in_ok-push_row.ensures)
    (zip_more Is (take i sizes) c.loop-size.rows.items (slice_index_or sizes i none) c.in_ok-row.row c.loop-size.invariant c.in_ok-row.ensures.row))
