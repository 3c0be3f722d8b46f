use Rattle.std.proofs.Common.{◌≡◌, ℕ, List, length, Some, slice_get, get_or, sym, ◌∙◌, ap, subst, arith, below_more}
use Rattle.std.proofs.lemmas.Option.{slice_get_within}
use Rattle.steps.specs.declared.step.Step.{Step}
use Rattle.machine_lock.specs.declared.row.PassState.{PassState}
use Rattle.machine_lock.specs.Rows.{Fits}
use Rattle.machine_lock.specs.Passes.{Held}
use Rattle.machine_lock.proofs.Fitting.{set_back, get_is, rows_are}
use Rattle.machine_lock.proofs.Totals.{totals_agree}
use Rattle.machine_lock.proofs.shared.Shared.gather.Goals as goal

pub loop-pass-preserved : goal.loop-pass-preserved
loop-pass-preserved g c =
    let i = c.loop-pass.invariant in
    let m = c.sync_row.ensures in
    let items = c.deref_mut-pass-items.result.now in
    let at = c.loop-pass.pass-index in
    let x = c.pass-item.result in
    let here : (h : Held) → slice_get items at ≡ Some h → slice_get c.into_inner-locked_state.result.rows h.processor ≡ Some h.row = λ h e.
    let v = get_is items at x h e in
    let same = ap (λ (xs : List Held). get_or xs at x) (sym i.1) in
    subst (λ (y : List PassState × Held). slice_get y.0 y.1.processor ≡ Some y.1.row) (λ n. (ap (λ s. s.rows) i.0 n, (sym same ∙ sym v) n)) m.agrees in (
      m.same.1 ∙ i.0,
      set_back c.loop-pass.pass-items at x c.sync_row.new.pass (let s = c.loop-pass.auto.pass-items in omega arith) m.same.0 ∙ i.1,
      λ k h lt e. below_more (λ k. (h : Held) → slice_get items k ≡ Some h →
          slice_get c.into_inner-locked_state.result.rows h.processor ≡ Some h.row) at (λ k lt h e. i.2 k h lt e) here k lt h e,
    )

pub returns-clause-fits : goal.returns-clause-fits
returns-clause-fits g c =
    let i = c.loop-pass.invariant in
    let f = c.into_logged.ensures.fits in
    let items = c.args.passes.items in
    let value = c.deref_mut-pass-items.ensures.value in
    let rows = ap (λ s. s.rows) i.0 in
    let many : length c.into_inner-locked_state.result.rows ≡ length items = ap length (sym rows) ∙ f.fits.many ∙ sym c.requires.many in
    let are = rows_are c.into_inner-locked_state.result.rows items many (λ k h e.
    let e' : slice_get c.deref_mut-pass-items.result.now k ≡ Some h = ap (λ (xs : List Held). slice_get xs k) value ∙ e in
    let own = c.requires.own k h e in
    let less = slice_get_within items k h e in
    let same = ap length value in
    subst (λ (n : ℕ). slice_get c.into_inner-locked_state.result.rows n ≡ Some h.row) own (i.2 k h (omega arith) e')) in
    subst (λ (x : List Step × List PassState). Fits g.N.Run.opening g.N.Run.first g.N.Run.count x.0 x.1)
    (λ n. (sym (ap (λ l. l.steps) c.into_logged.ensures.log) n, (rows ∙ are) n)) f.fits

pub returns-clause-totals : goal.returns-clause-totals
returns-clause-totals g c =
    totals_agree g.N.Run.opening g.N.Run.first g.N.Run.count c.into_logged.result.steps c.args.passes.items c.requires (returns-clause-fits g c)
