use Rattle.std.proofs.Common.{◌≡◌, ◌<◌, [], Some, length, sym, ap, subst, ◌∙◌, arith}
use Rattle.std.specs.Prelude.{slice_get, slice_set}
use Rattle.local_reduction.specs.Closing.{ReachesMacroState}
use Rattle.local_reduction.specs.Forgetting.{kept_by}
use Rattle.state_store.specs.Opening.{flat_of}
use Rattle.state_store.specs.StateTables.{IsRow, means, setting_at}
use Rattle.state_store.proofs.Listed.{there}
use Rattle.state_store.proofs.Growing.{kept_on}
use Rattle.state_store.proofs.Opened.{AreOpened, opened_on, first_row, first_reaches}
use Rattle.state_store.proofs.state_tables.StateTables.open.Goals as goal

pub loop-p-preserved : goal.loop-p-preserved
loop-p-preserved g c =
    let within : c.loop-p.p < length c.args.cores.now = omega arith in
    let here : slice_get c.args.cores.now c.loop-p.p ≡ Some c.index-cores-p.result =
    there c.args.cores.now c.loop-p.p c.index-cores-p.result within ∙ ap Some (sym c.index-cores-p.is) in
    record {
      kept = kept_on _ _ _ c.loop-p.invariant.kept c.in_ok-row.ensures.kept;
      opened = opened_on c.args.extent.exchanged c.args.code.now c.args.cores.now c.loop-p.self c.open_local_state.new.self c.loop-p.row c.loop-p.p
          c.in_ok-row.field-0
          c.index-cores-p.result within here c.in_ok-row.ensures.kept c.loop-p.invariant.opened c.in_ok-row.ensures.opened;
    }

pub returns-clause-row : goal.returns-clause-row
returns-clause-row g c =
    let all : c.loop-p.p ≡ length c.args.cores.now = omega arith in
    subst (λ i. IsRow c.args.extent c.words_number.new.self (slice_set c.loop-p.row i c.in_ok-row-2.field-0)) (sym c.from.ensures)
    (first_row c.args.extent c.args.code.now c.args.cores.now c.args.words c.loop-p.self c.words_number.new.self c.loop-p.row c.in_ok-row-2.field-0
    c.requires.cores c.requires.words c.in_ok-row-2.ensures.kept
    (subst (AreOpened c.args.extent.exchanged c.args.code.now c.args.cores.now c.loop-p.self c.loop-p.row) all c.loop-p.invariant.opened)
    c.in_ok-row-2.ensures.there c.in_ok-row-2.ensures.same)

pub returns-clause-reaches : goal.returns-clause-reaches
returns-clause-reaches g c =
    let all : c.loop-p.p ≡ length c.args.cores.now = omega arith in
    subst (λ i. ReachesMacroState (setting_at c.args.extent) c.args.code.now (kept_by c.words_number.new.self.live)
    (flat_of c.args.code.now c.args.cores.now c.args.words) (λ k. [])
    (means c.args.extent c.words_number.new.self (slice_set c.loop-p.row i c.in_ok-row-2.field-0))) (sym c.from.ensures)
    (first_reaches c.args.extent c.args.code.now c.args.cores.now c.args.words c.loop-p.self c.words_number.new.self c.loop-p.row c.in_ok-row-2.field-0
    c.requires.cores c.requires.words c.in_ok-row-2.ensures.kept
    (subst (AreOpened c.args.extent.exchanged c.args.code.now c.args.cores.now c.loop-p.self c.loop-p.row) all c.loop-p.invariant.opened)
    c.in_ok-row-2.ensures.there c.in_ok-row-2.ensures.same)
