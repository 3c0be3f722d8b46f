use Rattle.std.proofs.Common.{◌≡◌, true, refl, sym, ap, ◌∙◌, arith}
use Rattle.std.specs.Prelude.{slice_index}
use Rattle.flat_machine.specs.State.{is_running}
use Rattle.state_search.specs.state_store.Placed.{Placed}
use Rattle.state_search.specs.state_store.StateTables.{placed_at}
use Rattle.exploration.proofs.Endings.{all_stopped, one_runs}
use Rattle.exploration.proofs.ending.has_stopped.Goals as goal

pub returns-then-is_running : goal.returns-then-is_running
returns-then-is_running g c =
    let is : c.local_state.result.now ≡ placed_at c.args.state_tables.now (slice_index c.args.row.now c.loop-p.p) =
    c.local_state.ensures ∙ ap (λ i. placed_at c.args.state_tables.now (slice_index c.args.row.now i)) c.from.ensures in
    let runs : is_running (placed_at c.args.state_tables.now (slice_index c.args.row.now c.loop-p.p)).local_state.processor.status ≡ true =
    ap (λ (a : Placed). is_running a.local_state.processor.status) (sym is) ∙ (sym c.is_running.ensures ∙ c.if-is_running.true) in
    (λ t. absurd (cc), λ h. absurd (one_runs c.args.extent c.args.state_tables.now c.args.row.now c.loop-p.p c.loop-p-test.true runs h))

pub returns : goal.returns
returns g c =
    (λ t. all_stopped c.args.extent c.args.state_tables.now c.args.row.now (λ p few. c.loop-p.invariant.stopped p (omega (arith, few))), λ h. refl)
