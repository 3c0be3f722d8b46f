use Rattle.std.proofs.Common.{◌≡◌, ◌∙◌, ap, sym, subst, refl, arith}
use Rattle.std.specs.Prelude.{slice_index}
use Rattle.state_store.specs.Placed.{IsGoingOn}
use Rattle.state_store.specs.StateTables.{placed_at, setting_at}
use Rattle.state_store.proofs.Spinners.{spins_if, spins_only_if, none_more, none_repeated}
use Rattle.state_store.proofs.state_tables.StateTables.has_spinner.Goals as goal
use Rattle.state_store.proofs.state_tables.StateTables.has_spinner.Goals.{else-not-is_repeated-via-then-not-is_repeated+else-goes_on}
use Rattle.state_store.proofs.state_tables.StateTables.has_spinner.Goals.{else-not-is_repeated-via-else-not-is_repeated}

pub loop-p-init : goal.loop-p-init
loop-p-init g c = λ q below. absurd (omega (arith, below))

pub returns-then-goes_on : goal.returns-then-goes_on
returns-then-goes_on g c =
    let is : c.local_state.result.now ≡ placed_at c.args.self.now (slice_index c.args.row.now c.loop-p.p) =
    c.local_state.ensures ∙ ap (λ i. placed_at c.args.self.now (slice_index c.args.row.now i)) c.from.ensures in (
      λ _.
          spins_if c.args.extent c.args.code.now c.args.self.now c.args.row.now c.requires.row
          (c.dead_registers_can_be_forgotten.ensures.forgotten (setting_at c.args.extent) c.args.code.now c.args.self.now.live c.requires.live)
          c.loop-p.p (omega (arith, c.loop-p-test.true)) (subst (IsGoingOn c.args.code.now) is (c.if-goes_on.ensures.0 refl)),
      λ _. refl,
    )

pub loop-p-preserved : goal.loop-p-preserved
loop-p-preserved g c =
    let forgets = c.dead_registers_can_be_forgotten.ensures.forgotten (setting_at c.args.extent) c.args.code.now c.args.self.now.live c.requires.live in
    elim c.else-not-is_repeated.branch [
      | else-not-is_repeated-via-then-not-is_repeated+else-goes_on w ↦
          (let is : w.local_state.result.now ≡ placed_at c.args.self.now (slice_index c.args.row.now c.loop-p.p) =
          w.local_state.ensures ∙ ap (λ i. placed_at c.args.self.now (slice_index c.args.row.now i)) c.from.ensures in
          none_more c.args.extent c.args.code.now c.args.self.now c.args.row.now c.requires.row forgets c.loop-p.p c.loop-p.invariant
          (λ on. let both = w.if-goes_on.ensures.1 (subst (IsGoingOn c.args.code.now) (sym is) on) in absurd (cc)))
      | else-not-is_repeated-via-else-not-is_repeated w ↦
          none_repeated c.args.extent c.args.code.now c.args.self.now c.args.row.now c.requires.row forgets c.loop-p.p c.loop-p.invariant
          (w.if-not-is_repeated.ensures refl)
    ]

pub returns : goal.returns
returns g c = (
  λ no. absurd (cc),
  λ spins.
      let x = spins_only_if c.args.extent c.args.code.now c.args.self.now c.args.row.now c.requires.row
      (c.dead_registers_can_be_forgotten.ensures.forgotten (setting_at c.args.extent) c.args.code.now c.args.self.now.live c.requires.live)
      spins in
      let below = x.1 in
      absurd (c.loop-p.invariant x.0 (omega (arith, below, c.loop-p-test.false)) x.2),
)
