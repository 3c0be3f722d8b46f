use Rattle.std.proofs.Common.{◌≡◌, ◌+◌, ◌<◌, refl, sym, ap, subst, ◌∙◌, arith}
use Rattle.local_reduction.specs.Live.{is_live}
use Rattle.state_store.proofs.Clearing.{IsCleared, all_bare, cleared_on, kept_on, none_cleared}
use Rattle.state_store.proofs.local_state.LocalState.forget.Goals as goal
use Rattle.state_store.proofs.local_state.LocalState.forget.Goals.{then-not-has, else-not-has}

pub loop-number-init : goal.loop-number-init
loop-number-init c =
    subst (λ first. IsCleared c.args.live.now first c.pc-pc.result c.self.inside.core c.self.inside.console.items 1) c.self.view_is
    (none_cleared _ _ _ _ _ (record { setting = refl; kept = refl }) (sym c.pc-pc.ensures.value))

pub loop-number-preserved : goal.loop-number-preserved
loop-number-preserved c =
    let live = c.args.live.now in
    let is : c.new-register.result ≡ c.loop-number.number = c.new-register.ensures in
    let low : c.new-register.result < 32 = omega (arith, is, c.loop-number-test.true) in
    let high : 0 < c.new-register.result = omega (arith, is, c.loop-number.auto.number) in
    elim c.if-not-has.branch [
      | then-not-has w ↦
          subst (λ s. IsCleared live c.args.self.now c.pc-pc.result s.core s.console.items (c.loop-number.number + 1)) (sym w.self-inside-is)
          (subst (λ r. IsCleared live c.args.self.now c.pc-pc.result w.set_register.new.self c.loop-number.self-inside.console.items (r + 1)) is
          (cleared_on c.dead_registers_are_not_kept.ensures.not_kept live c.args.self.now c.pc-pc.result c.new-register.result
          c.loop-number.self-inside.core w.set_register.new.self c.loop-number.self-inside.console.items low
          (sym c.has.ensures ∙ w.if-not-has.true) (w.set_register.ensures.written high)
          (subst (IsCleared live c.args.self.now c.pc-pc.result c.loop-number.self-inside.core c.loop-number.self-inside.console.items) (sym is)
          c.loop-number.invariant)))
      | else-not-has w ↦
          subst (λ s. IsCleared live c.args.self.now c.pc-pc.result s.core s.console.items (c.loop-number.number + 1)) (sym w.self-inside-is)
          (kept_on live c.args.self.now c.pc-pc.result c.loop-number.number c.loop-number.self-inside.core c.loop-number.self-inside.console.items
          (ap (is_live live c.pc-pc.result) (sym is) ∙ (sym c.has.ensures ∙ w.if-not-has.false)) c.loop-number.invariant)
    ]

pub returns-clause-bare : goal.returns-clause-bare
returns-clause-bare c = all_bare _ _ _ _ _ c.loop-number.number (omega arith) c.loop-number.invariant
