use Rattle.std.proofs.Common.{◌≡◌, suc, ◌+◌, [], ◌∙◌, sym, ap, subst, arith}
use Rattle.flat_machine.specs.declared.config.Config.{Config}
use Rattle.machine_steps.specs.machine_theory.Steps.{outcome_of}
use Rattle.machine_steps.specs.Machines.{machine_of}
use Rattle.machine_steps.specs.omega_network.Networks.{net_of}
use Rattle.machine_steps.proofs.Lemmas.{turn_stalls, up_stalls, serve_stalls, down_stalls}
use Rattle.machine_lock.proofs.stalling.would_stall.Goals as goal

pub returns-then-is_open : goal.returns-then-is_open
returns-then-is_open c e =
    let m = c.args.machine.now in
    ap (outcome_of m.config m.code (machine_of m (λ p. []))) c.in-Turn.is
    ∙ turn_stalls m c.in-Turn.p (sym c.is_open.ensures ∙ c.if-is_open.true) (c.has_no_reply.ensures e)

pub returns-in-Up : goal.returns-in-Up
returns-in-Up c e =
    let m = c.args.machine.now in
    ap (outcome_of m.config m.code (machine_of m (λ p. []))) c.in-Up.is ∙ up_stalls m c.in-Up.stage c.in-Up.wire (c.has_no_request.ensures e)

pub returns-in-Serve : goal.returns-in-Serve
returns-in-Serve c e =
    let m = c.args.machine.now in
    ap (outcome_of m.config m.code (machine_of m (λ p. []))) c.in-Serve.is
    ∙ serve_stalls m c.in-Serve.m
    (subst (λ (d : Config). (net_of m.network).requests d.k c.in-Serve.m ≡ []) c.config.ensures.config (c.has_no_request-in-Serve.ensures e))

pub returns-in-Down : goal.returns-in-Down
returns-in-Down c e =
    let m = c.args.machine.now in
    let depth : c.in-Down.stage + 1 ≡ suc c.in-Down.stage = omega arith in
    ap (outcome_of m.config m.code (machine_of m (λ p. []))) c.in-Down.is
    ∙ down_stalls m c.in-Down.stage c.in-Down.wire (subst (λ d. (net_of m.network).replies d c.in-Down.wire ≡ []) depth (c.has_no_reply-in-Down.ensures e))
