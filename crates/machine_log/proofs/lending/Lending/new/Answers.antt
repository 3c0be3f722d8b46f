use Rattle.std.proofs.Common.{◌≡◌, ◌∙◌, ◌^◌, None, replicate, sym, ap, subst, arith}
use Rattle.std.specs.Vec.{vec_capacity}
use Rattle.flat_machine.specs.declared.config.Config.{Config}
use Rattle.machine_steps.specs.Machines.{MachineLists}
use Rattle.machine_log.specs.Logs.{IsWellFormed}
use Rattle.machine_log.specs.Lendings.{IsLending, promised, whole}
use Rattle.machine_log.proofs.Backing.{none_promised}
use Rattle.machine_log.proofs.Stepping.{lends_none, whole_none}
use Rattle.machine_log.proofs.lending.Lending.new.Goals as goal

pub invariant_of-result : goal.invariant_of-result
invariant_of-result c =
    let parts = c.into_parts-machine.ensures in
    let made = c.into_parts-machine.result in
    let n = c.loop.counter in
    let size = c.config.ensures.config ∙ ap (λ (m : MachineLists). m.config) (c.machine.ensures.machine ∙ sym parts.machine) in
    let all : n ≡ 2 ^ made.0.config.k = omega (arith, c.loop-test.false, c.loop.auto.counter-end)
    ∙ c.processors-count.ensures ∙ ap (λ (s : Config). 2 ^ s.k) size in
    let kept = subst IsWellFormed (λ i. record { opening = sym parts.opening i; steps = sym parts.steps i; machine = sym parts.machine i }) parts.kept in
    subst (λ lent. IsLending made.2.value made.0 made.1.items (vec_capacity made.1) lent × (0 ≡ promised lent)) (sym c.loop.invariant.0)
    (lends_none made.2.value made.0 made.1.items (vec_capacity made.1) n kept all, sym (none_promised n))

pub returns-clause-lending : goal.returns-clause-lending
returns-clause-lending c =
    let parts = c.into_parts-machine.ensures in
    let made = c.into_parts-machine.result in
    let n = c.loop.counter in
    let size = c.config.ensures.config ∙ ap (λ (m : MachineLists). m.config) c.machine.ensures.machine in
    let all : n ≡ 2 ^ c.args.logged.machine.config.k =
    omega (arith, c.loop-test.false, c.loop.auto.counter-end) ∙ c.processors-count.ensures ∙ ap (λ (s : Config). 2 ^ s.k) size in
    let machine = ap (whole made.0) c.loop.invariant.0 ∙ whole_none made.0 n ∙ parts.machine in
    let lent = c.loop.invariant.0 ∙ ap (λ n. replicate n None) all in
    λ i. record { log = record { opening = parts.opening i; steps = parts.steps i; machine = machine i }; lent = lent i }
