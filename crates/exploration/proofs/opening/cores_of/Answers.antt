use Rattle.std.proofs.Common.{◌≡◌, ℕ, ◌∷◌, [], ◌++◌, map, sym, ap, ◌∙◌, arith}
use Rattle.std.specs.List.{range_with_len}
use Rattle.std.proofs.lemmas.List.FromFn.{map-range_with_len_more}
use Rattle.hart.specs.State.{CoreState}
use Rattle.machine_steps.specs.machine_theory.Processors.{port_at}
use Rattle.machine_steps.specs.Machines.{is_there}
use Rattle.exploration.proofs.Exploring.{picked}
use Rattle.exploration.proofs.opening.cores_of.Goals as goal

pub loop-p-preserved : goal.loop-p-preserved
loop-p-preserved c =
    let core : ℕ → CoreState = λ q. (port_at c.args.machine.now.ports q).core in
    let is : c.in-Some.core.now ≡ core c.loop-p.p =
    picked (is_there c.args.machine.now c.loop-p.p) c.in-Some.core.now (core c.loop-p.p) c.in-Some.ensures.value in
    c.in_ok-push-in-Some.ensures.items
    ∙ (ap (λ xs. xs ++ c.in_ok-copy-in-Some.field-0 ∷ []) c.loop-p.invariant
    ∙ (ap (λ x. map core (range_with_len 0 c.loop-p.p) ++ x ∷ []) (c.in_ok-copy-in-Some.ensures ∙ is)
    ∙ sym (map-range_with_len_more core 0 c.loop-p.p c.loop-p.p (omega arith))))
