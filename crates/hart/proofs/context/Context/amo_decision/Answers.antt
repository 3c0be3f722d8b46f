use Rattle.std.proofs.Common.{◌≡◌, ℕ, ◌+◌, ◌%◌, ◌^◌, ◌<◌, ◌≤◌, true, Ok, refl, sym, ◌∙◌, arith}
use Rattle.flat_machine.specs.declared.effect.Region.TheVariants as region
use Rattle.flat_machine.specs.Memory.{region_of}
use Rattle.flat_machine.specs.Operations.{amo_value}
use Rattle.hart.proofs.References.{whole_change}
use Rattle.hart.proofs.context.Context.amo_decision.Goals as goal

pub returns-in-Ok-Shared-clause-turn : goal.returns-in-Ok-Shared-clause-turn
returns-in-Ok-Shared-clause-turn c = λ code local insn rd.
    let there : region_of c.args.self.now.setting 4 c.args.address true ≡ Ok (region.Shared c.in-Ok-Shared.word) = cc in
    let inside : c.args.address % 4 + 4 ≤ 4 = rw c.in-Ok-Shared.field-0-is at c.in-Ok-Shared.ensures.inside in
    let change : ℕ → ℕ = λ old. amo_value c.args.op old c.args.value in
    rw there (
      refl,
      λ (x : ℕ) (h : x < 2 ^ 32). c.amo.ensures.meaning x h
          ∙ sym (whole_change change (c.args.address % 4) x (omega arith) h (c.amo.ensures.in_range x h)),
    )
