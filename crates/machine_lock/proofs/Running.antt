-- A loan begins, and goes on.
use Rattle.std.proofs.Common.{◌≡◌, ℕ, ◌≤◌, List, [], ◌∷◌, ◌++◌, length, sym, ap, ◌∙◌, subst, arith}
use Rattle.flat_machine.specs.declared.event.Retired.{Retired}
use Rattle.flat_machine.specs.declared.setting.Setting.{Setting}
use Rattle.flat_machine.specs.State.{Processor}
use Rattle.hart.specs.State.{CoreState}
use Rattle.hart.specs.LocalRuns.{HasRunLocally, RetirementList, TakesLocal}
use Rattle.hart.specs.declared.run.LocalEnd.{LocalEnd}
use Rattle.machine_log.specs.declared.lent.Lent.{Lent}
use Rattle.machine_lock.specs.Passes.{IsLoan}

-- Local instructions, and then more of them, are local instructions in all.
takes_more : (s : Setting) (code : List ℕ) (a b d : Processor) (first more : List Retired) → TakesLocal s code a first b → TakesLocal s code b more d →
    TakesLocal s code a (first ++ more) d
takes_more s code a b d [] more one two = subst (λ x. TakesLocal s code x more d) one two
takes_more s code a b d (retired ∷ later) more (next, here, rest) two = (next, here, takes_more s code next b d later more rest two)

-- A core on loan that has run further by itself, and has retired no more than it may, is still on loan.
pub loan_goes_on : (code : List ℕ) (l : Lent) (old new : CoreState) (before after : RetirementList) (end : LocalEnd) → IsLoan code l old before →
    HasRunLocally code old new before after end → length after.items ≤ after.most → before.most ≡ l.most → IsLoan code l new after
loan_goes_on code l old new before after end is run few most = record {
  turns = subst (λ items. TakesLocal l.core.setting code l.core.state items new.state) (sym run.listed)
      (takes_more l.core.setting code l.core.state old.state new.state before.items run.taken is.turns
      (subst (λ s. TakesLocal s code old.state run.taken new.state) is.setting run.turns));
  setting = run.setting ∙ is.setting;
  few = subst (λ n. length after.items ≤ n) (run.most ∙ most) few;
}

-- A core that is as it was lent, and has retired nothing, is on loan.
pub loan_begins : (code : List ℕ) (l : Lent) (core : CoreState) (retired : RetirementList) → retired.items ≡ [] → core ≡ l.core → IsLoan code l core retired
loan_begins code l core retired none same = record {
  turns = subst (λ items. TakesLocal l.core.setting code l.core.state items core.state) (sym none) (ap (λ (c : CoreState). c.state) same);
  setting = ap (λ (c : CoreState). c.setting) same;
  few = subst (λ items. length items ≤ l.most) (sym none) (omega arith);
}
