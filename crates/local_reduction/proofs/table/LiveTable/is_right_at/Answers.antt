use Rattle.std.proofs.Common.{◌≡◌, sym, subst, ◌∙◌, arith}
use Rattle.local_reduction.proofs.Tables.{HasLiveBelow, all_at}
use Rattle.local_reduction.proofs.table.LiveTable.is_right_at.Goals as goal

pub returns : goal.returns
returns c _ =
    let all : c.loop-number.number ≡ 32 = omega (arith, c.loop-number-test.false, c.loop-number.auto.number-end) in
    all_at c.args.code.now c.args.self.now c.args.pc c.in-Ok.insn (sym c.fetch.ensures ∙ c.in-Ok.is)
    (subst (HasLiveBelow c.args.self.now c.args.pc c.in-Ok.insn) all c.loop-number.invariant)
