use Rattle.std.proofs.Common.{◌≡◌, subst, arith}
use Rattle.local_reduction.proofs.Tables.{HasLiveInWords, all_live}
use Rattle.local_reduction.proofs.table.LiveTable.is_right.Goals as goal

pub returns : goal.returns
returns c _ =
    let all : c.loop-word.word ≡ 16384 = omega (arith, c.loop-word-test.false, c.loop-word.auto.word-end) in
    all_live c.args.code.now c.args.self.now (subst (HasLiveInWords c.args.code.now c.args.self.now) all c.loop-word.invariant)
