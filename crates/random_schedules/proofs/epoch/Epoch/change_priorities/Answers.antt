use Rattle.std.proofs.Common.{ap, length, refl, arith}
use Rattle.random_schedules.specs.Epochs.{EpochModel, with_changes}
use Rattle.random_schedules.proofs.Drawing.{changed_more}
use Rattle.random_schedules.proofs.epoch.Epoch.change_priorities.Goals as goal

pub loop-change-init : goal.loop-change-init
unfolding with_changes
loop-change-init c = record { epoch = refl; few = omega arith }

pub loop-change-preserved : goal.loop-change-preserved
loop-change-preserved c = record {
  epoch = changed_more c.args.turns c.loop-change._change c.advance.result c.args.self.now c.loop-change.self c.advance.new.self c.lower.new.self
      c.loop-change.invariant.epoch c.advance.ensures.state c.advance.ensures.kept c.lower.ensures.lowered;
  few = (let before = c.loop-change.invariant.few in let more = c.lower.ensures.longer in
      let same = ap (λ (e : EpochModel). length e.segments) c.advance.ensures.kept in omega (arith, before, more, same));
}
