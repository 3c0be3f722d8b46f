use Rattle.std.proofs.Common.{◌≡◌, ◌+◌, ◌∙◌, ap, ap₂, length, arith}
use Rattle.std.specs.Prelude.{◌%◌, insert}
use Rattle.random_schedules.specs.Epochs.{EpochModel, segment, shuffled}
use Rattle.random_schedules.proofs.Drawing.{shuffled_more}
use Rattle.random_schedules.proofs.epoch.Epoch.shuffle.Goals as goal

pub loop-processor-init : goal.loop-processor-init
unfolding shuffled
loop-processor-init c = record {
  epoch = ap₂ (λ xs x. record { segments = xs; state = x }) c.clear.ensures (ap (λ (e : EpochModel). e.state) c.self.view_is);
  count = ap length c.clear.ensures;
}

pub loop-processor-preserved : goal.loop-processor-preserved
loop-processor-preserved c =
    let old = c.loop-processor.self in
    let is = c.self-in-loop-processor.view_is ∙ c.advance.ensures.kept in
    let seen : c.self-in-loop-processor.inside.segments.items ≡ old.segments = ap (λ (e : EpochModel). e.segments) is in
    let state : c.self-in-loop-processor.inside.state ≡ c.advance.result = ap (λ (e : EpochModel). e.state) is in
    record {
      epoch = shuffled_more c.args.turns c.args.self.now.state c.loop-processor.processor c.advance.result old _ c.loop-processor.invariant.epoch
          c.advance.ensures.state
          (c.insert.ensures.items ∙ ap₂ (λ xs n. insert xs (c.advance.result % (n + 1)) (segment c.loop-processor.processor c.args.turns)) seen c.from.ensures)
          state;
      count = (let len = c.insert.ensures.len in let before = c.loop-processor.invariant.count in let same = ap length seen in
          omega (arith, len, before, same));
    }
