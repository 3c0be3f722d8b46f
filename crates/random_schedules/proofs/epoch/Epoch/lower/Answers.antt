use Rattle.std.proofs.Common.{◌≡◌, ◌<◌, ◌+◌, ◌∙◌, length, sym, ap, arith}
use Rattle.std.specs.Prelude.{slice_index_or}
use Rattle.random_schedules.specs.declared.epoch.Segment.{Segment}
use Rattle.random_schedules.specs.Epochs.{EpochModel, cut_at, segment}
use Rattle.random_schedules.proofs.Lowering.{cut_length, lowered_here, lowered_nowhere, lowered_past}
use Rattle.random_schedules.proofs.epoch.Epoch.lower.Goals as goal

pub returns-then-place-segment-clause-lowered : goal.returns-then-place-segment-clause-lowered
returns-then-place-segment-clause-lowered c =
    let i = c.loop-at.at in
    let xs = c.args.self.now.segments in
    let first : Segment = slice_index_or c.deref.result.now i (segment 0 0) in
    let are : c.deref.result.now ≡ xs =
    c.deref.ensures.0 ∙ ap (λ (e : EpochModel). e.segments) (c.self-in-loop-at.view_is ∙ c.loop-at.invariant.same) in
    let less : i < length xs = (let test = c.loop-at-test.true in let end = c.len-at-end.ensures.value in
    let same = ap (λ (e : EpochModel). length e.segments) c.self.view_is in omega (arith, test, end, same)) in
    c.cut.ensures
    ∙ ap (λ (e : EpochModel). record { segments = cut_at i first (c.loop-at.place + 1) e.segments; state = e.state }) c.loop-at.invariant.same
    ∙ ap (λ ys. record { segments = ys; state = c.args.self.now.state })
    (sym (lowered_here xs i c.loop-at.place first less (ap (λ ys. slice_index_or ys i (segment 0 0)) are) c.if-place-segment.true)
    ∙ sym c.loop-at.invariant.rest)

pub returns-then-place-segment-clause-longer : goal.returns-then-place-segment-clause-longer
returns-then-place-segment-clause-longer c =
    let first : Segment = slice_index_or c.deref.result.now c.loop-at.at (segment 0 0) in
    (let cut = ap (λ (e : EpochModel). length e.segments) c.cut.ensures in
    let same = ap (λ (e : EpochModel). length e.segments) c.loop-at.invariant.same in
    let one = cut_length c.loop-at.self.segments c.loop-at.at (c.loop-at.place + 1) first in
    omega (arith, cut, same, one))

pub loop-at-preserved : goal.loop-at-preserved
loop-at-preserved c =
    let i = c.loop-at.at in
    let xs = c.args.self.now.segments in
    let first : Segment = slice_index_or c.deref.result.now i (segment 0 0) in
    let are : c.deref.result.now ≡ xs =
    c.deref.ensures.0 ∙ ap (λ (e : EpochModel). e.segments) (c.self-in-loop-at.view_is ∙ c.loop-at.invariant.same) in
    let less : i < length xs = (let test = c.loop-at-test.true in let end = c.len-at-end.ensures.value in
    let same = ap (λ (e : EpochModel). length e.segments) c.self.view_is in omega (arith, test, end, same)) in
    record {
      same = c.loop-at.invariant.same;
      rest = c.loop-at.invariant.rest
          ∙ lowered_past xs i c.loop-at.place first less (ap (λ ys. slice_index_or ys i (segment 0 0)) are) c.if-place-segment.false;
    }

pub returns-clause-lowered : goal.returns-clause-lowered
returns-clause-lowered c =
    let xs = c.args.self.now.segments in
    let all : c.loop-at.at ≡ length xs = (let test = c.loop-at-test.false in let most = c.loop-at.auto.at-end in let end = c.len-at-end.ensures.value in
    let same = ap (λ (e : EpochModel). length e.segments) c.self.view_is in omega (arith, test, most, end, same)) in
    c.loop-at.invariant.same
    ∙ ap (λ ys. record { segments = ys; state = c.args.self.now.state })
    (sym (lowered_nowhere xs c.loop-at.at c.loop-at.place all) ∙ sym c.loop-at.invariant.rest)
