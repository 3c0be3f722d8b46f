use Rattle.std.proofs.Common.{◌+◌, ◌-◌, ◌*◌, ◌≤◌, ◌<◌, ◌++◌, [], ◌∷◌, length, refl, sym, ap, ◌∙◌, subst, inl, inr, arith}
use Rattle.processor_threads.specs.declared.tally.Tally.{Tally}
use Rattle.processor_threads.specs.Rounds.{tally_after}
use Rattle.processor_threads.proofs.Counting.{few_more, fewer_left, fresh_after, one_call_more, room_kept, used_up}
use Rattle.processor_threads.proofs.worker.Worker.rounds.Goals as goal

-- The budget is used up.
pub returns-clause-ran : goal.returns-clause-ran
returns-clause-ran g c =
    let i = c.loop-tally.invariant in
    let below = i.counted in
    let over = c.loop-tally-test.false in
    record {
      calls = i.gone_on.0;
      between = _;
      gone_on = i.gone_on.1;
      ends = inl (refl, omega (arith, below, over), refl);
    }

-- The thread is cancelled.
pub returns-then-is_cancelled-clause-ran : goal.returns-then-is_cancelled-clause-ran
returns-then-is_cancelled-clause-ran g c =
    let i = c.loop-tally.invariant in
    record {
      calls = i.gone_on.0;
      between = _;
      gone_on = i.gone_on.1;
      ends = inr (inl (refl, c.loop-tally-test.true, refl));
    }

-- A call has a fault.
pub returns-in-Err-clause-ran : goal.returns-in-Err-clause-ran
returns-in-Err-clause-ran g c =
    let i = c.loop-tally.invariant in
    record {
      calls = i.gone_on.0;
      between = _;
      gone_on = i.gone_on.1;
      ends = inr (inr (c.loop-tally-test.true, (_, c.in-Err.ensures.goes)));
    }

-- A call has stopped the processor.
pub returns-then-done-clause-ran : goal.returns-then-done-clause-ran
returns-then-done-clause-ran g c =
    let i = c.loop-tally.invariant in
    record {
      calls = i.gone_on.0;
      between = _;
      gone_on = i.gone_on.1;
      below = c.loop-tally-test.true;
      last = c.in-Ok.done;
      left = _;
      stops = c.if-done.true;
      goes = c.in-Ok.ensures.goes;
    }

pub loop-tally-preserved : goal.loop-tally-preserved
loop-tally-preserved g c =
    let i = c.loop-tally.invariant in
    let t = c.loop-tally.tally in
    let done = c.in-Ok.done in
    let e = c.in-Ok.ensures in
    let left = c.go_on.new.buffer in
    let lets = c.is_empty-lets_run in
    let budget = c.args.context.now.budget in
    let most = budget - t.counted in
    let more = few_more t done lets.result most e.rounds in
    let few = e.rounds.few in
    let test = c.loop-tally-test.true in
    let sum : (tally_after t done lets.result).counted ≤ budget = omega (arith, more, few, test) in
    let turns = i.turns in
    let taken = e.turns in
    record {
      processor = e.processor ∙ i.processor;
      queue = e.queue ∙ i.queue;
      turns = omega (arith, turns, taken);
      counted = subst (λ (x : Tally). x.counted ≤ budget) (sym c.count.ensures) sum;
      room = subst (λ (x : Tally). c.loop-tally.gone + done.rounds + length left ≤ 512 * x.counted) (sym c.count.ensures)
          (room_kept t done lets.result most e.rounds c.loop-tally.gone c.loop-tally.buffer left e.left i.fresh i.room);
      fresh = λ none. ap (λ (x : Tally). x.idle) c.count.ensures ∙ fresh_after t.idle lets.result done.idle left lets.ensures none;
      reported = c.report_if_due-reported.ensures;
      gone_on = (
        i.gone_on.0 ++ done ∷ [],
        one_call_more _ _ budget _ _ _ i.gone_on.0 done i.gone_on.1 test c.if-done.false e.goes
            (c.count.ensures ∙ ap (λ b. tally_after t done b) (used_up lets.result left lets.ensures)),
      );
    }

pub loop-tally-smaller : goal.loop-tally-smaller
loop-tally-smaller g c =
    let i = c.loop-tally.invariant in
    let t = c.loop-tally.tally in
    let e = c.in-Ok.ensures in
    let budget = c.args.context.now.budget in
    let most = budget - t.counted in
    let more = few_more t c.in-Ok.done c.is_empty-lets_run.result most e.rounds in
    let few = e.rounds.few in
    let test = c.loop-tally-test.true in
    let sum : (tally_after t c.in-Ok.done c.is_empty-lets_run.result).counted ≤ budget = omega (arith, more, few, test) in
    subst (λ (x : Tally). (budget - x.counted) * 513 + length c.go_on.new.buffer < (budget - t.counted) * 513 + length c.loop-tally.buffer)
    (sym c.count.ensures)
    (fewer_left t c.in-Ok.done c.is_empty-lets_run.result most e.rounds budget c.loop-tally.buffer c.go_on.new.buffer e.left i.fresh i.counted sum)
