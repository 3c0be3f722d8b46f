use Rattle.std.proofs.Common.{arith, ◌++◌, ◌∙◌, [], length, take, drop, refl, sym}
use Rattle.debug_session.proofs.Talking.{fed_more, fed_part, goes_and_stops, goes_both, goes_none, goes_one, goes_quietly, stops_at_quit, stops_at_write}
use Rattle.debug_session.specs.declared.session_end.SessionEnd.TheVariants.{Quit, WriteFailed}
use Rattle.debug_session.proofs.serving.serve_piece.Goals as goal

pub loop-rest-init : goal.loop-rest-init
loop-rest-init g c = (c.requires.writes, c.requires.idle, ([], refl, goes_none _ _ _ _))

pub returns-in-Ok-true-clause-stops : goal.returns-in-Ok-true-clause-stops
returns-in-Ok-true-clause-stops g c =
    let w = c.loop-rest.invariant.2 in
    let reads = rw c.in-Some.is at c.feed-count.ensures.events in
    let fact = c.in-Ok-true.ensures.answered in
    let quits = sym c.in-Ok-true.ensures.quits ∙ c.in-Ok-true.field-0-test in
    let fed = take c.feed-count.result.0 c.loop-rest.rest.now in
    record {
      input = w.0 ++ fed;
      unread = drop c.feed-count.result.0 c.loop-rest.rest.now;
      all = fed_part c.args.piece.now w.0 c.loop-rest.rest.now c.feed-count.result.0 w.1;
      stops = goes_and_stops _ _ _ _ _ _ _ _ _ _ w.0 fed Quit w.2
          (stops_at_quit _ _ _ _ _ _ _ fed c.in-Some.event fact.reply reads fact.answers quits fact.wrote);
    }

pub loop-rest-preserved-in-Ok-false : goal.loop-rest-preserved-in-Ok-false
loop-rest-preserved-in-Ok-false g c =
    let w = c.loop-rest.invariant.2 in
    let reads = rw c.in-Some.is at c.feed-count.ensures.events in
    let fact = c.in-Ok-false.ensures.answered in
    let goes_on = sym c.in-Ok-false.ensures.quits ∙ c.in-Ok-false.field-0-test in
    let fed = take c.feed-count.result.0 c.loop-rest.rest.now in (
      c.in-Ok-false.ensures.failed,
      c.in-Ok-false.ensures.idle,
      (
        w.0 ++ fed,
        fed_more c.args.piece.now w.0 c.loop-rest.rest.now c.feed-count.result.0 (length c.loop-rest.rest.now) (omega arith) w.1,
        goes_both _ _ _ _ _ _ _ _ _ _ w.0 fed w.2
            (goes_one _ _ _ _ _ _ _ fed c.in-Some.event fact.reply reads fact.answers goes_on fact.wrote),
      ),
    )

pub returns-in-Err-clause-stops : goal.returns-in-Err-clause-stops
returns-in-Err-clause-stops g c =
    let w = c.loop-rest.invariant.2 in
    let reads = rw c.in-Some.is at c.feed-count.ensures.events in
    let fact = c.in-Err.ensures.cut in
    let fed = take c.feed-count.result.0 c.loop-rest.rest.now in
    record {
      input = w.0 ++ fed;
      unread = drop c.feed-count.result.0 c.loop-rest.rest.now;
      all = fed_part c.args.piece.now w.0 c.loop-rest.rest.now c.feed-count.result.0 w.1;
      stops = goes_and_stops _ _ _ _ _ _ _ _ _ _ w.0 fed WriteFailed w.2
          (stops_at_write _ _ _ _ _ _ _ fed c.in-Some.event fact.reply reads fact.answers fact.wrote);
    }

pub loop-rest-preserved : goal.loop-rest-preserved
loop-rest-preserved g c =
    let w = c.loop-rest.invariant.2 in
    let reads = rw c.in_default.is at c.feed-count.ensures.events in
    let fed = take c.feed-count.result.0 c.loop-rest.rest.now in (
      c.loop-rest.invariant.0,
      c.loop-rest.invariant.1,
      (
        w.0 ++ fed,
        fed_more c.args.piece.now w.0 c.loop-rest.rest.now c.feed-count.result.0 (length c.loop-rest.rest.now) (omega arith) w.1,
        goes_both _ _ _ _ _ _ _ _ _ _ w.0 fed w.2 (goes_quietly _ _ _ _ _ fed reads),
      ),
    )
