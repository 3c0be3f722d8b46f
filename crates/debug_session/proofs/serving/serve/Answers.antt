use Rattle.std.proofs.Common.{rules, arith, ◌++◌, [], take, refl}
use Rattle.std.proofs.KnownBytes.{Consumes-kept, Consumes-nil, Consumes-trans}
use Rattle.debug_session.proofs.Talking.{ends_at_event, ends_at_reader, goes_and_stops, goes_both, goes_none, has_served, served, takes_nothing, takes_part}
use Rattle.debug_session.specs.declared.session_end.SessionEnd.TheVariants.{EndOfInput, ReadFailed}
use Rattle.debug_session.proofs.serving.serve.Goals as goal

pub loop-init : goal.loop-init
loop-init g c = (
  c.requires.reads,
  c.requires.writes,
  refl,
  c.in-Ok.ensures.drained.idle,
  record { opening = c.drain.ensures.opening; steps = c.in-Ok.ensures.entered; count = c.in-Ok.field-0; drained = c.in-Ok.ensures.drained },
  c.new-breaks.ensures,
  (c.new-lines.result, [], c.new-lines.ensures, Consumes-nil _, goes_none _ _ _ _),
)

pub returns-in-Ok-eq0-clause-served : goal.returns-in-Ok-eq0-clause-served
returns-in-Ok-eq0-clause-served g c =
    let inv = c.loop.invariant in
    let w = inv.6 in
    let bytes = c.in-Ok-eq0.ensures.bytes in
    has_served _ _ _ _ _ _ c.drain.new.self _ c.new-breaks.result c.loop.breaks _ inv.4 inv.5
    (ends_at_reader _ w.0 _ _ _ _ _ _ _ w.1 EndOfInput w.2
    (takes_nothing _ _ _ w.1 c.receive.new.buf c.in-Ok-eq0.field-0 c.in-Ok-eq0.field-0-test w.3 bytes.0) w.4
    (λ events replies none. (refl, none, refl, bytes.1 c.in-Ok-eq0.field-0-test (omega arith)))) inv.3

pub returns-in-Err-receive-clause-served : goal.returns-in-Err-receive-clause-served
returns-in-Err-receive-clause-served g c =
    let inv = c.loop.invariant in
    let w = inv.6 in
    has_served _ _ _ _ _ _ c.drain.new.self _ c.new-breaks.result c.loop.breaks _ inv.4 inv.5
    (ends_at_reader _ w.0 _ _ _ _ _ _ _ w.1 ReadFailed w.2 (Consumes-kept _ _ _ w.1 w.3 c.in-Err-receive.ensures.bytes) w.4
    (λ events replies none. (refl, none, refl))) inv.3

pub returns-in-Some-serve_piece-clause-served : goal.returns-in-Some-serve_piece-clause-served
returns-in-Some-serve_piece-clause-served g c =
    let inv = c.loop.invariant in
    let w = inv.6 in
    let stop = c.in-Some-serve_piece.ensures.stops in
    served c.in-Some-serve_piece.end _
    (has_served _ _ _ _ _ _ c.drain.new.self _ c.new-breaks.result c.serve_piece.new.breaks _ inv.4 inv.5
    (ends_at_event _ w.0 _ _ _ _ _ _ _ (w.1 ++ stop.input) stop.unread _ w.2
    (takes_part _ _ _ w.1 stop.input stop.unread _ w.3 c.in-Ok-receive.ensures.bytes.0 stop.all)
    (goes_and_stops _ _ _ _ _ _ _ _ _ _ w.1 stop.input _ w.4 stop.stops)) c.in-Some-serve_piece.ensures.idle)

pub loop-preserved : goal.loop-preserved
loop-preserved g c =
    let inv = c.loop.invariant in
    let w = inv.6 in
    let piece = take c.in-Ok-receive.count c.receive.new.buf in (
      c.in-Ok-receive.ensures.failed,
      search rules,
      omega arith,
      c.in_default.ensures.idle,
      inv.4,
      inv.5,
      (
        w.0,
        w.1 ++ piece,
        w.2,
        Consumes-trans _ _ _ w.1 piece w.3 c.in-Ok-receive.ensures.bytes.0,
        goes_both _ _ _ _ _ _ _ _ _ _ w.1 piece w.4 c.in_default.ensures.goes,
      ),
    )
