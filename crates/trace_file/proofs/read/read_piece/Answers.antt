use Rattle.std.proofs.Common.{◌≤◌, take, length, arith, length-take}
use Rattle.trace_file.proofs.Written.{if_err}
use Rattle.trace_file.proofs.Pieces.{piece_whole, piece_short, piece_wrong}
use Rattle.trace_file.proofs.read.read_piece.Goals as goal

pub returns-in_err-add_steps-clause-refused : goal.returns-in_err-add_steps-clause-refused
returns-in_err-add_steps-clause-refused g c =
    let bytes = take c.in_ok-filled.filled c.fill.new.buf in
    let n = length c.args.room.now in
    let size : length bytes ≤ n = omega (arith, length-take c.in_ok-filled.filled c.fill.new.buf, c.in_ok-filled.ensures.bound) in
    if_err c.from_residual-in_err-add_steps.result c.in_err-add_steps.field-0.0 _ c.from_residual-in_err-add_steps.ensures.1
    (piece_wrong c.args.k _ _ bytes n _ size c.requires.whole c.requires.piece c.in_err-add_steps.ensures.refused c.in_ok-filled.ensures.bytes)

pub returns-then-filled-room-clause-refused : goal.returns-then-filled-room-clause-refused
returns-then-filled-room-clause-refused g c =
    let bytes = take c.in_ok-filled.filled c.fill.new.buf in
    let n = length c.args.room.now in
    let added = c.in_ok-add_steps.ensures.ok in
    piece_short c.args.k _ _ _ _ bytes added.0 n (omega (arith, length-take c.in_ok-filled.filled c.fill.new.buf)) c.requires.whole added.1 added.2
    c.in_ok-filled.ensures.bytes (c.in_ok-filled.ensures.short (omega arith))

pub returns-clause-ok : goal.returns-clause-ok
returns-clause-ok g c =
    let bytes = take c.in_ok-filled.filled c.fill.new.buf in
    let n = length c.args.room.now in
    let added = c.in_ok-add_steps.ensures.ok in
    piece_whole c.args.k _ _ _ _ bytes added.0 n (omega (arith, length-take c.in_ok-filled.filled c.fill.new.buf, c.in_ok-filled.ensures.bound))
    c.requires.whole added.1 added.2 c.in_ok-filled.ensures.bytes
