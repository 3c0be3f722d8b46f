use Rattle.std.proofs.Common.{◌≡◌, ◌-◌, ◌*◌, length, take, drop, arith, length-append, length-drop}
use Rattle.std.proofs.lemmas.List.{length-take-le}
use Rattle.trace_file.proofs.Written.{if_err}
use Rattle.trace_file.proofs.Pieces.{piece_count, read_more, stopped_later}
use Rattle.trace_file.proofs.read.read_records.Goals as goal

pub returns-in_err-read_piece-clause-refused : goal.returns-in_err-read_piece-clause-refused
returns-in_err-read_piece-clause-refused g c =
    let inv = c.loop-left.invariant in
    let total = c.args.header.now.count in
    let least = c.min-count.ensures in
    let count = piece_count c.loop-left.piece c.min-count.result inv.1 (omega arith) in
    if_err c.from_residual.result c.in_err-read_piece.field-0.0 _ c.from_residual.ensures.1
    (stopped_later c.args.header.now.k (total - c.loop-left.left) _ total _ _ _ _ _ _ (omega arith) inv.3 c.in_err-read_piece.ensures.refused)

pub loop-left-preserved : goal.loop-left-preserved
loop-left-preserved g c =
    let inv = c.loop-left.invariant in
    let least = c.min-count.ensures in
    let piece = c.loop-left.piece in
    let count = piece_count piece c.min-count.result inv.1 (omega arith) in
    let front : length (take (12 * c.min-count.result) piece) ≡ 12 * c.min-count.result = length-take-le (12 * c.min-count.result) piece (omega arith) in
    let room = c.read_piece.auto.room in
    let behind = length-drop (12 * c.min-count.result) piece in (
      c.in_ok-read_piece.ensures.failed,
      omega (arith, length-append c.read_piece.new.room (drop (12 * c.min-count.result) piece)),
      omega arith,
      read_more c.args.header.now.k _ _ _ _ _ _ _ _ _ (omega arith) inv.3 c.in_ok-read_piece.ensures.ok,
    )
