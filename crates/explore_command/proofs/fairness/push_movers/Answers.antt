use Rattle.std.proofs.Common.{◌++◌, arith}
use Rattle.std.specs.Prelude.{string_bytes}
use Rattle.explore_command.specs.Lassos.{movers_text}
use Rattle.explore_command.proofs.Movers.{movers_more, no_movers}
use Rattle.explore_command.proofs.fairness.push_movers.Goals as goal

pub loop-k-preserved : goal.loop-k-preserved
loop-k-preserved c =
    movers_more c.args.movers.now c.loop-k.k-index 0 (string_bytes c.loop-k.text) (string_bytes c.push_mover.new.text)
    (string_bytes c.args.text.now ++ movers_text c.args.movers.now) (omega arith) c.in_ok-push_mover.ensures c.loop-k.invariant

pub returns : goal.returns
returns c =
    no_movers c.args.movers.now c.loop-k.k-index (string_bytes c.loop-k.text) (string_bytes c.args.text.now ++ movers_text c.args.movers.now)
    c.loop-k-test.false c.loop-k.invariant
