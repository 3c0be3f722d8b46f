use Rattle.std.proofs.Common.{◌++◌, arith}
use Rattle.std.specs.Prelude.{string_bytes}
use Rattle.hunt_command.specs.Findings.{numbers_text}
use Rattle.hunt_command.proofs.Numbers.{no_numbers, numbers_more}
use Rattle.hunt_command.proofs.findings.push_numbers.Goals as goal

pub loop-number-preserved : goal.loop-number-preserved
loop-number-preserved c =
    numbers_more c.args.numbers.now c.loop-number.number-index 0 (string_bytes c.loop-number.text) (string_bytes c.push_number.new.text)
    (string_bytes c.args.text.now ++ numbers_text c.args.numbers.now) (omega arith) c.in_ok-push_number.ensures c.loop-number.invariant

pub returns : goal.returns
returns c =
    no_numbers c.args.numbers.now c.loop-number.number-index (string_bytes c.loop-number.text)
    (string_bytes c.args.text.now ++ numbers_text c.args.numbers.now) c.loop-number-test.false c.loop-number.invariant
