use Rattle.std.proofs.Common.{◌*◌, ◌/◌, ◌^◌, ap, ◌∙◌}
use Rattle.std.specs.Int.Bits.{bit_and}
use Rattle.std.proofs.lemmas.Nat.{and_mask}
use Rattle.flat_machine.specs.Words.{part_of}
use Rattle.hart_ops.proofs.words.part.Goals as goal

pub returns-clause-value : goal.returns-clause-value
unfolding part_of
returns-clause-value c = ap (bit_and (c.args.word / 2 ^ (8 * c.args.offset))) c.ones.ensures ∙ and_mask _ _
