use Rattle.std.proofs.Common.{◌^◌, ◌*◌, arith}
use Rattle.asm_lines.proofs.Fields.{signed_low, offset_high, lower_bits, upper_bits, branch_bits, branch_even, jump_bits, jump_even}
use Rattle.asm_lines.proofs.laws.fields_again.Goals as goal

pub returns : goal.returns
returns c = record {
  lower = lower_bits;
  upper = upper_bits;
  branch = branch_bits;
  branch_in_range =
      λ f lt. (signed_low (2 ^ 12) (2 * f) (omega arith) (omega arith) 4095 (omega arith), offset_high (2 ^ 11) f 4094 lt (omega arith), branch_even f lt);
  jump = jump_bits;
  jump_in_range =
      λ f lt. (signed_low (2 ^ 20) (2 * f) (omega arith) (omega arith) 1048575 (omega arith), offset_high (2 ^ 19) f 1048574 lt (omega arith), jump_even f lt);
}
