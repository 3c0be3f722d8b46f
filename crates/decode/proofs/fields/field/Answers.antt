use Rattle.std.proofs.Common.{◌≡◌, ◌+◌, ◌-◌, ◌*◌, ◌%◌, ◌^◌, arith}
use Rattle.std.specs.Int.Bits.{mask_lt}
use Rattle.std.proofs.lemmas.Nat.{and_mask, one_shl}
use Rattle.decode.proofs.fields.field.Goals as goal

pub returns : goal.returns
returns c =
    let e : 1 * 2 ^ (c.args.high + 1 - c.args.low) % 2 ^ 32 ≡ 2 ^ (c.args.high + 1 - c.args.low) = one_shl _ 32 (omega arith) in
    record {
      value = rw e (and_mask _ _);
      small = rw e (mask_lt _ _);
    }
