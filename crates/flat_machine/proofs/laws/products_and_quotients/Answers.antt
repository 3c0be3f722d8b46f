use Rattle.std.proofs.Common.{◌*◌, ◌^◌, refl}
use Rattle.std.proofs.lemmas.Nat.{div-add-mod'}
use Rattle.flat_machine.specs.Operations.{register_value}
use Rattle.flat_machine.specs.Words.{quotient, remainder}
use Rattle.flat_machine.proofs.Products.{signed_halves, mixed_halves}
use Rattle.flat_machine.proofs.Quotients.{at_overflow, natural_division, remainder_has_the_sign, remainder_is_nearer, signed_division, word_division}
use Rattle.flat_machine.proofs.laws.products_and_quotients.Goals as goal

pub returns : goal.returns
unfolding register_value quotient remainder
returns c = record {
  unsigned_product = λ a b. div-add-mod' (a * b) (2 ^ 32);
  signed_product = signed_halves;
  mixed_product = mixed_halves;
  unsigned_division = natural_division;
  signed_division = signed_division;
  modulo = word_division;
  remainder_is_nearer = remainder_is_nearer;
  remainder_has_the_sign = remainder_has_the_sign;
  by_zero = λ a. (refl, refl, refl, refl);
  overflow = at_overflow;
}
