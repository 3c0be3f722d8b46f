-- The first of several options that is there.
use Rattle.std.proofs.Common.{◌≡◌, Option, Some, None}
use Rattle.std.specs.Option.{option_or}

module _ {X : Type 0} where
  -- If two are missing, it is the third, if that is there.
  pub third : (a b c rest : Option X) (x : X) → None ≡ a → None ≡ b → Some x ≡ c → Some x ≡ option_or a (option_or b (option_or c rest))
  third (Some y) b c rest x p q r = cc
  third None (Some y) c rest x p q r = cc
  third None None None rest x p q r = cc
  third None None (Some y) rest x p q r = r

  -- If three are missing, it is the fourth, if that is there.
  pub fourth : (a b c d rest : Option X) (x : X) → None ≡ a → None ≡ b → None ≡ c → Some x ≡ d →
      Some x ≡ option_or a (option_or b (option_or c (option_or d rest)))
  fourth (Some y) b c d rest x p q r s = cc
  fourth None b c d rest x p q r s = third b c d rest x q r s

  -- If four are missing, it is the fifth.
  pub fifth : (a b c d e o : Option X) → None ≡ a → None ≡ b → None ≡ c → None ≡ d → o ≡ e →
      o ≡ option_or a (option_or b (option_or c (option_or d e)))
  fifth (Some y) b c d e o p q r s t = cc
  fifth None (Some y) c d e o p q r s t = cc
  fifth None None (Some y) d e o p q r s t = cc
  fifth None None None (Some y) e o p q r s t = cc
  fifth None None None None e o p q r s t = t
