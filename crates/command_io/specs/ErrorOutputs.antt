-- What a command does to standard error.
use Rattle.std.specs.Prelude.{ℕ, List, Option}

-- Standard error before and after a command, and the bytes that it is known to have.
pub record ErrorOutput (E : Type 0) : Type 0 where
  pub contents : E → Option (List ℕ)
  pub old : E
  pub new : E

-- standard error, `old` before the command and `new` after it
abbrev pub errors_to : {E : Type 0} → (contents : E → Option (List ℕ)) → (old new : E) → ErrorOutput E
errors_to contents old new = record { contents = contents; old = old; new = new }
