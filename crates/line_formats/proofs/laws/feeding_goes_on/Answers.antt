use Rattle.std.proofs.Common.{◌≡◌, List, [], ◌∷◌, ◌++◌, ℕ, refl}
use Rattle.line_formats.specs.Lines.{Fed, with_byte, with_bytes}
use Rattle.line_formats.proofs.laws.feeding_goes_on.Goals as goal

goes_on : (format : List ℕ → List ℕ) (s : Fed) (first rest : List ℕ) → with_bytes format s (first ++ rest) ≡ with_bytes format (with_bytes format s first) rest
unfolding with_bytes
goes_on format s [] rest = refl
goes_on format s (b ∷ first) rest = goes_on format (with_byte format s b) first rest

pub returns : goal.returns
returns c = goes_on
