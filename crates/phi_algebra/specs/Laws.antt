-- Laws of composition.
use Rattle.std.specs.Prelude.{◌≡◌, ℕ, ◌^◌, ◌<◌, Some, IsSomeAnd}
use Rattle.phi_algebra.specs.declared.phi.Phi.{Phi}
use Rattle.phi_algebra.specs.Functions.{apply, IsInRange, IsIdentity}
use Rattle.phi_algebra.specs.Composition.{composed, kind_of}

-- The two have the same value at each word.
abbrev pub MeanTheSame : (f g : Phi) → Type 0
MeanTheSame f g = (x : ℕ) → x < 2 ^ 32 → apply f x ≡ apply g x

-- If three functions can be composed in both ways, both results mean the same.
abbrev pub CompositionIsAssociative : Type 0
CompositionIsAssociative =
    (f g h fg gh left right : Phi) → IsInRange f → IsInRange g → IsInRange h →
    composed f g ≡ Some fg → composed fg h ≡ Some left → composed g h ≡ Some gh → composed f gh ≡ Some right →
    MeanTheSame left right

-- A function that gives each word back composes with every function, before it and after it, and changes nothing.
abbrev pub IdentityIsNeutral : Type 0
IdentityIsNeutral =
    (i f : Phi) → IsInRange i → IsInRange f → IsIdentity i →
    IsSomeAnd (composed i f) (MeanTheSame f) × IsSomeAnd (composed f i) (MeanTheSame f)

-- Two functions of one kind compose to one of that kind.
abbrev pub OneKindComposes : Type 0
OneKindComposes = (f g : Phi) → kind_of f ≡ kind_of g → IsSomeAnd (composed f g) (λ h. kind_of h ≡ kind_of f)
