-- A writer whose first write opens its device.
use Rattle.std.specs.Prelude.{ℕ, List, Option, Some, None, Result, IsErr}
use Rattle.std.specs.Io.KnownBytes.{WriteAppends}

-- the bytes of the device once it is open; before that, nothing is known
abbrev pub contents_of : {D : Type 0} → (D → Option (List ℕ)) → Option D → Option (List ℕ)
contents_of contents None = None
contents_of contents (Some device) = contents device

-- The first write either failed to open a device, or opened one and appended to it the bytes that it reports as
-- written.
abbrev pub IsFirstWrite : {D E : Type 0} → (opens : D → Type 0) → (D → Option (List ℕ)) → (new : Option D) →
    Result ℕ E → List ℕ → Type 0
IsFirstWrite {D} opens contents None result bytes = IsErr result
IsFirstWrite {D} opens contents (Some device) result bytes = (opened : D) × opens opened
    × WriteAppends (contents opened) (contents device) result bytes
