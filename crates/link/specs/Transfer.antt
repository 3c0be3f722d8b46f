-- What reading and writing do to the bytes of a device, as far as these are known.
use Rattle.std.specs.Prelude.{◌≡◌, ℕ, ◌<◌, ◌≤◌, ◌+◌, List, ◌++◌, length, Option}
use Rattle.std.specs.Io.KnownBytes.{Appends, Consumes, IsAtEnd}
use Rattle.link.specs.declared.transfer.ReadError.{ReadError}
use Rattle.link.specs.declared.transfer.ReadError.TheVariants.{Link, Memory, TooLong}
use Rattle.link.specs.declared.transfer.TheConstants.{PIECE_BYTES}

-- The bytes are all that was left of the known input.
abbrev pub ConsumesAll : Option (List ℕ) → Option (List ℕ) → List ℕ → Type 0
ConsumesAll old new bytes = Consumes old new bytes × IsAtEnd new

-- The known input loses more than `limit` bytes, but at most PIECE_BYTES more.
abbrev pub ConsumesPast : ℕ → Option (List ℕ) → Option (List ℕ) → Type 0
ConsumesPast limit old new = (bytes : List ℕ) × (limit < length bytes) × (length bytes ≤ limit + PIECE_BYTES)
    × Consumes old new bytes

-- The known input loses at most `limit` bytes.
abbrev pub ConsumesAtMost : ℕ → Option (List ℕ) → Option (List ℕ) → Type 0
ConsumesAtMost limit old new = (bytes : List ℕ) × (length bytes ≤ limit) × Consumes old new bytes

-- What was read of the known input if reading up to a limit ended with this error.
abbrev pub StopsFor : ℕ → Option (List ℕ) → Option (List ℕ) → ReadError → Type 0
StopsFor limit old new Link = ConsumesAtMost limit old new
StopsFor limit old new Memory = ConsumesAtMost limit old new
StopsFor limit old new TooLong = ConsumesPast limit old new

-- The known input loses fewer than `limit` bytes.
abbrev pub ConsumesLess : ℕ → Option (List ℕ) → Option (List ℕ) → Type 0
ConsumesLess limit old new = (bytes : List ℕ) × (length bytes < limit) × Consumes old new bytes

-- The known output grows by a beginning of the text, and not by all of it.
abbrev pub AppendsPart : Option (List ℕ) → Option (List ℕ) → List ℕ → Type 0
AppendsPart old new text = (written : List ℕ) × (missing : List ℕ) × (text ≡ written ++ missing) × (0 < length missing)
    × Appends old new written

-- A beginning of a text's first part is a beginning of the text.
abbrev pub EndsInTheFirst : Type 0
EndsInTheFirst = (old new : Option (List ℕ)) (first rest : List ℕ) → AppendsPart old new first →
    AppendsPart old new (first ++ rest)

-- A text's first part, followed by a beginning of the rest, is a beginning of the text.
abbrev pub EndsInTheRest : Type 0
EndsInTheRest =
    (old between new : Option (List ℕ)) (first rest : List ℕ) → Appends old between first →
    AppendsPart between new rest →
    AppendsPart old new (first ++ rest)
