-- What a text is printed as, if a format says what is printed for each of its lines.
use Rattle.std.specs.Prelude.{◌≡◌, ℕ, ◌==◌, List, [], ◌∷◌, ◌++◌, fold, if◌then◌else◌}

-- A text so far: the bytes after its last line feed, and what is printed for the lines before.
pub record Fed : Type 0 where
  pub kept : List ℕ
  pub printed : List ℕ

-- with one more byte: a line feed ends a line, whose text in the format is printed
abbrev pub with_byte : (format : List ℕ → List ℕ) → Fed → ℕ → Fed
with_byte format s b =
    if b == 10
    then record { kept = []; printed = s.printed ++ format s.kept }
    else record { kept = s.kept ++ b ∷ []; printed = s.printed }

-- with more bytes
unfoldable pub with_bytes : (format : List ℕ → List ℕ) → Fed → List ℕ → Fed
with_bytes format s bytes = fold (with_byte format) s bytes

-- nothing printed, and these bytes kept
abbrev pub kept_only : (kept : List ℕ) → Fed
kept_only kept = record { kept = kept; printed = [] }

-- With these bytes after those that were kept, these are kept, and this is said of what is printed.
abbrev pub Feeds : (format : List ℕ → List ℕ) → (old bytes new : List ℕ) → (is_said : List ℕ → Type 0) → Type 0
Feeds format old bytes new is_said =
    (new ≡ (with_bytes format (kept_only old) bytes).kept)
    × is_said (with_bytes format (kept_only old) bytes).printed

-- ---- a law

-- Bytes that are fed in two parts are fed as a whole.
abbrev pub FeedingGoesOn : Type 0
FeedingGoesOn =
    (format : List ℕ → List ℕ) (s : Fed) (first rest : List ℕ) →
    with_bytes format s (first ++ rest) ≡ with_bytes format (with_bytes format s first) rest
