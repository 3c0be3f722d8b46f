-- The different observed parts of results: how many there are, which result has each, and how the code keeps them.
use Rattle.std.specs.Prelude.{◌≡◌, ℕ, zero, suc, ◌<◌, Bool, List, [], ◌∷◌, ◌++◌, Option, Some, None, String, bytes_eq}
use Rattle.std.specs.Prelude.{length, map, slice_get, slice_index, string_bytes, if◌then◌else◌}
use Rattle.std.specs.Global.{Global}
use Rattle.std.specs.List.{list_any}
use Rattle.exploration.specs.local_reduction.Results.{FinalResult}
use Rattle.observed_results.specs.Lines.{observed_of, observed_parts}

-- how many results are printed: all of them, or, if words are chosen, the different observed parts
abbrev pub count_of : (observed : Option (List Bool)) → List FinalResult → ℕ
count_of None results = length results
count_of (Some marks) results = length (observed_parts marks results)

-- The result of this number, counted from 1, has the part of the wanted number; 0 is wanted by 0.
abbrev pub HasPart : (marks : List Bool) → List FinalResult → (wanted number : ℕ) → Type 0
HasPart marks results zero number = number ≡ 0
HasPart marks results (suc part) number = (place : ℕ) × (r : FinalResult) × (number ≡ suc place)
    × (slice_get results place ≡ Some r) × (slice_get (observed_parts marks results) part ≡ Some (observed_of marks r))

-- ---- how the code keeps them

-- Texts of parts, and beside each the place of a result.
pub record PartLists : Type 0 where
  pub texts : List (List ℕ)
  pub places : List ℕ

abbrev pub texts_of : List (String Global) → List (List ℕ)
texts_of keys = map (λ key. string_bytes key) keys

-- The result at each place has the observed part beside it.
pub record AreFirsts (marks : List Bool) (results : List FinalResult) (texts : List (List ℕ))
    (places : List ℕ) : Type 0 where
  pub all : length places ≡ length texts
  pub each : (part : ℕ) → part < length places → (r : FinalResult)
      × (slice_get results (slice_index places part) ≡ Some r) × (slice_get texts part ≡ Some (observed_of marks r))

-- These are the texts of the different observed parts of the results, and the places of results that have them.
pub record AreParts (marks : List Bool) (results : List FinalResult) (parts : PartLists) : Type 0 where
  pub are : parts.texts ≡ observed_parts marks results
  pub firsts : AreFirsts marks results parts.texts parts.places

-- The place is appended if the text is not one of those before.
abbrev pub IsPartAdded : (texts : List (List ℕ)) → (text : List ℕ) → (old : List ℕ) → (place : ℕ) → (new : List ℕ) →
    Type 0
IsPartAdded texts text old place new = new ≡ (if list_any (bytes_eq text) texts then old else old ++ place ∷ [])
