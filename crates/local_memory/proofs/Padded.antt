-- Bytes padded with zeros to a region: how they are read and written, and when two such regions are equal.
use Rattle.std.proofs.Common.{◌≡◌, ℕ, zero, suc, ◌+◌, ◌-◌, ◌<◌, ◌≤◌, List, [], ◌∷◌, ◌++◌, length, append_assoc, take}
use Rattle.std.proofs.Common.{add-one, refl, sym, ap, ◌∙◌, arith, inl, inr}
use Rattle.std.specs.Prelude.{replicate, slice_index, slice_set}
use Rattle.std.proofs.lemmas.List.{get_or_append_left, get_or-append_right, get_or_past, length-append}
use Rattle.std.proofs.lemmas.List.{length-take-le}
use Rattle.std.proofs.Math.Seq.{take-suc}
use Rattle.std.proofs.lemmas.List.{length-replicate, replicate-append-replicate, set-append_left}
use Rattle.std.proofs.lemmas.Bool.{cases_lt}
use Rattle.local_memory.specs.Accesses.{padded}

-- ---- one byte

-- Every read from a list of zeros gives 0, even past its end.
pub zero_of_replicate : (n i : ℕ) → slice_index (replicate n 0) i ≡ 0
zero_of_replicate zero i = refl
zero_of_replicate (suc n) zero = refl
zero_of_replicate (suc n) (suc i) = zero_of_replicate n i

-- Padding a list of bytes with zeros changes no byte that is read.
pub byte_of_padded : (n : ℕ) (bytes : List ℕ) (i : ℕ) → slice_index (padded n bytes) i ≡ slice_index bytes i
unfolding padded
byte_of_padded n bytes i =
    elim (cases_lt i (length bytes)) [
      | inl less ↦ get_or_append_left bytes (replicate (n - length bytes) 0) 0 i less
      | inr past ↦
          get_or-append_right bytes (replicate (n - length bytes) 0) (length bytes) i 0 refl past ∙ zero_of_replicate (n - length bytes) (i - length bytes)
          ∙ sym (get_or_past bytes i 0 past)
    ]

-- ---- writing

-- Appending a zero to bytes does not change what they are padded to.
pub one_more : (n : ℕ) (bytes : List ℕ) → length bytes < n → padded n (bytes ++ 0 ∷ []) ≡ padded n bytes
unfolding padded
one_more n bytes less =
    let long = length-append bytes (0 ∷ []) in
    let next : suc (n - length (bytes ++ 0 ∷ [])) ≡ n - length bytes = omega (arith, long, less) in
    append_assoc bytes (0 ∷ []) (replicate (n - length (bytes ++ 0 ∷ [])) 0) ∙ ap (λ k. bytes ++ replicate k 0) next

-- Dropping a zero from the end of some bytes does not change what they are padded to.
pub one_less : (n : ℕ) (bytes : List ℕ) (k : ℕ) → k < length bytes → length bytes ≤ n → slice_index bytes k ≡ 0 →
    padded n (take k bytes) ≡ padded n (take (k + 1) bytes)
one_less n bytes k there few none =
    let front = length-take-le k bytes (omega (arith, there)) in
    sym (ap (padded n) (rw add-one (take-suc bytes k 0 there) ∙ ap (λ byte. take k bytes ++ byte ∷ []) none)
    ∙ one_more n (take k bytes) (omega (arith, front, there, few)))

-- Writing a byte within a list before padding gives the same as writing it after padding.
pub set_padded : (n : ℕ) (bytes : List ℕ) (place byte : ℕ) → place < length bytes → length (slice_set bytes place byte) ≡ length bytes →
    padded n (slice_set bytes place byte) ≡ slice_set (padded n bytes) place byte
unfolding padded
set_padded n bytes place byte less same =
    ap (λ k. slice_set bytes place byte ++ replicate (n - k) 0) same ∙ sym (set-append_left bytes (replicate (n - length bytes) 0) place byte less)

-- ---- two regions

-- Dropping zeros from the end of some bytes does not change what they are padded to.
pub padded_on : (n : ℕ) (front back : List ℕ) → length (front ++ back) ≤ n → back ≡ replicate (length back) 0 → padded n (front ++ back) ≡ padded n front
unfolding padded
padded_on n front back few zeros =
    let long = length-append front back in
    append_assoc front back (replicate (n - length (front ++ back)) 0)
    ∙ ap (λ xs. front ++ (xs ++ replicate (n - length (front ++ back)) 0)) zeros
    ∙ ap (λ xs. front ++ xs) (replicate-append-replicate (length back) (n - length (front ++ back)) 0)
    ∙ ap (λ k. front ++ replicate k 0) (omega (arith, long, few))

-- Two lists of the same length that read the same at every place are equal.
alike : (xs ys : List ℕ) → length xs ≡ length ys → ((i : ℕ) → slice_index xs i ≡ slice_index ys i) → xs ≡ ys
alike [] [] e same = refl
alike [] (y ∷ ys) e same = absurd (omega (arith, e))
alike (x ∷ xs) [] e same = absurd (omega (arith, e))
alike (x ∷ xs) (y ∷ ys) e same =
    let first = same 0 in
    let rest = alike xs ys (omega (arith, e)) (λ i. same (suc i)) in
    λ i. first i ∷ rest i

-- If two lists are padded to the same bytes, the longer one begins with the shorter one.
pub front_is : (n : ℕ) (short front back : List ℕ) → length front ≡ length short → padded n short ≡ padded n (front ++ back) → front ≡ short
front_is n short front back e same = alike front short e (λ i. one i)
  where
    byte : (i : ℕ) → slice_index short i ≡ slice_index (front ++ back) i
    byte i = sym (byte_of_padded n short i) ∙ ap (λ xs. slice_index xs i) same ∙ byte_of_padded n (front ++ back) i

    one : (i : ℕ) → slice_index front i ≡ slice_index short i
    one i = elim (cases_lt i (length front)) [
      | inl less ↦ sym (get_or_append_left front back 0 i less) ∙ sym (byte i)
      | inr past ↦ get_or_past front i 0 past ∙ sym (get_or_past short i 0 (omega (arith, past, e)))
    ]

-- If two lists are padded to the same bytes, the longer one is zero after the length of the shorter one.
pub back_is : (n : ℕ) (short front back : List ℕ) → length front ≡ length short → padded n short ≡ padded n (front ++ back) →
    back ≡ replicate (length back) 0
back_is n short front back e same =
    alike back (replicate (length back) 0) (sym (length-replicate (length back) 0)) (λ i. one i ∙ sym (zero_of_replicate (length back) i))
  where
    one : (i : ℕ) → slice_index back i ≡ 0
    one i =
        let past : length front ≤ length front + i = omega arith in
        let over : length short ≤ length front + i = omega (arith, e) in
        let there : length front + i - length front ≡ i = omega arith in
        ap (λ k. slice_index back k) (sym there) ∙ sym (get_or-append_right front back (length front) (length front + i) 0 refl past)
        ∙ sym (byte_of_padded n (front ++ back) (length front + i)) ∙ ap (λ xs. slice_index xs (length front + i)) (sym same)
        ∙ byte_of_padded n short (length front + i) ∙ get_or_past short (length front + i) 0 over
