-- What cuts of a text leave. The parts are no longer than the text.
use Rattle.std.proofs.Common.{◌≡◌, ℕ, suc, ◌+◌, ◌-◌, ◌<◌, ◌≤◌, Bool, true, false, not, List, [], ◌∷◌, ◌++◌, length}
use Rattle.std.proofs.Common.{get_or, take, drop, Option, Some, None}
use Rattle.std.proofs.Common.{refl, sym, ap, subst, ◌∙◌, append_assoc, append-nil, add-one, arith, inl, inr, drop-cons, length-append}
use Rattle.std.specs.Prelude.{reverse, IfSome, nat_lt, slice_index, ◌==◌, MatchOption}
use Rattle.std.specs.List.{position, position_or_len, suffix_len}
use Rattle.std.proofs.lemmas.List.{reverse-append, reverse-reverse, take-append-drop, length-take-le}
use Rattle.std.proofs.lemmas.List.Sums.{prefix_len-le-length}
use Rattle.std.proofs.lemmas.Bool.{cases_lt, lt-ltb, le-ltb}
use Rattle.std.proofs.lemmas.Option.{none-some}
use Rattle.asm_lines.specs.Text.{is_blank, front_trimmed, trimmed, cut_at, cut_last_at}
use Rattle.word_faults.specs.Spans.{blanks_before}

-- If no byte of a list passes, the place of the first that passes counts as the list's length.
pub position_none : (p : ℕ → Bool) (xs : List ℕ) → position p xs ≡ None → position_or_len p xs ≡ length xs
position_none p xs e =
    elim (cases_lt (position_or_len p xs) (length xs)) [
      | inl lt ↦ let t : position p xs ≡ Some (position_or_len p xs) = rw (lt-ltb _ _ lt) refl in absurd (none-some _ (sym e ∙ t))
      | inr le ↦ omega (arith, prefix_len-le-length (λ x. not (p x)) xs)
    ]

-- If a byte passes first at a place, the place is within the list, and it counts as this place.
pub position_some : (p : ℕ → Bool) (xs : List ℕ) (i : ℕ) → position p xs ≡ Some i → (i < length xs) × (position_or_len p xs ≡ i)
position_some p xs i e =
    elim (cases_lt (position_or_len p xs) (length xs)) [
      | inl lt ↦
          let t : position p xs ≡ Some (position_or_len p xs) = rw (lt-ltb _ _ lt) refl in
          let same : position_or_len p xs ≡ i = cc in
          (omega (arith, same, lt), same)
      | inr le ↦ let t : position p xs ≡ None = rw (le-ltb _ _ le) refl in absurd (none-some _ (sym t ∙ e))
    ]

-- ---- blanks

pub record FrontCut (bs : List ℕ) : Type 0 where
  -- the blanks that are cut off the front
  pub blanks : List ℕ
  -- The text is these blanks and then what is left.
  pub whole : bs ≡ blanks ++ front_trimmed bs
  -- They are as many blanks as the text begins with.
  pub count : length blanks ≡ blanks_before bs

pub front_cut : (bs : List ℕ) → FrontCut bs
front_cut [] = record { blanks = []; whole = refl; count = refl }
front_cut (b ∷ bs) = go (is_blank b) refl (front_cut bs)
  where
    go : (t : Bool) → is_blank b ≡ t → FrontCut bs → FrontCut (b ∷ bs)
    go true e h = record { blanks = b ∷ h.blanks; whole = rw e (ap (λ (ys : List ℕ). b ∷ ys) h.whole); count = rw e (omega (arith, h.count)) }
    go false e h = record { blanks = []; whole = rw e refl; count = rw e refl }

pub record TrimmedCut (bs : List ℕ) : Type 0 where
  -- what is cut off the front
  pub blanks : List ℕ
  -- what is cut off the end
  pub behind : List ℕ
  -- The text is what is cut off the front, what is left, and what is cut off the end.
  pub whole : bs ≡ blanks ++ (trimmed bs ++ behind)
  -- As many bytes are cut off the front as the text begins with blanks.
  pub count : length blanks ≡ blanks_before bs

-- Each text is the trimmed text between what is cut off its front and what is cut off its end.
pub trimmed_cut : (bs : List ℕ) → TrimmedCut bs
unfolding trimmed
trimmed_cut bs =
    let f = front_cut bs in
    let g = front_cut (reverse (front_trimmed bs)) in
    let back : front_trimmed bs ≡ reverse (front_trimmed (reverse (front_trimmed bs))) ++ reverse g.blanks =
    sym (reverse-reverse (front_trimmed bs)) ∙ ap reverse g.whole ∙ reverse-append g.blanks (front_trimmed (reverse (front_trimmed bs))) in
    record { blanks = f.blanks; behind = reverse g.blanks; whole = f.whole ∙ ap (λ (ys : List ℕ). f.blanks ++ ys) back; count = f.count }

-- The blanks that a text begins with and the trimmed text are together no longer than the text.
pub trimmed_within : (bs : List ℕ) → blanks_before bs + length (trimmed bs) ≤ length bs
trimmed_within bs =
    let t = trimmed_cut bs in
    let outer : length bs ≡ length t.blanks + length (trimmed bs ++ t.behind) = ap length t.whole ∙ length-append t.blanks (trimmed bs ++ t.behind) in
    let inside : length (trimmed bs ++ t.behind) ≡ length (trimmed bs) + length t.behind = length-append (trimmed bs) t.behind in
    omega (arith, outer, inside, t.count)

-- ---- around a byte

-- The text is these parts with one byte between them.
pub record RoundByte (bs : List ℕ) (parts : List ℕ × List ℕ) : Type 0 where
  -- the byte between the parts
  pub byte : ℕ
  -- The text is the first part, this byte, and the second part.
  pub whole : bs ≡ parts.0 ++ byte ∷ parts.1

pub round_at : (bs : List ℕ) (i : ℕ) → i < length bs → RoundByte bs (take i bs, drop (i + 1) bs)
round_at bs i lt =
    let behind : drop i bs ≡ get_or bs i 0 ∷ drop (i + 1) bs = rw (add-one, drop-cons bs i 0 lt) refl in
    record { byte = get_or bs i 0; whole = sym (take-append-drop i bs) ∙ ap (λ (ys : List ℕ). take i bs ++ ys) behind }

-- Two parts of a text and the byte between them are as long as the text.
pub round_count : (bs : List ℕ) (parts : List ℕ × List ℕ) → RoundByte bs parts → length parts.0 + 1 + length parts.1 ≡ length bs
round_count bs parts h =
    let whole : length bs ≡ length parts.0 + length (h.byte ∷ parts.1) = ap length h.whole ∙ length-append parts.0 (h.byte ∷ parts.1) in
    omega (arith, whole)

-- A text that is cut at the first byte that passes is the two parts with one byte between them.
pub cut_round : (p : ℕ → Bool) (bs : List ℕ) → IfSome (cut_at p bs) (RoundByte bs)
unfolding cut_at
cut_round p bs =
    elim (cases_lt (position_or_len p bs) (length bs)) [
      | inl lt ↦ rw (lt-ltb _ _ lt) (round_at bs (position_or_len p bs) lt)
      | inr le ↦ rw (le-ltb _ _ le) tt
    ]

-- A text that is cut at the last byte m is the two parts with one byte between them.
pub cut_last_round : (m : ℕ) (bs : List ℕ) → IfSome (cut_last_at m bs) (RoundByte bs)
unfolding cut_last_at
cut_last_round m bs =
    let kept = suffix_len (λ b. not (b == m)) bs in
    elim (cases_lt kept (length bs)) [
      | inl lt ↦
          let next : length bs - kept - 1 + 1 ≡ length bs - kept = omega (arith, lt) in
          rw (lt-ltb _ _ lt)
          (subst (λ n. RoundByte bs (take (length bs - kept - 1) bs, drop n bs)) next (round_at bs (length bs - kept - 1) (omega (arith, lt))))
      | inr le ↦ rw (le-ltb _ _ le) tt
    ]

pub last_within : (m : ℕ) (bs front inside : List ℕ) → Some (front, inside) ≡ cut_last_at m bs → length front + 1 + length inside ≡ length bs
last_within m bs front inside e = let whole = subst (λ o. IfSome o (RoundByte bs)) (sym e) (cut_last_round m bs) in round_count bs (front, inside) whole

-- If a text without its last byte is cut at the last byte m, the parts and that byte are no longer than the text.
pub body_within : (m : ℕ) (bs front inside : List ℕ) → Some (front, inside) ≡ cut_last_at m (take (length bs - 1) bs)
    → length front + 1 + length inside ≤ length bs
body_within m bs front inside e =
    let whole = last_within m (take (length bs - 1) bs) front inside e in
    let count : length (take (length bs - 1) bs) ≡ length bs - 1 = length-take-le (length bs - 1) bs (omega arith) in
    omega (arith, whole, count)
