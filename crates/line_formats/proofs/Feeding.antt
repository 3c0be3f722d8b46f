-- Bytes that are fed, up to the end of a line.
use Rattle.std.proofs.Common.{◌≡◌, ◌∙◌, ◌==◌, ◌<◌, ◌≤◌, ◌+◌, ℕ, suc, Bool, cond, true, false, not, refl, sym, ap, arith, List, [], ◌∷◌, ◌++◌, length, take}
use Rattle.std.proofs.Common.{Some, None, append_assoc, append-nil, nat_lt}
use Rattle.std.specs.Prelude.{position}
use Rattle.std.specs.List.{position_or_len}
use Rattle.std.proofs.lemmas.Bool.Decides.{nat_tests}
use Rattle.line_formats.specs.Lines.{Fed, kept_only, with_byte, with_bytes}

abbrev ends : ℕ → Bool
ends b = b == 10

abbrev fed_more : Fed → List ℕ → Fed
fed_more s bytes = record { kept = s.kept ++ bytes; printed = s.printed }

-- Bytes without a line feed are kept.
all_kept : (format : List ℕ → List ℕ) (s : Fed) (bytes : List ℕ) → length bytes ≤ position_or_len ends bytes → with_bytes format s bytes ≡ fed_more s bytes
unfolding with_bytes
all_kept format s [] le = ap (λ kept. record { kept = kept; printed = s.printed }) (sym (append-nil s.kept))
all_kept format s (b ∷ bytes) le = go (b == 10) le (λ t less. all_kept format t bytes less)
  where
    go : (is : Bool) → suc (length bytes) ≤ cond (not is) (1 + position_or_len ends bytes) 0
        → ((t : Fed) → length bytes ≤ position_or_len ends bytes → with_bytes format t bytes ≡ fed_more t bytes)
        → with_bytes format (cond is (record { kept = []; printed = s.printed ++ format s.kept }) (fed_more s (b ∷ []))) bytes
        ≡ fed_more s (b ∷ bytes)
    go true le more = absurd (omega arith)
    go false le more =
        more (fed_more s (b ∷ [])) (omega arith) ∙ ap (λ kept. record { kept = kept; printed = s.printed }) (append_assoc s.kept (b ∷ []) bytes)

take_next : (m n b : ℕ) (bytes : List ℕ) → m ≡ suc n → take m (b ∷ bytes) ≡ b ∷ take n bytes
take_next m n b bytes e = rw e refl

abbrev fed_line : (List ℕ → List ℕ) → Fed → List ℕ → Fed
fed_line format s line = record { kept = []; printed = s.printed ++ format (s.kept ++ line) }

-- Bytes through the first line feed end a line.
line_ended : (format : List ℕ → List ℕ) (s : Fed) (bytes : List ℕ) → position_or_len ends bytes < length bytes
    → with_bytes format s (take (position_or_len ends bytes + 1) bytes) ≡ fed_line format s (take (position_or_len ends bytes) bytes)
unfolding with_bytes
line_ended format s [] lt = absurd (omega arith)
line_ended format s (b ∷ bytes) lt = go (b == 10) refl lt (λ t less. line_ended format t bytes less)
  where
    go : (is : Bool) → (b == 10) ≡ is → cond (not is) (1 + position_or_len ends bytes) 0 < suc (length bytes)
        → ((t : Fed) → position_or_len ends bytes < length bytes →
        with_bytes format t (take (position_or_len ends bytes + 1) bytes) ≡ fed_line format t (take (position_or_len ends bytes) bytes))
        → with_bytes format s (take (cond (not is) (1 + position_or_len ends bytes) 0 + 1) (b ∷ bytes))
        ≡ fed_line format s (take (cond (not is) (1 + position_or_len ends bytes) 0) (b ∷ bytes))
    go true e lt more = rw (e, append-nil) refl
    go false e lt more =
        let next : with_byte format s b ≡ fed_more s (b ∷ []) = rw e refl in
        rw (
          take_next (1 + position_or_len ends bytes + 1) (position_or_len ends bytes + 1) b bytes (omega arith),
          take_next (1 + position_or_len ends bytes) (position_or_len ends bytes) b bytes (omega arith),
        )
        (ap (λ t. with_bytes format t (take (position_or_len ends bytes + 1) bytes)) next
        ∙ more (fed_more s (b ∷ [])) (omega arith)
        ∙ ap (λ line. record { kept = []; printed = s.printed ++ format line })
        (append_assoc s.kept (b ∷ []) (take (position_or_len ends bytes) bytes)))

below : (n m : ℕ) → nat_lt n m ≡ true → n < m
below n m e = grind (arith, nat_tests)

not_below : (n m : ℕ) → nat_lt n m ≡ false → m ≤ n
not_below n m e = grind (arith, nat_tests)

-- The same, with the place of the line feed.
pub line_at : (format : List ℕ → List ℕ) (kept bytes : List ℕ) (at : ℕ) → Some at ≡ position ends bytes
    → with_bytes format (kept_only kept) (take (at + 1) bytes) ≡ fed_line format (kept_only kept) (take at bytes)
line_at format kept bytes at found = go (nat_lt (position_or_len ends bytes) (length bytes)) refl found
  where
    go : (b : Bool) → nat_lt (position_or_len ends bytes) (length bytes) ≡ b → Some at ≡ cond b (Some (position_or_len ends bytes)) None
        → with_bytes format (kept_only kept) (take (at + 1) bytes) ≡ fed_line format (kept_only kept) (take at bytes)
    go true e found =
        let is : at ≡ position_or_len ends bytes = cc in
        rw is (line_ended format (kept_only kept) bytes (below _ _ e))
    go false e found = cc

take_whole : (bytes : List ℕ) → take (length bytes) bytes ≡ bytes
take_whole [] = refl
take_whole (b ∷ bytes) = ap (λ more. b ∷ more) (take_whole bytes)

-- Without a line feed, all bytes are kept.
pub none_at : (format : List ℕ → List ℕ) (kept bytes : List ℕ) → None ≡ position ends bytes
    → with_bytes format (kept_only kept) (take (length bytes) bytes) ≡ fed_more (kept_only kept) bytes
none_at format kept bytes found = rw (take_whole bytes) (go (nat_lt (position_or_len ends bytes) (length bytes)) refl found)
  where
    go : (b : Bool) → nat_lt (position_or_len ends bytes) (length bytes) ≡ b → None ≡ cond b (Some (position_or_len ends bytes)) None
        → with_bytes format (kept_only kept) bytes ≡ fed_more (kept_only kept) bytes
    go true e found = cc
    go false e found = all_kept format (kept_only kept) bytes (not_below _ _ e)
