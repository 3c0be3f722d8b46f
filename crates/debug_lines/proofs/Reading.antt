-- How more bytes extend the lines of a stream, and that a stream has one list of lines.
use Rattle.std.proofs.Common.{◌≡◌, ◌≢◌, ℕ, ◌+◌, ◌<◌, List, [], ◌∷◌, ◌++◌, take, length, get_or, map, refl, sym, ap, ◌∙◌, append_assoc, length-append, arith}
use Rattle.std.proofs.lemmas.List.{take_more, map-append, append-nil}
use Rattle.std.proofs.lemmas.Bool.Decides.{nat_tests}
use Rattle.debug_lines.specs.declared.reader.Event.{Event}
use Rattle.debug_lines.specs.Lines.{Held, held_of, held_more, event_of_held, event_of, IsUnbroken, AreUnbroken, joined, IsAfter}

pub IsUnbroken-append : (xs ys : List ℕ) → IsUnbroken xs → IsUnbroken ys → IsUnbroken (xs ++ ys)
IsUnbroken-append [] ys p q = q
IsUnbroken-append (x ∷ xs) ys p q = (p.0, IsUnbroken-append xs ys p.1 q)

pub IsUnbroken-more : (bytes : List ℕ) (i : ℕ) → i < length bytes → get_or bytes i 0 ≢ 10 → IsUnbroken (take i bytes) → IsUnbroken (take (i + 1) bytes)
IsUnbroken-more bytes i h ne p =
    rw (take_more bytes i 0 h) (IsUnbroken-append (take i bytes) (get_or bytes i 0 ∷ []) p (ne, tt))

AreUnbroken-append : (xs ys : List (List ℕ)) → AreUnbroken xs → AreUnbroken ys → AreUnbroken (xs ++ ys)
AreUnbroken-append [] ys p q = q
AreUnbroken-append (x ∷ xs) ys p q = (p.0, AreUnbroken-append xs ys p.1 q)

joined-push : (lines : List (List ℕ)) (line : List ℕ) → joined (lines ++ line ∷ []) ≡ joined lines ++ (line ++ 10 ∷ [])
joined-push [] line = refl
joined-push (l ∷ lines) line = rw (joined-push lines line) (sym (append_assoc l (10 ∷ joined lines) (line ++ 10 ∷ [])))

-- What is kept of a rest, and then of more bytes, is what is kept of both at once.
pub held_more-of : (xs ys : List ℕ) → held_more (held_of xs) ys ≡ held_of (xs ++ ys)
held_more-of xs ys = grind (arith, nat_tests, length-append)

pub IsAfter-more : (bytes : List ℕ) (events : List Event) (held : Held) (more : List ℕ) → IsAfter bytes events held → IsUnbroken more →
    IsAfter (bytes ++ more) events (held_more held more)
IsAfter-more bytes events held more a u = record {
  rest = a.rest ++ more;
  stands = record {
    lines = a.stands.lines;
    whole = rw a.stands.whole (append_assoc (joined a.stands.lines) a.rest more);
    unbroken = a.stands.unbroken;
    open_rest = IsUnbroken-append a.rest more a.stands.open_rest u;
    each = a.stands.each;
  };
  kept = ap (λ h. held_more h more) a.kept ∙ held_more-of a.rest more;
}

line-whole : (bytes : List ℕ) (lines : List (List ℕ)) (rest : List ℕ) → bytes ≡ joined lines ++ rest → bytes ++ 10 ∷ [] ≡ joined (lines ++ rest ∷ []) ++ []
line-whole bytes lines rest e =
    ap (λ x. x ++ 10 ∷ []) e ∙ append_assoc (joined lines) rest (10 ∷ []) ∙ sym (joined-push lines rest) ∙ sym (append-nil (joined (lines ++ rest ∷ [])))

line-each : (events : List Event) (held : Held) (lines : List (List ℕ)) (rest : List ℕ) → events ≡ map event_of lines → held ≡ held_of rest →
    events ++ event_of_held held ∷ [] ≡ map event_of (lines ++ rest ∷ [])
line-each events held lines rest e k =
    ap (λ x. x ++ event_of_held held ∷ []) e ∙ ap (λ h. map event_of lines ++ event_of_held h ∷ []) k ∙ sym (map-append event_of lines (rest ∷ []))

pub IsAfter-line : (bytes : List ℕ) (events : List Event) (held : Held) → IsAfter bytes events held →
    IsAfter (bytes ++ 10 ∷ []) (events ++ event_of_held held ∷ []) (held_of [])
IsAfter-line bytes events held a = record {
  rest = [];
  stands = record {
    lines = a.stands.lines ++ a.rest ∷ [];
    whole = line-whole bytes a.stands.lines a.rest a.stands.whole;
    unbroken = AreUnbroken-append a.stands.lines (a.rest ∷ []) a.stands.unbroken (a.stands.open_rest, tt);
    open_rest = tt;
    each = line-each events held a.stands.lines a.rest a.stands.each a.kept;
  };
  kept = refl;
}

-- A piece up to its first line feed adds one event, and an empty rest is kept.
pub IsAfter-piece : (bytes : List ℕ) (events : List Event) (held : Held) (piece : List ℕ) (at : ℕ) → at < length piece → IsUnbroken (take at piece) →
    get_or piece at 0 ≡ 10 → IsAfter bytes events held →
    IsAfter (bytes ++ take (at + 1) piece) (events ++ event_of_held (held_more held (take at piece)) ∷ []) (held_of [])
IsAfter-piece bytes events held piece at h u e a =
    let after = IsAfter-line (bytes ++ take at piece) events (held_more held (take at piece)) (IsAfter-more bytes events held (take at piece) a u) in
    let same : bytes ++ take (at + 1) piece ≡ (bytes ++ take at piece) ++ 10 ∷ [] =
    ap (λ x. bytes ++ x) (take_more piece at 0 h ∙ ap (λ b. take at piece ++ b ∷ []) e) ∙ sym (append_assoc bytes (take at piece) (10 ∷ [])) in
    rw same after

-- A list of bytes has one first line feed.
first-break : (xs ys zs ws : List ℕ) → IsUnbroken xs → IsUnbroken ys → xs ++ 10 ∷ zs ≡ ys ++ 10 ∷ ws → (xs ≡ ys) × (zs ≡ ws)
first-break [] [] zs ws p q e = (refl, cc)
first-break [] (y ∷ ys) zs ws p q e = absurd (q.0 (cc))
first-break (x ∷ xs) [] zs ws p q e = absurd (p.0 (cc))
first-break (x ∷ xs) (y ∷ ys) zs ws p q e =
    let tails : xs ++ 10 ∷ zs ≡ ys ++ 10 ∷ ws = cc in
    let heads : x ≡ y = cc in
    let rest = first-break xs ys zs ws p.1 q.1 tails in
    let first : xs ≡ ys = rest.0 in (cc, rest.1)

no-break : (xs zs rest : List ℕ) → IsUnbroken rest → rest ≡ xs ++ 10 ∷ zs → ⊥
no-break [] zs [] u e = cc
no-break [] zs (r ∷ rest) u e = u.0 (cc)
no-break (x ∷ xs) zs [] u e = cc
no-break (x ∷ xs) zs (r ∷ rest) u e = no-break xs zs rest u.1 (cc)

-- A list of bytes has one list of lines and one rest.
pub joined-one : (ls ms : List (List ℕ)) (r s : List ℕ) → AreUnbroken ls → AreUnbroken ms → IsUnbroken r → IsUnbroken s → joined ls ++ r ≡ joined ms ++ s →
    (ls ≡ ms) × (r ≡ s)
joined-one [] [] r s p q u v e = (refl, e)
joined-one [] (m ∷ ms) r s p q u v e = absurd (no-break m (joined ms ++ s) r u (e ∙ append_assoc m (10 ∷ joined ms) s))
joined-one (l ∷ ls) [] r s p q u v e = absurd (no-break l (joined ls ++ r) s v (sym e ∙ append_assoc l (10 ∷ joined ls) r))
joined-one (l ∷ ls) (m ∷ ms) r s p q u v e =
    let both = first-break l m (joined ls ++ r) (joined ms ++ s) p.0 q.0 (sym (append_assoc l (10 ∷ joined ls) r) ∙ e ∙ append_assoc m (10 ∷ joined ms) s) in
    let rest = joined-one ls ms r s p.1 q.1 u v both.1 in
    let heads : l ≡ m = both.0 in
    let tails : ls ≡ ms = rest.0 in
    (cc, rest.1)

pub IsAfter-one : (bytes : List ℕ) (events others : List Event) (held kept : Held) → IsAfter bytes events held → IsAfter bytes others kept →
    (events ≡ others) × (held ≡ kept)
IsAfter-one bytes events others held kept a b =
    let same = joined-one a.stands.lines b.stands.lines a.rest b.rest a.stands.unbroken b.stands.unbroken a.stands.open_rest b.stands.open_rest
    (sym a.stands.whole ∙ b.stands.whole) in
    (a.stands.each ∙ ap (map event_of) same.0 ∙ sym b.stands.each, a.kept ∙ ap held_of same.1 ∙ sym b.kept)
