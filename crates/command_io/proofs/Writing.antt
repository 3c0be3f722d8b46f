-- A text that several writes append.
use Rattle.std.proofs.Common.{◌≡◌, ℕ, ◌+◌, ◌-◌, ◌<◌, ◌≤◌, List, [], ◌∷◌, ◌++◌, take, drop, get_or}
use Rattle.std.proofs.Common.{length, refl, sym, subst, append_assoc, append-nil, length-append, add-one, drop-cons, Option, Bor, arith, inl, inr}
use Rattle.std.proofs.lemmas.List.{drop_all, take-append-drop}
use Rattle.std.proofs.lemmas.Slice.{between_to_end}
use Rattle.std.proofs.KnownBytes.{Appends-nil, Appends-trans}
use Rattle.std.specs.Io.KnownBytes.{Appends}
use Rattle.command_io.specs.FaultTexts.{AppendsOrPart, joined}

-- All of the text but this rest is written.
pub record IsBegun (old new : Option (List ℕ)) (text rest : List ℕ) : Type 0 where
  -- what is written
  pub written : List ℕ
  -- The text is that, and then the rest.
  pub whole : text ≡ written ++ rest
  pub appends : Appends old new written

-- Before the first write, the rest is the whole text.
pub begun_none : (old : Option (List ℕ)) (text : List ℕ) → IsBegun old old text text
begun_none old text = record { written = []; whole = refl; appends = Appends-nil old }

-- After one more write, the rest is shorter by what was written.
pub begun_more : (old between new : Option (List ℕ)) (text rest : List ℕ) (n k : ℕ) → length rest ≤ k → IsBegun old between text rest →
    Appends between new (take n rest) → IsBegun old new text (take (k - n) (drop n rest))
begun_more old between new text rest n k h b more = record {
  written = b.written ++ take n rest;
  whole = rw (between_to_end rest n k h, append_assoc, take-append-drop) b.whole;
  appends = Appends-trans old between new b.written (take n rest) b.appends more;
}

-- After the next text is written whole, the rest is what comes after it.
pub begun_whole : (old between new : Option (List ℕ)) (text part rest : List ℕ) → IsBegun old between text (part ++ rest)
    → Appends between new part → IsBegun old new text rest
begun_whole old between new text part rest b more = record {
  written = b.written ++ part;
  whole = rw append_assoc b.whole;
  appends = Appends-trans old between new b.written part b.appends more;
}

-- If the next text or a beginning of it is written, the whole text or a beginning of it is written.
pub begun_part : (old between new : Option (List ℕ)) (text part rest : List ℕ) → IsBegun old between text (part ++ rest)
    → AppendsOrPart between new part → AppendsOrPart old new text
begun_part old between new text part [] b (inl whole) =
    inl (rw (b.whole, append-nil) (Appends-trans old between new b.written part b.appends whole))
begun_part old between new text part (r ∷ rs) b (inl whole) = inr (
  b.written ++ part,
  r ∷ rs,
  rw append_assoc b.whole,
  omega arith,
  Appends-trans old between new b.written part b.appends whole,
)
begun_part old between new text part rest b (inr (written, missing, whole, some, appends)) = inr (
  b.written ++ written,
  missing ++ rest,
  rw (append_assoc, ← append_assoc written, ← whole) b.whole,
  omega (arith, length-append missing rest, some),
  Appends-trans old between new b.written written b.appends appends,
)

pub begun_all : (old new : Option (List ℕ)) (text : List ℕ) → IsBegun old new text [] → Appends old new text
begun_all old new text b = rw (b.whole, append-nil) b.appends

-- ---- parts

here : (parts : List (Bor (List ℕ))) (i : ℕ) (d : Bor (List ℕ)) → i < length parts →
    joined (drop i parts) ≡ (get_or parts i d).now ++ joined (drop (i + 1) parts)
here parts i d lt = rw (add-one, drop-cons parts i d lt) refl

-- If the parts before one are written, and then that one, all parts but those after it are written.
pub parts_more : (parts : List (Bor (List ℕ))) (i : ℕ) (d : Bor (List ℕ)) (old between new : Option (List ℕ)) → i < length parts
    → IsBegun old between (joined parts) (joined (drop i parts)) → Appends between new (get_or parts i d).now
    → IsBegun old new (joined parts) (joined (drop (i + 1) parts))
parts_more parts i d old between new lt b more =
    begun_whole old between new (joined parts) (get_or parts i d).now (joined (drop (i + 1) parts))
    (subst (IsBegun old between (joined parts)) (here parts i d lt) b) more

-- If the parts before one are written, and then that one or a beginning of it, so are all parts or a beginning of them.
pub parts_stop : (parts : List (Bor (List ℕ))) (i : ℕ) (d : Bor (List ℕ)) (old between new : Option (List ℕ)) → i < length parts
    → IsBegun old between (joined parts) (joined (drop i parts)) → AppendsOrPart between new (get_or parts i d).now
    → AppendsOrPart old new (joined parts)
parts_stop parts i d old between new lt b more =
    begun_part old between new (joined parts) (get_or parts i d).now (joined (drop (i + 1) parts))
    (subst (IsBegun old between (joined parts)) (here parts i d lt) b) more

-- If no part is left to write, all parts, or a beginning of them, are written.
pub parts_all : (parts : List (Bor (List ℕ))) (i : ℕ) (old new : Option (List ℕ)) → length parts ≤ i
    → IsBegun old new (joined parts) (joined (drop i parts)) → AppendsOrPart old new (joined parts)
parts_all parts i old new le b =
    inl (begun_all old new (joined parts) (subst (λ ps. IsBegun old new (joined parts) (joined ps)) (drop_all i parts le) b))
