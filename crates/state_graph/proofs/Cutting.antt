-- The lists that are cut from one list.
use Rattle.std.proofs.Common.{◌≡◌, ℕ, ◌-◌, ◌<◌, ◌≤◌, zero, suc, List, [], ◌∷◌, ◌++◌, length, take, drop, refl, sym, ap, ◌∙◌, arith, length-append}
use Rattle.std.specs.Prelude.{slice_index, slice_index_or, slice_range}
use Rattle.std.proofs.lemmas.List.{take_all, take-append-le, drop_at, drop-append-le, length-drop, get_or_past}
use Rattle.state_graph.specs.Cutting.{cut, AreEnds}

-- there are as many lists as ends
pub length-cut : (start : ℕ) (ends all : List ℕ) → length (cut start ends all) ≡ length ends
length-cut start [] all = refl
length-cut start (end ∷ ends) all = ap suc (length-cut end ends all)

-- The list at a place reaches from the end before it to its own end.
pub cut_at : (start : ℕ) (ends all : List ℕ) (i : ℕ) → i < length ends →
    slice_index_or (cut start ends all) i [] ≡ slice_range all (slice_index (start ∷ ends) i) (slice_index ends i)
cut_at start [] all i l = absurd (omega (arith, l))
cut_at start (end ∷ ends) all zero l = refl
cut_at start (end ∷ ends) all (suc i) l = cut_at end ends all i (omega (arith, l))

-- Past the last list, the lists are read as empty.
pub cut_past : (start : ℕ) (ends all : List ℕ) (i : ℕ) → length ends ≤ i → slice_index_or (cut start ends all) i [] ≡ []
cut_past start ends all i l =
    get_or_past (cut start ends all) i [] (let e = length-cut start ends all in omega (arith, l, e))

-- The start of the first list is not past the last end.
start_within : (start : ℕ) (ends : List ℕ) (last : ℕ) → AreEnds start ends last → start ≤ last
start_within start [] last h = omega (arith, h)
start_within start (end ∷ ends) last h = let l = start_within end ends last h.1 in omega (arith, l, h.0)

-- A list does not end before it begins.
pub begins_within : (start : ℕ) (ends : List ℕ) (last i : ℕ) → AreEnds start ends last → i < length ends →
    slice_index (start ∷ ends) i ≤ slice_index ends i
begins_within start [] last i h l = absurd (omega (arith, l))
begins_within start (end ∷ ends) last zero h l = h.0
begins_within start (end ∷ ends) last (suc i) h l = begins_within end ends last i h.1 (omega (arith, l))

-- A list does not end past the last end.
pub ends_within : (start : ℕ) (ends : List ℕ) (last i : ℕ) → AreEnds start ends last → i < length ends →
    slice_index ends i ≤ last
ends_within start [] last i h l = absurd (omega (arith, l))
ends_within start (end ∷ ends) last zero h l = start_within end ends last h.1
ends_within start (end ∷ ends) last (suc i) h l = ends_within end ends last i h.1 (omega (arith, l))

-- Ends are still ends if one more list is appended.
pub ends_push : (start : ℕ) (ends : List ℕ) (last next : ℕ) → AreEnds start ends last → last ≤ next →
    AreEnds start (ends ++ next ∷ []) next
ends_push start [] last next h l = (omega (arith, h, l), refl)
ends_push start (end ∷ ends) last next h l = (h.0, ends_push end ends last next h.1 l)

-- The list that is appended begins where all others end.
range_push : (all more : List ℕ) (start : ℕ) → start ≡ length all →
    slice_range (all ++ more) start (length (all ++ more)) ≡ more
range_push all more start h =
    ap (take (length (all ++ more) - start)) (drop_at all more start (sym h))
    ∙ take_all (length (all ++ more) - start) more (let l = length-append all more in omega (arith, h, l))

-- What was there before stays.
range_kept : (all more : List ℕ) (start end : ℕ) → start ≤ end → end ≤ length all →
    slice_range (all ++ more) start end ≡ slice_range all start end
range_kept all more start end begins within =
    ap (take (end - start)) (drop-append-le start all more (omega (arith, begins, within)))
    ∙ take-append-le (end - start) (drop start all) more
    (let l = length-drop start all in omega (arith, begins, within, l))

-- Appending one more list leaves the other lists as they are.
pub cut_push : (start : ℕ) (ends all more : List ℕ) → AreEnds start ends (length all) →
    cut start (ends ++ length (all ++ more) ∷ []) (all ++ more) ≡ cut start ends all ++ more ∷ []
cut_push start [] all more h = ap (λ (x : List ℕ). x ∷ []) (range_push all more start h)
cut_push start (end ∷ ends) all more h =
    let head = range_kept all more start end h.0 (start_within end ends (length all) h.1) in
    let tail = cut_push end ends all more h.1 in
    cc
