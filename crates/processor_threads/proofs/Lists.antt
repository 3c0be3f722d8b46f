-- Lists of bytes, each followed by its rest, one after another, and beginnings of lists.
use Rattle.std.proofs.Common.{◌≡◌, ℕ, zero, suc, ◌+◌, ◌<◌, List, [], ◌∷◌, ◌++◌, length, map, Vec, Global, refl, sym, ap, ◌∙◌, subst, arith}
use Rattle.std.specs.Prelude.{replicate, slice_set, slice_index_or}
use Rattle.std.proofs.lemmas.List.{append-nil, get_or-map, length-map, map-set}
use Rattle.std.proofs.Math.Seq.{map-set_same}
use Rattle.console_monitor.specs.Ends.{at, joined}
use Rattle.processor_threads.specs.Consoles.{AreBeginnings, bytes_of}

-- the first this many lists, each followed by its rest, and the others as they are
abbrev pub part : ℕ → List (List ℕ) → List (List ℕ) → List (List ℕ)
part zero lists rests = lists
part (suc n) [] rests = []
part (suc n) (xs ∷ lists) [] = xs ∷ lists
part (suc n) (xs ∷ lists) (ys ∷ rests) = (xs ++ ys) ∷ part n lists rests

-- If one more list is followed by its rest, one more of the first lists are.
pub part_more : (p : ℕ) (lists rests : List (List ℕ)) → p < length rests → length lists ≡ length rests →
    slice_set (part p lists rests) p (at (part p lists rests) p ++ at rests p) ≡ part (suc p) lists rests
part_more zero [] [] less e = absurd (omega (arith, less))
part_more (suc p) [] [] less e = absurd (omega (arith, less))
part_more p [] (ys ∷ rests) less e = absurd (omega (arith, e))
part_more p (xs ∷ lists) [] less e = absurd (omega (arith, e))
part_more zero (xs ∷ lists) (ys ∷ rests) less e = refl
part_more (suc p) (xs ∷ lists) (ys ∷ rests) less e = ap (λ l. (xs ++ ys) ∷ l) (part_more p lists rests (omega (arith, less)) (omega (arith, e)))

-- If as many lists are followed by their rests as there are rests, all lists are.
pub part_all : (lists rests : List (List ℕ)) → length lists ≡ length rests → part (length rests) lists rests ≡ joined lists rests
part_all [] [] e = refl
part_all [] (ys ∷ rests) e = absurd (omega (arith, e))
part_all (xs ∷ lists) [] e = absurd (omega (arith, e))
part_all (xs ∷ lists) (ys ∷ rests) e = ap (λ l. (xs ++ ys) ∷ l) (part_all lists rests (omega (arith, e)))

-- ---- emptied lists

-- the first this many lists are empty, and the others as they are
abbrev pub emptied : ℕ → List (List ℕ) → List (List ℕ)
emptied zero lists = lists
emptied (suc n) [] = []
emptied (suc n) (xs ∷ lists) = [] ∷ emptied n lists

pub emptied_more : (p : ℕ) (lists : List (List ℕ)) → p < length lists → slice_set (emptied p lists) p [] ≡ emptied (suc p) lists
emptied_more p [] less = absurd (omega (arith, less))
emptied_more zero (xs ∷ lists) less = refl
emptied_more (suc p) (xs ∷ lists) less = ap (λ l. [] ∷ l) (emptied_more p lists (omega (arith, less)))

-- If as many lists are emptied as there are, all are empty.
pub emptied_all : (lists : List (List ℕ)) → emptied (length lists) lists ≡ replicate (length lists) []
emptied_all [] = refl
emptied_all (xs ∷ lists) = ap (λ l. [] ∷ l) (emptied_all lists)

-- ---- beginnings

pub own_beginnings : (lists : List (List ℕ)) → AreBeginnings lists lists
own_beginnings [] = tt
own_beginnings (xs ∷ lists) = (([], append-nil xs), own_beginnings lists)

joined_beginnings : (lists rests : List (List ℕ)) → length lists ≡ length rests → AreBeginnings lists (joined lists rests)
joined_beginnings [] rests e = tt
joined_beginnings (xs ∷ lists) [] e = absurd (omega (arith, e))
joined_beginnings (xs ∷ lists) (ys ∷ rests) e = ((ys, refl), joined_beginnings lists rests (omega (arith, e)))

-- If the first p lists are followed by their rests, all are beginnings of the lists that are.
pub part_beginnings : (p : ℕ) (lists rests : List (List ℕ)) → length lists ≡ length rests → AreBeginnings (part p lists rests) (joined lists rests)
part_beginnings zero lists rests e = joined_beginnings lists rests e
part_beginnings (suc p) [] rests e = tt
part_beginnings (suc p) (xs ∷ lists) [] e = absurd (omega (arith, e))
part_beginnings (suc p) (xs ∷ lists) (ys ∷ rests) e = (([], append-nil (xs ++ ys)), part_beginnings p lists rests (omega (arith, e)))

-- Empty lists are beginnings of any as many lists.
pub empty_beginnings : (n : ℕ) (lists : List (List ℕ)) → length lists ≡ n → AreBeginnings (replicate n []) lists
empty_beginnings zero [] e = tt
empty_beginnings zero (xs ∷ lists) e = absurd (omega (arith, e))
empty_beginnings (suc n) [] e = absurd (omega (arith, e))
empty_beginnings (suc n) (xs ∷ lists) e = ((xs, refl), empty_beginnings n lists (omega (arith, e)))

-- ---- one list of many is changed

abbrev Bytes : Type 0
Bytes = Vec ℕ Global

-- If it keeps its bytes, all lists do.
pub kept_at : (xs : List Bytes) (place : ℕ) (y d : Bytes) → d ≡ slice_index_or xs place d → y.items ≡ d.items →
    map bytes_of (slice_set xs place y) ≡ map bytes_of xs
kept_at xs place y d is same = map-set_same bytes_of xs place y d (same ∙ ap bytes_of is)

-- If it gets more bytes, the other lists keep theirs.
more_at : (xs : List Bytes) (place : ℕ) (y d : Bytes) (bytes : List ℕ) → place < length xs → d ≡ slice_index_or xs place d → y.items ≡ d.items ++ bytes →
    map bytes_of (slice_set xs place y) ≡ slice_set (map bytes_of xs) place (at (map bytes_of xs) place ++ bytes)
more_at xs place y d bytes less is more =
    map-set bytes_of xs place y
    ∙ ap (λ v. slice_set (map bytes_of xs) place v)
    (more ∙ ap (λ (v : Bytes). v.items ++ bytes) is ∙ ap (λ v. v ++ bytes) (sym (get_or-map bytes_of xs place d [] less)))

-- A byte that is put at the end of list p is added to its bytes, and the other lists keep theirs.
pub put_at : (xs : List Bytes) (place p : ℕ) (y d : Bytes) (byte : ℕ) → p < length xs → place ≡ p → d ≡ slice_index_or xs place d →
    y.items ≡ d.items ++ byte ∷ [] → map bytes_of (slice_set xs place y) ≡ slice_set (map bytes_of xs) p (at (map bytes_of xs) p ++ byte ∷ [])
put_at xs place p y d byte less same is more =
    more_at xs place y d (byte ∷ []) (subst (λ n. n < length xs) (sym same) less) is more
    ∙ ap (λ n. slice_set (map bytes_of xs) n (at (map bytes_of xs) n ++ byte ∷ [])) same

-- If list p is followed by its rest after those before it are, the first p + 1 lists are followed by their rests.
pub append_step : (olds : List (List ℕ)) (xs rests : List Bytes) (p : ℕ) (y d r : Bytes) (bytes : List ℕ) →
    map bytes_of xs ≡ part p olds (map bytes_of rests) → p < length xs → p < length rests → length olds ≡ length rests → d ≡ slice_index_or xs p d →
    r ≡ slice_index_or rests p r → bytes ≡ r.items → y.items ≡ d.items ++ bytes → map bytes_of (slice_set xs p y) ≡ part (p + 1) olds (map bytes_of rests)
append_step olds xs rests p y d r bytes e within less many is same more now =
    let all : List (List ℕ) = map bytes_of rests in
    let count : length all ≡ length rests = length-map rests bytes_of in
    let next : suc p ≡ p + 1 = omega arith in
    let last : bytes ≡ at all p = more ∙ ap bytes_of same ∙ sym (get_or-map bytes_of rests p r [] less) in
    more_at xs p y d bytes within is now
    ∙ (λ i. slice_set (e i) p (at (e i) p ++ last i))
    ∙ part_more p olds all (subst (λ n. p < n) (sym count) less) (many ∙ sym count)
    ∙ ap (λ n. part n olds all) next

-- If list p is emptied after those before it, the first p + 1 lists are empty.
pub clear_step : (olds : List (List ℕ)) (xs : List Bytes) (p : ℕ) (y : Bytes) → map bytes_of xs ≡ emptied p olds → p < length olds → y.items ≡ [] →
    map bytes_of (slice_set xs p y) ≡ emptied (p + 1) olds
clear_step olds xs p y e less none =
    let next : suc p ≡ p + 1 = omega arith in
    map-set bytes_of xs p y ∙ (λ i. slice_set (e i) p (none i)) ∙ emptied_more p olds less ∙ ap (λ n. emptied n olds) next
