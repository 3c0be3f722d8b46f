-- The lists of queues after a write to the ends of one queue and to the table, which are still linked.
use Rattle.std.proofs.Common.{◌≡◌, ℕ, zero, suc, ◌+◌, ◌-◌, ◌<◌, ◌≤◌, List, [], ◌∷◌, ◌++◌, map}
use Rattle.std.proofs.Common.{length, get_or, set, drop, Some, None, inl, inr, refl, sym, ap, ◌∙◌}
use Rattle.std.proofs.Common.{subst, arith, get_or-set_same, get_or-set_other, length-set}
use Rattle.std.specs.Prelude.{replicate, slice_get}
use Rattle.std.proofs.lemmas.Bool.{cases_eq}
use Rattle.std.proofs.lemmas.List.{get_or-map, length-map, length-replicate, map-set}
use Rattle.std.proofs.lemmas.Option.{slice_get_past}
use Rattle.messages.specs.Places.{In, Distinct}
use Rattle.combining_switch.specs.declared.links.Ends.{Ends}
use Rattle.combining_switch.specs.Links.{AreApart, IsUnlinked, LinkLists, queue_at, with_queue}
use Rattle.combining_switch.specs.Walks.{IsLinked, KnowsLast, last_or, lists_of, no_ends, walk, walk_of}
use Rattle.combining_switch.proofs.Lists.{AreApart-pop, AreApart-push, In-slice_get, few_below, get_or-map_past}
use Rattle.combining_switch.proofs.Lists.{last_or-In, last_or-drop, last_or-push, set-map_same}
use Rattle.combining_switch.proofs.Walks.{length-walk, walk_after, walk_longer, walk_outside}

-- ---- reading

pub queues_are : (next : List ℕ) (queues : List Ends) (v : LinkLists) → lists_of next queues ≡ v → length queues ≡ length v.queues
queues_are next queues v is = sym (length-map queues (walk_of next)) ∙ ap (λ (l : LinkLists). length l.queues) is

pub queue_past : (next : List ℕ) (queues : List Ends) (r : ℕ) → queue_at (lists_of next queues) r ≡ walk_of next (get_or queues r no_ends)
unfolding walk
queue_past next queues r = get_or-map_past (walk_of next) queues r no_ends

pub queue_is : (next : List ℕ) (queues : List Ends) (v : LinkLists) (q : ℕ) (e : Ends) → lists_of next queues ≡ v → q < length v.queues → e ≡ get_or queues
    q e →
    queue_at v q ≡ walk_of next e
queue_is next queues v q e is there at =
    let within : q < length queues = omega (arith, queues_are next queues v is) in
    ap (λ l. queue_at l q) (sym is) ∙ get_or-map (walk_of next) queues q e [] within ∙ ap (walk_of next) (sym at)

-- The count in the ends of a queue is the queue's length.
pub count_is : (next : List ℕ) (queues : List Ends) (v : LinkLists) (q : ℕ) (e : Ends) → lists_of next queues ≡ v → q < length v.queues → e ≡ get_or queues
    q e →
    e.count ≡ length (queue_at v q)
count_is next queues v q e is there at = sym (ap length (queue_is next queues v q e is there at) ∙ length-walk next e.first e.count)

-- A list of length 0 has no first number.
pub front_none : (ps : List ℕ) (n : ℕ) → n ≡ length ps → n ≡ 0 → None ≡ slice_get ps 0
front_none ps n is none = sym (slice_get_past ps 0 (omega arith))

walk_front : (next : List ℕ) (f n : ℕ) → 0 < n → slice_get (walk next f n) 0 ≡ Some f
unfolding walk
walk_front next f zero some = absurd (omega arith)
walk_front next f (suc n) some = refl

-- If the count in the ends of a queue is above 0, their first number is the queue's first.
pub front_some : (next : List ℕ) (queues : List Ends) (v : LinkLists) (q : ℕ) (e : Ends) → lists_of next queues ≡ v → q < length v.queues →
    e ≡ get_or queues q e → 0 < e.count
    → slice_get (queue_at v q) 0 ≡ Some e.first
front_some next queues v q e is there at some =
    ap (λ ps. slice_get ps 0) (queue_is next queues v q e is there at) ∙ walk_front next e.first e.count some

-- If a number is not at the last place of its queue, the table has for it the number at the next place.
pub number_after_some : (next : List ℕ) (queues : List Ends) (v : LinkLists) (q : ℕ) (e : Ends) (i p d : ℕ) → lists_of next queues ≡ v → q < length v.queues →
    e ≡ get_or queues q e → slice_get (queue_at v q) i ≡ Some p → i + 1 < e.count → p < length next → d ≡ get_or next p d
    → Some d ≡ slice_get (queue_at v q) (suc i)
number_after_some next queues v q e i p d is there at stands more below read =
    let ps : queue_at v q ≡ walk_of next e = queue_is next queues v q e is there at in
    let found : slice_get (walk_of next e) i ≡ Some p = ap (λ xs. slice_get xs i) (sym ps) ∙ stands in
    let same : d ≡ get_or next p 0 = read ∙ default next p d below in
    ap Some same ∙ sym (ap (λ xs. slice_get xs (suc i)) ps ∙ walk_after next e.first e.count i p found (omega arith))
  where
    default : (xs : List ℕ) (j d : ℕ) → j < length xs → get_or xs j d ≡ get_or xs j 0
    default [] j d lt = absurd (omega arith)
    default (x ∷ xs) zero d lt = refl
    default (x ∷ xs) (suc j) d lt = default xs j d (omega arith)

-- A list has no number after its last place.
pub number_after_none : (ps : List ℕ) (n i : ℕ) → n ≡ length ps → n ≤ i + 1 → None ≡ slice_get ps (suc i)
number_after_none ps n i is none = sym (slice_get_past ps (suc i) (omega arith))

-- A number of a queue has a row in the table.
pub row_within : (next : List ℕ) (queues : List Ends) (v : LinkLists) (q i p : ℕ) → lists_of next queues ≡ v → IsLinked next queues →
    slice_get (queue_at v q) i ≡ Some p → p < length next
row_within next queues v q i p is linked stands =
    let found : slice_get (queue_at (lists_of next queues) q) i ≡ Some p = ap (λ l. slice_get (queue_at l q) i) is ∙ stands in
    linked.apart.within q p (In-slice_get (queue_at (lists_of next queues) q) i p found)

-- A linked queue has at most 64 numbers.
pub few_in : (next : List ℕ) (queues : List Ends) (v : LinkLists) (q : ℕ) → lists_of next queues ≡ v → IsLinked next queues → length (queue_at v q) ≤ 64
few_in next queues v q is linked =
    let few : length (queue_at (lists_of next queues) q) ≤ length next =
    few_below (queue_at (lists_of next queues) q) (length next) (linked.apart.once q) (linked.apart.within q) in
    let same : length (queue_at (lists_of next queues) q) ≡ length (queue_at v q) = ap (λ l. length (queue_at l q)) is in
    let bound : length next ≤ 64 = linked.few in
    omega arith

-- ---- writing

-- The table and the ends are linked, and are read as these lists.
pub record Became (next : List ℕ) (queues : List Ends) (v : LinkLists) : Type 0 where
  -- the table and the ends are linked
  pub linked : IsLinked next queues
  -- they are read as these lists
  pub view : lists_of next queues ≡ v

-- The fields are linked if one queue is read by other ends, and the others are read as before.
became : (next : List ℕ) (queues : List Ends) (next' : List ℕ) (q : ℕ) (e : Ends) (ps : List ℕ) → IsLinked next queues → length next' ≡ length next →
    q < length queues → walk_of next' e ≡ ps → ((r : ℕ) → (r ≡ q → ⊥) → walk_of next' (get_or queues r no_ends) ≡ walk_of next (get_or queues r no_ends)) →
    AreApart (with_queue (lists_of next queues) q ps) → KnowsLast next' e
    → Became next' (set queues q e) (with_queue (lists_of next queues) q ps)
became next queues next' q e ps linked long there walks others apart last = record {
  linked = record {
    few = subst (λ n. n ≤ 64) (sym long) linked.few;
    apart = subst AreApart (sym view) apart;
    lasts = λ r. elim (cases_eq r q) [
      | inl s ↦ subst (KnowsLast next') (sym (ap (λ i. get_or (set queues q e) i no_ends) s ∙ get_or-set_same queues q e no_ends there)) last
      | inr n ↦ subst (KnowsLast next') (sym (get_or-set_other queues q r e no_ends n))
          (subst (λ xs. (get_or queues r no_ends).last ≡ last_or (get_or queues r no_ends).last xs) (sym (others r n)) (linked.lasts r))
    ];
  };
  view = view;
}
  where
    view : lists_of next' (set queues q e) ≡ with_queue (lists_of next queues) q ps
    view = λ i. record {
      cells = long i;
      queues = (map-set (walk_of next') queues q e ∙ set-map_same (walk_of next) (walk_of next') queues q no_ends (walk_of next' e) others
          ∙ ap (set (map (walk_of next) queues) q) walks) i;
    }

-- A number is now the last of a queue, and the other queues are as before.
abbrev Pushed : (next : List ℕ) (queues : List Ends) (q p : ℕ) → LinkLists → Type 0
Pushed next queues q p v = Became next queues (with_queue v q (queue_at v q ++ p ∷ []))

-- If a number that no queue has becomes the first and last of an empty queue's ends, the queue has that number.
pub pushed_first : (next : List ℕ) (queues : List Ends) (v : LinkLists) (q p : ℕ) (e : Ends) → lists_of next queues ≡ v → IsLinked next queues →
    q < length v.queues → p < v.cells → IsUnlinked v p → e ≡ get_or queues q e → e.count ≡ 0
    → Became next (set queues q (record { first = p; last = p; count = 1 })) (with_queue v q (queue_at v q ++ p ∷ []))
unfolding walk
pushed_first next queues v q p e is linked =
    subst (λ l. q < length l.queues → p < l.cells → IsUnlinked l p → e ≡ get_or queues q e → e.count ≡ 0
    → Became next (set queues q (record { first = p; last = p; count = 1 })) (with_queue l q (queue_at l q ++ p ∷ []))) is
    (λ there below free at none.
    let within : q < length queues = omega (arith, queues_are next queues (lists_of next queues) refl) in
    let empty : queue_at (lists_of next queues) q ≡ [] =
    queue_is next queues (lists_of next queues) q e refl there at ∙ ap (walk next e.first) none in
    became next queues next q (record { first = p; last = p; count = 1 }) (queue_at (lists_of next queues) q ++ p ∷ []) linked refl within
    (sym (ap (λ ps. ps ++ p ∷ []) empty)) (λ r n. refl) (AreApart-push (lists_of next queues) q p linked.apart there below free) refl)

-- The last number in the ends of a queue that is not empty is in the queue.
pub last_inside : (next : List ℕ) (queues : List Ends) (v : LinkLists) (q : ℕ) (e : Ends) → lists_of next queues ≡ v → IsLinked next queues →
    q < length v.queues → e ≡ get_or queues q e → 0 < e.count → In e.last (queue_at v q)
unfolding walk
last_inside next queues v q e is linked there at some =
    let within : q < length queues = omega (arith, queues_are next queues v is) in
    let same : get_or queues q no_ends ≡ e = sym (at ∙ other queues q within) in
    let known : KnowsLast next e = subst (KnowsLast next) same (linked.lasts q) in
    subst (In e.last) (sym (queue_is next queues v q e is there at)) (go e.count refl some known)
  where
    other : (xs : List Ends) (j : ℕ) → j < length xs → get_or xs j e ≡ get_or xs j no_ends
    other [] j lt = absurd (omega arith)
    other (x ∷ xs) zero lt = refl
    other (x ∷ xs) (suc j) lt = other xs j (omega arith)

    go : (n : ℕ) → e.count ≡ n → 0 < n → e.last ≡ last_or e.last (walk next e.first n) → In e.last (walk next e.first n)
    go zero c some known = absurd (omega arith)
    go (suc n) c some known =
        subst (λ x. In x (walk next e.first (suc n))) (sym known) (last_or-In e.first (walk next (get_or next e.first 0) n))

-- The last number in the ends of a queue that is not empty has a row in the table.
pub last_within : (next : List ℕ) (queues : List Ends) (v : LinkLists) (q : ℕ) (e : Ends) → lists_of next queues ≡ v → IsLinked next queues →
    q < length v.queues → e ≡ get_or queues q e → 0 < e.count → e.last < length next
last_within next queues v q e is linked there at some =
    let inside : In e.last (queue_at (lists_of next queues) q) =
    subst (λ l. In e.last (queue_at l q)) (sym is) (last_inside next queues v q e is linked there at some) in
    linked.apart.within q e.last inside

-- If a number that no queue has becomes the last of a queue's ends, and follows the old last, the queue ends in it.
pub pushed_more : (next : List ℕ) (queues : List Ends) (v : LinkLists) (q p : ℕ) (e : Ends) → lists_of next queues ≡ v → IsLinked next queues →
    q < length v.queues → p < v.cells → IsUnlinked v p → e ≡ get_or queues q e → 0 < e.count
    → Became (set next e.last p) (set queues q (record { first = e.first; last = p; count = e.count + 1 })) (with_queue v q (queue_at v q ++ p ∷ []))
unfolding walk
pushed_more next queues v q p e is linked =
    subst (λ l. q < length l.queues → p < l.cells → IsUnlinked l p → e ≡ get_or queues q e → 0 < e.count
    → Became (set next e.last p) (set queues q (record { first = e.first; last = p; count = e.count + 1 })) (with_queue l q (queue_at l q ++ p ∷ []))) is
    (λ there below free at some.
    let within : q < length queues = omega (arith, queues_are next queues (lists_of next queues) refl) in
    let here : queue_at (lists_of next queues) q ≡ walk_of next e = queue_is next queues (lists_of next queues) q e refl there at in
    let inside : In e.last (queue_at (lists_of next queues) q) = last_inside next queues (lists_of next queues) q e refl linked there at some in
    let longer : walk (set next e.last p) e.first (e.count + 1) ≡ queue_at (lists_of next queues) q ++ p ∷ [] =
    go e.count refl some (linked.lasts q) (same at within) (λ x m. linked.apart.within q x (subst (In x) (sym here) m)) (subst Distinct here
    (linked.apart.once q))
    ∙ ap (λ ps. ps ++ p ∷ []) (sym here) in
    became next queues (set next e.last p) q (record { first = e.first; last = p; count = e.count + 1 }) (queue_at (lists_of next queues) q ++ p ∷ []) linked
    (length-set next e.last p) within longer
    (λ r n. walk_outside next e.last p (get_or queues r no_ends).first (get_or queues r no_ends).count
    (λ m. n (linked.apart.in_one r q e.last (subst (In e.last) (sym (queue_past next queues r)) m) inside)))
    (AreApart-push (lists_of next queues) q p linked.apart there below free)
    (sym (ap (last_or p) longer ∙ last_or-push p p (queue_at (lists_of next queues) q))))
  where
    same : e ≡ get_or queues q e → q < length queues → get_or queues q no_ends ≡ e
    same at lt = sym (at ∙ other queues q lt)
      where
        other : (xs : List Ends) (j : ℕ) → j < length xs → get_or xs j e ≡ get_or xs j no_ends
        other [] j lt = absurd (omega arith)
        other (x ∷ xs) zero lt = refl
        other (x ∷ xs) (suc j) lt = other xs j (omega arith)

    longer_by : (n : ℕ) → e.last ≡ last_or e.last (walk next e.first (suc n)) → ((x : ℕ) → In x (walk next e.first (suc n)) → x < length next) →
        Distinct (walk next e.first (suc n)) → walk (set next e.last p) e.first (suc (suc n)) ≡ walk next e.first (suc n) ++ p ∷ []
    longer_by n known below once =
        ap (λ x. walk (set next x p) e.first (suc (suc n))) known ∙ walk_longer next p e.first n below once

    go : (n : ℕ) → e.count ≡ n → 0 < n → KnowsLast next (get_or queues q no_ends) → get_or queues q no_ends ≡ e →
        ((x : ℕ) → In x (walk next e.first e.count) → x < length next) → Distinct (walk next e.first e.count)
        → walk (set next e.last p) e.first (e.count + 1) ≡ walk next e.first e.count ++ p ∷ []
    go zero c some known at below once = absurd (omega arith)
    go (suc n) c some known at below once =
        let mine : KnowsLast next e = subst (KnowsLast next) at known in
        let more : e.count + 1 ≡ suc (suc n) = omega arith in
        ap (walk (set next e.last p) e.first) more
        ∙ longer_by n (subst (λ m. e.last ≡ last_or e.last (walk next e.first m)) c mine)
        (subst (λ m. (x : ℕ) → In x (walk next e.first m) → x < length next) c below) (subst (λ m. Distinct (walk next e.first m)) c once)
        ∙ ap (λ m. walk next e.first m ++ p ∷ []) (sym c)

-- If the first of a queue's ends becomes what the table has for the old first, the queue loses its first number.
pub popped : (next : List ℕ) (queues : List Ends) (v : LinkLists) (q : ℕ) (e : Ends) (g : ℕ) → lists_of next queues ≡ v → IsLinked next queues →
    q < length v.queues → e ≡ get_or queues q e → 0 < e.count → g ≡ get_or next e.first g
    → Became next (set queues q (record { first = g; last = e.last; count = e.count - 1 })) (with_queue v q (drop 1 (queue_at v q)))
unfolding walk
popped next queues v q e g is linked =
    subst (λ l. q < length l.queues → e ≡ get_or queues q e → 0 < e.count → g ≡ get_or next e.first g
    → Became next (set queues q (record { first = g; last = e.last; count = e.count - 1 })) (with_queue l q (drop 1 (queue_at l q)))) is
    (λ there at some read.
    let within : q < length queues = omega (arith, queues_are next queues (lists_of next queues) refl) in
    let here : queue_at (lists_of next queues) q ≡ walk_of next e = queue_is next queues (lists_of next queues) q e refl there at in
    let mine : KnowsLast next e = subst (KnowsLast next) (sym (at ∙ other queues q within)) (linked.lasts q) in
    let first : slice_get (queue_at (lists_of next queues) q) 0 ≡ Some e.first = front_some next queues (lists_of next queues) q e refl there at some in
    let below : e.first < length next = row_within next queues (lists_of next queues) q 0 e.first refl linked first in
    let shorter : walk next g (e.count - 1) ≡ drop 1 (walk_of next e) = go e.count some (read ∙ default next e.first below) in
    became next queues next q (record { first = g; last = e.last; count = e.count - 1 }) (drop 1 (queue_at (lists_of next queues) q)) linked refl within
    (shorter ∙ ap (drop 1) (sym here)) (λ r n. refl) (AreApart-pop (lists_of next queues) q linked.apart there)
    (subst (λ ps. e.last ≡ last_or e.last ps) (sym shorter) (last_or-drop e.last (walk_of next e) mine)))
  where
    other : (xs : List Ends) (j : ℕ) → j < length xs → get_or xs j e ≡ get_or xs j no_ends
    other [] j lt = absurd (omega arith)
    other (x ∷ xs) zero lt = refl
    other (x ∷ xs) (suc j) lt = other xs j (omega arith)

    default : (xs : List ℕ) (j : ℕ) → j < length xs → get_or xs j g ≡ get_or xs j 0
    default [] j lt = absurd (omega arith)
    default (x ∷ xs) zero lt = refl
    default (x ∷ xs) (suc j) lt = default xs j (omega arith)

    go : (n : ℕ) → 0 < n → g ≡ get_or next e.first 0 → walk next g (n - 1) ≡ drop 1 (walk next e.first n)
    go zero some is = absurd (omega arith)
    go (suc n) some is = let less : suc n - 1 ≡ n = omega arith in rw less (ap (λ x. walk next x n) is)

-- ---- new links

-- A table of at most 64 zeros, with ends of m empty queues, is linked and read as m empty queues.
pub new_links : (n m : ℕ) (next : List ℕ) (queues : List Ends) → n ≤ 64 → next ≡ replicate n 0 → queues ≡ replicate m no_ends →
    Became next queues (record { cells = n; queues = replicate m [] })
unfolding walk
new_links n m next queues few table ends = record {
  linked = record {
    few = subst (λ k. k ≤ 64) (sym (ap length table ∙ length-replicate n 0)) few;
    apart = record {
      within = λ q p i. absurd (nothing q p i);
      once = λ q. subst Distinct (sym (empty q)) tt;
      in_one = λ q r p i j. absurd (nothing q p i);
    };
    lasts = λ q. subst (KnowsLast next) (sym (none q)) refl;
  };
  view = λ i. record { cells = (ap length table ∙ length-replicate n 0) i; queues = (ap (map (walk_of next)) ends ∙ all m) i };
}
  where
    none_of : (k q : ℕ) → get_or (replicate k no_ends) q no_ends ≡ no_ends
    none_of zero q = refl
    none_of (suc k) zero = refl
    none_of (suc k) (suc q) = none_of k q

    none : (q : ℕ) → get_or queues q no_ends ≡ no_ends
    none q = ap (λ es. get_or es q no_ends) ends ∙ none_of m q

    empty : (q : ℕ) → queue_at (lists_of next queues) q ≡ []
    empty q = queue_past next queues q ∙ ap (walk_of next) (none q)

    nothing : (q p : ℕ) → In p (queue_at (lists_of next queues) q) → ⊥
    nothing q p i = subst (In p) (empty q) i

    all : (k : ℕ) → map (walk_of next) (replicate k no_ends) ≡ replicate k []
    all zero = refl
    all (suc k) = ap (λ xs. [] ∷ xs) (all k)
