-- The lists of a pool, read from its cells and links, and how they change if a cell and one queue are written.
use Rattle.std.proofs.Common.{◌≡◌, ℕ, zero, suc, ◌+◌, ◌-◌, ◌<◌, ◌≤◌, List, [], ◌∷◌, ◌++◌, map}
use Rattle.std.proofs.Common.{length, get_or, set, take, drop, Option, Some, None, refl, sym}
use Rattle.std.proofs.Common.{ap, ◌∙◌, subst, arith, get_or-set_same, get_or-set_other}
use Rattle.std.specs.Prelude.{option_map, replicate, slice_get}
use Rattle.std.proofs.lemmas.List.{drop-map, drop-replicate, drop-set-add, drop-set-lt, get_or-drop}
use Rattle.std.proofs.lemmas.List.{get_or-take, get_or_past, length-drop, length-map, length-take}
use Rattle.std.proofs.lemmas.List.{map-append, map-set, set-get_or, take-replicate, take-set-le}
use Rattle.std.proofs.Math.Seq.{take-set-lt}
use Rattle.std.proofs.lemmas.Option.{slice_get-map}
use Rattle.messages.specs.declared.message.Request.{Request}
use Rattle.messages.specs.declared.message.Reply.{Reply}
use Rattle.messages.specs.Places.{In}
use Rattle.combining_switch.specs.declared.pool.Cell.{Cell}
use Rattle.combining_switch.specs.Links.{AreApart, IsUnlinked, LinkLists, queue_at, with_queue}
use Rattle.combining_switch.specs.Pools.{IsFree, PoolLists, empty_pool, leader_of_reply, leader_of_request}
use Rattle.combining_switch.specs.Pools.{replies_at, requests_at, with_replies, with_requests}
use Rattle.combining_switch.specs.Cells.{IsPool, no_cell, pool_lists, reply_in, request_in}
use Rattle.combining_switch.proofs.Lists.{In-slice_get, get_or-map_past, map_at, map_outside, map_same, set-map_same, unlinked_after}

-- ---- reading

module _ (cells : List Cell) (m : ℕ) (l : LinkLists) where
  few_requests : m ≤ length l.queues → length (pool_lists cells m l).requests ≡ m
  few_requests both = length-map (take m l.queues) (map (request_in cells)) ∙ length-take m l.queues ∙ omega arith

  all_replies : length (pool_lists cells m l).replies ≡ length l.queues - m
  all_replies = length-map (drop m l.queues) (map (reply_in cells)) ∙ length-drop m l.queues

  requests_are : (q : ℕ) → q < m → requests_at (pool_lists cells m l) q ≡ map (request_in cells) (queue_at l q)
  requests_are q lt = get_or-map_past (map (request_in cells)) (take m l.queues) q [] ∙ ap (map (request_in cells)) (get_or-take m l.queues q [] lt)

  replies_are : (q : ℕ) → replies_at (pool_lists cells m l) q ≡ map (reply_in cells) (queue_at l (m + q))
  replies_are q = get_or-map_past (map (reply_in cells)) (drop m l.queues) q [] ∙ ap (map (reply_in cells)) (get_or-drop m l.queues q [])

-- The number of a pool's queue of requests is below m, and is the number of a linked queue.
pub request_queue : (cells : List Cell) (m : ℕ) (l : LinkLists) (v : PoolLists) (q : ℕ) → pool_lists cells m l ≡ v → IsPool cells m l → q < length v.requests →
    (q < m) × (q < length l.queues)
request_queue cells m l v q is pool there =
    let same : length (pool_lists cells m l).requests ≡ length v.requests = ap (λ (p : PoolLists). length p.requests) is in
    let both : m ≤ length l.queues = pool.both in
    let all : length (pool_lists cells m l).requests ≡ m = few_requests cells m l both in
    (omega arith, omega arith)

-- The number of a pool's queue of replies, plus m, is the number of a linked queue.
pub reply_queue : (cells : List Cell) (m : ℕ) (l : LinkLists) (v : PoolLists) (q : ℕ) → pool_lists cells m l ≡ v → IsPool cells m l → q < length v.replies →
    m + q < length l.queues
reply_queue cells m l v q is pool there =
    let same : length (pool_lists cells m l).replies ≡ length v.replies = ap (λ (p : PoolLists). length p.replies) is in
    let both : m ≤ length l.queues = pool.both in
    let all : length (pool_lists cells m l).replies ≡ length l.queues - m = all_replies cells m l in
    omega arith

-- The number of a pool's queue of replies, plus m, is below 131072.
pub reply_queue_few : (cells : List Cell) (m : ℕ) (l : LinkLists) (v : PoolLists) (q : ℕ) → pool_lists cells m l ≡ v → IsPool cells m l → q < length
    v.replies →
    m + q < 131072
reply_queue_few cells m l v q is pool there =
    let few : length l.queues < 131072 = pool.few_queues in
    omega (arith, reply_queue cells m l v q is pool there)

-- A queue of requests is as long in the pool as among the linked queues.
pub request_count : (cells : List Cell) (m : ℕ) (l : LinkLists) (v : PoolLists) (q n : ℕ) → pool_lists cells m l ≡ v → q < m → n ≡ length (queue_at l q) →
    n ≡ length (requests_at v q)
request_count cells m l v q n is lt count =
    count ∙ sym (ap (λ p. length (requests_at p q)) (sym is) ∙ ap length (requests_are cells m l q lt) ∙ length-map (queue_at l q) (request_in cells))

-- A queue of replies is as long in the pool as among the linked queues.
pub reply_count : (cells : List Cell) (m : ℕ) (l : LinkLists) (v : PoolLists) (q n : ℕ) → pool_lists cells m l ≡ v → n ≡ length (queue_at l (m + q)) →
    n ≡ length (replies_at v q)
reply_count cells m l v q n is count =
    count ∙ sym (ap (λ p. length (replies_at p q)) (sym is) ∙ ap length (replies_are cells m l q) ∙ length-map (queue_at l (m + q)) (reply_in cells))

-- The request at a place of a pool's queue is the one in the cell whose number is linked there, if any.
pub request_get : (cells : List Cell) (m : ℕ) (l : LinkLists) (v : PoolLists) (q i : ℕ) (o : Option ℕ) → pool_lists cells m l ≡ v → q < m →
    o ≡ slice_get (queue_at l q) i → option_map (request_in cells) o ≡ slice_get (requests_at v q) i
request_get cells m l v q i o is lt found =
    ap (option_map (request_in cells)) found ∙ sym (slice_get-map (request_in cells) (queue_at l q) i)
    ∙ ap (λ xs. slice_get xs i) (sym (requests_are cells m l q lt)) ∙ ap (λ p. slice_get (requests_at p q) i) is

-- The reply at a place of a pool's queue is the one in the cell whose number is linked there, if any.
pub reply_get : (cells : List Cell) (m : ℕ) (l : LinkLists) (v : PoolLists) (q i : ℕ) (o : Option ℕ) → pool_lists cells m l ≡ v →
    o ≡ slice_get (queue_at l (m + q)) i → option_map (reply_in cells) o ≡ slice_get (replies_at v q) i
reply_get cells m l v q i o is found =
    ap (option_map (reply_in cells)) found ∙ sym (slice_get-map (reply_in cells) (queue_at l (m + q)) i)
    ∙ ap (λ xs. slice_get xs i) (sym (replies_are cells m l q)) ∙ ap (λ p. slice_get (replies_at p q) i) is

-- If a request with this leader is at a place of a queue, the leader's number is linked there.
pub leader_there : (cells : List Cell) (m : ℕ) (l : LinkLists) (v : PoolLists) (q i p : ℕ) → pool_lists cells m l ≡ v → q < m →
    option_map leader_of_request (slice_get (requests_at v q) i) ≡ Some p → slice_get (queue_at l q) i ≡ Some p
unfolding request_in
leader_there cells m l v q i p is lt there =
    go (slice_get (queue_at l q) i) (ap (option_map leader_of_request) (request_get cells m l v q i (slice_get (queue_at l q) i) is lt refl) ∙ there)
  where
    go : (o : Option ℕ) → option_map leader_of_request (option_map (request_in cells) o) ≡ Some p → o ≡ Some p
    go None e = cc
    go (Some x) e = e

-- A linked number has a cell.
pub cell_within : (cells : List Cell) (m : ℕ) (l : LinkLists) (q i p : ℕ) → IsPool cells m l → AreApart l → slice_get (queue_at l q) i ≡ Some p →
    p < length cells
cell_within cells m l q i p pool apart found =
    let each : length cells ≡ l.cells = pool.each_cell in
    let below : p < l.cells = apart.within q p (In-slice_get (queue_at l q) i p found) in
    omega arith

-- ---- free cells

leaders_of_requests : (cells : List Cell) (ps : List ℕ) → map leader_of_request (map (request_in cells) ps) ≡ ps
unfolding request_in
leaders_of_requests cells [] = refl
leaders_of_requests cells (p ∷ ps) = ap (λ qs. p ∷ qs) (leaders_of_requests cells ps)

leaders_of_replies : (cells : List Cell) (ps : List ℕ) → map leader_of_reply (map (reply_in cells) ps) ≡ ps
unfolding reply_in
leaders_of_replies cells [] = refl
leaders_of_replies cells (p ∷ ps) = ap (λ qs. p ∷ qs) (leaders_of_replies cells ps)

data Side (m q : ℕ) : Type 0 where
  of_requests : q < m → Side m q
  of_replies : (r : ℕ) → q ≡ m + r → Side m q

side : (m q : ℕ) → Side m q
side zero q = of_replies q (omega arith)
side (suc m) zero = of_requests (omega arith)
side (suc m) (suc q) = elim (side m q) [ of_requests lt ↦ of_requests (omega arith) | of_replies r e ↦ of_replies r (omega arith) ]

-- The number of a processor that is free in the pool is in no linked queue.
pub unlinked_is : (cells : List Cell) (m : ℕ) (l : LinkLists) (v : PoolLists) (p : ℕ) → pool_lists cells m l ≡ v → IsFree v p → IsUnlinked l p
unlinked_is cells m l v p is = subst (λ w. IsFree w p → IsUnlinked l p) is (λ free q i. elim (side m q) [
  | of_requests lt ↦ free.no_request q
      (subst (In p) (sym (ap (map leader_of_request) (requests_are cells m l q lt) ∙ leaders_of_requests cells (queue_at l q))) i)
  | of_replies r e ↦ free.no_reply r
      (subst (In p) (sym (ap (map leader_of_reply) (replies_are cells m l r) ∙ leaders_of_replies cells (queue_at l (m + r)) ∙ ap (queue_at l) (sym e))) i)
])

-- A processor whose number is in no linked queue is free in the pool.
pub free_is : (cells : List Cell) (m : ℕ) (l : LinkLists) (v : PoolLists) (p : ℕ) → pool_lists cells m l ≡ v → IsUnlinked l p → IsFree v p
free_is cells m l v p is out = subst (λ w. IsFree w p) is (record {
  no_request = λ q i. elim (side m q) [
    | of_requests lt ↦ out q (subst (In p) (ap (map leader_of_request) (requests_are cells m l q lt) ∙ leaders_of_requests cells (queue_at l q)) i)
    | of_replies r e ↦ subst (λ xs. In p (map leader_of_request xs)) (past q r e) i
  ];
  no_reply = λ q i. out (m + q) (subst (In p) (ap (map leader_of_reply) (replies_are cells m l q) ∙ leaders_of_replies cells (queue_at l (m + q))) i);
})
  where
    past : (q r : ℕ) → q ≡ m + r → requests_at (pool_lists cells m l) q ≡ []
    past q r e = get_or_past (map (map (request_in cells)) (take m l.queues)) q []
        (let long : length (take m l.queues) ≤ m = omega (arith, length-take m l.queues) in
        omega (arith, length-map (take m l.queues) (map (request_in cells))))

-- ---- a cell is written

request_other : (cells : List Cell) (p : ℕ) (c : Cell) (r : ℕ) → (r ≡ p → ⊥) → request_in (set cells p c) r ≡ request_in cells r
unfolding request_in
request_other cells p c r n = ap (λ (d : Cell). record { leader = r; word = d.word; phi = d.phi; marks = d.marks }) (get_or-set_other cells p r c no_cell n)

reply_other : (cells : List Cell) (p : ℕ) (c : Cell) (r : ℕ) → (r ≡ p → ⊥) → reply_in (set cells p c) r ≡ reply_in cells r
unfolding reply_in
reply_other cells p c r n = ap (λ (d : Cell). record { leader = r; value = d.value }) (get_or-set_other cells p r c no_cell n)

-- A request that is written to its leader's cell is the request read there, for any value in the cell.
pub request_written : (cells : List Cell) (x : Request) (n : ℕ) → x.leader < length cells →
    request_in (set cells x.leader (record { word = x.word; phi = x.phi; marks = x.marks; value = n })) x.leader ≡ x
unfolding request_in
request_written cells x n lt =
    ap (λ (d : Cell). record { leader = x.leader; word = d.word; phi = d.phi; marks = d.marks })
    (get_or-set_same cells x.leader (record { word = x.word; phi = x.phi; marks = x.marks; value = n }) no_cell lt)

-- A reply is the one read in its leader's cell if the cell written there has its value.
pub reply_written : (cells : List Cell) (y : Reply) (c : Cell) → y.leader < length cells → c.value ≡ y.value → reply_in (set cells y.leader c) y.leader ≡ y
unfolding reply_in
reply_written cells y c lt value =
    ap (λ (d : Cell). record { leader = y.leader; value = d.value }) (get_or-set_same cells y.leader c no_cell lt)
    ∙ ap (λ n. record { leader = y.leader; value = n }) value

In_take : (m : ℕ) (qs : List (List ℕ)) (j p : ℕ) → In p (get_or (take m qs) j []) → In p (get_or qs j [])
In_take m qs j p i = elim (side m j) [
  | of_requests lt ↦ subst (In p) (get_or-take m qs j [] lt) i
  | of_replies r e ↦
      let long : length (take m qs) ≤ m = omega (arith, length-take m qs) in
      absurd (subst (In p) (get_or_past (take m qs) j [] (omega arith)) i)
]

module _ (cells : List Cell) (m : ℕ) (l : LinkLists) (p : ℕ) (c : Cell) where
  -- Queues of requests that do not have the cell's number are read as before.
  request_same : (j : ℕ) → (In p (queue_at l j) → ⊥) →
      map (request_in (set cells p c)) (get_or (take m l.queues) j []) ≡ map (request_in cells) (get_or (take m l.queues) j [])
  request_same j out = map_outside (request_in cells) (request_in (set cells p c)) p (get_or (take m l.queues) j []) (request_other cells p c)
      (λ i. out (In_take m l.queues j p i))

  reply_same : (j : ℕ) → (In p (queue_at l (m + j)) → ⊥) →
      map (reply_in (set cells p c)) (get_or (drop m l.queues) j []) ≡ map (reply_in cells) (get_or (drop m l.queues) j [])
  reply_same j out = map_outside (reply_in cells) (reply_in (set cells p c)) p (get_or (drop m l.queues) j []) (reply_other cells p c)
      (λ i. out (subst (In p) (get_or-drop m l.queues j []) i))

-- ---- calls

-- If a request is written to its cell, which no queue has, and its number is linked last in a queue of
-- requests, then in the pool it is the last of that queue, and all else is as before.
pub pushed_request : (cells : List Cell) (m : ℕ) (l : LinkLists) (v : PoolLists) (l' : LinkLists) (q : ℕ) (x : Request) (c : Cell) → pool_lists cells m l ≡ v →
    q < m → IsUnlinked l x.leader → request_in (set cells x.leader c) x.leader ≡ x → l' ≡ with_queue l q (queue_at l q ++ x.leader ∷ [])
    → pool_lists (set cells x.leader c) m l' ≡ with_requests v q (requests_at v q ++ x ∷ [])
pushed_request cells m l v l' q x c is lt out written linked =
    ap (pool_lists (set cells x.leader c) m) linked ∙ (λ i. record { cells = l.cells; requests = requests i; replies = replies i })
    ∙ ap (λ w. with_requests w q (requests_at w q ++ x ∷ [])) is
  where
    new : ℕ → Request
    new = request_in (set cells x.leader c)

    row : map new (queue_at l q ++ x.leader ∷ []) ≡ requests_at (pool_lists cells m l) q ++ x ∷ []
    row =
        map-append new (queue_at l q) (x.leader ∷ [])
        ∙ (λ i. map_outside (request_in cells) new x.leader (queue_at l q) (request_other cells x.leader c) (out q) i ++ written i ∷ [])
        ∙ ap (λ xs. xs ++ x ∷ []) (sym (requests_are cells m l q lt))

    requests : map (map new) (take m (set l.queues q (queue_at l q ++ x.leader ∷ [])))
        ≡ set (map (map (request_in cells)) (take m l.queues)) q (requests_at (pool_lists cells m l) q ++ x ∷ [])
    requests =
        ap (map (map new)) (take-set-lt m l.queues q (queue_at l q ++ x.leader ∷ []) lt)
        ∙ map-set (map new) (take m l.queues) q (queue_at l q ++ x.leader ∷ [])
        ∙ set-map_same (map (request_in cells)) (map new) (take m l.queues) q [] (map new (queue_at l q ++ x.leader ∷ []))
        (λ j n. request_same cells m l x.leader c j (out j))
        ∙ ap (set (map (map (request_in cells)) (take m l.queues)) q) row

    replies : map (map (reply_in (set cells x.leader c))) (drop m (set l.queues q (queue_at l q ++ x.leader ∷ []))) ≡ map (map (reply_in cells)) (drop m
        l.queues)
    replies =
        ap (map (map (reply_in (set cells x.leader c)))) (drop-set-lt m l.queues q (queue_at l q ++ x.leader ∷ []) lt)
        ∙ map_same (map (reply_in cells)) (map (reply_in (set cells x.leader c))) (drop m l.queues) [] (λ j. reply_same cells m l x.leader c j (out (m + j)))

-- If a reply is written to its cell, which no queue has, and its number is linked last in a queue of
-- replies, then in the pool it is the last of that queue, and all else is as before.
pub pushed_reply : (cells : List Cell) (m : ℕ) (l : LinkLists) (v : PoolLists) (l' : LinkLists) (q : ℕ) (y : Reply) (c : Cell) → pool_lists cells m l ≡ v →
    IsUnlinked l y.leader → reply_in (set cells y.leader c) y.leader ≡ y → l' ≡ with_queue l (m + q) (queue_at l (m + q) ++ y.leader ∷ [])
    → pool_lists (set cells y.leader c) m l' ≡ with_replies v q (replies_at v q ++ y ∷ [])
pushed_reply cells m l v l' q y c is out written linked =
    ap (pool_lists (set cells y.leader c) m) linked ∙ (λ i. record { cells = l.cells; requests = requests i; replies = replies i })
    ∙ ap (λ w. with_replies w q (replies_at w q ++ y ∷ [])) is
  where
    new : ℕ → Reply
    new = reply_in (set cells y.leader c)

    row : map new (queue_at l (m + q) ++ y.leader ∷ []) ≡ replies_at (pool_lists cells m l) q ++ y ∷ []
    row =
        map-append new (queue_at l (m + q)) (y.leader ∷ [])
        ∙ (λ i. map_outside (reply_in cells) new y.leader (queue_at l (m + q)) (reply_other cells y.leader c) (out (m + q)) i ++ written i ∷ [])
        ∙ ap (λ xs. xs ++ y ∷ []) (sym (replies_are cells m l q))

    requests : map (map (request_in (set cells y.leader c))) (take m (set l.queues (m + q) (queue_at l (m + q) ++ y.leader ∷ [])))
        ≡ map (map (request_in cells)) (take m l.queues)
    requests =
        ap (map (map (request_in (set cells y.leader c)))) (take-set-le m l.queues (m + q) (queue_at l (m + q) ++ y.leader ∷ []) (omega arith))
        ∙ map_same (map (request_in cells)) (map (request_in (set cells y.leader c))) (take m l.queues) [] (λ j. request_same cells m l y.leader c j (out j))

    replies : map (map new) (drop m (set l.queues (m + q) (queue_at l (m + q) ++ y.leader ∷ [])))
        ≡ set (map (map (reply_in cells)) (drop m l.queues)) q (replies_at (pool_lists cells m l) q ++ y ∷ [])
    replies =
        ap (map (map new)) (drop-set-add m l.queues q (queue_at l (m + q) ++ y.leader ∷ []))
        ∙ map-set (map new) (drop m l.queues) q (queue_at l (m + q) ++ y.leader ∷ [])
        ∙ set-map_same (map (reply_in cells)) (map new) (drop m l.queues) q [] (map new (queue_at l (m + q) ++ y.leader ∷ []))
        (λ j n. reply_same cells m l y.leader c j (out (m + j)))
        ∙ ap (set (map (map (reply_in cells)) (drop m l.queues)) q) row

-- If a linked queue of requests loses its first number, the pool's queue loses its first request.
pub popped_request : (cells : List Cell) (m : ℕ) (l : LinkLists) (v : PoolLists) (l' : LinkLists) (q : ℕ) → pool_lists cells m l ≡ v → q < m →
    l' ≡ with_queue l q (drop 1 (queue_at l q))
    → pool_lists cells m l' ≡ with_requests v q (drop 1 (requests_at v q))
popped_request cells m l v l' q is lt linked =
    ap (pool_lists cells m) linked ∙ (λ i. record { cells = l.cells; requests = requests i; replies = replies i })
    ∙ ap (λ w. with_requests w q (drop 1 (requests_at w q))) is
  where
    requests : map (map (request_in cells)) (take m (set l.queues q (drop 1 (queue_at l q))))
        ≡ set (map (map (request_in cells)) (take m l.queues)) q (drop 1 (requests_at (pool_lists cells m l) q))
    requests =
        ap (map (map (request_in cells))) (take-set-lt m l.queues q (drop 1 (queue_at l q)) lt)
        ∙ map-set (map (request_in cells)) (take m l.queues) q (drop 1 (queue_at l q))
        ∙ ap (set (map (map (request_in cells)) (take m l.queues)) q)
        (sym (drop-map (request_in cells) 1 (queue_at l q)) ∙ ap (drop 1) (sym (requests_are cells m l q lt)))

    replies : map (map (reply_in cells)) (drop m (set l.queues q (drop 1 (queue_at l q)))) ≡ map (map (reply_in cells)) (drop m l.queues)
    replies = ap (map (map (reply_in cells))) (drop-set-lt m l.queues q (drop 1 (queue_at l q)) lt)

-- If a linked queue of replies loses its first number, the pool's queue loses its first reply.
pub popped_reply : (cells : List Cell) (m : ℕ) (l : LinkLists) (v : PoolLists) (l' : LinkLists) (q : ℕ) → pool_lists cells m l ≡ v →
    l' ≡ with_queue l (m + q) (drop 1 (queue_at l (m + q)))
    → pool_lists cells m l' ≡ with_replies v q (drop 1 (replies_at v q))
popped_reply cells m l v l' q is linked =
    ap (pool_lists cells m) linked ∙ (λ i. record { cells = l.cells; requests = requests i; replies = replies i })
    ∙ ap (λ w. with_replies w q (drop 1 (replies_at w q))) is
  where
    requests : map (map (request_in cells)) (take m (set l.queues (m + q) (drop 1 (queue_at l (m + q))))) ≡ map (map (request_in cells)) (take m l.queues)
    requests = ap (map (map (request_in cells))) (take-set-le m l.queues (m + q) (drop 1 (queue_at l (m + q))) (omega arith))

    replies : map (map (reply_in cells)) (drop m (set l.queues (m + q) (drop 1 (queue_at l (m + q)))))
        ≡ set (map (map (reply_in cells)) (drop m l.queues)) q (drop 1 (replies_at (pool_lists cells m l) q))
    replies =
        ap (map (map (reply_in cells))) (drop-set-add m l.queues q (drop 1 (queue_at l (m + q))))
        ∙ map-set (map (reply_in cells)) (drop m l.queues) q (drop 1 (queue_at l (m + q)))
        ∙ ap (set (map (map (reply_in cells)) (drop m l.queues)) q)
        (sym (drop-map (reply_in cells) 1 (queue_at l (m + q))) ∙ ap (drop 1) (sym (replies_are cells m l q)))

-- If a request is written to the cell of its number, which is linked at a place of a queue, the pool has it there.
pub replaced : (cells : List Cell) (m : ℕ) (l : LinkLists) (v : PoolLists) (q i : ℕ) (x : Request) (c : Cell) → pool_lists cells m l ≡ v → AreApart l →
    q < m → slice_get (queue_at l q) i ≡ Some x.leader → request_in (set cells x.leader c) x.leader ≡ x
    → pool_lists (set cells x.leader c) m l ≡ with_requests v q (set (requests_at v q) i x)
replaced cells m l v q i x c is apart lt stands written =
    (λ k. record { cells = l.cells; requests = requests k; replies = replies k }) ∙ ap (λ w. with_requests w q (set (requests_at w q) i x)) is
  where
    new : ℕ → Request
    new = request_in (set cells x.leader c)

    inside : In x.leader (queue_at l q)
    inside = In-slice_get (queue_at l q) i x.leader stands

    row : map new (get_or (take m l.queues) q []) ≡ set (requests_at (pool_lists cells m l) q) i x
    row =
        ap (map new) (get_or-take m l.queues q [] lt)
        ∙ map_at (request_in cells) new x.leader (queue_at l q) i (request_other cells x.leader c) (apart.once q) stands
        ∙ (λ k. set (sym (requests_are cells m l q lt) k) i (written k))

    requests : map (map new) (take m l.queues) ≡ set (map (map (request_in cells)) (take m l.queues)) q (set (requests_at (pool_lists cells m l) q) i x)
    requests =
        ap (map (map new)) (sym (set-get_or (take m l.queues) q []))
        ∙ map-set (map new) (take m l.queues) q (get_or (take m l.queues) q [])
        ∙ set-map_same (map (request_in cells)) (map new) (take m l.queues) q [] (map new (get_or (take m l.queues) q []))
        (λ j n. request_same cells m l x.leader c j (λ o. n (apart.in_one j q x.leader o inside)))
        ∙ ap (set (map (map (request_in cells)) (take m l.queues)) q) row

    replies : map (map (reply_in (set cells x.leader c))) (drop m l.queues) ≡ map (map (reply_in cells)) (drop m l.queues)
    replies = map_same (map (reply_in cells)) (map (reply_in (set cells x.leader c))) (drop m l.queues) []
        (λ j. reply_same cells m l x.leader c j (λ o. let same : m + j ≡ q = apart.in_one (m + j) q x.leader o inside in absurd (omega arith)))

-- ---- a new pool

all_empty : {X : Type 0} (f : ℕ → X) (n : ℕ) → map (map f) (replicate n []) ≡ replicate n []
all_empty f zero = refl
all_empty f (suc n) = ap (λ xs. [] ∷ xs) (all_empty f n)

-- Queues that have no number are read as an empty pool.
pub new_pool : (cells : List Cell) (n a b : ℕ) (l : LinkLists) → l ≡ record { cells = n; queues = replicate (a + b) [] } → pool_lists cells a l ≡
    empty_pool n a b
new_pool cells n a b l is =
    ap (pool_lists cells a) is
    ∙ (λ i. record {
      cells = n;
      requests = (ap (map (map (request_in cells))) (take-replicate a (a + b) [] (omega arith)) ∙ all_empty (request_in cells) a) i;
      replies = (ap (map (map (reply_in cells))) (drop-replicate a (a + b) [] ∙ ap (λ k. replicate k []) (omega arith)) ∙ all_empty (reply_in cells) b) i;
    })

-- ---- a message is taken out

-- The leader of the first request of a queue is free after this request is taken from it.
pub request_freed : (cells : List Cell) (m : ℕ) (l l' : LinkLists) (q p : ℕ) (x : Request) → AreApart l → q < length l.queues →
    slice_get (queue_at l q) 0 ≡ Some p → l' ≡ with_queue l q (drop 1 (queue_at l q)) → x ≡ request_in cells p → IsFree (pool_lists cells m l') x.leader
unfolding request_in
request_freed cells m l l' q p x apart there first after is =
    let leader : x.leader ≡ p = ap leader_of_request is in
    subst (IsFree (pool_lists cells m l')) (sym leader)
    (free_is cells m l' (pool_lists cells m l') p refl (subst (λ (k : LinkLists). IsUnlinked k p) (sym after) (unlinked_after l q p apart there first)))

-- The leader of the first reply of a queue is free after this reply is taken from it.
pub reply_freed : (cells : List Cell) (m : ℕ) (l l' : LinkLists) (q p : ℕ) (y : Reply) → AreApart l → q < length l.queues →
    slice_get (queue_at l q) 0 ≡ Some p → l' ≡ with_queue l q (drop 1 (queue_at l q)) → y ≡ reply_in cells p → IsFree (pool_lists cells m l') y.leader
unfolding reply_in
reply_freed cells m l l' q p y apart there first after is =
    let leader : y.leader ≡ p = ap leader_of_reply is in
    subst (IsFree (pool_lists cells m l')) (sym leader)
    (free_is cells m l' (pool_lists cells m l') p refl (subst (λ (k : LinkLists). IsUnlinked k p) (sym after) (unlinked_after l q p apart there first)))

-- The leader of a queued request is below the number of the pool's cells.
pub request_below : (cells : List Cell) (m : ℕ) (l : LinkLists) (v : PoolLists) (q i p : ℕ) (x : Request) → pool_lists cells m l ≡ v → AreApart l →
    slice_get (queue_at l q) i ≡ Some p → x ≡ request_in cells p → x.leader < v.cells
unfolding request_in
request_below cells m l v q i p x is apart found x_is =
    let leader : x.leader ≡ p = ap leader_of_request x_is in
    let below : p < l.cells = apart.within q p (In-slice_get (queue_at l q) i p found) in
    let all : l.cells ≡ v.cells = ap (λ (w : PoolLists). w.cells) is in
    omega arith

-- The leader of a queued reply is below the number of the pool's cells.
pub reply_below : (cells : List Cell) (m : ℕ) (l : LinkLists) (v : PoolLists) (q i p : ℕ) (y : Reply) → pool_lists cells m l ≡ v → AreApart l →
    slice_get (queue_at l q) i ≡ Some p → y ≡ reply_in cells p → y.leader < v.cells
unfolding reply_in
reply_below cells m l v q i p y is apart found y_is =
    let leader : y.leader ≡ p = ap leader_of_reply y_is in
    let below : p < l.cells = apart.within q p (In-slice_get (queue_at l q) i p found) in
    let all : l.cells ≡ v.cells = ap (λ (w : PoolLists). w.cells) is in
    omega arith
