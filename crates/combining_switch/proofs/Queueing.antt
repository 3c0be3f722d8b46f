-- Cells that stay free after replies are queued, and queues that stay in the pool.
use Rattle.std.proofs.Common.{◌≡◌, ℕ, ◌+◌, ◌<◌, List, [], ◌∷◌, ◌++◌, length, map, drop, get_or, ◌⊎◌, inl, inr, ap, subst, arith, length-set}
use Rattle.std.proofs.lemmas.List.{drop_more, map-append, set-get_or}
use Rattle.messages.specs.declared.message.Reply.{Reply}
use Rattle.messages.specs.declared.message.Request.{Request}
use Rattle.messages.specs.Places.{In}
use Rattle.messages.proofs.Lemmas.{In-append, In-map}
use Rattle.combining_switch.proofs.Free.{free_of_replies}
use Rattle.combining_switch.specs.Pools.{IsFree, PoolLists, leader_of_reply, replies_at, requests_at, with_replies, with_requests}
use Rattle.combining_switch.specs.Switches.{CanBeQueued, StandsIn, SwitchState, input_for, put_reply}

-- Putting a queue's own requests back changes nothing.
pub put_back : (pool : PoolLists) (q : ℕ) → with_requests pool q (requests_at pool q) ≡ pool
put_back pool q = ap (λ (rs : List (List Request)). record { cells = pool.cells; requests = rs; replies = pool.replies }) (set-get_or pool.requests q [])

-- A cell stays free if a reply of another leader is queued.
pub free_after : (pool : PoolLists) (q : ℕ) (y : Reply) (p : ℕ) → (p ≡ y.leader → ⊥) → IsFree pool p
    → IsFree (with_replies pool q (replies_at pool q ++ y ∷ [])) p
free_after pool q y p other free = free_of_replies pool q p (replies_at pool q ++ y ∷ []) (λ m. none (In-append p (map leader_of_reply (replies_at pool q))
    (y.leader ∷ []) (subst (In p) (map-append leader_of_reply (replies_at pool q) (y ∷ [])) m))) free
  where
    none : In p (map leader_of_reply (replies_at pool q)) ⊎ In p (y.leader ∷ []) → ⊥
    none (inl m) = free.no_reply q m
    none (inr (inl e)) = other e
    none (inr (inr m)) = m

-- After the first reply is queued, the others can still be queued.
pub queue_next : (i : ℕ) (qs : List ℕ) (pool : PoolLists) (y : Reply) (ys : List Reply)
    → CanBeQueued pool (y ∷ ys) → CanBeQueued (put_reply i qs pool y) ys
queue_next i qs pool y ys can = record {
  cells = λ z m. can.cells z (inr m);
  free = λ z m. free_after pool (input_for i qs y.leader) y z.leader
      (λ e. can.apart.0 (subst (λ p. In p (map leader_of_reply ys)) e (In-map leader_of_reply z ys m))) (can.free z (inr m));
  apart = can.apart.1;
}

-- A switch's queues are still in the pool if one of the pool's queues gets other replies.
pub stands_still : (s : SwitchState) (pool : PoolLists) (q : ℕ) (ys : List Reply) → StandsIn s pool → StandsIn s (with_replies pool q ys)
stands_still s pool q ys stands = record {
  outputs = stands.outputs;
  inputs = λ v l. let had = stands.inputs v l in omega (arith, length-set pool.replies q ys);
  apart = stands.apart;
}

-- The replies from place j on are the next one and the others.
pub next_of : (pool : PoolLists) (ys : List Reply) (j : ℕ) (d : Reply) → j < length ys → CanBeQueued pool (drop j ys)
    → CanBeQueued pool (get_or ys j d ∷ drop (j + 1) ys)
next_of pool ys j d within can = subst (CanBeQueued pool) (drop_more ys j d within) can
