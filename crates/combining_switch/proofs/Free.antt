-- Cells that stay free if a queue gets messages of other leaders.
use Rattle.std.proofs.Common.{◌≡◌, ℕ, zero, suc, List, [], ◌∷◌, map, get_or, set, ◌⊎◌, inl, inr, refl, subst}
use Rattle.messages.specs.declared.message.Request.{Request}
use Rattle.messages.specs.declared.message.Reply.{Reply}
use Rattle.messages.specs.Places.{In}
use Rattle.combining_switch.specs.Pools.{IsFree, PoolLists, leader_of_reply, leader_of_request, with_replies, with_requests}

-- After one queue is replaced, each queue is the new one or as before.
pub one_or_other : {X : Type 0} (queues : List (List X)) (q r : ℕ) (xs : List X) →
    (get_or (set queues q xs) r [] ≡ xs) ⊎ (get_or (set queues q xs) r [] ≡ get_or queues r [])
one_or_other [] q r xs = inr refl
one_or_other (ys ∷ queues) zero zero xs = inl refl
one_or_other (ys ∷ queues) zero (suc r) xs = inr refl
one_or_other (ys ∷ queues) (suc q) zero xs = inr refl
one_or_other (ys ∷ queues) (suc q) (suc r) xs = one_or_other queues q r xs

-- A free processor stays free if a queue gets other requests, and it leads none of them.
pub free_of_requests : (l : PoolLists) (q p : ℕ) (xs : List Request) → (In p (map leader_of_request xs) → ⊥) → IsFree l p → IsFree (with_requests l q xs) p
free_of_requests l q p xs none free = record { no_request = λ r m. go r m (one_or_other l.requests q r xs); no_reply = free.no_reply }
  where
    go : (r : ℕ) → In p (map leader_of_request (get_or (set l.requests q xs) r []))
        → (get_or (set l.requests q xs) r [] ≡ xs) ⊎ (get_or (set l.requests q xs) r [] ≡ get_or l.requests r []) → ⊥
    go r m (inl e) = none (subst (λ ys. In p (map leader_of_request ys)) e m)
    go r m (inr e) = free.no_request r (subst (λ ys. In p (map leader_of_request ys)) e m)

-- A free processor stays free if a queue gets other replies, and it leads none of them.
pub free_of_replies : (l : PoolLists) (q p : ℕ) (ys : List Reply) → (In p (map leader_of_reply ys) → ⊥) → IsFree l p → IsFree (with_replies l q ys) p
free_of_replies l q p ys none free = record { no_request = free.no_request; no_reply = λ r m. go r m (one_or_other l.replies q r ys) }
  where
    go : (r : ℕ) → In p (map leader_of_reply (get_or (set l.replies q ys) r []))
        → (get_or (set l.replies q ys) r [] ≡ ys) ⊎ (get_or (set l.replies q ys) r [] ≡ get_or l.replies r []) → ⊥
    go r m (inl e) = none (subst (λ zs. In p (map leader_of_reply zs)) e m)
    go r m (inr e) = free.no_reply r (subst (λ zs. In p (map leader_of_reply zs)) e m)
