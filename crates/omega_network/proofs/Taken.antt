-- A message put into a queue or taken out of it, in a network of places.
use Rattle.std.proofs.Common.{◌≡◌, ℕ, suc, ◌^◌, ◌<◌, ◌≤◌, List, [], ◌∷◌, ◌++◌, length, map, drop, Option}
use Rattle.std.proofs.Common.{Some, None, ◌⊎◌, inl, inr, refl, sym, ap, ◌∙◌, subst, length-set}
use Rattle.std.specs.Prelude.{◌*◌, IfSome, slice_get, slice_index_or}
use Rattle.std.proofs.lemmas.List.{map-append}
use Rattle.messages.specs.declared.message.Request.{Request}
use Rattle.messages.specs.declared.message.Reply.{Reply}
use Rattle.messages.specs.declared.message.Record.{Record}
use Rattle.messages.specs.Places.{In}
use Rattle.messages.specs.Network.{Net, put_replies, put_requests}
use Rattle.messages.proofs.Lemmas.{In-append}
use Rattle.messages.specs.Naming.{Names, Unnamed}
use Rattle.combining_switch.specs.Pools.{IsFree, PoolLists, leader_of_reply, leader_of_request, with_replies, with_requests}
use Rattle.combining_switch.proofs.Lemmas.{free_of_replies, free_of_requests}
use Rattle.omega_network.specs.Networks.{IsNetwork, MayLead, NetworkLists, net_of, place, records_after, replies_before, requests_before}
use Rattle.omega_network.proofs.Changes.{at_queue, at_reply_queue, replies_put, requests_put}
use Rattle.omega_network.proofs.Kept.{IsLike, pool_kept}
use Rattle.omega_network.proofs.Naming.{unnamed_is_free}
use Rattle.omega_network.proofs.SecondReplies.{queues_changed}
use Rattle.omega_network.proofs.Switches.{queue_within, with_pool}

-- ---- who may lead a message

pub may_lead : (n : NetworkLists) (p : ℕ) → IsNetwork n → p < 2 ^ n.k → Unnamed (net_of n) p → MayLead n p
may_lead n p is below none = record {
  below = subst (λ c. p < c) (sym is.all_cells) below;
  free = unnamed_is_free n is p none;
  no_second = none.records;
}

pub unnamed_is : (net : Net) (p : ℕ) → (Names net p → ⊥) → Unnamed net p
unnamed_is net p none = record {
  requests = λ d w x m e. none (inl (d, w, x, m, e));
  records = λ s w x m e. none (inr (inl (s, w, x, m, inr e)));
  replies = λ d w x m e. none (inr (inr (d, w, x, m, e)));
}

-- ---- lists

some_of : {X : Type 0} (f : X → ℕ) (p : ℕ) (xs : List X) → In p (map f (drop 1 xs)) → In p (map f xs)
some_of f p [] m = m
some_of f p (x ∷ xs) m = inr m

one_of_more : {X : Type 0} (f : X → ℕ) (p : ℕ) (xs : List X) (x : X) → In p (map f (xs ++ x ∷ [])) → In p (map f xs) ⊎ (p ≡ f x)
one_of_more f p xs x m = go (In-append p (map f xs) (f x ∷ []) (subst (In p) (map-append f xs (x ∷ [])) m))
  where
    go : In p (map f xs) ⊎ In p (f x ∷ []) → In p (map f xs) ⊎ (p ≡ f x)
    go (inl o) = inl o
    go (inr (inl e)) = inr e
    go (inr (inr o)) = absurd o

first_in : {X : Type 0} (f : X → ℕ) (xs : List X) (x : X) → Some x ≡ slice_get xs 0 → In (f x) (map f xs)
first_in f [] x e = cc
first_in f (y ∷ ys) x e = let same : x ≡ y = cc in inl (ap f same)

-- ---- requests, and replies

-- a kind of message: the queues of a pool, the places of a network, and what is known of them
pub record Kind (X : Type 0) : Type 0 where
  -- The processor that leads a message.
  pub leader : X → ℕ
  pub queues : PoolLists → List (List X)
  pub with_queue : PoolLists → ℕ → List X → PoolLists
  -- The messages of a network at a depth on a wire.
  pub before : NetworkLists → ℕ → ℕ → List X
  pub put : Net → ℕ → ℕ → List X → Net
  -- A network's pool has a queue of this kind for each depth and wire.
  pub all : (n : NetworkLists) → IsNetwork n → length (queues n.pool) ≡ suc n.k * 2 ^ n.k
  -- The messages at a depth on a wire are those of the queue whose number the two give.
  pub there : (n : NetworkLists) (d w : ℕ) → w < 2 ^ n.k → before n d w ≡ slice_index_or (queues n.pool) (place n.k d w) []
  pub puts : (n : NetworkLists) (d w : ℕ) → w < 2 ^ n.k → (xs : List X) → place n.k d w < length (queues n.pool)
      → net_of (with_pool n (with_queue n.pool (place n.k d w) xs)) ≡ put (net_of n) d w xs
  pub like : (l : PoolLists) (q : ℕ) (xs : List X) → IsLike l (with_queue l q xs)
  pub none_led : (l : PoolLists) (p : ℕ) → IsFree l p → (q : ℕ) → In p (map leader (slice_index_or (queues l) q [])) → ⊥
  pub stays_free : (l : PoolLists) (q p : ℕ) (xs : List X) → (In p (map leader xs) → ⊥) → IsFree l p → IsFree (with_queue l q xs) p

abbrev pub requests : Kind Request
requests = record {
  leader = leader_of_request;
  queues = λ l. l.requests;
  with_queue = with_requests;
  before = requests_before;
  put = put_requests;
  all = λ n is. is.all_requests;
  there = at_queue;
  puts = requests_put;
  like = λ l q xs. record { cells = refl; requests = length-set l.requests q xs; replies = refl };
  none_led = λ l p free. free.no_request;
  stays_free = free_of_requests;
}

abbrev pub replies : Kind Reply
replies = record {
  leader = leader_of_reply;
  queues = λ l. l.replies;
  with_queue = with_replies;
  before = replies_before;
  put = put_replies;
  all = λ n is. is.all_replies;
  there = at_reply_queue;
  puts = replies_put;
  like = λ l q ys. record { cells = refl; requests = refl; replies = length-set l.replies q ys };
  none_led = λ l p free. free.no_reply;
  stays_free = free_of_replies;
}

-- ---- the queues that a call finds

pub record Queues (n m : NetworkLists) (d w q : ℕ) : Type 0 where
  pub view : n ≡ m
  -- The lists that the call finds are those of a network.
  pub is : IsNetwork n
  pub depth : d ≤ n.k
  -- The wire is one of the network.
  pub wire : w < 2 ^ n.k
  -- The number of the queues is that of the depth and the wire.
  pub at : q ≡ place n.k d w

-- If the network is seen as m, a depth and a wire of m are found in it, with the same number of the queues.
pub queues_are : {n m : NetworkLists} {d w q : ℕ} → n ≡ m → IsNetwork n → d ≤ m.k → w < 2 ^ m.k → q ≡ place m.k d w → Queues n m d w q
queues_are {n} {m} {d} {w} {q} view is depth wire at = record {
  view = view;
  is = is;
  depth = subst (λ (l : NetworkLists). d ≤ l.k) (sym view) depth;
  wire = subst (λ (l : NetworkLists). w < 2 ^ l.k) (sym view) wire;
  at = subst (λ (l : NetworkLists). q ≡ place l.k d w) (sym view) at;
}

module _ {X : Type 0} (K : Kind X) {n m : NetworkLists} {d w q : ℕ} (found : Queues n m d w q) where
  abbrev here : List X
  here = slice_index_or (K.queues n.pool) q []

  -- The number of the found queue is below the number of the pool's queues.
  pub within : q < length (K.queues n.pool)
  within = subst (λ p. p < length (K.queues n.pool)) (sym found.at)
      (queue_within n.k d w (length (K.queues n.pool)) found.depth found.wire (K.all n found.is))

  -- The messages of the found queue are those at its depth on its wire.
  pub before_is : here ≡ K.before m d w
  before_is = ap (λ p. slice_index_or (K.queues n.pool) p []) found.at ∙ sym (K.there n d w found.wire) ∙ ap (λ (l : NetworkLists). K.before l d w) found.view

  -- other messages in the queue, led by leaders of those before or by a processor that is no second
  module _ (xs : List X) {pool : PoolLists} (pool_is : pool ≡ K.with_queue n.pool q xs) where
    net_is : net_of (with_pool n pool) ≡ K.put (net_of m) d w xs
    net_is =
        ap (λ (p : PoolLists). net_of (with_pool n p)) pool_is
        ∙ ap (λ v. net_of (with_pool n (K.with_queue n.pool v xs))) found.at
        ∙ K.puts n d w found.wire xs (subst (λ v. v < length (K.queues n.pool)) found.at within)
        ∙ ap (λ (l : NetworkLists). K.put (net_of l) d w xs) found.view

    kept : ((p : ℕ) → In p (map K.leader xs) → In p (map K.leader here) ⊎ ((s v : ℕ) (e : Record) → In e (records_after n s v) → e.second ≡ p → ⊥))
        → IsNetwork (with_pool n pool)
    kept led = subst (λ (p : PoolLists). IsNetwork (with_pool n p)) (sym pool_is)
        (pool_kept n (K.with_queue n.pool q xs) found.is (K.like n.pool q xs)
        (queues_changed n.pool (K.with_queue n.pool q xs) (records_after n) found.is.seconds (sym (K.like n.pool q xs).cells)
        (λ s v e m free. K.stays_free n.pool q e.second xs (λ o. none s v e m free (led e.second o)) free)))
      where
        none : (s v : ℕ) (e : Record) → In e (records_after n s v) → IsFree n.pool e.second
            → In e.second (map K.leader here) ⊎ ((s v : ℕ) (f : Record) → In f (records_after n s v) → f.second ≡ e.second → ⊥) → ⊥
        none s v e m free (inl o) = K.none_led n.pool e.second free q o
        none s v e m free (inr none_of) = none_of s v e m refl

  -- the first message of the queue is taken
  module _ {pool : PoolLists} (taken : pool ≡ K.with_queue n.pool q (drop 1 here)) where
    -- A network without the first message of a queue is again a network.
    pub taken_kept : IsNetwork (with_pool n pool)
    taken_kept = kept (drop 1 here) taken (λ p o. inl (some_of K.leader p here o))

    -- If the first message of a queue is taken, it is dropped at its place, and nothing else changes.
    pub taken_net : net_of (with_pool n pool) ≡ K.put (net_of m) d w (drop 1 (K.before m d w))
    taken_net = net_is (drop 1 here) taken ∙ ap (λ xs. K.put (net_of m) d w (drop 1 xs)) before_is

    -- The leader of a message that was taken may lead one again.
    pub leader_may : (o : Option X) → o ≡ slice_get here 0 → IfSome o (λ x. K.leader x < n.pool.cells) → IfSome o (λ x. IsFree pool (K.leader x))
        → IfSome o (λ x. MayLead (with_pool n pool) (K.leader x))
    unfolding records_after
    leader_may None first below free = tt
    leader_may (Some x) first below free = record {
      below = subst (λ (p : PoolLists). K.leader x < p.cells) (sym taken) (subst (λ c. K.leader x < c) (sym (K.like n.pool q (drop 1 here)).cells) below);
      free = free;
      no_second = λ s v f m same. K.none_led n.pool f.second (found.is.seconds.free s v f m) q
          (subst (λ p. In p (map K.leader here)) (sym same) (first_in K.leader here x first));
    }

  -- a message whose leader may lead it is put in
  module _ (x : X) {pool : PoolLists} (put : pool ≡ K.with_queue n.pool q (here ++ x ∷ [])) where
    -- A network with one more message in a queue is again a network, if the message's leader may lead it.
    pub put_kept : MayLead n (K.leader x) → IsNetwork (with_pool n pool)
    put_kept may = kept (here ++ x ∷ []) put (λ p o. go p (one_of_more K.leader p here x o))
      where
        go : (p : ℕ) → In p (map K.leader here) ⊎ (p ≡ K.leader x)
            → In p (map K.leader here) ⊎ ((s v : ℕ) (f : Record) → In f (records_after n s v) → f.second ≡ p → ⊥)
        go p (inl o) = inl o
        go p (inr e) = inr (λ s v f m same. may.no_second s v f m (same ∙ e))

    -- If a message is put into a queue, it is the last at its place, and nothing else changes.
    pub put_net : net_of (with_pool n pool) ≡ K.put (net_of m) d w (K.before m d w ++ x ∷ [])
    put_net = net_is (here ++ x ∷ []) put ∙ ap (λ xs. K.put (net_of m) d w (xs ++ x ∷ [])) before_is

-- ---- messages from outside

-- If the network does not name a processor, the processor may lead a request that is put in.
pub injected_may : {n m : NetworkLists} {p : ℕ} (x : Request) → n ≡ m → IsNetwork n → x.leader ≡ p → p < 2 ^ m.k → (Names (net_of m) p → ⊥)
    → MayLead n x.leader
injected_may {n} {m} {p} x view is leader below none =
    subst (MayLead n) (sym leader) (may_lead n p is (subst (λ (l : NetworkLists). p < 2 ^ l.k) (sym view) below)
    (subst (λ (l : NetworkLists). Unnamed (net_of l) p) (sym view) (unnamed_is (net_of m) p none)))

-- If a reply's leader leads no message and is the second of no record, it may lead the reply.
pub replied_may : {n m : NetworkLists} (y : Reply) → n ≡ m → IsNetwork n → y.leader < 2 ^ m.k → Unnamed (net_of m) y.leader → MayLead n y.leader
replied_may {n} {m} y view is below none =
    may_lead n y.leader is (subst (λ (l : NetworkLists). y.leader < 2 ^ l.k) (sym view) below)
    (subst (λ (l : NetworkLists). Unnamed (net_of l) y.leader) (sym view) none)
