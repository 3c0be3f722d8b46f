-- A network with one queue or one switch replaced, as a network of places.
use Rattle.std.proofs.Common.{◌≡◌, ℕ, ◌/◌, ◌%◌, ◌^◌, ◌<◌, ◌≤◌, Bool, List, [], length, get_or, set, ◌⊎◌, inl}
use Rattle.std.proofs.Common.{inr, sym, ap, ◌∙◌, arith, lt-ltb, le-ltb, get_or-set_same, get_or-set_other}
use Rattle.std.specs.Prelude.{if◌then◌else◌}
use Rattle.std.proofs.lemmas.Bool.{cases_eq, cases_lt}
use Rattle.messages.specs.declared.message.Request.{Request}
use Rattle.messages.specs.declared.message.Reply.{Reply}
use Rattle.messages.specs.declared.message.Record.{Record}
use Rattle.messages.specs.Places.{put2}
use Rattle.messages.specs.Network.{put_records, put_replies, put_requests}
use Rattle.messages.proofs.Lemmas.{is_put2}
use Rattle.combining_switch.specs.Pools.{replies_at, requests_at, with_replies, with_requests}
use Rattle.combining_switch.specs.Outputs.{OutputState, output_with}
use Rattle.combining_switch.specs.Switches.{SwitchState, no_output, output_of, records_at, with_records}
use Rattle.omega_network.specs.Networks.{IsNetwork, NetworkLists, half, net_of, on_wire, place, records_after, replies_before, requests_before, switch_at}
use Rattle.omega_network.proofs.Switches.{half_of_wire, one_place, switch_kept, switch_put, with_pool, with_switch}

-- A wire that is one of the network has its own messages.
pub inside : {X : Type 0} (k w : ℕ) (xs : List X) → w < 2 ^ k → on_wire k w xs ≡ xs
inside k w xs l = ap (λ (b : Bool). if b then xs else []) (lt-ltb w (2 ^ k) l)

-- A wire that is not one of the network has no messages.
pub outside : {X : Type 0} (k w : ℕ) (xs : List X) → 2 ^ k ≤ w → on_wire k w xs ≡ []
outside k w xs l = ap (λ (b : Bool). if b then xs else []) (le-ltb w (2 ^ k) l)

pub same_on_wire : {X : Type 0} (k w : ℕ) (xs ys : List X) → (w < 2 ^ k → xs ≡ ys) → on_wire k w xs ≡ on_wire k w ys
same_on_wire {X} k w xs ys same = go (cases_lt w (2 ^ k))
  where
    go : (w < 2 ^ k) ⊎ (2 ^ k ≤ w) → on_wire k w xs ≡ on_wire k w ys
    go (inl l) = ap (on_wire k w) (same l)
    go (inr p) = outside k w xs p ∙ sym (outside k w ys p)

-- the queues after one of them is replaced
module _ {X : Type 0} (queues : List (List X)) (k d w : ℕ) (xs : List X) (wire : w < 2 ^ k) (there : place k d w < length queues) where
  abbrev before : ℕ → ℕ → List X
  before d' w' = on_wire k w' (get_or queues (place k d' w') [])

  abbrev later : ℕ → ℕ → List X
  later d' w' = on_wire k w' (get_or (set queues (place k d w) xs) (place k d' w') [])

  queue_put : later ≡ put2 before d w xs
  queue_put = is_put2 before later d w xs
      (inside k w (get_or (set queues (place k d w) xs) (place k d w) []) wire ∙ get_or-set_same queues (place k d w) xs [] there)
      (λ d' w' away. same_on_wire k w' (get_or (set queues (place k d w) xs) (place k d' w') []) (get_or queues (place k d' w') [])
      (λ l. get_or-set_other queues (place k d w) (place k d' w') xs []
      (λ e. let p = one_place (2 ^ k) d d' w w' wire l e in away p.0 p.1)))

-- ---- a queue

module _ (n : NetworkLists) (d w : ℕ) (wire : w < 2 ^ n.k) where
  -- If a queue of requests is replaced in the pool, it is replaced at its place, and nothing else changes.
  pub requests_put : (xs : List Request) → place n.k d w < length n.pool.requests →
      net_of (with_pool n (with_requests n.pool (place n.k d w) xs)) ≡ put_requests (net_of n) d w xs
  unfolding requests_before records_after replies_before
  requests_put xs there = λ j. record {
    requests = queue_put n.pool.requests n.k d w xs wire there j;
    records = records_after n;
    replies = replies_before n;
  }

  -- If a queue of replies is replaced in the pool, it is replaced at its place, and nothing else changes.
  pub replies_put : (ys : List Reply) → place n.k d w < length n.pool.replies →
      net_of (with_pool n (with_replies n.pool (place n.k d w) ys)) ≡ put_replies (net_of n) d w ys
  unfolding requests_before records_after replies_before
  replies_put ys there = λ j. record {
    requests = requests_before n;
    records = records_after n;
    replies = queue_put n.pool.replies n.k d w ys wire there j;
  }

-- ---- a switch

small_rest : (w : ℕ) → w % 2 < 2
small_rest w = omega arith

same_wire : (w v : ℕ) → w / 2 ≡ v / 2 → w % 2 ≡ v % 2 → w ≡ v
same_wire w v e f = omega arith

-- After a switch's records at an output are replaced, they are what is read there.
pub records_here : (t : SwitchState) (out : ℕ) (es : List Record) → out < length t.outputs → records_at (with_records t out es) out ≡ es
records_here t out es l = ap (λ (o : OutputState). o.records) (get_or-set_same t.outputs out (output_with (output_of t out) es) no_output l)

pub records_other : (t : SwitchState) (out : ℕ) (es : List Record) (v : ℕ) → (v ≡ out → ⊥) → records_at (with_records t out es) v ≡ records_at t v
records_other t out es v n = ap (λ (o : OutputState). o.records) (get_or-set_other t.outputs out v (output_with (output_of t out) es) no_output n)

module _ (n : NetworkLists) (is : IsNetwork n) (s w : ℕ) (stage : s < n.k) (wire : w < 2 ^ n.k) (es : List Record) where
  number : w / 2 < half n.k
  number = half_of_wire n.k s w stage wire

  two : w % 2 < length (switch_at n s (w / 2)).outputs
  two =
      let e : length (switch_at n s (w / 2)).outputs ≡ 2 = ap (λ (t : SwitchState). length t.outputs) (is.each_switch s (w / 2) stage number) in
      let l = small_rest w in
      omega arith

  abbrev changed : SwitchState
  changed = with_records (switch_at n s (w / 2)) (w % 2) es

  abbrev new : NetworkLists
  new = with_switch n s (w / 2) (with_records (switch_at n s (w / 2)) (w % 2) es)

  put : switch_at new s (w / 2) ≡ changed
  put = switch_put n s (w / 2) changed stage number is.all_switches

  -- If a switch's records at an output are replaced, they are replaced at the place of the wire, and nowhere else.
  pub records_put : records_after new ≡ put2 (records_after n) s w es
  unfolding records_after
  records_put = is_put2 (records_after n) (records_after new) s w es
      (inside n.k w (records_at (switch_at new s (w / 2)) (w % 2)) wire
      ∙ ap (λ (t : SwitchState). records_at t (w % 2)) put ∙ records_here (switch_at n s (w / 2)) (w % 2) es two)
      (λ s' w' away. same_on_wire n.k w' (records_at (switch_at new s' (w' / 2)) (w' % 2)) (records_at (switch_at n s' (w' / 2)) (w' % 2))
      (λ l. other s' w' away l (cases_eq s' s) (cases_eq (w' / 2) (w / 2))))
    where
      other : (s' w' : ℕ) → (s' ≡ s → w' ≡ w → ⊥) → w' < 2 ^ n.k → (s' ≡ s) ⊎ (s' ≡ s → ⊥) → (w' / 2 ≡ w / 2) ⊎ (w' / 2 ≡ w / 2 → ⊥) →
          records_at (switch_at new s' (w' / 2)) (w' % 2) ≡ records_at (switch_at n s' (w' / 2)) (w' % 2)
      other s' w' away l (inl a) (inl e) =
          (λ j. records_at (switch_at new (a j) (e j)) (w' % 2)) ∙ ap (λ (t : SwitchState). records_at t (w' % 2)) put
          ∙ records_other (switch_at n s (w / 2)) (w % 2) es (w' % 2) (λ p. away a (same_wire w' w e p))
          ∙ (λ j. records_at (switch_at n (sym a j) (sym e j)) (w' % 2))
      other s' w' away l (inl a) (inr e) = ap (λ (t : SwitchState). records_at t (w' % 2))
          (switch_kept n s (w / 2) changed stage number is.all_switches s' (w' / 2) (half_of_wire n.k s w' stage l) (λ _ q. e q))
      other s' w' away l (inr a) e = ap (λ (t : SwitchState). records_at t (w' % 2))
          (switch_kept n s (w / 2) changed stage number is.all_switches s' (w' / 2) (half_of_wire n.k s w' stage l) (λ p _. a p))

  -- If a switch's records at an output are replaced, the network has those at its place, and nothing else changes.
  pub switch_records_put : net_of new ≡ put_records (net_of n) s w es
  unfolding requests_before replies_before
  switch_records_put = λ j. record { requests = requests_before n; records = records_put j; replies = replies_before n }

-- ---- the lists at a place

-- The records at the place of a wire are those at the wire's output of its switch.
pub at_output : (n : NetworkLists) (s w : ℕ) → w < 2 ^ n.k → records_after n s w ≡ records_at (switch_at n s (w / 2)) (w % 2)
unfolding records_after
at_output n s w wire = inside n.k w (records_at (switch_at n s (w / 2)) (w % 2)) wire

-- The requests at a depth on a wire are those of the queue of that number in the pool.
pub at_queue : (n : NetworkLists) (d w : ℕ) → w < 2 ^ n.k → requests_before n d w ≡ requests_at n.pool (place n.k d w)
unfolding requests_before
at_queue n d w wire = inside n.k w (requests_at n.pool (place n.k d w)) wire

-- The replies at a depth on a wire are those of the queue of that number in the pool.
pub at_reply_queue : (n : NetworkLists) (d w : ℕ) → w < 2 ^ n.k → replies_before n d w ≡ replies_at n.pool (place n.k d w)
unfolding replies_before
at_reply_queue n d w wire = inside n.k w (replies_at n.pool (place n.k d w)) wire
