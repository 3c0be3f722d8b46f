-- The network after a request is offered to a switch, as a call leaves it.
use Rattle.std.proofs.Common.{◌≡◌, ℕ, suc, ◌+◌, ◌*◌, ◌/◌, ◌%◌, ◌^◌, ◌<◌, Bool, length, map, get_or}
use Rattle.std.proofs.Common.{set, ◌⊎◌, inl, inr, refl, sym, ap, ◌∙◌, subst, arith, length-set}
use Rattle.std.specs.Prelude.{IsTrue, ◌↔◌}
use Rattle.std.proofs.lemmas.List.{get_or_default}
use Rattle.messages.specs.declared.message.Request.{Request}
use Rattle.messages.specs.declared.message.Record.{Record}
use Rattle.messages.specs.declared.moves.UpMove.{UpMove}
use Rattle.messages.specs.declared.moves.UpMove.TheVariants as up
use Rattle.messages.specs.Places.{In, put2}
use Rattle.messages.specs.Network.{Net, put_records, put_requests}
use Rattle.messages.specs.Moves as moves
use Rattle.messages.proofs.Lemmas.{put2_id}
use Rattle.combining_switch.specs.Pools.{IsFree, PoolLists, leader_of_request, with_requests}
use Rattle.combining_switch.proofs.Lemmas.{free_of_requests}
use Rattle.combining_switch.specs.declared.answers.Accepted.{Accepted}
use Rattle.combining_switch.specs.declared.answers.Accepted.TheVariants.{Full}
use Rattle.combining_switch.specs.Outputs.{OutputLists, accepted, output_in}
use Rattle.combining_switch.specs.Switches.{StandsIn, SwitchState, output_of, with_records}
use Rattle.omega_network.specs.Answers.{up_of}
use Rattle.omega_network.specs.Networks.{AreSeconds, IsNetwork, MayLead, NetworkLists, half, net_of, no_switch, place, records_after, sizes_of, switch_at}
use Rattle.omega_network.proofs.Changes.{at_queue, requests_put, switch_records_put}
use Rattle.omega_network.proofs.Forms.{in_pool, lists_are, queue_is}
use Rattle.omega_network.proofs.Kept.{pool_kept, records_kept}
use Rattle.omega_network.proofs.Offers.{Became, Offered, after, offered_there, one_more, output_at, same_records, stalls}
use Rattle.omega_network.proofs.SecondReplies.{queues_changed, record_added}
use Rattle.omega_network.proofs.Switches.{half_of_wire, place_within, queue_within, with_pool, with_switch}

-- ---- the switch that a call finds

pub record Found (n m : NetworkLists) (s w number : ℕ) (u : SwitchState) : Type 0 where
  -- The network is seen as m.
  pub view : n ≡ m
  -- Its lists are those of a network.
  pub is : IsNetwork n
  -- The stage is one of the network.
  pub stage : s < n.k
  -- The wire is one of the network.
  pub wire : w < 2 ^ n.k
  -- The switch's number among all is that of the stage and the wire.
  pub number_is : number ≡ s * half n.k + w / 2
  -- The switch is the one that the wire comes from.
  pub found : u ≡ switch_at n s (w / 2)

-- The switch that is read at the number of a stage and a wire is the one that the wire comes from.
pub found_is : {n m : NetworkLists} {s w number : ℕ} {u : SwitchState} → n ≡ m → IsNetwork n → s < m.k → w < 2 ^ m.k →
    number ≡ s * half m.k + w / 2 → u ≡ get_or n.switches number u → Found n m s w number u
found_is {n} {m} {s} {w} {number} {u} view is stage wire exact at =
    let stage' : s < n.k = subst (λ (l : NetworkLists). s < l.k) (sym view) stage in
    let wire' : w < 2 ^ n.k = subst (λ (l : NetworkLists). w < 2 ^ l.k) (sym view) wire in
    let number_is' : number ≡ s * half n.k + w / 2 = subst (λ (l : NetworkLists). number ≡ s * half l.k + w / 2) (sym view) exact in
    let within : s * half n.k + w / 2 < length n.switches =
    place_within n.k s (w / 2) (length n.switches) stage' (half_of_wire n.k s w stage' wire') is.all_switches in
    record {
      view = view;
      is = is;
      stage = stage';
      wire = wire';
      number_is = number_is';
      found = at ∙ ap (λ i. get_or n.switches i u) number_is' ∙ get_or_default n.switches (s * half n.k + w / 2) u no_switch within;
    }

-- the network with this pool and this switch, as a call leaves it
abbrev pub left_by : NetworkLists → (number : ℕ) → PoolLists → SwitchState → NetworkLists
left_by n number pool t = record { k = n.k; c = n.c; b = n.b; r = n.r; pool = pool; switches = set n.switches number t }

-- ---- the network after the offer

module _ (n : NetworkLists) (is : IsNetwork n) (s w : ℕ) (stage : s < n.k) (wire : w < 2 ^ n.k) (x : Request) where
  abbrev t : SwitchState
  t = switch_at n s (w / 2)

  abbrev q : ℕ
  q = (output_of t (w % 2)).queue

  abbrev r : Accepted × OutputLists
  r = accepted (output_in n.pool (output_of t (w % 2))) x

  abbrev pool : PoolLists
  pool = with_requests n.pool q r.1.requests

  abbrev first : NetworkLists
  first = with_pool n pool

  -- What the output of a wire does with a request is what offering the request there does in a network of places.
  pub fact : Offered (sizes_of n) (net_of n) s w x (accepted (output_in n.pool (output_of (switch_at n s (w / 2)) (w % 2))) x)
      (moves.offered (sizes_of n) (net_of n) (net_of n) s w x)
  fact = subst (λ (o : OutputLists). Offered (sizes_of n) (net_of n) s w x (accepted o x) (moves.offered (sizes_of n) (net_of n) (net_of n) s w x))
      (sym (lists_are n is s w stage wire)) (offered_there (sizes_of n) (net_of n) s w x)

  there : place n.k (suc s) w < length n.pool.requests
  there = queue_within n.k (suc s) w (length n.pool.requests) (omega arith) wire is.all_requests

  first_net : net_of first ≡ put_requests (net_of n) (suc s) w r.1.requests
  first_net =
      ap (λ v. net_of (with_pool n (with_requests n.pool v r.1.requests))) (queue_is n is s w stage wire)
      ∙ requests_put n (suc s) w wire r.1.requests there

  module _ (may : MayLead n x.leader) where
    -- A leader of a request that is queued after the offer is the second of no record.
    none : (s' w' : ℕ) (e : Record) → In e (records_after n s' w') → IsFree n.pool e.second → In e.second (map leader_of_request r.1.requests) → ⊥
    none s' w' e m free o = go (fact.leaders e.second o)
      where
        go : In e.second (map leader_of_request ((net_of n).requests (suc s) w)) ⊎ (e.second ≡ x.leader) → ⊥
        go (inl i) = free.no_request (place n.k (suc s) w) (subst (λ xs. In e.second (map leader_of_request xs)) (at_queue n (suc s) w wire) i)
        go (inr same) = may.no_second s' w' e m same

    first_is : IsNetwork first
    first_is = pool_kept n pool is (record { cells = refl; requests = length-set n.pool.requests q r.1.requests; replies = refl })
        (queues_changed n.pool pool (records_after n) is.seconds refl
        (λ s' w' e m free. free_of_requests n.pool q e.second r.1.requests (none s' w' e m free) free))

    seconds : AreSeconds pool (put2 (records_after n) s w r.1.records)
    unfolding records_after
    seconds = go fact.became
      where
        go : Became x (output_at (sizes_of n) (net_of n) s w) r.1 → AreSeconds pool (put2 (records_after n) s w r.1.records)
        go (same_records same) =
            subst (AreSeconds pool) (sym (ap (put2 (records_after n) s w) same ∙ put2_id (records_after n) s w)) first_is.seconds
        go (one_more e more second leaders) =
            subst (AreSeconds pool) (sym (ap (put2 (records_after n) s w) more))
            (record_added (records_after n) s w e pool first_is.seconds (subst (λ p. p < n.pool.cells) (sym second) may.below)
            (subst (IsFree pool) (sym second) (free_of_requests n.pool q x.leader r.1.requests (λ o. led (subst (In x.leader) leaders o)) may.free))
            (λ s' w' f m same. may.no_second s' w' f m (same ∙ second)))
          where
            led : In x.leader (map leader_of_request ((net_of n).requests (suc s) w)) → ⊥
            led i = may.free.no_request (place n.k (suc s) w) (subst (λ xs. In x.leader (map leader_of_request xs)) (at_queue n (suc s) w wire) i)

    pub offered_keeps : IsNetwork (with_switch (with_pool n (with_requests n.pool (output_of (switch_at n s (w / 2)) (w % 2)).queue r.1.requests)) s (w / 2)
        (with_records (switch_at n s (w / 2)) (w % 2) r.1.records))
    unfolding records_after
    offered_keeps = records_kept first first_is s w stage wire r.1.records seconds

    pub offered_net : net_of (with_switch (with_pool n (with_requests n.pool (output_of (switch_at n s (w / 2)) (w % 2)).queue r.1.requests)) s (w / 2)
        (with_records (switch_at n s (w / 2)) (w % 2) r.1.records)) ≡ after (net_of n) s w r.1
    offered_net =
        switch_records_put first first_is s w stage wire r.1.records ∙ ap (λ (net : Net). put_records net s w r.1.records) first_net

-- ---- for the calls

pub record Offers (m : NetworkLists) (s w : ℕ) (x : Request) (answer : UpMove) (l : NetworkLists) : Type 0 where
  -- The lists that the call leaves are those of a network.
  pub is : IsNetwork l
  -- The answer is the outcome of the offer.
  pub answer_is : answer ≡ (moves.offered (sizes_of m) (net_of m) (net_of m) s w x).0
  -- The network that the call leaves is the one after the offer.
  pub net_is : net_of l ≡ (moves.offered (sizes_of m) (net_of m) (net_of m) s w x).1

module _ {n m : NetworkLists} {s w number : ℕ} {u : SwitchState} (found : Found n m s w number u) (x : Request) where
  abbrev t' : SwitchState
  t' = switch_at n s (w / 2)

  -- If the request's leader may lead it, the answer and the network of the call are those of the offer.
  pub offer_ends : {pool : PoolLists} {v : SwitchState} {a : Accepted} {answer : UpMove} → MayLead m x.leader → answer ≡ up_of a x.leader →
      a ≡ (accepted (output_in n.pool (output_of u (w % 2))) x).0 →
      v ≡ with_records u (w % 2) (accepted (output_in n.pool (output_of u (w % 2))) x).1.records →
      pool ≡ with_requests n.pool (output_of u (w % 2)).queue (accepted (output_in n.pool (output_of u (w % 2))) x).1.requests
      → Offers m s w x answer (left_by n number pool v)
  offer_ends {pool} {v} {a} {answer} may told_is a_is v_is pool_is =
      subst (λ (l : NetworkLists). Offers l s w x answer (left_by n number pool v)) found.view (record {
        is = subst IsNetwork (sym same) (offered_keeps n found.is s w found.stage found.wire x may');
        answer_is = told_is ∙ ap (λ b. up_of b x.leader) (a_is ∙ ap (λ (y : SwitchState). (accepted (output_in n.pool (output_of y (w % 2))) x).0) found.found)
            ∙ (fact n found.is s w found.stage found.wire x).answer;
        net_is = ap net_of same ∙ offered_net n found.is s w found.stage found.wire x may' ∙ (fact n found.is s w found.stage found.wire x).net_is;
      })
    where
      may' : MayLead n x.leader
      may' = subst (λ (l : NetworkLists). MayLead l x.leader) (sym found.view) may

      v_there : v ≡ with_records t' (w % 2) (accepted (output_in n.pool (output_of t' (w % 2))) x).1.records
      v_there = v_is
          ∙ ap (λ (y : SwitchState). with_records y (w % 2) (accepted (output_in n.pool (output_of y (w % 2))) x).1.records) found.found

      pool_there : pool ≡ with_requests n.pool (output_of t' (w % 2)).queue (accepted (output_in n.pool (output_of t' (w % 2))) x).1.requests
      pool_there = pool_is
          ∙ ap (λ (y : SwitchState). with_requests n.pool (output_of y (w % 2)).queue (accepted (output_in n.pool (output_of y (w % 2))) x).1.requests)
          found.found

      same : left_by n number pool v
          ≡ with_switch (with_pool n (with_requests n.pool (output_of t' (w % 2)).queue (accepted (output_in n.pool (output_of t' (w % 2))) x).1.requests))
          s (w / 2) (with_records t' (w % 2) (accepted (output_in n.pool (output_of t' (w % 2))) x).1.records)
      same = λ j. record { k = n.k; c = n.c; b = n.b; r = n.r; pool = pool_there j; switches = set n.switches (found.number_is j) (v_there j) }

  -- The switch would take the request exactly if the offer does not stall.
  pub would_end : (b : Bool) → IsTrue b ↔ ((accepted (output_in n.pool (output_of u (w % 2))) x).0 ≡ Full → ⊥)
      → IsTrue b ↔ ((moves.offered (sizes_of m) (net_of m) (net_of m) s w x).0 ≡ up.Stalled → ⊥)
  would_end b would =
      subst (λ (l : NetworkLists). IsTrue b ↔ ((moves.offered (sizes_of l) (net_of l) (net_of l) s w x).0 ≡ up.Stalled → ⊥)) found.view (
        (λ yes stalled. would.0 yes (full_is ((stalls (accepted (output_in n.pool (output_of t' (w % 2))) x).0 x.leader).0 (is_fact.answer ∙ stalled)))),
        (λ goes. would.1 (λ full. goes (sym is_fact.answer ∙ (stalls (accepted (output_in n.pool (output_of t' (w % 2))) x).0 x.leader).1
            (sym full_same ∙ full)))),
      )
    where
      is_fact : Offered (sizes_of n) (net_of n) s w x (accepted (output_in n.pool (output_of t' (w % 2))) x)
          (moves.offered (sizes_of n) (net_of n) (net_of n) s w x)
      is_fact = fact n found.is s w found.stage found.wire x

      full_same : (accepted (output_in n.pool (output_of u (w % 2))) x).0 ≡ (accepted (output_in n.pool (output_of t' (w % 2))) x).0
      full_same = ap (λ (y : SwitchState). (accepted (output_in n.pool (output_of y (w % 2))) x).0) found.found

      full_is : (accepted (output_in n.pool (output_of t' (w % 2))) x).0 ≡ Full → (accepted (output_in n.pool (output_of u (w % 2))) x).0 ≡ Full
      full_is e = full_same ∙ e

-- ---- what the switch's calls require

-- The queues of the found switch are in the pool.
pub stood : {n m : NetworkLists} {s w number : ℕ} {u : SwitchState} → Found n m s w number u → StandsIn u n.pool
stood {n} {m} {s} {w} {number} {u} found = subst (λ (y : SwitchState). StandsIn y n.pool) (sym found.found) (in_pool n found.is s w found.stage found.wire)
