-- Replies put at a switch, in a network of places.
use Rattle.std.proofs.Common.{◌≡◌, ℕ, suc, ◌+◌, ◌*◌, ◌/◌, ◌%◌, ◌^◌, ◌<◌, ◌≤◌, Bool, true, false}
use Rattle.std.proofs.Common.{◌&&◌, List, [], ◌∷◌, ◌++◌, length, map, ◌⊎◌, inl, inr, refl, sym}
use Rattle.std.proofs.Common.{ap, ◌∙◌, subst, arith, length-set, eqb-true, eq-eqb}
use Rattle.std.specs.Prelude.{◌==◌, not, if◌then◌else◌, nat_le}
use Rattle.std.proofs.lemmas.List.{map-append, set-get_or}
use Rattle.omega_wires.specs.Wires.{wire_before}
use Rattle.messages.specs.declared.message.Reply.{Reply}
use Rattle.messages.specs.declared.message.Record.{Record}
use Rattle.messages.specs.declared.moves.DownMove.{DownMove}
use Rattle.messages.specs.declared.moves.DownMove.TheVariants as down
use Rattle.messages.specs.Places.{ApartBy, Distinct, In, put2}
use Rattle.messages.specs.Queues.{answers, records_but, records_of, reply_of}
use Rattle.messages.specs.Network.{Net, Sizes, put_records}
use Rattle.messages.specs.Network as network
use Rattle.messages.specs.Moves.{push_all}
use Rattle.messages.specs.Moves as moves
use Rattle.messages.proofs.Lemmas.{ApartBy-filter, ApartBy-same, In-append, In-filter, In-map_from, In-put2}
use Rattle.combining_switch.specs.Pools.{IsFree, PoolLists, leader_of_reply, replies_at, with_replies}
use Rattle.combining_switch.proofs.Lemmas.{free_of_replies}
use Rattle.combining_switch.specs.declared.answers.Answered.{Answered}
use Rattle.combining_switch.specs.declared.answers.Answered.TheVariants.{One, Many, NoRoom}
use Rattle.combining_switch.specs.Switches.{CanBeQueued, SwitchState, answered, answered_for, has_room, input_for}
use Rattle.combining_switch.specs.Switches.{put_replies, put_reply, records_at, with_records}
use Rattle.omega_network.specs.Answers.{down_of}
use Rattle.omega_network.specs.Networks.{IsNetwork, MayLead, NetworkLists, half, net_of, no_switch, place}
use Rattle.omega_network.specs.Networks.{records_after, replies_before, second_of, sizes_of, switch_at}
use Rattle.omega_network.proofs.Changes.{at_output, at_reply_queue, replies_put, switch_records_put}
use Rattle.omega_network.proofs.Forms.{form, input_is, on_way}
use Rattle.omega_network.proofs.Kept.{IsLike, pool_kept, records_kept}
use Rattle.omega_network.proofs.SecondReplies.{queues_changed, records_dropped, was_there}
use Rattle.omega_network.proofs.Switches.{queue_within, with_pool, with_switch}

-- ---- what does not change

module _ (i : ℕ) (qs : List ℕ) where
  pub put_like : (ys : List Reply) (pool : PoolLists) → IsLike pool (put_replies i qs ys pool)
  unfolding put_replies
  put_like [] pool = record { cells = refl; requests = refl; replies = refl }
  put_like (y ∷ ys) pool =
      let rest : IsLike (put_reply i qs pool y) (put_replies i qs ys (put_reply i qs pool y)) = put_like ys (put_reply i qs pool y) in
      record {
        cells = rest.cells;
        requests = rest.requests;
        replies = rest.replies ∙ length-set pool.replies (input_for i qs y.leader) (replies_at pool (input_for i qs y.leader) ++ y ∷ []);
      }

  -- The cell of a processor that leads none of the replies stays free.
  pub put_free : (ys : List Reply) (pool : PoolLists) (p : ℕ) → (In p (map leader_of_reply ys) → ⊥) → IsFree pool p → IsFree (put_replies i qs ys pool) p
  unfolding put_replies
  put_free [] pool p none free = free
  put_free (y ∷ ys) pool p none free = put_free ys (put_reply i qs pool y) p (λ m. none (inr m))
      (free_of_replies pool (input_for i qs y.leader) p (replies_at pool (input_for i qs y.leader) ++ y ∷ [])
      (λ m. last (In-append p (map leader_of_reply (replies_at pool (input_for i qs y.leader))) (y.leader ∷ [])
      (subst (In p) (map-append leader_of_reply (replies_at pool (input_for i qs y.leader)) (y ∷ [])) m))) free)
    where
      last : In p (map leader_of_reply (replies_at pool (input_for i qs y.leader))) ⊎ In p (y.leader ∷ []) → ⊥
      last (inl m) = free.no_reply (input_for i qs y.leader) m
      last (inr (inl e)) = none (inl e)
      last (inr (inr m)) = m

-- ---- on the wires

module _ (n : NetworkLists) (s w i : ℕ) (qs : List ℕ) (stage : s ≤ n.k) (way : (p : ℕ) → wire_before n.k s w p < 2 ^ n.k)
    (to : (p : ℕ) → input_for i qs p ≡ place n.k s (wire_before n.k s w p)) where
  at_leader : (pool : PoolLists) (p : ℕ) → replies_before (with_pool n pool) s (wire_before n.k s w p) ≡ replies_at pool (input_for i qs p)
  at_leader pool p = at_reply_queue (with_pool n pool) s (wire_before n.k s w p) (way p) ∙ ap (replies_at pool) (sym (to p))

  one_put : (pool : PoolLists) (y : Reply) → length pool.replies ≡ suc n.k * 2 ^ n.k → net_of (with_pool n (put_reply i qs pool y))
      ≡ network.put_replies (net_of (with_pool n pool)) s (wire_before n.k s w y.leader)
      (replies_before (with_pool n pool) s (wire_before n.k s w y.leader) ++ y ∷ [])
  one_put pool y all =
      ap (λ q. net_of (with_pool n (with_replies pool q (replies_at pool (input_for i qs y.leader) ++ y ∷ [])))) (to y.leader)
      ∙ replies_put (with_pool n pool) s (wire_before n.k s w y.leader) (way y.leader) (replies_at pool (input_for i qs y.leader) ++ y ∷ [])
      (queue_within n.k s (wire_before n.k s w y.leader) (length pool.replies) stage (way y.leader) all)
      ∙ ap (λ (ys : List Reply). network.put_replies (net_of (with_pool n pool)) s (wire_before n.k s w y.leader) (ys ++ y ∷ []))
      (sym (at_leader pool y.leader))

  -- Replies that are put at the inputs of a switch are put before the stage, each on its leader's wire.
  pub all_put : (ys : List Reply) (pool : PoolLists) → length pool.replies ≡ suc n.k * 2 ^ n.k
      → net_of (with_pool n (put_replies i qs ys pool)) ≡ push_all (wire_before n.k s w) s ys (net_of (with_pool n pool))
  unfolding put_replies push_all
  all_put [] pool all = refl
  all_put (y ∷ ys) pool all =
      all_put ys (put_reply i qs pool y)
      (length-set pool.replies (input_for i qs y.leader) (replies_at pool (input_for i qs y.leader) ++ y ∷ []) ∙ all)
      ∙ ap (push_all (wire_before n.k s w) s ys) (one_put pool y all)

  -- There is room at the inputs exactly if there is room on the wires.
  pub rooms : (c : ℕ) (ys : List Reply) (pool : PoolLists) →
      moves.has_room c (wire_before n.k s w) s (net_of (with_pool n pool)) ys ≡ has_room c i qs pool ys
  unfolding has_room
  rooms c [] pool = refl
  rooms c (y ∷ ys) pool = λ j. nat_le (length (at_leader pool y.leader j)) c && rooms c ys pool j

-- ---- a reply comes back

answered_same : (es : List Record) → down_of (answered_for es) ≡ moves.answered es
answered_same [] = refl
answered_same (e ∷ es) = refl

-- The leaders of the seconds' replies are the seconds.
leaders_are : (v : ℕ) (es : List Record) → map leader_of_reply (map (reply_of v) es) ≡ map second_of es
leaders_are v [] = refl
leaders_are v (e ∷ es) = ap (λ ps. e.second ∷ ps) (leaders_are v es)

-- The switch's answer is the outcome of the move, and the network then is the one after the move.
pub record Answers (n : NetworkLists) (s i : ℕ) (r : Answered × SwitchState × PoolLists) (fact : DownMove × Net) : Type 0 where
  -- The switch's answer is the outcome of the move.
  pub answer : down_of r.0 ≡ fact.0
  -- The network with the switch's records and queues is the network after the move.
  pub net_is : net_of (with_pool (with_switch n s i r.1) r.2) ≡ fact.1

module _ (n : NetworkLists) (is : IsNetwork n) (s w : ℕ) (stage : s < n.k) (wire : w < 2 ^ n.k) (x : Reply) where
  abbrev t : SwitchState
  t = switch_at n s (w / 2)

  abbrev own : List Record
  own = records_at t (w % 2)

  abbrev ys : List Reply
  ys = answers (records_of x.leader own) x

  abbrev all : PoolLists
  all = put_replies t.its_bit t.inputs ys n.pool

  -- the network without the leader's records
  abbrev left : NetworkLists
  left = with_switch n s (w / 2) (with_records t (w % 2) (records_but x.leader own))

  own_is : own ≡ records_after n s w
  own_is = sym (at_output n s w wire)

  forgotten : net_of left ≡ put_records (net_of n) s w (records_but x.leader own)
  forgotten = switch_records_put n is s w stage wire (records_but x.leader own)

  way : (p : ℕ) → wire_before n.k s w p < 2 ^ n.k
  way = on_way n is s w stage wire

  to : (p : ℕ) → input_for t.its_bit t.inputs p ≡ place n.k s (wire_before n.k s w p)
  to = input_is n is s w stage wire

  below : s ≤ n.k
  below = omega arith

  put : net_of (with_pool left all) ≡ push_all (wire_before n.k s w) s ys (put_records (net_of n) s w (records_but x.leader own))
  put = all_put left s w t.its_bit t.inputs below way to ys n.pool is.all_replies ∙ ap (push_all (wire_before n.k s w) s ys) forgotten

  room : moves.has_room n.c (wire_before n.k s w) s (push_all (wire_before n.k s w) s ys (put_records (net_of n) s w (records_but x.leader own))) ys
      ≡ has_room t.c t.its_bit t.inputs all ys
  room =
      ap (λ (net : Net). moves.has_room n.c (wire_before n.k s w) s net ys) (sym put)
      ∙ rooms left s w t.its_bit t.inputs below way to n.c ys all
      ∙ ap (λ c. has_room c t.its_bit t.inputs all ys) (sym (ap (λ (u : SwitchState). u.c) (form n is s w stage wire)))

  stays : with_pool (with_switch n s (w / 2) t) n.pool ≡ n
  stays = λ j. record { k = n.k; c = n.c; b = n.b; r = n.r; pool = n.pool; switches = set-get_or n.switches (s * half n.k + w / 2) no_switch j }

  abbrev answer_with : List Record → DownMove × Net
  answer_with es =
      let net = push_all (wire_before n.k s w) s (answers (records_of x.leader es) x) (put_records (net_of n) s w (records_but x.leader es)) in
      if moves.has_room n.c (wire_before n.k s w) s net (answers (records_of x.leader es) x) then (moves.answered (records_of x.leader es), net)
      else (down.Stalled, net_of n)

  -- What a switch does with a reply is what answering the reply does in a network of places.
  pub answered_there : Answers n s (w / 2) (answered (switch_at n s (w / 2)) n.pool (w % 2) x)
      (moves.answer (sizes_of n) (net_of n) (net_of n) s w x (records_of x.leader (records_after n s w)))
  unfolding answered
  answered_there = subst (Answers n s (w / 2) (answered t n.pool (w % 2) x)) (ap answer_with own_is)
      (go (has_room t.c t.its_bit t.inputs all ys) refl)
    where
      go : (r : Bool) → has_room t.c t.its_bit t.inputs all ys ≡ r → Answers n s (w / 2) (answered t n.pool (w % 2) x) (answer_with own)
      go true e = rw (e, room ∙ e) (record { answer = answered_same (records_of x.leader own); net_is = put })
      go false e = rw (e, room ∙ e) (record { answer = refl; net_is = ap net_of stays })

  -- ---- the network stays one

  is_own : (e : Record) → In e own → In e (records_after n s w)
  is_own e m = subst (In e) own_is m

  apart : ApartBy second_of own
  apart = subst (ApartBy second_of) (sym own_is) (is.seconds.apart s w)

  one_of : (e : Record) → In e (records_of x.leader own) → In e own × (e.leader ≡ x.leader)
  one_of e m = let h = In-filter (λ (f : Record). f.leader == x.leader) e own m in (h.0, eqb-true e.leader x.leader h.1)

  one_but : (e : Record) → In e (records_but x.leader own) → In e own × (e.leader ≡ x.leader → ⊥)
  one_but e m =
      let h = In-filter (λ (f : Record). not (f.leader == x.leader)) e own m in
      (h.0, (λ q. let no : false ≡ true = ap not (sym (eq-eqb e.leader x.leader q)) ∙ h.1 in cc))

  module _ (may : MayLead n x.leader) where
    -- Each reply is for the leader, or for the second of one of its records.
    leads : (p : ℕ) → In p (map leader_of_reply ys) → (p ≡ x.leader) ⊎ ((e : Record) × In e (records_of x.leader own) × (e.second ≡ p))
    leads p (inl e) = inl e
    leads p (inr m) = inr (In-map_from second_of p (records_of x.leader own) (subst (In p) (leaders_are x.value (records_of x.leader own)) m))

    -- The replies for a leader and for the seconds of its records can be queued, if the leader may lead its reply.
    pub can_be_queued : CanBeQueued n.pool (answers (records_of x.leader (records_at (switch_at n s (w / 2)) (w % 2))) x)
    can_be_queued = record {
      cells = λ y m. cell y m;
      free = λ y m. free y m;
      apart = (
        (λ m. first (subst (In x.leader) (leaders_are x.value (records_of x.leader own)) m)),
        subst Distinct (sym (leaders_are x.value (records_of x.leader own))) (ApartBy-filter second_of (λ (f : Record). f.leader == x.leader) own apart),
      );
    }
      where
        first : In x.leader (map second_of (records_of x.leader own)) → ⊥
        first m = let h = In-map_from second_of x.leader (records_of x.leader own) m in may.no_second s w h.0 (is_own h.0 ((one_of h.0 h.1).0)) h.2

        of_record : (zs : List Record) (y : Reply) → In y (map (reply_of x.value) zs) → (e : Record) × In e zs × (e.second ≡ y.leader)
        of_record [] y m = elim m [ ]
        of_record (e ∷ zs) y (inl q) = (e, inl refl, sym (ap leader_of_reply q))
        of_record (e ∷ zs) y (inr m) = let h = of_record zs y m in (h.0, inr h.1, h.2)

        cell : (y : Reply) → In y ys → y.leader < n.pool.cells
        cell y (inl e) = subst (λ p. p < n.pool.cells) (sym (ap leader_of_reply e)) may.below
        cell y (inr m) =
            let h = of_record (records_of x.leader own) y m in
            subst (λ p. p < n.pool.cells) h.2 (is.seconds.cells s w h.0 (is_own h.0 ((one_of h.0 h.1).0)))

        free : (y : Reply) → In y ys → IsFree n.pool y.leader
        free y (inl e) = subst (IsFree n.pool) (sym (ap leader_of_reply e)) may.free
        free y (inr m) =
            let h = of_record (records_of x.leader own) y m in
            subst (IsFree n.pool) h.2 (is.seconds.free s w h.0 (is_own h.0 ((one_of h.0 h.1).0)))

    left_is : IsNetwork left
    left_is = records_kept n is s w stage wire (records_but x.leader own) (records_dropped (records_after n) s w (records_but x.leader own)
        (λ e m. is_own e ((one_but e m).0)) n.pool is.seconds (ApartBy-filter second_of (λ (f : Record). not (f.leader == x.leader)) own apart))

    -- The seconds of the records that are left get no reply.
    none : (s' w' : ℕ) (e : Record) → In e (records_after left s' w') → In e.second (map leader_of_reply ys) → ⊥
    none s' w' e m o = go (leads e.second o)
      where
        was : In e (put2 (records_after n) s w (records_but x.leader own) s' w')
        was = subst (λ (net : Net). In e (net.records s' w')) forgotten m

        other : (f : Record) → In f (records_of x.leader own) → f.second ≡ e.second
            → ((s' ≡ s) × (w' ≡ w) × In e (records_but x.leader own)) ⊎ ((s' ≡ s → w' ≡ w → ⊥) × In e (records_after n s' w')) → ⊥
        other f o q (inl h) =
            let same : f ≡ e = ApartBy-same second_of f e own apart ((one_of f o).0) ((one_but e h.2).0) q in
            (one_but e h.2).1 (sym (ap (λ (g : Record). g.leader) same) ∙ (one_of f o).1)
        other f o q (inr h) =
            let at = is.seconds.once s w s' w' f e (is_own f ((one_of f o).0)) h.1 q in
            h.0 (sym at.0) (sym at.1)

        go : (e.second ≡ x.leader) ⊎ ((f : Record) × In f (records_of x.leader own) × (f.second ≡ e.second)) → ⊥
        go (inl q) = may.no_second s' w' e (was_there (records_after n) s w (records_but x.leader own) (λ f m. is_own f ((one_but f m).0)) s' w' e was) q
        go (inr h) = other h.0 h.1 h.2 (In-put2 (records_after n) s w (records_but x.leader own) s' w' e was)

    -- The network after a reply is answered is again a network, if the reply's leader may lead it.
    pub answered_keeps : (r : Answered × SwitchState × PoolLists) → r ≡ answered (switch_at n s (w / 2)) n.pool (w % 2) x →
        IsNetwork (with_pool (with_switch n s (w / 2) r.1) r.2)
    unfolding answered
    answered_keeps r is_r = subst (λ (v : Answered × SwitchState × PoolLists). IsNetwork (with_pool (with_switch n s (w / 2) v.1) v.2)) (sym is_r)
        (go (has_room t.c t.its_bit t.inputs all ys) refl)
      where
        whole : IsNetwork (with_pool left all)
        whole = pool_kept left all left_is (put_like t.its_bit t.inputs ys n.pool)
            (queues_changed n.pool all (records_after left) left_is.seconds (sym ((put_like t.its_bit t.inputs ys n.pool).cells))
            (λ s' w' e m free. put_free t.its_bit t.inputs ys n.pool e.second (none s' w' e m) free))

        go : (b : Bool) → has_room t.c t.its_bit t.inputs all ys ≡ b
            → IsNetwork (with_pool (with_switch n s (w / 2) (answered t n.pool (w % 2) x).1) (answered t n.pool (w % 2) x).2)
        go true e = rw e whole
        go false e = rw e (subst IsNetwork (sym stays) is)

-- A move stalls exactly if the answer is that there is no room.
pub down_stalls : (a : Answered) → (down_of a ≡ down.Stalled → a ≡ NoRoom) × (a ≡ NoRoom → down_of a ≡ down.Stalled)
down_stalls One = ((λ e. absurd (let no : down.Moved ≡ down.Stalled = e in cc)), (λ e. absurd (let no : One ≡ NoRoom = e in cc)))
down_stalls (Many p) = ((λ e. absurd (let no : down.Answered p ≡ down.Stalled = e in cc)), (λ e. absurd (let no : Many p ≡ NoRoom = e in cc)))
down_stalls NoRoom = ((λ e. refl), (λ e. refl))
