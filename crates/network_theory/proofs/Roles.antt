-- How single changes keep places.
use Rattle.std.proofs.Common.{◌⊎◌, ◌≡◌, ℕ, suc, ◌<◌, ◌≤◌, true, not, List, [], ◌∷◌, ◌++◌, map, ◌==◌, inl, inr, refl, sym, ap, ◌∙◌, subst, arith, eq-eqb}
use Rattle.std.proofs.lemmas.Bool.{cases_eq, true≢false}
use Rattle.std.proofs.lemmas.List.{map-append}
use Rattle.messages.specs.declared.message.Request.{Request}
use Rattle.messages.specs.declared.message.Reply.{Reply}
use Rattle.messages.specs.declared.message.Record.{Record}
use Rattle.messages.specs.Places.{put, put2, In, Distinct, ApartBy}
use Rattle.messages.specs.Queues.{applied, records_but}
use Rattle.messages.specs.Network.{Net, put_requests, put_records, put_replies}
use Rattle.messages.specs.Naming.{Unnamed}
use Rattle.messages.specs.Moves.{push_all}
use Rattle.network_theory.specs.Roles.{Role, Idle, Asking, Waiting, Replying, depth, Placed, RequestPlaced, RecordPlaced, ReplyPlaced, replying_all}
use Rattle.messages.proofs.Lemmas.{ApartBy-filter, ApartBy-middle, ApartBy-push, ApartBy-same, In-append}
use Rattle.messages.proofs.Lemmas.{In-append_left, In-append_right, In-filter, In-map, each_put2, put_other, put_same}
use Rattle.network_theory.proofs.Putting.{each_fewer, each_pushed, each_put}

-- The records of a leader are at stages below its depth.
pub below_role : (k : ℕ) (path : ℕ → ℕ → ℕ) (role : ℕ → Role) (net : Net) (p : ℕ) (r : Role) → Placed k path role net → role p ≡ r → (s w : ℕ) (z : Record)
    → In z (net.records s w) → z.leader ≡ p → s < depth r
below_role k path role net p r ok is s w z m e = subst (λ j. s < depth j) (ap role e ∙ is) ((ok.records s w z m).beyond)

-- ---- another role for a processor that nothing names

-- Places are kept if a processor that nothing names gets a role whose depth is above all of its records.
new_role : (k : ℕ) (path : ℕ → ℕ → ℕ) (role : ℕ → Role) (net : Net) (p : ℕ) (r : Role)
    → Placed k path role net → Unnamed net p → ((s w : ℕ) (z : Record) → In z (net.records s w) → z.leader ≡ p → s < depth r)
    → Placed k path (put role p r) net
new_role k path role net p r ok free below = record {
  requests = λ d w x m. let h = ok.requests d w x m in record {
    asks = put_other role p r x.leader (free.requests d w x m) ∙ h.asks;
    wire = h.wire;
    deep = h.deep;
  };
  records = λ s w x m. let h = ok.records s w x m in record {
    waits = put_other role p r x.second (free.records s w x m) ∙ h.waits;
    beyond = elim (cases_eq x.leader p) [
      | inl e ↦ subst (λ z. s < depth z) (sym (ap (put role p r) e ∙ put_same role p r)) (below s w x m e)
      | inr n ↦ subst (λ z. s < depth z) (sym (put_other role p r x.leader n)) h.beyond
    ];
    wire = h.wire;
    wire_second = h.wire_second;
    deep = h.deep;
  };
  replies = λ d w x m. let h = ok.replies d w x m in record {
    replying = put_other role p r x.leader (free.replies d w x m) ∙ h.replying;
    wire = h.wire;
    deep = h.deep;
  };
  requests_apart = ok.requests_apart;
  records_apart = ok.records_apart;
  replies_apart = ok.replies_apart;
}

-- ---- requests and replies: what is led by processors, each at the place that its role says

module _ {X : Type 0} (lead : X → ℕ) (f : ℕ → ℕ → List X) (d w : ℕ) (apart : (d' w' : ℕ) → ApartBy lead (f d' w')) where
  -- Leaders still differ at each place if the first element of one place is taken.
  apart_popped : (x : X) (rest : List X) → f d w ≡ x ∷ rest → (d' w' : ℕ) → ApartBy lead (put2 f d w rest d' w')
  apart_popped x rest e = each_put2 (ApartBy lead) f d w rest ((subst (ApartBy lead) e (apart d w)).1) apart

  -- Leaders still differ at each place if one place gets an element whose leader leads none there.
  apart_pushed : (x : X) → ((y : X) → In y (f d w) → lead y ≡ lead x → ⊥) → (d' w' : ℕ) → ApartBy lead (put2 f d w (f d w ++ x ∷ []) d' w')
  apart_pushed x none = each_put2 (ApartBy lead) f d w (f d w ++ x ∷ []) (ApartBy-push lead (f d w) x (apart d w) none) apart

  -- After an element is taken from its place, no element has its leader.
  none_left : (path : ℕ → ℕ → ℕ) (role : ℕ → Role) (at : ℕ → Role) → ((i j : ℕ) → at i ≡ at j → i ≡ j)
      → ((d' w' : ℕ) (y : X) → In y (f d' w') → (role (lead y) ≡ at d') × (path (lead y) d' ≡ w'))
      → (front behind : List X) (x : X) → f d w ≡ front ++ x ∷ behind
      → (d' w' : ℕ) (y : X) → In y (put2 f d w (front ++ behind) d' w') → lead y ≡ lead x → ⊥
  none_left path role at one placed front behind x e = each_put (λ d' w' y. lead y ≡ lead x → ⊥) f d w (front ++ behind)
      (ApartBy-middle lead front x behind (subst (ApartBy lead) e (apart d w)))
      (λ d' w' y other m same.
      let p = placed d w x (rw e (In-append_right x front (x ∷ behind) (inl refl))) in
      let q = placed d' w' y m in
      let de : d' ≡ d = one d' d (sym q.0 ∙ ap role same ∙ p.0) in
      other de (sym q.1 ∙ ap (λ j. path j d') same ∙ ap (path (lead x)) de ∙ p.1))

-- After a request is taken from its queue, nothing else names its leader.
pub others_request : (k : ℕ) (path : ℕ → ℕ → ℕ) (role : ℕ → Role) (net : Net) (d w : ℕ) (front behind : List Request) (x : Request)
    → Placed k path role net → net.requests d w ≡ front ++ x ∷ behind → Unnamed (put_requests net d w (front ++ behind)) x.leader
others_request k path role net d w front behind x ok e =
    let p = ok.requests d w x (rw e (In-append_right x front (x ∷ behind) (inl refl))) in
    record {
      requests = none_left (λ (z : Request). z.leader) net.requests d w ok.requests_apart path role Asking (λ i j same. cc)
          (λ d' w' y m. let q = ok.requests d' w' y m in (q.asks, q.wire)) front behind x e;
      records = λ s' w' y m same. let q = ok.records s' w' y m in let f = sym q.waits ∙ ap role same ∙ p.asks in cc;
      replies = λ d' w' y m same. let q = ok.replies d' w' y m in let f = sym q.replying ∙ ap role same ∙ p.asks in cc;
    }

-- Places are kept if the first request of a queue is taken.
pub pop_request : (k : ℕ) (path : ℕ → ℕ → ℕ) (role : ℕ → Role) (net : Net) (d w : ℕ) (x : Request) (rest : List Request)
    → Placed k path role net → net.requests d w ≡ x ∷ rest → Placed k path role (put_requests net d w rest)
pop_request k path role net d w x rest ok e = record {
  requests = each_fewer (RequestPlaced k path role) net.requests d w rest (λ y m. rw e (inr m)) ok.requests;
  records = ok.records;
  replies = ok.replies;
  requests_apart = apart_popped (λ (z : Request). z.leader) net.requests d w ok.requests_apart x rest e;
  records_apart = ok.records_apart;
  replies_apart = ok.replies_apart;
}

-- After the first request of a queue is taken, nothing names its leader.
pub pop_request_unnamed : (k : ℕ) (path : ℕ → ℕ → ℕ) (role : ℕ → Role) (net : Net) (d w : ℕ) (x : Request) (rest : List Request)
    → Placed k path role net → net.requests d w ≡ x ∷ rest → Unnamed (put_requests net d w rest) x.leader
pop_request_unnamed k path role net d w x rest ok e = others_request k path role net d w [] rest x ok e

-- Places are kept if a request whose leader nothing names is appended to a queue on its path.
pub push_request : (k : ℕ) (path : ℕ → ℕ → ℕ) (role : ℕ → Role) (net : Net) (d w : ℕ) (x : Request)
    → Placed k path role net → Unnamed net x.leader → ((s w : ℕ) (z : Record) → In z (net.records s w) → z.leader ≡ x.leader → s < d) → path x.leader d ≡ w
    → d ≤ k
    → Placed k path (put role x.leader (Asking d)) (put_requests net d w (net.requests d w ++ x ∷ []))
push_request k path role net d w x ok free below on deep =
    let role' = put role x.leader (Asking d) in
    let others = new_role k path role net x.leader (Asking d) ok free below in
    record {
      requests = each_pushed (RequestPlaced k path role') net.requests d w x (record { asks = put_same role x.leader (Asking d); wire = on; deep = deep })
          others.requests;
      records = others.records;
      replies = others.replies;
      requests_apart = apart_pushed (λ (z : Request). z.leader) net.requests d w ok.requests_apart x (free.requests d w);
      records_apart = ok.records_apart;
      replies_apart = ok.replies_apart;
    }

-- Places are kept if a reply whose leader nothing names is appended to a queue on its path.
pub push_reply : (k : ℕ) (path : ℕ → ℕ → ℕ) (role : ℕ → Role) (net : Net) (d w : ℕ) (x : Reply)
    → Placed k path role net → Unnamed net x.leader → ((s w : ℕ) (z : Record) → In z (net.records s w) → z.leader ≡ x.leader → s < d) → path x.leader d ≡ w
    → d ≤ k
    → Placed k path (put role x.leader (Replying d)) (put_replies net d w (net.replies d w ++ x ∷ []))
push_reply k path role net d w x ok free below on deep =
    let role' = put role x.leader (Replying d) in
    let others = new_role k path role net x.leader (Replying d) ok free below in
    record {
      requests = others.requests;
      records = others.records;
      replies = each_pushed (ReplyPlaced k path role') net.replies d w x (record { replying = put_same role x.leader (Replying d); wire = on; deep = deep })
          others.replies;
      requests_apart = ok.requests_apart;
      records_apart = ok.records_apart;
      replies_apart = apart_pushed (λ (z : Reply). z.leader) net.replies d w ok.replies_apart x (free.replies d w);
    }

-- Places are kept if the first reply of a queue is taken.
pub pop_reply : (k : ℕ) (path : ℕ → ℕ → ℕ) (role : ℕ → Role) (net : Net) (d w : ℕ) (x : Reply) (rest : List Reply)
    → Placed k path role net → net.replies d w ≡ x ∷ rest → Placed k path role (put_replies net d w rest)
pop_reply k path role net d w x rest ok e = record {
  requests = ok.requests;
  records = ok.records;
  replies = each_fewer (ReplyPlaced k path role) net.replies d w rest (λ y m. rw e (inr m)) ok.replies;
  requests_apart = ok.requests_apart;
  records_apart = ok.records_apart;
  replies_apart = apart_popped (λ (z : Reply). z.leader) net.replies d w ok.replies_apart x rest e;
}

-- After the first reply of a queue is taken out, the network does not name its leader.
pub pop_reply_unnamed : (k : ℕ) (path : ℕ → ℕ → ℕ) (role : ℕ → Role) (net : Net) (d w : ℕ) (x : Reply) (rest : List Reply)
    → Placed k path role net → net.replies d w ≡ x ∷ rest → Unnamed (put_replies net d w rest) x.leader
pop_reply_unnamed k path role net d w x rest ok e =
    let p = ok.replies d w x (rw e (inl refl)) in
    record {
      requests = λ d' w' y m same. let q = ok.requests d' w' y m in let f = sym q.asks ∙ ap role same ∙ p.replying in cc;
      records = λ s' w' y m same. let q = ok.records s' w' y m in let f = sym q.waits ∙ ap role same ∙ p.replying in cc;
      replies = none_left (λ (z : Reply). z.leader) net.replies d w ok.replies_apart path role Replying (λ i j same. cc)
          (λ d' w' y m. let q = ok.replies d' w' y m in (q.replying, q.wire)) [] rest x e;
    }

-- ---- combining, and records

-- Places are kept if a request that nothing names is combined: the entry keeps its leader, and gets a record.
pub combine : (k : ℕ) (path : ℕ → ℕ → ℕ) (role : ℕ → Role) (net : Net) (s w : ℕ) (front behind : List Request) (x y : Request) (z : Record)
    → Placed k path role net → net.requests (suc s) w ≡ front ++ x ∷ behind → y.leader ≡ x.leader → z.leader ≡ x.leader
    → Unnamed net z.second → depth (role z.second) ≤ s → path z.second (suc s) ≡ w
    → Placed k path (put role z.second (Waiting s z.leader)) (put_records (put_requests net (suc s) w (front ++ y ∷ behind)) s w (net.records s w ++ z ∷ []))
combine k path role net s w front behind x y z ok e ey ez free near on =
    let role' = put role z.second (Waiting s z.leader) in
    let here : In x (net.requests (suc s) w) = rw e (In-append_right x front (x ∷ behind) (inl refl)) in
    let p = ok.requests (suc s) w x here in
    let other : x.leader ≡ z.second → ⊥ = free.requests (suc s) w x here in
    let under : (t v : ℕ) (a : Record) → In a (net.records t v) → a.leader ≡ z.second → t < s
    = (λ t v a m same. let b : t < depth (role z.second) = below_role k path role net z.second (role z.second) ok refl t v a m same in omega arith) in
    let others = new_role k path role net z.second (Waiting s z.leader) ok free under in
    record {
      requests = each_put (RequestPlaced k path role') net.requests (suc s) w (front ++ y ∷ behind)
          (λ a m. elim (In-append a front (y ∷ behind) m) [
            | inl o ↦ others.requests (suc s) w a (rw e (In-append_left a front (x ∷ behind) o))
            | inr (inl q) ↦ (let l = ap (λ (b : Request). b.leader) q ∙ ey in record {
              asks = ap role' l ∙ put_other role z.second (Waiting s z.leader) x.leader other ∙ p.asks;
              wire = ap (λ j. path j (suc s)) l ∙ p.wire;
              deep = p.deep;
            })
            | inr (inr o) ↦ others.requests (suc s) w a (rw e (In-append_right a front (x ∷ behind) (inr o)))
          ])
          (λ d' w' a n m. others.requests d' w' a m);
      records = each_pushed (RecordPlaced k path role') net.records s w z
          (record {
            waits = put_same role z.second (Waiting s z.leader);
            beyond = subst (λ j. s < depth j) (sym (ap role' ez ∙ put_other role z.second (Waiting s z.leader) x.leader other ∙ p.asks)) (omega arith);
            wire = ap (λ j. path j (suc s)) ez ∙ p.wire;
            wire_second = on;
            deep = p.deep;
          })
          others.records;
      replies = others.replies;
      requests_apart = each_put2 (ApartBy (λ (b : Request). b.leader)) net.requests (suc s) w (front ++ y ∷ behind)
          (let h : ApartBy (λ (b : Request). b.leader) (front ++ x ∷ behind) = subst (ApartBy (λ (b : Request). b.leader)) e (ok.requests_apart (suc s) w) in
          let same : map (λ (b : Request). b.leader) (front ++ y ∷ behind) ≡ map (λ (b : Request). b.leader) (front ++ x ∷ behind) =
          map-append (λ (b : Request). b.leader) front (y ∷ behind)
          ∙ ap (λ j. map (λ (b : Request). b.leader) front ++ j ∷ map (λ (b : Request). b.leader) behind) ey
          ∙ sym (map-append (λ (b : Request). b.leader) front (x ∷ behind)) in
          subst Distinct (sym same) h)
          ok.requests_apart;
      records_apart = apart_pushed (λ (b : Record). b.second) net.records s w ok.records_apart z (free.records s w);
      replies_apart = ok.replies_apart;
    }

-- Places are kept if a buffer loses the records of p.
pub drop_records : (k : ℕ) (path : ℕ → ℕ → ℕ) (role : ℕ → Role) (net : Net) (s w p : ℕ)
    → Placed k path role net → Placed k path role (put_records net s w (records_but p (net.records s w)))
drop_records k path role net s w p ok = record {
  requests = ok.requests;
  replies = ok.replies;
  records = each_fewer (RecordPlaced k path role) net.records s w (records_but p (net.records s w))
      (λ a m. (In-filter (λ (e : Record). not (e.leader == p)) a (net.records s w) m).0) ok.records;
  requests_apart = ok.requests_apart;
  replies_apart = ok.replies_apart;
  records_apart = each_put2 (ApartBy (λ (b : Record). b.second)) net.records s w _
      (ApartBy-filter (λ (b : Record). b.second) (λ (x : Record). not (x.leader == p)) (net.records s w) (ok.records_apart s w)) ok.records_apart;
}

-- Two equal numbers do not pass the test that they differ.
pub not_led : (a b : ℕ) → a ≡ b → not (a == b) ≡ true → ⊥
not_led a b e f = true≢false (sym f ∙ ap not (eq-eqb a b e))

-- After a buffer loses the records of p, nothing names their seconds.
pub drop_records_unnamed : (k : ℕ) (path : ℕ → ℕ → ℕ) (role : ℕ → Role) (net : Net) (s w p : ℕ) (z : Record)
    → Placed k path role net → In z (net.records s w) → z.leader ≡ p → Unnamed (put_records net s w (records_but p (net.records s w))) z.second
drop_records_unnamed k path role net s w p z ok here led =
    let r = ok.records s w z here in
    record {
      requests = λ d' w' y m same. let q = ok.requests d' w' y m in let f = sym q.asks ∙ ap role same ∙ r.waits in cc;
      replies = λ d' w' y m same. let q = ok.replies d' w' y m in let f = sym q.replying ∙ ap role same ∙ r.waits in cc;
      records = each_put (λ t v a. a.second ≡ z.second → ⊥) net.records s w (records_but p (net.records s w))
          (λ a m same.
          let g = In-filter (λ (e : Record). not (e.leader == p)) a (net.records s w) m in
          let is : a ≡ z = ApartBy-same (λ (b : Record). b.second) a z (net.records s w) (ok.records_apart s w) g.0 here same in
          not_led a.leader p (ap (λ (b : Record). b.leader) is ∙ led) g.1)
          (λ t v a n m same.
          let q = ok.records t v a m in
          let te : t ≡ s = (let f = sym q.waits ∙ ap role same ∙ r.waits in cc) in
          n te (sym q.wire_second ∙ ap (λ j. path j (suc t)) same ∙ ap (λ j. path z.second (suc j)) te ∙ r.wire_second));
    }

unnamed_push_reply : (net : Net) (d w : ℕ) (x : Reply) (p : ℕ) → Unnamed net p → (x.leader ≡ p → ⊥)
    → Unnamed (put_replies net d w (net.replies d w ++ x ∷ [])) p
unnamed_push_reply net d w x p free n = record {
  requests = free.requests;
  records = free.records;
  replies = each_pushed (λ d' w' y. y.leader ≡ p → ⊥) net.replies d w x n free.replies;
}

-- Places are kept if replies whose leaders nothing names are put before a stage.
pub placed_push_all : (k : ℕ) (path : ℕ → ℕ → ℕ) (wire : ℕ → ℕ) (s : ℕ) (ys : List Reply) (role : ℕ → Role) (net : Net)
    → Placed k path role net → s ≤ k → ApartBy (λ (y : Reply). y.leader) ys
    → ((y : Reply) → In y ys
    → Unnamed net y.leader × (path y.leader s ≡ wire y.leader) × ((t v : ℕ) (z : Record) → In z (net.records t v) → z.leader ≡ y.leader → t < s))
    → Placed k path (replying_all s ys role) (push_all wire s ys net)
unfolding push_all replying_all
placed_push_all k path wire s [] role net ok deep apart each = ok
placed_push_all k path wire s (y ∷ ys) role net ok deep apart each =
    let h = each y (inl refl) in
    placed_push_all k path wire s ys (put role y.leader (Replying s)) (put_replies net s (wire y.leader) (net.replies s (wire y.leader) ++ y ∷ []))
    (push_reply k path role net s (wire y.leader) y ok h.0 h.2 h.1 deep) deep apart.1
    (λ x m. let g = each x (inr m) in (
      unnamed_push_reply net s (wire y.leader) y x.leader g.0
          (λ e. apart.0 (subst (λ j. In j (map (λ (b : Reply). b.leader) ys)) (sym e) (In-map (λ (b : Reply). b.leader) x ys m))),
      g.1,
      g.2,
    ))

-- Places are kept if the role and path of a processor change that nothing names and that leads no record.
pub placed_change : (k : ℕ) (path path' : ℕ → ℕ → ℕ) (role : ℕ → Role) (r : Role) (net : Net) (p : ℕ)
    → Placed k path role net → Unnamed net p → ((s w : ℕ) (z : Record) → In z (net.records s w) → z.leader ≡ p → ⊥)
    → ((q d : ℕ) → (q ≡ p → ⊥) → path' q d ≡ path q d) → Placed k path' (put role p r) net
placed_change k path path' role r net p ok free none same =
    let h = new_role k path role net p r ok free (λ s w x m e. absurd (none s w x m e)) in
    record {
      requests = λ d w x m. let q = h.requests d w x m in record { asks = q.asks; wire = same x.leader d (free.requests d w x m) ∙ q.wire; deep = q.deep };
      records = λ s w x m. let q = h.records s w x m in record {
        waits = q.waits;
        beyond = q.beyond;
        wire = same x.leader (suc s) (none s w x m) ∙ q.wire;
        wire_second = same x.second (suc s) (free.records s w x m) ∙ q.wire_second;
        deep = q.deep;
      };
      replies = λ d w x m. let q = h.replies d w x m in record { replying = q.replying; wire = same x.leader d (free.replies d w x m) ∙ q.wire; deep = q.deep };
      requests_apart = h.requests_apart;
      records_apart = h.records_apart;
      replies_apart = h.replies_apart;
    }

-- ---- by roles

-- Nothing names a processor that is idle.
pub unnamed_idle : (k : ℕ) (path : ℕ → ℕ → ℕ) (role : ℕ → Role) (net : Net) (p : ℕ) → Placed k path role net → role p ≡ Idle → Unnamed net p
unnamed_idle k path role net p ok idle = record {
  requests = λ d w x m e. let h = ok.requests d w x m in let f = sym h.asks ∙ ap role e ∙ idle in cc;
  records = λ s w x m e. let h = ok.records s w x m in let f = sym h.waits ∙ ap role e ∙ idle in cc;
  replies = λ d w x m e. let h = ok.replies d w x m in let f = sym h.replying ∙ ap role e ∙ idle in cc;
}

-- An idle processor is not one whose role is another than idle.
pub not_idle : (role : ℕ → Role) (p q : ℕ) (r : Role) → role p ≡ r → (r ≡ Idle → ⊥) → role q ≡ Idle → q ≡ p → ⊥
not_idle role p q r is n idle e = n (sym is ∙ ap role (sym e) ∙ idle)

-- If the processors that are not idle are below n, they still are after one below n gets a role.
pub small_put : (role : ℕ → Role) (n p : ℕ) (r : Role) → ((q : ℕ) → (role q ≡ Idle) ⊎ (q < n)) → p < n → (q : ℕ) → (put role p r q ≡ Idle) ⊎ (q < n)
small_put role n p r small l q = elim (cases_eq q p) [
  | inl e ↦ inr (subst (λ j. j < n) (sym e) l)
  | inr m ↦ elim (small q) [ inl i ↦ inl (put_other role p r q m ∙ i) | inr j ↦ inr j ]
]

-- If every processor is idle, places are kept with any paths, since there are no messages.
pub placed_nowhere : (k : ℕ) (path path' : ℕ → ℕ → ℕ) (role : ℕ → Role) (net : Net) → Placed k path role net → ((p : ℕ) → role p ≡ Idle)
    → Placed k path' role net
placed_nowhere k path path' role net ok idle = record {
  requests = λ d w x m. absurd (let h = (ok.requests d w x m).asks in let c : Asking d ≡ Idle = sym h ∙ idle x.leader in cc);
  records = λ s w x m. absurd (let h = (ok.records s w x m).waits in let c : Waiting s x.leader ≡ Idle = sym h ∙ idle x.second in cc);
  replies = λ d w x m. absurd (let h = (ok.replies d w x m).replying in let c : Replying d ≡ Idle = sym h ∙ idle x.leader in cc);
  requests_apart = ok.requests_apart;
  records_apart = ok.records_apart;
  replies_apart = ok.replies_apart;
}

-- An unnamed processor is still unnamed if an output keeps only records that it had.
pub unnamed_fewer : (net : Net) (s w : ℕ) (xs : List Record) (p : ℕ) → Unnamed net p → ((a : Record) → In a xs → In a (net.records s w))
    → Unnamed (put_records net s w xs) p
unnamed_fewer net s w xs p free sub = record {
  requests = free.requests;
  replies = free.replies;
  records = each_fewer (λ t v a. a.second ≡ p → ⊥) net.records s w xs sub free.records;
}

-- If a processor leads none of the replies that are put, its role is as before.
pub replying_other : (s : ℕ) (ys : List Reply) (role : ℕ → Role) (q : ℕ) → ((y : Reply) → In y ys → y.leader ≡ q → ⊥) → replying_all s ys role q ≡ role q
unfolding replying_all
replying_other s [] role q n = refl
replying_other s (y ∷ ys) role q n = replying_other s ys (put role y.leader (Replying s)) q (λ x m. n x (inr m))
    ∙ put_other role y.leader (Replying s) q (λ e. n y (inl refl) (sym e))

-- The replies to the seconds of records have these seconds as their leaders, in the same order.
pub seconds : (x : Reply) (rs : List Record) → map (λ (y : Reply). y.leader) (map (λ (r : Record). record {
  leader = r.second;
  value = applied r.phi x.value;
}) rs) ≡ map (λ (r : Record). r.second) rs
seconds x [] = refl
seconds x (r ∷ rs) = ap (λ l. r.second ∷ l) (seconds x rs)
