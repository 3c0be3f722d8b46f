-- Where each processor is after single changes.
use Rattle.std.proofs.Common.{◌≡◌, ℕ, Bool, true, false, cond, not, List, [], ◌∷◌, ◌++◌, filter, ◌==◌, inl, inr, refl, sym, ap, ◌∙◌, subst}
use Rattle.std.proofs.lemmas.Bool.{cases_Bool}
use Rattle.network_theory.specs.messages.declared.message.Request.{Request}
use Rattle.network_theory.specs.messages.declared.message.Reply.{Reply}
use Rattle.network_theory.specs.messages.declared.message.Record.{Record}
use Rattle.network_theory.specs.messages.Places.{put2, In}
use Rattle.network_theory.specs.messages.Queues.{records_of, records_but}
use Rattle.network_theory.specs.messages.Network.{Net, put_requests, put_records, put_replies}
use Rattle.network_theory.specs.messages.Moves.{push_all}
use Rattle.network_theory.specs.Roles.{Role, Idle, Asking, Waiting, Replying}
use Rattle.serialization.specs.Steadiness.{Stands}
use Rattle.network_theory.proofs.Lemmas.messages.{In-append, In-append_left, In-append_right, at_put2, put2_same}

-- An element is still at its place after a place changes that keeps it.
pub into_put2 : {X : Type 0} (f : ℕ → ℕ → List X) (d w : ℕ) (xs : List X) (d' w' : ℕ) (y : X) → (In y (f d w) → In y xs) → In y (f d' w')
    → In y (put2 f d w xs d' w')
into_put2 {X} f d w xs d' w' y keep m = elim (at_put2 f d w xs d' w') [
  | inl h ↦ subst (In y) (sym h.2) (keep (subst (In y) (λ i. f (h.0 i) (h.1 i)) m))
  | inr h ↦ subst (In y) (sym h.1) m
]

-- A processor is still where its role says, if each place keeps what names it.
stands_map : (net now : Net) (q : ℕ) (r : Role)
    → ((d w : ℕ) (x : Request) → In x (net.requests d w) → x.leader ≡ q → (y : Request) × In y (now.requests d w) × (y.leader ≡ q))
    → ((s w : ℕ) (x : Record) → In x (net.records s w) → x.second ≡ q → In x (now.records s w))
    → ((d w : ℕ) (x : Reply) → In x (net.replies d w) → x.leader ≡ q → In x (now.replies d w))
    → Stands net q r → Stands now q r
stands_map net now q Idle a b c h = tt
stands_map net now q (Asking d) a b c h = let g = a d h.0 h.1 h.2 h.3 in (h.0, g.0, g.1, g.2)
stands_map net now q (Waiting s l) a b c h = (h.0, h.1, b s h.0 h.1 h.2 h.3, h.3, h.4)
stands_map net now q (Replying d) a b c h = (h.0, h.1, c d h.0 h.1 h.2 h.3, h.3)

-- If the first request at a place is taken, each processor but its leader is still where its role says.
pub stands_pop_request : (net : Net) (d w : ℕ) (x : Request) (rest : List Request) (q : ℕ) (r : Role) → net.requests d w ≡ x ∷ rest → (q ≡ x.leader → ⊥)
    → Stands net q r → Stands (put_requests net d w rest) q r
stands_pop_request net d w x rest q r e n h =
    stands_map net (put_requests net d w rest) q r
    (λ d' w' y m s. (
      y,
      into_put2 net.requests d w rest d' w' y
          (λ o. elim (subst (In y) e o) [ inl f ↦ absurd (n (sym s ∙ ap (λ (b : Request). b.leader) f)) | inr g ↦ g ]) m,
      s,
    ))
    (λ s w' y m f. m) (λ d' w' y m f. m) h

-- If the first reply at a place is taken, each processor but its leader is still where its role says.
pub stands_pop_reply : (net : Net) (d w : ℕ) (x : Reply) (rest : List Reply) (q : ℕ) (r : Role) → net.replies d w ≡ x ∷ rest → (q ≡ x.leader → ⊥)
    → Stands net q r → Stands (put_replies net d w rest) q r
stands_pop_reply net d w x rest q r e n h =
    stands_map net (put_replies net d w rest) q r (λ d' w' y m f. (y, m, f)) (λ s w' y m f. m)
    (λ d' w' y m s. into_put2 net.replies d w rest d' w' y
    (λ o. elim (subst (In y) e o) [ inl f ↦ absurd (n (sym s ∙ ap (λ (b : Reply). b.leader) f)) | inr g ↦ g ]) m) h

-- If a request is appended at a place, each processor is still where its role says.
pub stands_push_request : (net : Net) (d w : ℕ) (x : Request) (q : ℕ) (r : Role) → Stands net q r
    → Stands (put_requests net d w (net.requests d w ++ x ∷ [])) q r
stands_push_request net d w x q r h =
    stands_map net (put_requests net d w (net.requests d w ++ x ∷ [])) q r
    (λ d' w' y m s. (y, into_put2 net.requests d w (net.requests d w ++ x ∷ []) d' w' y (λ o. In-append_left y (net.requests d w) (x ∷ []) o) m, s))
    (λ s w' y m f. m) (λ d' w' y m f. m) h

-- If a reply is appended at a place, each processor is still where its role says.
pub stands_push_reply : (net : Net) (d w : ℕ) (x : Reply) (q : ℕ) (r : Role) → Stands net q r → Stands (put_replies net d w (net.replies d w ++ x ∷ [])) q r
stands_push_reply net d w x q r h =
    stands_map net (put_replies net d w (net.replies d w ++ x ∷ [])) q r (λ d' w' y m f. (y, m, f)) (λ s w' y m f. m)
    (λ d' w' y m s. into_put2 net.replies d w (net.replies d w ++ x ∷ []) d' w' y (λ o. In-append_left y (net.replies d w) (x ∷ []) o) m) h

-- If a record is appended at a place, each processor is still where its role says.
pub stands_push_record : (net : Net) (d w : ℕ) (x : Record) (q : ℕ) (r : Role) → Stands net q r → Stands (put_records net d w (net.records d w ++ x ∷ [])) q r
stands_push_record net d w x q r h =
    stands_map net (put_records net d w (net.records d w ++ x ∷ [])) q r (λ d' w' y m f. (y, m, f))
    (λ d' w' y m s. into_put2 net.records d w (net.records d w ++ x ∷ []) d' w' y (λ o. In-append_left y (net.records d w) (x ∷ []) o) m) (λ s w' y m f. m) h

-- If a request of a queue is replaced by one of the same leader, each processor is still where its role says.
pub stands_entry : (net : Net) (d w : ℕ) (front behind : List Request) (x y : Request) (q : ℕ) (r : Role) → net.requests d w ≡ front ++ x ∷ behind
    → y.leader ≡ x.leader → Stands net q r → Stands (put_requests net d w (front ++ y ∷ behind)) q r
stands_entry net d w front behind x y q r e same h =
    stands_map net (put_requests net d w (front ++ y ∷ behind)) q r
    (λ d' w' a m s. elim (at_put2 net.requests d w (front ++ y ∷ behind) d' w') [
      | inl g ↦ elim (In-append a front (x ∷ behind) (subst (In a) ((λ i. net.requests (g.0 i) (g.1 i)) ∙ e) m)) [
        | inl o ↦ (a, subst (In a) (sym g.2) (In-append_left a front (y ∷ behind) o), s)
        | inr (inl f) ↦ (y, subst (In y) (sym g.2) (In-append_right y front (y ∷ behind) (inl refl)), same ∙ ap (λ (b : Request). b.leader) (sym f) ∙ s)
        | inr (inr o) ↦ (a, subst (In a) (sym g.2) (In-append_right a front (y ∷ behind) (inr o)), s)
      ]
      | inr g ↦ (a, subst (In a) (sym g.1) m, s)
    ])
    (λ s w' y m f. m) (λ d' w' y m f. m) h

In-filter_to : {X : Type 0} (p : X → Bool) (x : X) (xs : List X) → In x xs → p x ≡ true → In x (filter p xs)
In-filter_to p x [] m e = elim m [ ]
In-filter_to {X} p x (y ∷ xs) m e = go (p y) refl m (λ o. In-filter_to p x xs o e)
  where
    go : (b : Bool) → p y ≡ b → In x (y ∷ xs) → (In x xs → In x (filter p xs)) → In x (cond b (y ∷ filter p xs) (filter p xs))
    go true f (inl s) rec = inl s
    go true f (inr o) rec = inr (rec o)
    go false f (inl s) rec = let c = sym f ∙ ap p (sym s) ∙ e in cc
    go false f (inr o) rec = rec o

-- If a leader's records go, each processor that is the second of none of them is still where its role says.
pub stands_drop : (net : Net) (s w p q : ℕ) (r : Role) → ((a : Record) → In a (records_of p (net.records s w)) → a.second ≡ q → ⊥) → Stands net q r
    → Stands (put_records net s w (records_but p (net.records s w))) q r
stands_drop net s w p q r n h =
    stands_map net (put_records net s w (records_but p (net.records s w))) q r (λ d' w' y m f. (y, m, f))
    (λ t v a m e. into_put2 net.records s w (records_but p (net.records s w)) t v a
    (λ o. elim (cases_Bool (a.leader == p)) [
      | inl same ↦ absurd (n a (In-filter_to (λ (x : Record). x.leader == p) a (net.records s w) o same) e)
      | inr other ↦ In-filter_to (λ (x : Record). not (x.leader == p)) a (net.records s w) o (ap not other)
    ]) m)
    (λ d' w' y m f. m) h

-- If replies are put before a stage, each processor is still where its role says.
pub stands_push_all : (wire : ℕ → ℕ) (s : ℕ) (ys : List Reply) (net : Net) (q : ℕ) (r : Role) → Stands net q r → Stands (push_all wire s ys net) q r
unfolding push_all
stands_push_all wire s [] net q r h = h
stands_push_all wire s (y ∷ ys) net q r h =
    stands_push_all wire s ys (put_replies net s (wire y.leader) (net.replies s (wire y.leader) ++ y ∷ [])) q r
    (stands_push_reply net s (wire y.leader) y q r h)

-- If replies are put before a stage, the leader of each of them is replying there.
pub stands_pushed : (wire : ℕ → ℕ) (s : ℕ) (ys : List Reply) (net : Net) (y : Reply) → In y ys → Stands (push_all wire s ys net) y.leader (Replying s)
unfolding push_all
stands_pushed wire s [] net y m = elim m [ ]
stands_pushed wire s (x ∷ ys) net y (inl e) =
    let now : Net = put_replies net s (wire x.leader) (net.replies s (wire x.leader) ++ x ∷ []) in
    let h : Stands now x.leader (Replying s) = (
      wire x.leader,
      x,
      subst (In x) (sym (put2_same net.replies s (wire x.leader) (net.replies s (wire x.leader) ++ x ∷ [])))
          (In-append_right x (net.replies s (wire x.leader)) (x ∷ []) (inl refl)),
      refl,
    ) in
    subst (λ l. Stands (push_all wire s ys now) l (Replying s)) (ap (λ (b : Reply). b.leader) (sym e)) (stands_push_all wire s ys now x.leader (Replying s) h)
stands_pushed wire s (x ∷ ys) net y (inr m) = stands_pushed wire s ys (put_replies net s (wire x.leader) (net.replies s (wire x.leader) ++ x ∷ [])) y m
