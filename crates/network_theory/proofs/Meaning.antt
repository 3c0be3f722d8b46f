-- How single changes keep meanings.
use Rattle.std.proofs.Common.{◌≡◌, ℕ, suc, ◌<◌, Bool, true, false, List, [], ◌∷◌, ◌++◌, map, ◌⊎◌, inl}
use Rattle.std.proofs.Common.{inr, Option, Some, None, refl, sym, ap, ap₂, ◌∙◌, subst, arith}
use Rattle.std.proofs.lemmas.Bool.{cases_eq, true≢false}
use Rattle.messages.specs.phi_algebra.declared.phi.Phi.{Phi}
use Rattle.messages.specs.phi_algebra.Functions.{IsInRange}
use Rattle.messages.specs.phi_algebra.Composition.{composed}
use Rattle.messages.specs.declared.message.Request.{Request}
use Rattle.messages.specs.declared.message.Reply.{Reply}
use Rattle.messages.specs.declared.message.Record.{Record}
use Rattle.messages.specs.Places.{put, put2, In, Distinct}
use Rattle.messages.specs.Queues.{applied, records_of, records_but, answers}
use Rattle.messages.specs.Network.{Net, put_requests, put_records, put_replies, records_on}
use Rattle.messages.specs.Naming.{Unnamed}
use Rattle.messages.specs.Moves.{push_all}
use Rattle.network_theory.specs.Giving.{gives, finds, leaves}
use Rattle.network_theory.specs.Roles.{Role, Idle, Asking, Replying, Placed}
use Rattle.network_theory.specs.Changes.{ServingExecutesTheGroup, ServingEndsTheGroup}
use Rattle.network_theory.specs.Meaning.{RequestMeans, ReplyMeans, Means, Groups, execute_all, joined}
use Rattle.network_theory.proofs.Algebra.{composed_law, composed_in_range}
use Rattle.messages.proofs.Lemmas.{Distinct-append, In-append, In-append_left, In-append_right, put2_other, put2_same, put_other, put_same}
use Rattle.network_theory.proofs.Giving.{finds-append, leaves-append, gives_frame, gives_below, gives_further}
use Rattle.network_theory.proofs.Giving.{gives_more, gives_leader, gives_second, gives_unnamed, finds_agree}
use Rattle.network_theory.proofs.Giving.{leaves_agree, leaves_one, finds_one, gives_first, gives_leads, In-finds}
use Rattle.network_theory.proofs.Records.{In-records_on, records_other_stage, records_push_other, records_push_same, records_drop_other, records_path}
use Rattle.network_theory.proofs.Putting.{each_fewer, each_pushed, each_put}
use Rattle.network_theory.proofs.Roles.{others_request}
use Rattle.network_theory.proofs.Executing.{executed_other, executed_owed}

-- The leader of a request that has its meaning is in its own group.
pub request_led : (own : ℕ → Phi) (word : ℕ → ℕ) (group : ℕ → List ℕ) (R : ℕ → ℕ → List Record) (d : ℕ) (x : Request) → RequestMeans own word group R d x
    → In x.leader (group x.leader)
request_led own word group R d x h = In-finds own (group x.leader) 0 (x.leader, 0) (subst (In (x.leader, 0)) (h.answers 0) (gives_leads R x.leader d 0))

-- the joined groups

-- After q's group joins p's, p's group is its own members and then q's, if p and q differ.
pub joined_first : (group : ℕ → List ℕ) (p q : ℕ) → (p ≡ q → ⊥) → joined group p q p ≡ group p ++ group q
unfolding joined
joined_first group p q n = put_other (put group p (group p ++ group q)) q [] p n ∙ put_same group p (group p ++ group q)

pub joined_second : (group : ℕ → List ℕ) (p q : ℕ) → joined group p q q ≡ []
unfolding joined
joined_second group p q = put_same (put group p (group p ++ group q)) q []

pub joined_other : (group : ℕ → List ℕ) (p q i : ℕ) → (i ≡ p → ⊥) → (i ≡ q → ⊥) → joined group p q i ≡ group i
unfolding joined
joined_other group p q i n m = put_other (put group p (group p ++ group q)) q [] i m ∙ put_other group p (group p ++ group q) i n

-- A member of a joined group was a member of one of the two, and the other groups are as they were.
from_joined : (group : ℕ → List ℕ) (p q i j : ℕ) → (p ≡ q → ⊥) → In j (joined group p q i)
    → ((i ≡ p) × (In j (group p) ⊎ In j (group q))) ⊎ ((i ≡ p → ⊥) × (i ≡ q → ⊥) × In j (group i))
from_joined group p q i j n m = go (cases_eq i p) (cases_eq i q)
  where
    go : (i ≡ p) ⊎ (i ≡ p → ⊥) → (i ≡ q) ⊎ (i ≡ q → ⊥) → ((i ≡ p) × (In j (group p) ⊎ In j (group q))) ⊎ ((i ≡ p → ⊥) × (i ≡ q → ⊥) × In j (group i))
    go (inl e) b = inl (e, In-append j (group p) (group q) (subst (In j) (ap (joined group p q) e ∙ joined_first group p q n) m))
    go (inr a) (inl e) = absurd (subst (In j) (ap (joined group p q) e ∙ joined_second group p q) m)
    go (inr a) (inr b) = inr (a, b, subst (In j) (joined_other group p q i a b) m)

-- Groups are still groups after q's joins p's, if p and q differ, have the same word, and are in their own groups.
pub groups_joined : (word : ℕ → ℕ) (open_now : ℕ → Bool) (group : ℕ → List ℕ) (owed : ℕ → Option ℕ) (p q : ℕ) → Groups word open_now group owed → (p ≡ q → ⊥)
    → word q ≡ word p → In p (group p) → In q (group q) → Groups word open_now (joined group p q) owed
groups_joined word open_now group owed p q ok n same mp mq = record {
  opened = λ i j m. elim (from_joined group p q i j n m) [
    | inl h ↦ elim h.1 [ inl a ↦ ok.opened p j a | inr b ↦ ok.opened q j b ]
    | inr h ↦ ok.opened i j h.2
  ];
  unserved = λ i j m. elim (from_joined group p q i j n m) [
    | inl h ↦ elim h.1 [ inl a ↦ ok.unserved p j a | inr b ↦ ok.unserved q j b ]
    | inr h ↦ ok.unserved i j h.2
  ];
  one_word = λ i l j m o. word_go i l j (from_joined group p q i l n m) (from_joined group p q i j n o);
  home = λ i l j m o. go i l j (from_joined group p q i j n m) (from_joined group p q l j n o);
  distinct = λ i. apart i (cases_eq i p) (cases_eq i q);
}
  where
    From : ℕ → ℕ → Type 0
    From i j = ((i ≡ p) × (In j (group p) ⊎ In j (group q))) ⊎ ((i ≡ p → ⊥) × (i ≡ q → ⊥) × In j (group i))

    go : (i l j : ℕ) → ((i ≡ p) × (In j (group p) ⊎ In j (group q))) ⊎ ((i ≡ p → ⊥) × (i ≡ q → ⊥) × In j (group i))
        → ((l ≡ p) × (In j (group p) ⊎ In j (group q))) ⊎ ((l ≡ p → ⊥) × (l ≡ q → ⊥) × In j (group l)) → i ≡ l
    go i l j (inl a) (inl b) = a.0 ∙ sym b.0
    go i l j (inl a) (inr b) = absurd (elim a.1 [ inl x ↦ b.0 (ok.home l p j b.2 x) | inr y ↦ b.1 (ok.home l q j b.2 y) ])
    go i l j (inr a) (inl b) = absurd (elim b.1 [ inl x ↦ a.0 (ok.home i p j a.2 x) | inr y ↦ a.1 (ok.home i q j a.2 y) ])
    go i l j (inr a) (inr b) = ok.home i l j a.2 b.2

    to_p : (j : ℕ) → In j (group p) ⊎ In j (group q) → word j ≡ word p
    to_p j (inl a) = ok.one_word p j p a mp
    to_p j (inr b) = ok.one_word q j q b mq ∙ same

    word_go : (i l j : ℕ) → ((i ≡ p) × (In l (group p) ⊎ In l (group q))) ⊎ ((i ≡ p → ⊥) × (i ≡ q → ⊥) × In l (group i))
        → ((i ≡ p) × (In j (group p) ⊎ In j (group q))) ⊎ ((i ≡ p → ⊥) × (i ≡ q → ⊥) × In j (group i)) → word l ≡ word j
    word_go i l j (inl a) (inl b) = to_p l a.1 ∙ sym (to_p j b.1)
    word_go i l j (inl a) (inr b) = absurd (b.0 a.0)
    word_go i l j (inr a) (inl b) = absurd (a.0 b.0)
    word_go i l j (inr a) (inr b) = ok.one_word i l j a.2 b.2

    apart : (i : ℕ) → (i ≡ p) ⊎ (i ≡ p → ⊥) → (i ≡ q) ⊎ (i ≡ q → ⊥) → Distinct (joined group p q i)
    apart i (inl e) b = subst Distinct (sym (ap (joined group p q) e ∙ joined_first group p q n))
        (Distinct-append (group p) (group q) (ok.distinct p) (ok.distinct q) (λ j x y. n (ok.home p q j x y)))
    apart i (inr a) (inl e) = subst Distinct (sym (ap (joined group p q) e ∙ joined_second group p q)) tt
    apart i (inr a) (inr b) = subst Distinct (sym (joined_other group p q i a b)) (ok.distinct i)

-- A request keeps its meaning one stage further if its leader has no records at that stage.
pub request_further : (own : ℕ → Phi) (word : ℕ → ℕ) (group : ℕ → List ℕ) (R : ℕ → ℕ → List Record) (d : ℕ) (x y : Request)
    → RequestMeans own word group R d x → R x.leader d ≡ [] → y.leader ≡ x.leader → y.word ≡ x.word → y.phi ≡ x.phi → RequestMeans own word group R (suc d) y
request_further own word group R d x y h none el ew ep = record {
  word_is = ew ∙ h.word_is ∙ ap word (sym el);
  in_range = subst IsInRange (sym ep) h.in_range;
  function = λ v. ap (λ f. applied f v) ep ∙ h.function v ∙ ap (λ l. leaves own (group l) v) (sym el);
  answers = λ v. ap (λ l. gives R l (suc d) v) el ∙ gives_further R x.leader d v none ∙ h.answers v ∙ ap (λ l. finds own (group l) v) (sym el);
}

-- Messages keep their meanings if the first request of a queue is taken out.
pub means_pop_request : (own : ℕ → Phi) (word : ℕ → ℕ) (path : ℕ → ℕ → ℕ) (group : ℕ → List ℕ) (owed : ℕ → Option ℕ) (net : Net) (d w : ℕ) (x : Request)
    (rest : List Request)
    → Means own word path group owed net → net.requests d w ≡ x ∷ rest → Means own word path group owed (put_requests net d w rest)
means_pop_request own word path group owed net d w x rest ok e = record {
  requests = each_fewer (λ d' w'. RequestMeans own word group (records_on path net.records) d') net.requests d w rest (λ y m. rw e (inr m)) ok.requests;
  replies = ok.replies;
}

-- Messages keep their meanings if a queue gets one more request, which has its meaning there.
pub means_push_request : (own : ℕ → Phi) (word : ℕ → ℕ) (path : ℕ → ℕ → ℕ) (group : ℕ → List ℕ) (owed : ℕ → Option ℕ) (net : Net) (d w : ℕ) (x : Request)
    → Means own word path group owed net → RequestMeans own word group (records_on path net.records) d x
    → Means own word path group owed (put_requests net d w (net.requests d w ++ x ∷ []))
means_push_request own word path group owed net d w x ok h = record {
  requests = each_pushed (λ d' w'. RequestMeans own word group (records_on path net.records) d') net.requests d w x h ok.requests;
  replies = ok.replies;
}

-- A processor that nothing names is the second of no record.
no_second : (path : ℕ → ℕ → ℕ) (net : Net) (p : ℕ) → Unnamed net p → (q s : ℕ) (z : Record) → In z (records_on path net.records q s) → z.second ≡ p → ⊥
no_second path net p free q s z m = free.records s (path q (suc s)) z ((In-records_on path net.records q s z m).0)

-- A request keeps its meaning if only the records of another leader p change, and p is the second of no record.
request_frame : (own : ℕ → Phi) (word : ℕ → ℕ) (group group' : ℕ → List ℕ) (R S : ℕ → ℕ → List Record) (p d : ℕ) (x : Request)
    → ((q s : ℕ) → (q ≡ p → ⊥) → S q s ≡ R q s) → ((q s : ℕ) (z : Record) → In z (R q s) → z.second ≡ p → ⊥) → (x.leader ≡ p → ⊥)
    → group' x.leader ≡ group x.leader
    → RequestMeans own word group R d x → RequestMeans own word group' S d x
request_frame own word group group' R S p d x same others n e h = record {
  word_is = h.word_is;
  in_range = h.in_range;
  function = λ v. h.function v ∙ ap (λ l. leaves own l v) (sym e);
  answers = λ v. gives_frame R S p same others d x.leader v n ∙ h.answers v ∙ ap (λ l. finds own l v) (sym e);
}

-- All requests keep their meanings if the group of a processor that nothing names changes.
others_mean : (own : ℕ → Phi) (word : ℕ → ℕ) (path : ℕ → ℕ → ℕ) (group : ℕ → List ℕ) (owed : ℕ → Option ℕ) (net : Net) (p : ℕ) (js : List ℕ)
    → Means own word path group owed net → Unnamed net p → (d w : ℕ) (x : Request) → In x (net.requests d w)
    → RequestMeans own word (put group p js) (records_on path net.records) d x
others_mean own word path group owed net p js ok free d w x m =
    let R : ℕ → ℕ → List Record = records_on path net.records in
    let n = free.requests d w x m in
    request_frame own word group (put group p js) R R p d x (λ q s o. refl) (no_second path net p free) n (put_other group p js x.leader n)
    (ok.requests d w x m)

-- Messages keep their meanings if a request that nothing names is combined with an entry.
pub means_combine : (own : ℕ → Phi) (word : ℕ → ℕ) (path : ℕ → ℕ → ℕ) (group : ℕ → List ℕ) (owed : ℕ → Option ℕ) (k : ℕ) (role : ℕ → Role) (net : Net)
    (s w : ℕ) (front behind : List Request) (x y a : Request) (z : Record)
    → Placed k path role net → Means own word path group owed net → net.requests (suc s) w ≡ front ++ x ∷ behind
    → Unnamed net a.leader → RequestMeans own word group (records_on path net.records) s a
    → composed x.phi a.phi ≡ Some y.phi → y.leader ≡ x.leader → y.word ≡ x.word
    → z.leader ≡ x.leader → z.phi ≡ x.phi → z.second ≡ a.leader
    → Means own word path (joined group x.leader a.leader) owed (put_records (put_requests net (suc s) w (front ++ y ∷ behind)) s w (net.records s w ++ z ∷ []))
means_combine own word path group owed k role net s w front behind x y a z placed ok e free ask law yl yw zl zp zs =
    let R : ℕ → ℕ → List Record = records_on path net.records in
    let S : ℕ → ℕ → List Record = records_on path (put2 net.records s w (net.records s w ++ z ∷ [])) in
    let p : ℕ = x.leader in
    let q : ℕ = a.leader in
    let here : In x (net.requests (suc s) w) = rw e (In-append_right x front (x ∷ behind) (inl refl)) in
    let n : p ≡ q → ⊥ = free.requests (suc s) w x here in
    let lone : Unnamed (put_requests net (suc s) w (front ++ behind)) p = others_request k path role net (suc s) w front behind x placed e in
    let mine : RequestMeans own word group R (suc s) x = ok.requests (suc s) w x here in
    let same : (i t : ℕ) → (i ≡ p → ⊥) → S i t ≡ R i t = (λ i t m. records_push_other path net.records s w z i t (λ f. m (f ∙ zl))) in
    let others = no_second path (put_requests net (suc s) w (front ++ behind)) p lone in
    let more : S p s ≡ R p s ++ z ∷ [] = ap (λ l. S l s) (sym zl)
    ∙ records_push_same path net.records s w z (ap (λ l. path l (suc s)) zl ∙ (placed.requests (suc s) w x here).wire) ∙ ap (λ l. R l s ++ z ∷ []) zl in
    let below : (i t : ℕ) → t < s → S i t ≡ R i t = (λ i t l. records_other_stage path net.records s w _ i t (λ f. omega arith)) in
    let keep : (d : ℕ) (b : Request) → (b.leader ≡ p → ⊥) → (b.leader ≡ q → ⊥) → RequestMeans own word group R d b
    → RequestMeans own word (joined group p q) S d b
    = (λ d b m o h. request_frame own word group (joined group p q) R S p d b same others m (joined_other group p q b.leader m o) h) in
    let entry : RequestMeans own word (joined group p q) S (suc s) y = record {
      word_is = yw ∙ mine.word_is ∙ ap word (sym yl);
      in_range = composed_in_range x.phi a.phi y.phi mine.in_range ask.in_range law;
      function = λ v. composed_law x.phi a.phi y.phi mine.in_range ask.in_range law v ∙ ask.function (applied x.phi v)
          ∙ ap (leaves own (group q)) (mine.function v) ∙ sym (leaves-append own (group p) (group q) v)
          ∙ ap (λ l. leaves own l v) (sym (ap (joined group p q) yl ∙ joined_first group p q n));
      answers = λ v. ap (λ l. gives S l (suc s) v) yl ∙ gives_more R S p s v z below more
          ∙ ap₂ (λ b c. b ++ c) (mine.answers v)
          ((λ i. gives R (zs i) s (applied (zp i) v)) ∙ ask.answers (applied x.phi v) ∙ ap (finds own (group q)) (mine.function v))
          ∙ sym (finds-append own (group p) (group q) v) ∙ ap (λ l. finds own l v) (sym (ap (joined group p q) yl ∙ joined_first group p q n));
    } in
    let left : (b : Request) → In b (net.requests (suc s) w) → In b (front ++ behind) → RequestMeans own word (joined group p q) S (suc s) b
    = (λ b m o. keep (suc s) b (lone.requests (suc s) w b (rw (put2_same net.requests (suc s) w (front ++ behind)) o)) (free.requests (suc s) w b m)
    (ok.requests (suc s) w b m)) in
    record {
      requests = each_put (λ d' w'. RequestMeans own word (joined group p q) S d') net.requests (suc s) w (front ++ y ∷ behind)
          (λ b m. elim (In-append b front (y ∷ behind) m) [
            | inl o ↦ left b (rw e (In-append_left b front (x ∷ behind) o)) (In-append_left b front behind o)
            | inr (inl f) ↦ subst (RequestMeans own word (joined group p q) S (suc s)) (sym f) entry
            | inr (inr o) ↦ left b (rw e (In-append_right b front (x ∷ behind) (inr o))) (In-append_right b front behind o)
          ])
          (λ d' w' b n m. keep d' b (lone.requests d' w' b (rw (put2_other net.requests (suc s) w (front ++ behind) d' w' n) m)) (free.requests d' w' b m)
          (ok.requests d' w' b m));
      replies = λ d' w' b m g i. ok.replies d' w' b m g (subst (In g) (gives_frame R S p same others d' b.leader b.value (lone.replies d' w' b m)) i);
    }

-- Messages keep their meanings if the first reply of a queue is taken out.
pub means_pop_reply : (own : ℕ → Phi) (word : ℕ → ℕ) (path : ℕ → ℕ → ℕ) (group : ℕ → List ℕ) (owed : ℕ → Option ℕ) (net : Net) (d w : ℕ) (x : Reply)
    (rest : List Reply)
    → Means own word path group owed net → net.replies d w ≡ x ∷ rest → Means own word path group owed (put_replies net d w rest)
means_pop_reply own word path group owed net d w x rest ok e = record {
  requests = ok.requests;
  replies = each_fewer (λ d' w'. ReplyMeans owed (records_on path net.records) d') net.replies d w rest (λ y m. rw e (inr m)) ok.replies;
}

pub means_push_reply : (own : ℕ → Phi) (word : ℕ → ℕ) (path : ℕ → ℕ → ℕ) (group : ℕ → List ℕ) (owed : ℕ → Option ℕ) (net : Net) (d w : ℕ) (x : Reply)
    → Means own word path group owed net → ReplyMeans owed (records_on path net.records) d x
    → Means own word path group owed (put_replies net d w (net.replies d w ++ x ∷ []))
means_push_reply own word path group owed net d w x ok h = record {
  requests = ok.requests;
  replies = each_pushed (λ d' w'. ReplyMeans owed (records_on path net.records) d') net.replies d w x h ok.replies;
}

-- Messages keep their meanings if replies are put before stage s, and each gives what is owed.
pub means_push_all : (own : ℕ → Phi) (word : ℕ → ℕ) (path : ℕ → ℕ → ℕ) (group : ℕ → List ℕ) (owed : ℕ → Option ℕ) (wire : ℕ → ℕ) (s : ℕ) (ys : List Reply)
    (net : Net)
    → Means own word path group owed net → ((y : Reply) → In y ys → ReplyMeans owed (records_on path net.records) s y)
    → Means own word path group owed (push_all wire s ys net)
unfolding push_all
means_push_all own word path group owed wire s [] net ok each = ok
means_push_all own word path group owed wire s (y ∷ ys) net ok each =
    means_push_all own word path group owed wire s ys (put_replies net s (wire y.leader) (net.replies s (wire y.leader) ++ y ∷ []))
    (means_push_reply own word path group owed net s (wire y.leader) y ok (each y (inl refl))) (λ x m. each x (inr m))

-- Messages keep their meanings if a buffer loses the records of a processor that nothing names.
pub means_drop : (own : ℕ → Phi) (word : ℕ → ℕ) (path : ℕ → ℕ → ℕ) (group : ℕ → List ℕ) (owed : ℕ → Option ℕ) (net : Net) (s w p : ℕ)
    → Means own word path group owed net → Unnamed net p → Means own word path group owed (put_records net s w (records_but p (net.records s w)))
means_drop own word path group owed net s w p ok free =
    let R : ℕ → ℕ → List Record = records_on path net.records in
    let S : ℕ → ℕ → List Record = records_on path (put2 net.records s w (records_but p (net.records s w))) in
    let same : (i t : ℕ) → (i ≡ p → ⊥) → S i t ≡ R i t = (λ i t m. records_drop_other path net.records s w p i t m) in
    let others = no_second path net p free in
    record {
      requests = λ d v b m. request_frame own word group group R S p d b same others (free.requests d v b m) refl (ok.requests d v b m);
      replies = λ d v b m g i. ok.replies d v b m g (subst (In g) (gives_frame R S p same others d b.leader b.value (free.replies d v b m)) i);
    }

-- If a reply gives what is owed, so do the replies made from it after its records are gone.
pub answers_mean : (path : ℕ → ℕ → ℕ) (owed : ℕ → Option ℕ) (records : ℕ → ℕ → List Record) (s w : ℕ) (x : Reply) (xs : List Record)
    → ReplyMeans owed (records_on path records) (suc s) x → path x.leader (suc s) ≡ w
    → (y : Reply) → In y (answers (records_of x.leader (records s w)) x) → ReplyMeans owed (records_on path (put2 records s w xs)) s y
answers_mean path owed records s w x xs h on y (inl e) m i =
    let below : (j t : ℕ) → t < s
    → records_on path (put2 records s w xs) j t ≡ records_on path records j t = (λ j t l. records_other_stage path records s w xs j t (λ f. omega arith)) in
    h m (gives_leader (records_on path records) x.leader s x.value m
    (subst (In m) ((λ j. gives (records_on path (put2 records s w xs)) (e j).leader s (e j).value)
    ∙ gives_below (records_on path records) (records_on path (put2 records s w xs)) s below x.leader x.value) i))
answers_mean path owed records s w x xs h on y (inr o) m i =
    let below : (j t : ℕ) → t < s
    → records_on path (put2 records s w xs) j t ≡ records_on path records j t = (λ j t l. records_other_stage path records s w xs j t (λ f. omega arith)) in
    let z = from_map y (records_of x.leader (records s w)) o in
    h m (gives_second (records_on path records) x.leader s x.value z.0 m (subst (λ v. In z.0 (records_of x.leader (records s v))) (sym on) z.1)
    (subst (In m) ((λ j. gives (records_on path (put2 records s w xs)) (z.2 j).leader s (z.2 j).value)
    ∙ gives_below (records_on path records) (records_on path (put2 records s w xs)) s below z.0.second (applied z.0.phi x.value)) i))
  where
    from_map : (y : Reply) (rs : List Record) → In y (map (λ (z : Record). record {
      leader = z.second;
      value = applied z.phi x.value;
    }) rs) → (z : Record) × In z rs × (y ≡ record { leader = z.second; value = applied z.phi x.value })
    from_map y [] m = elim m [ ]
    from_map y (r ∷ rs) (inl e) = (r, inl refl, e)
    from_map y (r ∷ rs) (inr m) = let g = from_map y rs m in (g.0, inr g.1, g.2)

-- Messages keep their meanings if a module serves a request and its group is executed on the flat side.
pub means_serve : ServingExecutesTheGroup
means_serve own word open_now path group f net d w x y ok grp h free yl yv =
    let p : ℕ = x.leader in
    let R : ℕ → ℕ → List Record = records_on path net.records in
    let a : ℕ = word p in
    let owed' : ℕ → Option ℕ = (execute_all own word f (group p)).owed in
    let others : Means own word path (put group p []) owed' net = record {
      requests = others_mean own word path group f.owed net p [] ok free;
      replies = λ d' w' b m g i. let o = ok.replies d' w' b m g i in executed_other own word f (group p) g.0 (λ j. let n = grp.unserved p g.0 j in cc) ∙ o;
    } in
    means_push_reply own word path (put group p []) owed' net d w y others
    (λ g i. executed_owed own word f (group p) a (λ j m. grp.one_word p j p m (request_led own word group R d x h)) (grp.distinct p) g
    (subst (In g) ((λ j. gives R (yl j) d y.value) ∙ h.answers y.value ∙ ap (finds own (group p)) (yv ∙ ap f.mem h.word_is)) i))

-- Groups are still groups after one of them is executed and emptied.
pub groups_serve : ServingEndsTheGroup
groups_serve own word open_now group f p ok = record {
  opened = λ i j m. ok.opened i j ((from i j m).1);
  unserved = λ i j m. let h = from i j m in executed_other own word f (group p) j (λ o. h.0 (ok.home i p j h.1 o)) ∙ ok.unserved i j h.1;
  one_word = λ i l j m o. ok.one_word i l j ((from i l m).1) ((from i j o).1);
  home = λ i l j m o. ok.home i l j ((from i j m).1) ((from l j o).1);
  distinct = λ i. elim (cases_eq i p) [
    | inl e ↦ subst Distinct (sym (ap (put group p []) e ∙ put_same group p [])) tt
    | inr n ↦ subst Distinct (sym (put_other group p [] i n)) (ok.distinct i)
  ];
}
  where
    from : (i j : ℕ) → In j (put group p [] i) → (i ≡ p → ⊥) × In j (group i)
    from i j m = elim (cases_eq i p) [
      | inl e ↦ absurd (subst (In j) (ap (put group p []) e ∙ put_same group p []) m)
      | inr n ↦ (n, subst (In j) (put_other group p [] i n) m)
    ]

-- Messages keep their meanings if the word and function of a processor that nothing names change.
pub means_change : (own own' : ℕ → Phi) (word word' : ℕ → ℕ) (open_now : ℕ → Bool) (path path' : ℕ → ℕ → ℕ) (group : ℕ → List ℕ) (owed owed' : ℕ → Option ℕ)
    (net : Net) (p : ℕ)
    → Means own word path group owed net → Unnamed net p → ((i : ℕ) → In p (group i) → ⊥)
    → ((q : ℕ) → (q ≡ p → ⊥) → own' q ≡ own q) → ((q : ℕ) → (q ≡ p → ⊥) → word' q ≡ word q) → ((q d : ℕ) → (q ≡ p → ⊥) → path' q d ≡ path q d)
    → ((q : ℕ) → (q ≡ p → ⊥) → owed' q ≡ owed q)
    → Means own' word' path' group owed' net
means_change own own' word word' open_now path path' group owed owed' net p ok free wire_after same_own same_word same_path same_owed =
    let R : ℕ → ℕ → List Record = records_on path net.records in
    let S : ℕ → ℕ → List Record = records_on path' net.records in
    let same : (i t : ℕ) → (i ≡ p → ⊥) → S i t ≡ R i t = (λ i t n. records_path path path' net.records i t (same_path i (suc t) n)) in
    let others = no_second path net p free in
    let agree : (i j : ℕ) → In j (group i) → own' j ≡ own j = (λ i j m. same_own j (λ e. wire_after i (subst (λ l. In l (group i)) e m))) in
    record {
      requests = λ d w x m. let h = ok.requests d w x m in let n = free.requests d w x m in record {
        word_is = h.word_is ∙ sym (same_word x.leader n);
        in_range = h.in_range;
        function = λ v. h.function v ∙ sym (leaves_agree own own' (group x.leader) (agree x.leader) v);
        answers = λ v. gives_frame R S p same others d x.leader v n ∙ h.answers v ∙ sym (finds_agree own own' (group x.leader) (agree x.leader) v);
      };
      replies = λ d w x m g i. let n = free.replies d w x m in
          let j = subst (In g) (gives_frame R S p same others d x.leader x.value n) i in
          same_owed g.0 (gives_unnamed R p others d x.leader x.value g n j) ∙ ok.replies d w x m g j;
    }

-- If p is in no group, groups are still groups after p's word, what p is owed and whether p is open change.
pub groups_change : (word word' : ℕ → ℕ) (open_now open' : ℕ → Bool) (group : ℕ → List ℕ) (owed owed' : ℕ → Option ℕ) (p : ℕ)
    → Groups word open_now group owed → ((i : ℕ) → In p (group i) → ⊥)
    → ((q : ℕ) → (q ≡ p → ⊥) → word' q ≡ word q) → ((q : ℕ) → (q ≡ p → ⊥) → owed' q ≡ owed q) → ((q : ℕ) → (q ≡ p → ⊥) → open' q ≡ open_now q)
    → Groups word' open' group owed'
groups_change word word' open_now open' group owed owed' p ok wire_after same_word same_owed same_open = record {
  opened = λ i j m. same_open j (away i j m) ∙ ok.opened i j m;
  unserved = λ i j m. same_owed j (away i j m) ∙ ok.unserved i j m;
  one_word = λ i l j m o. same_word l (away i l m) ∙ ok.one_word i l j m o ∙ sym (same_word j (away i j o));
  home = ok.home;
  distinct = ok.distinct;
}
  where
    away : (i j : ℕ) → In j (group i) → j ≡ p → ⊥
    away i j m e = wire_after i (subst (λ l. In l (group i)) e m)

-- Groups are still groups after p issues a reference and becomes its own group.
pub groups_issue : (word : ℕ → ℕ) (open_now : ℕ → Bool) (group : ℕ → List ℕ) (owed : ℕ → Option ℕ) (p : ℕ) → Groups word open_now group owed
    → open_now p ≡ false → owed p ≡ None → Groups word (put open_now p true) (put group p (p ∷ [])) owed
groups_issue word open_now group owed p ok shut none = record {
  opened = λ i j m. elim (from i j m) [
    | inl h ↦ ap (put open_now p true) h.1 ∙ put_same open_now p true
    | inr h ↦ put_other open_now p true j (away i j h.1)
        ∙ ok.opened i j h.1
  ];
  unserved = λ i j m. elim (from i j m) [ inl h ↦ ap owed h.1 ∙ none | inr h ↦ ok.unserved i j h.1 ];
  one_word = λ i l j m o. elim (from i l m) [
    | inl h ↦ elim (from i j o) [ inl g ↦ ap word (h.1 ∙ sym g.1) | inr g ↦ absurd (g.0 h.0) ]
    | inr h ↦ elim (from i j o) [ inl g ↦ absurd (h.0 g.0) | inr g ↦ ok.one_word i l j h.1 g.1 ]
  ];
  home = λ i l j m o. elim (from i j m) [
    | inl h ↦ elim (from l j o) [ inl g ↦ h.0 ∙ sym g.0 | inr g ↦ absurd (away l j g.1 h.1) ]
    | inr h ↦ elim (from l j o) [ inl g ↦ absurd (away i j h.1 g.1) | inr g ↦ ok.home i l j h.1 g.1 ]
  ];
  distinct = λ i. elim (cases_eq i p) [
    | inl e ↦ subst Distinct (sym (ap (put group p (p ∷ [])) e ∙ put_same group p (p ∷ []))) ((λ m. m), tt)
    | inr n ↦ subst Distinct (sym (put_other group p (p ∷ []) i n)) (ok.distinct i)
  ];
}
  where
    away : (i j : ℕ) → In j (group i) → j ≡ p → ⊥
    away i j m e = true≢false (sym (ok.opened i j m) ∙ ap open_now e ∙ shut)

    from : (i j : ℕ) → In j (put group p (p ∷ []) i) → ((i ≡ p) × (j ≡ p)) ⊎ ((i ≡ p → ⊥) × In j (group i))
    from i j m = elim (cases_eq i p) [
      | inl e ↦ elim (subst (In j) (ap (put group p (p ∷ [])) e ∙ put_same group p (p ∷ [])) m) [ inl f ↦ inl (e, f) | inr o ↦ absurd o ]
      | inr n ↦ inr (n, subst (In j) (put_other group p (p ∷ []) i n) m)
    ]

-- Messages keep their meanings if an unnamed processor issues its request, and its group is itself alone.
pub means_issue : (own : ℕ → Phi) (word : ℕ → ℕ) (path : ℕ → ℕ → ℕ) (group : ℕ → List ℕ) (owed : ℕ → Option ℕ) (net : Net) (p w : ℕ) (x : Request)
    → Means own word path group owed net → Unnamed net p → x.leader ≡ p → x.word ≡ word p → x.phi ≡ own p → IsInRange x.phi
    → Means own word path (put group p (p ∷ [])) owed (put_requests net 0 w (net.requests 0 w ++ x ∷ []))
means_issue own word path group owed net p w x ok free xl xw xp xr =
    let R : ℕ → ℕ → List Record = records_on path net.records in
    let group' : ℕ → List ℕ = put group p (p ∷ []) in
    let gl : group' x.leader ≡ p ∷ [] = ap group' xl ∙ put_same group p (p ∷ []) in
    means_push_request own word path group' owed net 0 w x
    (record { requests = others_mean own word path group owed net p (p ∷ []) ok free; replies = ok.replies })
    (record {
      word_is = xw ∙ ap word (sym xl);
      in_range = xr;
      function = λ v. ap (λ f. applied f v) xp ∙ sym (leaves_one own p v) ∙ ap (λ l. leaves own l v) (sym gl);
      answers = λ v. ap (λ l. gives R l 0 v) xl ∙ gives_first R p v ∙ sym (finds_one own p v) ∙ ap (λ l. finds own l v) (sym gl);
    })

-- If every processor is idle, messages have their meanings, since there are none.
pub means_nothing : (k : ℕ) (path : ℕ → ℕ → ℕ) (role : ℕ → Role) (net : Net) (own : ℕ → Phi) (word : ℕ → ℕ) (path' : ℕ → ℕ → ℕ) (group : ℕ → List ℕ)
    (owed : ℕ → Option ℕ) → Placed k path role net → ((p : ℕ) → role p ≡ Idle) → Means own word path' group owed net
means_nothing k path role net own word path' group owed ok idle = record {
  requests = λ d w x m. absurd (let h = (ok.requests d w x m).asks in let c : Asking d ≡ Idle = sym h ∙ idle x.leader in cc);
  replies = λ d w x m. absurd (let h = (ok.replies d w x m).replying in let c : Replying d ≡ Idle = sym h ∙ idle x.leader in cc);
}
