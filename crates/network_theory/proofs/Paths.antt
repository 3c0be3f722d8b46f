-- Each call of a network keeps messages to their paths.
use Rattle.std.proofs.Common.{◌≡◌, ℕ, suc, ◌%◌, ◌^◌, ◌<◌, Bool, true, false, List, [], ◌∷◌, ◌++◌, length, drop}
use Rattle.std.proofs.Common.{nat_lt, inl, inr, Option, Some, None, refl, sym, ap, ◌∙◌, subst, arith, ltb-true, ◌==◌}
use Rattle.std.proofs.Common.{not}
use Rattle.std.specs.Prelude.{if◌then◌else◌}
use Rattle.std.proofs.lemmas.Nat.{mod_below, pow_pos}
use Rattle.omega_wires.specs.Laws.{PathEndsAtTheModule, RepliesGoBackTheSameWay}
use Rattle.omega_wires.specs.Wires.{path, wire_after, wire_before}
use Rattle.messages.specs.declared.message.Request.{Request}
use Rattle.messages.specs.declared.message.Reply.{Reply}
use Rattle.messages.specs.declared.message.Record.{Record}
use Rattle.messages.specs.declared.moves.UpMove.{UpMove}
use Rattle.messages.specs.declared.moves.UpMove.TheVariants as up
use Rattle.messages.specs.declared.moves.DownMove.{DownMove}
use Rattle.messages.specs.declared.moves.DownMove.TheVariants as down
use Rattle.messages.specs.Places.{In}
use Rattle.messages.specs.Queues.{Combination, answers, combination, merged, records_but, records_of, unmarked}
use Rattle.messages.specs.Network.{Net, Sizes, wires, put_records, put_replies, put_requests}
use Rattle.messages.specs.Moves.{accepted, answered, combined, down_from, has_room, injected, module_replied}
use Rattle.messages.specs.Moves.{module_taken, moved_down, moved_up, port_taken, push_all, up_from}
use Rattle.messages.proofs.Lemmas.{In-append, In-append_left, In-append_right, In-filter, In-put2, Joins, combination_joins, from_answers}
use Rattle.network_theory.specs.Paths.{EmptyNetworksKeepToPaths, InjectingKeepsToPaths, KeepToPaths}
use Rattle.network_theory.specs.Paths.{MovingDownKeepsToPaths, MovingUpKeepsToPaths, OthersDoNotCount, RecordOnPath}
use Rattle.network_theory.specs.Paths.{RepliesArrive, ReplyOnPath, RequestOnPath, RequestsArrive, ServingKeepsToPaths}
use Rattle.network_theory.specs.Paths.{TakingKeepsToPaths}

-- ---- a place changes

with_requests : (z : Sizes) (goes : ℕ → ℕ → Bool) (net : Net) (d w : ℕ) (xs : List Request) → KeepToPaths z goes net →
    ((x : Request) → In x xs → RequestOnPath z.k goes d w x) → KeepToPaths z goes (put_requests net d w xs)
with_requests z goes net d w xs ok these = record {
  requests = λ e v x m. elim (In-put2 net.requests d w xs e v x m) [ inl h ↦ rw (h.0, h.1) (these x h.2) | inr h ↦ ok.requests e v x h.1 ];
  records = ok.records;
  replies = ok.replies;
}

with_records : (z : Sizes) (goes : ℕ → ℕ → Bool) (net : Net) (s w : ℕ) (xs : List Record) → KeepToPaths z goes net →
    ((x : Record) → In x xs → RecordOnPath z.k goes s w x) → KeepToPaths z goes (put_records net s w xs)
with_records z goes net s w xs ok these = record {
  requests = ok.requests;
  records = λ e v x m. elim (In-put2 net.records s w xs e v x m) [ inl h ↦ rw (h.0, h.1) (these x h.2) | inr h ↦ ok.records e v x h.1 ];
  replies = ok.replies;
}

with_replies : (z : Sizes) (goes : ℕ → ℕ → Bool) (net : Net) (d w : ℕ) (xs : List Reply) → KeepToPaths z goes net →
    ((x : Reply) → In x xs → ReplyOnPath z.k goes d w x) → KeepToPaths z goes (put_replies net d w xs)
with_replies z goes net d w xs ok these = record {
  requests = ok.requests;
  records = ok.records;
  replies = λ e v x m. elim (In-put2 net.replies d w xs e v x m) [ inl h ↦ rw (h.0, h.1) (these x h.2) | inr h ↦ ok.replies e v x h.1 ];
}

-- What holds of each element of a list, and of y, holds of each element of the list with y appended.
each_appended : {X : Type 0} (P : X → Type 0) (xs : List X) (y : X) → ((x : X) → In x xs → P x) → P y → (x : X) → In x (xs ++ y ∷ []) → P x
each_appended P xs y each last x m = elim (In-append x xs (y ∷ []) m) [
  | inl o ↦ each x o
  | inr (inl e) ↦ subst P (sym e) last
  | inr (inr o) ↦ absurd o
]

In-drop : {X : Type 0} (x : X) (xs : List X) → In x (drop 1 xs) → In x xs
In-drop x [] m = m
In-drop x (y ∷ xs) m = inr m

-- ---- at the ends

-- An empty network keeps to the paths.
pub empty_networks : EmptyNetworksKeepToPaths
empty_networks z goes net none = record {
  requests = λ d w x m. absurd (subst (In x) ((none d w).0) m);
  records = λ s w x m. absurd (subst (In x) ((none s w).1) m);
  replies = λ d w x m. absurd (subst (In x) ((none d w).2) m);
}

-- A network still keeps to the paths if the references of those that it names still go where they went.
pub others_do_not_count : OthersDoNotCount
others_do_not_count z goes goes' net ok same = record {
  requests = λ d w x m. let h = ok.requests d w x m in record {
    goes_there = same x.leader (x.word % 2 ^ z.k) (inl (d, w, x, m, refl)) h.goes_there;
    wire = h.wire;
    deep = h.deep;
    processor = h.processor;
  };
  records = λ s w x m. let h = ok.records s w x m in record {
    to_module = h.to_module;
    a_module = h.a_module;
    leader_goes = same x.leader h.to_module (inr (inl (s, w, x, m, inl refl))) h.leader_goes;
    second_goes = same x.second h.to_module (inr (inl (s, w, x, m, inr refl))) h.second_goes;
    wire = h.wire;
    wire_second = h.wire_second;
    deep = h.deep;
    processor = h.processor;
    processor_second = h.processor_second;
  };
  replies = λ d w x m. let h = ok.replies d w x m in record {
    from_module = h.from_module;
    a_module = h.a_module;
    goes_there = same x.leader h.from_module (inr (inr (d, w, x, m, refl))) h.goes_there;
    wire = h.wire;
    deep = h.deep;
    processor = h.processor;
  };
}

-- A network keeps to the paths if a processor injects a request to a module to which its reference goes.
pub injecting : InjectingKeepsToPaths
unfolding injected path
injecting z goes net x ok small there =
    with_requests z goes net 0 x.leader (net.requests 0 x.leader ++ x ∷ []) ok
    (each_appended (RequestOnPath z.k goes 0 x.leader) (net.requests 0 x.leader) x (ok.requests 0 x.leader)
    (record { goes_there = there; wire = refl; deep = omega arith; processor = small }))

-- A network keeps to the paths if a module takes a request, and if it replies to one whose reference goes there.
pub serving : PathEndsAtTheModule → ServingKeepsToPaths
unfolding module_taken module_replied
serving path_ends z goes net m ok = (
  with_requests z goes net z.k m (drop 1 (net.requests z.k m)) ok (λ x i. ok.requests z.k m x (In-drop x (net.requests z.k m) i)),
  λ x small led there.
      with_replies z goes net z.k m (net.replies z.k m ++ x ∷ []) ok
      (each_appended (ReplyOnPath z.k goes z.k m) (net.replies z.k m) x (ok.replies z.k m)
      (record { from_module = m; a_module = small; goes_there = there; wire = path_ends z.k x.leader m led small; deep = omega arith; processor = led })),
)

-- A network keeps to the paths if a port takes its reply.
pub taking : TakingKeepsToPaths
unfolding port_taken
taking z goes net p ok = with_replies z goes net 0 p (drop 1 (net.replies 0 p)) ok (λ x i. ok.replies 0 p x (In-drop x (net.replies 0 p) i))

-- ---- up

-- The network keeps to the paths if a request is appended to a queue on its path.
on_alone : (z : Sizes) (goes : ℕ → ℕ → Bool) (net : Net) (s w : ℕ) (x : Request) → KeepToPaths z goes net → RequestOnPath z.k goes (suc s) w x
    → KeepToPaths z goes (put_requests net (suc s) w (net.requests (suc s) w ++ unmarked x ∷ []))
on_alone z goes net s w x ok on =
    with_requests z goes net (suc s) w (net.requests (suc s) w ++ unmarked x ∷ []) ok
    (each_appended (RequestOnPath z.k goes (suc s) w) (net.requests (suc s) w) (unmarked x) (ok.requests (suc s) w)
    (record { goes_there = on.goes_there; wire = on.wire; deep = on.deep; processor = on.processor }))

-- The network keeps to the paths if a request becomes part of an entry of a queue on its path.
on_together : (z : Sizes) (goes : ℕ → ℕ → Bool) (net : Net) (s w : ℕ) (x : Request) (j : Combination) → KeepToPaths z goes net →
    RequestOnPath z.k goes (suc s) w x → Joins z.r x (net.requests (suc s) w) j
    → KeepToPaths z goes (combined net s w j).1
on_together z goes net s w x j ok on J =
    let made : Record = record { leader = J.entry.leader; phi = J.entry.phi; second = x.leader } in
    let queue : List Request = J.front ++ merged J.entry J.function ∷ J.behind in
    let at = ok.requests (suc s) w J.entry (rw J.was (In-append_right J.entry J.front (J.entry ∷ J.behind) (inl refl))) in
    let each : (y : Request) → In y queue → RequestOnPath z.k goes (suc s) w y
    = (λ y m. elim (In-append y J.front (merged J.entry J.function ∷ J.behind) m) [
      | inl o ↦ ok.requests (suc s) w y (rw J.was (In-append_left y J.front (J.entry ∷ J.behind) o))
      | inr (inl e) ↦ subst (RequestOnPath z.k goes (suc s) w) (sym e)
          (record { goes_there = at.goes_there; wire = at.wire; deep = at.deep; processor = at.processor })
      | inr (inr o) ↦ ok.requests (suc s) w y (rw J.was (In-append_right y J.front (J.entry ∷ J.behind) (inr o)))
    ]) in
    let kept : RecordOnPath z.k goes s w made = record {
      to_module = x.word % 2 ^ z.k;
      a_module = mod_below x.word (2 ^ z.k) (pow_pos z.k);
      leader_goes = ap (λ a. goes J.entry.leader (a % 2 ^ z.k)) (sym J.same_word) ∙ at.goes_there;
      second_goes = on.goes_there;
      wire = ap (λ a. path z.k J.entry.leader (a % 2 ^ z.k) (suc s)) (sym J.same_word) ∙ at.wire;
      wire_second = on.wire;
      deep = on.deep;
      processor = at.processor;
      processor_second = on.processor;
    } in
    subst (λ (i : Combination). KeepToPaths z goes (combined net s w i).1) (sym J.is)
    (with_records z goes (put_requests net (suc s) w queue) s w (net.records s w ++ made ∷ [])
    (with_requests z goes net (suc s) w queue ok each)
    (each_appended (RecordOnPath z.k goes s w) (net.records s w) made (ok.records s w) kept))

-- A network keeps to the paths if a request moves up, or is combined.
pub moving_up : MovingUpKeepsToPaths
unfolding moved_up path
moving_up z goes net s w ok = go (nat_lt s z.k) refl
  where
    queue : (taken : Net) (v : ℕ) (x : Request) → KeepToPaths z goes taken → RequestOnPath z.k goes (suc s) v x → (free : Bool)
        → KeepToPaths z goes (if◌then◌else◌ {A = UpMove
        × Net} free (up.Moved, put_requests taken (suc s) v (taken.requests (suc s) v ++ unmarked x ∷ [])) (up.Stalled, net)).1
    queue taken v x fine on true = on_alone z goes taken s v x fine on
    queue taken v x fine on false = ok

    offer : (taken : Net) (v : ℕ) (x : Request) → KeepToPaths z goes taken → RequestOnPath z.k goes (suc s) v x
        → (o : Option Combination) → combination z.b z.r x (taken.requests (suc s) v) (taken.records s v) ≡ o →
        KeepToPaths z goes (accepted z net taken s v x o).1
    offer taken v x fine on None e = queue taken v x fine on (nat_lt (length (taken.requests (suc s) v)) z.c)
    offer taken v x fine on (Some j) e =
        on_together z goes taken s v x j fine on (combination_joins z.b z.r x (taken.requests (suc s) v) (taken.records s v) j e)

    from : s < z.k → (q : List Request) → net.requests s w ≡ q → KeepToPaths z goes (up_from z net s w q).1
    from l [] e = ok
    from l (x ∷ rest) e =
        let at = ok.requests s w x (rw e (inl refl)) in
        let taken : Net = put_requests net s w rest in
        let v : ℕ = wire_after z.k s w (x.word % wires z) in
        offer taken v x
        (with_requests z goes net s w rest ok (λ y m. ok.requests s w y (rw e (inr m))))
        (record { goes_there = at.goes_there; wire = ap (λ u. wire_after z.k s u (x.word % 2 ^ z.k)) at.wire; deep = l; processor = at.processor })
        (combination z.b z.r x (taken.requests (suc s) v) (taken.records s v)) refl

    go : (b : Bool) → nat_lt s z.k ≡ b → KeepToPaths z goes (if◌then◌else◌ {A = UpMove × Net} b (up_from z net s w (net.requests s w)) (up.Stalled, net)).1
    go true e = from (ltb-true s z.k e) (net.requests s w) refl
    go false e = ok

-- ---- down

pushed : (z : Sizes) (goes : ℕ → ℕ → Bool) (wire : ℕ → ℕ) (s : ℕ) (ys : List Reply) (net : Net) → KeepToPaths z goes net →
    ((y : Reply) → In y ys → ReplyOnPath z.k goes s (wire y.leader) y) → KeepToPaths z goes (push_all wire s ys net)
unfolding push_all
pushed z goes wire s [] net ok each = ok
pushed z goes wire s (y ∷ ys) net ok each =
    pushed z goes wire s ys (put_replies net s (wire y.leader) (net.replies s (wire y.leader) ++ y ∷ []))
    (with_replies z goes net s (wire y.leader) (net.replies s (wire y.leader) ++ y ∷ []) ok
    (each_appended (ReplyOnPath z.k goes s (wire y.leader)) (net.replies s (wire y.leader)) y (ok.replies s (wire y.leader)) (each y (inl refl))))
    (λ x m. each x (inr m))

-- A reply for p, at an output on p's path, is on p's path before that stage.
goes_back : RepliesGoBackTheSameWay → (k : ℕ) (goes : ℕ → ℕ → Bool) (s w p m : ℕ) (y : Reply) → s < k → y.leader ≡ p → p < 2 ^ k → m < 2 ^ k →
    goes p m ≡ true → path k p m (suc s) ≡ w
    → ReplyOnPath k goes s (wire_before k s w y.leader) y
goes_back same_way k goes s w p m y l led small m_small there on = record {
  from_module = m;
  a_module = m_small;
  goes_there = ap (λ q. goes q m) led ∙ there;
  wire = ap (λ q. path k q m s) led ∙ sym (same_way k p m s l small) ∙ ap (λ u. wire_before k s u p) on ∙ ap (wire_before k s w) (sym led);
  deep = omega arith;
  processor = rw led small;
}

-- A network keeps to the paths if a reply moves down, together with the replies to the seconds.
pub moving_down : RepliesGoBackTheSameWay → MovingDownKeepsToPaths
unfolding moved_down
moving_down same_way z goes net s w ok = go (nat_lt s z.k) refl
  where
    put_all : s < z.k → (taken : Net) (x : Reply) → KeepToPaths z goes taken → ReplyOnPath z.k goes (suc s) w x → (records : List Record) →
        ((e : Record) → In e records → RecordOnPath z.k goes s w e) → (fits : Bool)
        → KeepToPaths z goes (if◌then◌else◌ {A = DownMove × Net} fits
        (answered records, push_all (wire_before z.k s w) s (answers records x) (put_records taken s w (records_but x.leader (taken.records s w))))
        (down.Stalled, net)).1
    put_all l taken x fine on records there false = ok
    put_all l taken x fine on records there true =
        pushed z goes (wire_before z.k s w) s (answers records x) (put_records taken s w (records_but x.leader (taken.records s w)))
        (with_records z goes taken s w (records_but x.leader (taken.records s w)) fine
        (λ e m. fine.records s w e ((In-filter (λ (r : Record). not (r.leader == x.leader)) e (taken.records s w) m).0)))
        (λ y m. elim (from_answers x y records m) [
          | inl a ↦ goes_back same_way z.k goes s w x.leader on.from_module y l a on.processor on.a_module on.goes_there on.wire
          | inr a ↦ (let r = there a.0 a.1 in goes_back same_way z.k goes s w a.0.second r.to_module y l a.2 r.processor_second r.a_module r.second_goes
              r.wire_second)
        ])

    from : s < z.k → (q : List Reply) → net.replies (suc s) w ≡ q → KeepToPaths z goes (down_from z net s w q).1
    from l [] e = ok
    from l (x ∷ rest) e =
        let taken : Net = put_replies net (suc s) w rest in
        let records : List Record = records_of x.leader (net.records s w) in
        put_all l taken x
        (with_replies z goes net (suc s) w rest ok (λ y m. ok.replies (suc s) w y (rw e (inr m))))
        (ok.replies (suc s) w x (rw e (inl refl)))
        records
        (λ r m. ok.records s w r ((In-filter (λ (r : Record). r.leader == x.leader) r (net.records s w) m).0))
        (has_room z.c (wire_before z.k s w) s (push_all (wire_before z.k s w) s (answers records x)
        (put_records taken s w (records_but x.leader (taken.records s w)))) (answers records x))

    go : (b : Bool) → nat_lt s z.k ≡ b → KeepToPaths z goes
        (if◌then◌else◌ {A = DownMove × Net} b (down_from z net s w (net.replies (suc s) w)) (down.Stalled, net)).1
    go true e = from (ltb-true s z.k e) (net.replies (suc s) w) refl
    go false e = ok

-- ---- arrivals

-- A request at a module is for a word there, and its leader's reference goes there.
pub requests_arrive : PathEndsAtTheModule → RequestsArrive
requests_arrive path_ends z goes net m x ok i =
    let h = ok.requests z.k m x i in
    let is : x.word % 2 ^ z.k ≡ m = sym (path_ends z.k x.leader (x.word % 2 ^ z.k) h.processor (mod_below x.word (2 ^ z.k) (pow_pos z.k))) ∙ h.wire in
    (is, subst (λ v. v < 2 ^ z.k) is (mod_below x.word (2 ^ z.k) (pow_pos z.k)), h.processor, subst (λ v. goes x.leader v ≡ true) is h.goes_there)

-- A reply on a processor's wire at depth 0 is that processor's.
pub replies_arrive : RepliesArrive
unfolding path
replies_arrive z goes net p x ok i =
    let h = ok.replies 0 p x i in h.wire
