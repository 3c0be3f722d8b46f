-- The step that a drain takes next does not stall.
use Rattle.std.proofs.Common.{◌≡◌, ℕ, zero, suc, ◌+◌, ◌-◌, ◌*◌, ◌%◌, ◌<◌, ◌≤◌, Bool, true, false, List}
use Rattle.std.proofs.Common.{[], ◌∷◌, ◌++◌, length, nat_lt, ◌⊎◌, inl, inr, Option, Some, None, is_some}
use Rattle.std.proofs.Common.{refl, sym, ap, ◌∙◌, subst, arith, lt-ltb, le-leb, length-append}
use Rattle.std.specs.Prelude.{if◌then◌else◌}
use Rattle.std.proofs.lemmas.Bool.{cases_eq, cases_lt, cases_Bool, true≢false}
use Rattle.std.proofs.lemmas.List.{length-map}
use Rattle.network_theory.specs.messages.declared.message.Request.{Request}
use Rattle.network_theory.specs.messages.declared.message.Reply.{Reply}
use Rattle.network_theory.specs.messages.declared.message.Record.{Record}
use Rattle.network_theory.specs.messages.Places.{In}
use Rattle.network_theory.specs.messages.Queues.{Combination, combined_in, combination, unmarked, records_of, records_but, reply_of, answers}
use Rattle.network_theory.specs.messages.Network.{Sizes, wires, Net, put_requests, put_records, put_replies}
use Rattle.network_theory.specs.messages.declared.moves.UpMove.TheVariants as up
use Rattle.network_theory.specs.messages.declared.moves.DownMove.TheVariants as down
use Rattle.network_theory.specs.messages.Moves.{queued, accepted, up_from, moved_up, push_all, has_room, answered, down_from, moved_down}
use Rattle.network_theory.specs.omega_wires.Wires.{wire_after, wire_before}
use Rattle.network_theory.proofs.Lemmas.omega_wires.{path_lt, path_zero}
use Rattle.network_theory.specs.Roles.{Role, Idle, Asking, Waiting, Replying, depth}
use Rattle.serialization.specs.Program.{Program, word_of, path_of}
use Rattle.serialization.specs.Machine.{Machine, Step, Turn, Up, Serve, Down, Outcome, Issued, Advanced}
use Rattle.serialization.specs.Machine.{Retired, Moved, Combined, Served, Answered, Poked, Stalled, stalled}
use Rattle.serialization.specs.Machine.{retire_from, turned, went_up, went_down, serve_from, step}
use Rattle.serialization.specs.Steadiness.{Stands, Steady, Distance, asks, tells, waits, Far, idle, asking, replying, waiting, total, Lower, Advances}
use Rattle.serialization.specs.Draining.{least, greatest, is_any, some_wire, first_wire, or_else, down_step, up_step, drain_step, AreDistances, DrainIs}
use Rattle.network_theory.proofs.Lemmas.messages.{at_put2, put2_other}
use Rattle.serialization.proofs.Steadying.{goes_step}
use Rattle.serialization.proofs.Distances.{far_unique, far_distance, total_lt, total_bound}
use Rattle.serialization.proofs.Least.{LeastIs, GreatestIs, least_is, greatest_is}

nothing_in : {X : Type 0} (xs : List X) (x : X) → is_any xs ≡ false → In x xs → ⊥
nothing_in [] x e m = m
nothing_in (y ∷ xs) x e m = true≢false e

is_nil : {X : Type 0} (xs : List X) → is_any xs ≡ false → xs ≡ []
is_nil [] e = refl
is_nil (x ∷ xs) e = absurd (true≢false e)

-- A list that is not empty, as its first element and the others.
pub record Front {X : Type 0} (xs : List X) : Type 0 where
  -- The first element.
  pub first : X
  -- The other elements.
  pub rest : List X
  -- The list is the first element and the others.
  pub is : xs ≡ first ∷ rest

front_in : {X : Type 0} {xs : List X} (f : Front xs) → In f.first xs
front_in f = subst (In f.first) (sym f.is) (inl refl)

front_of : {X : Type 0} (xs : List X) → is_any xs ≡ true → Front xs
front_of [] e = absurd (true≢false (sym e))
front_of (x ∷ xs) e = record { first = x; rest = xs; is = refl }

no_wire : {X : Type 0} (at : ℕ → List X) (n : ℕ) → some_wire at n ≡ false → (w : ℕ) → w < n → is_any (at w) ≡ false
no_wire {X} at n = go (least (λ w. is_any (at w)) n) (least_is (λ w. is_any (at w)) n)
  where
    go : (o : Option ℕ) → LeastIs (λ w. is_any (at w)) n o → is_some o ≡ false → (w : ℕ) → w < n → is_any (at w) ≡ false
    go None h e w l = h w l
    go (Some i) h e w l = absurd (true≢false e)

-- Messages are only on the wires of the machine.
reply_wire : {Core Pokes Entry : Type 0} → (z : Sizes) (P : Program Core Pokes Entry) (M : Machine Core) (role : ℕ → Role) → Steady z P M role
    → (d w : ℕ) (y : Reply) → In y (M.net.replies d w) → w < wires z
reply_wire z P M role ok d w y m =
    let h = ok.placed.replies d w y m in
    elim (ok.small y.leader) [
      | inl i ↦ (let c : Replying d ≡ Idle = sym h.replying ∙ i in cc)
      | inr l ↦ subst (λ v. v < wires z) h.wire (path_lt z.k y.leader (word_of P M.core y.leader % wires z) d h.deep l)
    ]

request_wire : {Core Pokes Entry : Type 0} → (z : Sizes) (P : Program Core Pokes Entry) (M : Machine Core) (role : ℕ → Role) → Steady z P M role
    → (d w : ℕ) (y : Request) → In y (M.net.requests d w) → w < wires z
request_wire z P M role ok d w y m =
    let h = ok.placed.requests d w y m in
    elim (ok.small y.leader) [
      | inl i ↦ (let c : Asking d ≡ Idle = sym h.asks ∙ i in cc)
      | inr l ↦ subst (λ v. v < wires z) h.wire (path_lt z.k y.leader (word_of P M.core y.leader % wires z) d h.deep l)
    ]

no_reply : {Core Pokes Entry : Type 0} → (z : Sizes) (P : Program Core Pokes Entry) (M : Machine Core) (role : ℕ → Role) → Steady z P M role → (d : ℕ)
    → ((w : ℕ) → w < wires z → is_any (M.net.replies d w) ≡ false) → (w : ℕ) → is_any (M.net.replies d w) ≡ false
no_reply z P M role ok d h w = go (M.net.replies d w) refl
  where
    go : (xs : List Reply) → M.net.replies d w ≡ xs → is_any xs ≡ false
    go [] e = refl
    go (y ∷ ys) e = ap is_any (sym e) ∙ h w (reply_wire z P M role ok d w y (rw e (inl refl)))

no_request : {Core Pokes Entry : Type 0} → (z : Sizes) (P : Program Core Pokes Entry) (M : Machine Core) (role : ℕ → Role) → Steady z P M role → (d : ℕ)
    → ((w : ℕ) → w < wires z → is_any (M.net.requests d w) ≡ false) → (w : ℕ) → is_any (M.net.requests d w) ≡ false
no_request z P M role ok d h w = go (M.net.requests d w) refl
  where
    go : (xs : List Request) → M.net.requests d w ≡ xs → is_any xs ≡ false
    go [] e = refl
    go (y ∷ ys) e = ap is_any (sym e) ∙ h w (request_wire z P M role ok d w y (rw e (inl refl)))

abbrev Closer : {Pokes : Type 0} → Outcome Pokes → Type 0
Closer (Issued p) = ⊥
Closer (Advanced p) = ⊥
Closer (Poked q) = ⊥
Closer Stalled = ⊥
Closer _ = Unit {0}

turn_goes : {Core Pokes Entry : Type 0} → (z : Sizes) (P : Program Core Pokes Entry) (M : Machine Core) (role : ℕ → Role) (p : ℕ) → Steady z P M role
    → p < wires z → is_any (M.net.replies 0 p) ≡ true → Closer (step z P M (Turn p)).outcome
turn_goes {Core} {Pokes} z P M role p ok l any =
    let f = front_of (M.net.replies 0 p) any in
    let at = ok.placed.replies 0 p f.first (front_in f) in
    let is : f.first.leader ≡ p = sym (path_zero z.k f.first.leader (word_of P M.core f.first.leader % wires z)) ∙ at.wire in
    let replying_p : role p ≡ Replying 0 = ap role (sym is) ∙ at.replying in
    elim (cases_Bool (M.is_open p)) [
      | inl o ↦ subst (λ b. Closer {Pokes = Pokes} (if b then turned P M p (M.is_open p) else stalled M).outcome) (sym (lt-ltb p (wires z) l))
          (subst (λ b. Closer {Pokes = Pokes} (turned P M p b).outcome) (sym o)
          (subst (λ xs. Closer {Pokes = Pokes} (retire_from P M p xs).outcome) (sym f.is) tt))
      | inr c ↦ (let g : Replying 0 ≡ Idle = sym replying_p ∙ (ok.shut p).0 c in cc)
    ]

serve_goes : {Core Pokes Entry : Type 0} → (z : Sizes) (P : Program Core Pokes Entry) (M : Machine Core) (m : ℕ) → m < wires z
    → is_any (M.net.requests z.k m) ≡ true → is_any (M.net.replies z.k m) ≡ false → Closer (step z P M (Serve m)).outcome
serve_goes {Core} {Pokes} z P M m l any none =
    let f = front_of (M.net.requests z.k m) any in
    subst (λ b. Closer {Pokes = Pokes} (if b then serve_from z M m (M.net.requests z.k m) (M.net.replies z.k m) else stalled M).outcome)
    (sym (lt-ltb m (wires z) l))
    (subst (λ xs. Closer {Pokes = Pokes} (serve_from z M m xs (M.net.replies z.k m)).outcome) (sym f.is)
    (subst (λ ys. Closer {Pokes = Pokes} (serve_from z M m (f.first ∷ f.rest) ys).outcome) (sym (is_nil (M.net.replies z.k m) none)) tt))

up_goes : {Core Pokes Entry : Type 0} → (z : Sizes) (P : Program Core Pokes Entry) (M : Machine Core) (s w : ℕ) → s < z.k → w < wires z → 0 < z.c
    → is_any (M.net.requests s w) ≡ true → ((v : ℕ) → is_any (M.net.requests (suc s) v) ≡ false) → Closer (step z P M (Up s w)).outcome
unfolding combined_in moved_up
up_goes {Core} {Pokes} z P M s w l lw room any none =
    let f = front_of (M.net.requests s w) any in
    let v : ℕ = wire_after z.k s w (f.first.word % wires z) in
    let net1 : Net = put_requests M.net s w f.rest in
    let empty : net1.requests (suc s) v ≡ [] = put2_other M.net.requests s w f.rest (suc s) v (λ a b. omega arith)
    ∙ is_nil (M.net.requests (suc s) v) (none v) in
    let queue : Closer {Pokes = Pokes} (went_up M (queued z M.net net1 s v f.first)).outcome =
    go (nat_lt (length (net1.requests (suc s) v)) z.c) (ap (λ xs. nat_lt (length xs) z.c) empty ∙ lt-ltb 0 z.c room)
    (put_requests net1 (suc s) v (net1.requests (suc s) v ++ unmarked f.first ∷ [])) in
    let no_join : combination z.b z.r f.first (net1.requests (suc s) v) (net1.records s v) ≡ None =
    ap (λ xs. combination z.b z.r f.first xs (net1.records s v)) empty ∙ either (nat_lt (length (net1.records s v)) z.b) in
    subst (λ n. Closer {Pokes = Pokes}
    (if n then went_up M (if nat_lt s z.k then up_from z M.net s w (M.net.requests s w) else (up.Stalled, M.net)) else stalled M).outcome)
    (sym (lt-ltb w (wires z) lw))
    (subst (λ b. Closer {Pokes = Pokes} (went_up M (if b then up_from z M.net s w (M.net.requests s w) else (up.Stalled, M.net))).outcome)
    (sym (lt-ltb s z.k l))
    (subst (λ xs. Closer {Pokes = Pokes} (went_up M (up_from z M.net s w xs)).outcome) (sym f.is)
    (subst (λ o. Closer {Pokes = Pokes} (went_up M (accepted z M.net net1 s v f.first o)).outcome) (sym no_join) queue)))
  where
    either : (b : Bool) → (if b then (let n : Option Combination = None in n) else None) ≡ None
    either true = refl
    either false = refl

    go : (b : Bool) → b ≡ true → (net : Net) → Closer {Pokes = Pokes} (went_up M (if b then (up.Moved, net) else (up.Stalled, M.net))).outcome
    go true e net = tt
    go false e net = true≢false (sym e)

pushed_length : (wire : ℕ → ℕ) (s : ℕ) (ys : List Reply) (net : Net) (v : ℕ)
    → length ((push_all wire s ys net).replies s v) ≤ length (net.replies s v) + length ys
unfolding push_all
pushed_length wire s [] net v = omega arith
pushed_length wire s (y ∷ ys) net v =
    let h = pushed_length wire s ys (put_replies net s (wire y.leader) (net.replies s (wire y.leader) ++ y ∷ [])) v in
    elim (at_put2 net.replies s (wire y.leader) (net.replies s (wire y.leader) ++ y ∷ []) s v) [
      | inl e ↦ (let n = ap length e.2 ∙ length-append (net.replies s (wire y.leader)) (y ∷ []) ∙ (λ i. length (net.replies s (sym e.1 i)) + 1) in omega arith)
      | inr e ↦ (let n = ap length e.1 in omega arith)
    ]

has_room_all : (c : ℕ) (wire : ℕ → ℕ) (s : ℕ) (net : Net) (ys : List Reply) → ((v : ℕ) → length (net.replies s v) ≤ c) → has_room c wire s net ys ≡ true
has_room_all c wire s net [] h = refl
has_room_all c wire s net (y ∷ ys) h = simp (le-leb (length (net.replies s (wire y.leader))) c (h (wire y.leader))) (has_room_all c wire s net ys h)

down_goes : {Core Pokes Entry : Type 0} → (z : Sizes) (P : Program Core Pokes Entry) (M : Machine Core) (role : ℕ → Role) (s w : ℕ) → Steady z P M role
    → s < z.k → w < wires z → z.r < z.c → is_any (M.net.replies (suc s) w) ≡ true → ((v : ℕ) → is_any (M.net.replies s v) ≡ false)
    → Closer (step z P M (Down s w)).outcome
unfolding moved_down
down_goes {Core} {Pokes} z P M role s w ok l lw room any none =
    let f = front_of (M.net.replies (suc s) w) any in
    let x : Reply = f.first in
    let at = ok.placed.replies (suc s) w x (front_in f) in
    let rs : List Record = records_of x.leader (M.net.records s w) in
    let net2 : Net = put_records (put_replies M.net (suc s) w f.rest) s w (records_but x.leader (M.net.records s w)) in
    let net3 : Net = push_all (wire_before z.k s w) s (answers rs x) net2 in
    let few : length rs ≤ z.r = ok.few x.leader s w in
    let small : (v : ℕ) → length (net3.replies s v) ≤ z.c = (λ v.
    let a = pushed_length (wire_before z.k s w) s (answers rs x) net2 v in
    let n = ap length (put2_other M.net.replies (suc s) w f.rest s v (λ i j. omega arith) ∙ is_nil (M.net.replies s v) (none v)) in
    let m = length-map rs (reply_of x.value) in
    omega arith) in
    subst (λ n. Closer {Pokes = Pokes}
    (if n then went_down M (if nat_lt s z.k then down_from z M.net s w (M.net.replies (suc s) w) else (down.Stalled, M.net)) else stalled M).outcome)
    (sym (lt-ltb w (wires z) lw))
    (subst (λ b. Closer {Pokes = Pokes} (went_down M (if b then down_from z M.net s w (M.net.replies (suc s) w) else (down.Stalled, M.net))).outcome)
    (sym (lt-ltb s z.k l))
    (subst (λ xs. Closer {Pokes = Pokes} (went_down M (down_from z M.net s w xs)).outcome) (sym f.is)
    (subst (λ b. Closer {Pokes = Pokes} (went_down M (if b then (answered rs, net3) else (down.Stalled, M.net))).outcome)
    (sym (has_room_all z.c (wire_before z.k s w) s net3 (answers rs x) small)) (named rs net3))))
  where
    named : (rs : List Record) (net : Net) → Closer {Pokes = Pokes} (went_down M (answered rs, net)).outcome
    named [] net = tt
    named (r ∷ rs) net = tt

-- If there is no message anywhere, no reference is open.
all_idle : {Core Pokes Entry : Type 0} → (z : Sizes) (P : Program Core Pokes Entry) (M : Machine Core) (role : ℕ → Role) → Steady z P M role
    → ((d w : ℕ) (y : Reply) → In y (M.net.replies d w) → ⊥) → ((d w : ℕ) (x : Request) → In x (M.net.requests d w) → ⊥) → (p : ℕ) → M.is_open p ≡ false
all_idle z P M role ok no_replies no_requests p = (ok.shut p).1 (go z.k p (role p) refl (λ s b e. omega arith))
  where
    stand : (q : ℕ) (r : Role) → role q ≡ r → Stands M.net q r
    stand q r e = subst (Stands M.net q) e (ok.stands q)

    go : (fuel q : ℕ) (r : Role) → role q ≡ r → ((s b : ℕ) → r ≡ Waiting s b → z.k ≤ s + fuel) → role q ≡ Idle
    go fuel q Idle e near = e
    go fuel q (Asking d) e near = let h = stand q (Asking d) e in absurd (no_requests d h.0 h.1 h.2)
    go fuel q (Replying d) e near = let h = stand q (Replying d) e in absurd (no_replies d h.0 h.1 h.2)
    go zero q (Waiting s b) e near = let h = stand q (Waiting s b) e in let g = ok.placed.records s h.0 h.1 h.2 in let d = g.deep in let n = near s b refl in
        absurd (omega arith)
    go (suc fuel) q (Waiting s b) e near =
        let h = stand q (Waiting s b) e in
        let g = ok.placed.records s h.0 h.1 h.2 in
        let deeper : s < depth (role b) = subst (λ j. s < depth (role j)) h.4 g.beyond in
        let n = near s b refl in
        let i : role b ≡ Idle = go fuel b (role b) refl (λ t c f. let m : s < t = subst (λ j. s < depth j) f deeper in omega arith) in
        absurd (let m : s < 0 = subst (λ j. s < depth j) i deeper in omega arith)

far_bound : {Core Pokes Entry : Type 0} → (z : Sizes) (P : Program Core Pokes Entry) (M : Machine Core) (role : ℕ → Role) → Steady z P M role → (p n : ℕ)
    → Far z.k role p n → n ≤ 2 * z.k + 2
far_bound z P M role ok p n (idle _ _ e f) = omega arith
far_bound z P M role ok p n (asking _ _ d e f) = omega arith
far_bound z P M role ok p n (replying _ _ d e f) =
    let h : Stands M.net p (Replying d) = subst (Stands M.net p) e (ok.stands p) in
    let g = (ok.placed.replies d h.0 h.1 h.2).deep in omega arith
far_bound z P M role ok p n (waiting _ _ s b e f) = far_bound z P M role ok b n f

far_of : {Core Pokes Entry : Type 0} → (z : Sizes) (P : Program Core Pokes Entry) (M : Machine Core) (role : ℕ → Role) → Steady z P M role → (f : ℕ → ℕ)
    → AreDistances z M f → (p : ℕ) → p < wires z → Far z.k role p (f p)
far_of z P M role ok f h p l = elim (cases_Bool (M.is_open p)) [
  | inl o ↦ far_distance z.k (path_of z P M.core) role M.net ok.placed p (f p) ((h p l).1 o)
  | inr c ↦ idle p (f p) ((ok.shut p).0 c) ((h p l).0 c)
]

-- In a steady machine the sum of the distances is at most 2 k + 2 for each processor.
pub bound : {Core Pokes Entry : Type 0} → (z : Sizes) (P : Program Core Pokes Entry) (M : Machine Core) (role : ℕ → Role) → Steady z P M role → (f : ℕ → ℕ)
    → AreDistances z M f → total f (wires z) ≤ wires z * (2 * z.k + 2)
bound z P M role ok f h = total_bound f (wires z) (2 * z.k + 2) (λ i l. far_bound z P M role ok i (f i) (far_of z P M role ok f h i l))

-- A sum whose terms are all zero is zero.
total_none : (f : ℕ → ℕ) (n : ℕ) → ((q : ℕ) → q < n → f q ≡ 0) → total f n ≡ 0
unfolding total
total_none f zero none = refl
total_none f (suc n) none =
    let rest = total_none f n (λ q l. none q (omega (arith, l))) in
    let last = none n (omega arith) in omega (arith, rest, last)

total_one : (f : ℕ → ℕ) (p b n : ℕ) → ((q : ℕ) → q < n → (q ≡ p → ⊥) → f q ≡ 0) → (p < n → f p ≤ b) → total f n ≤ b
unfolding total
total_one f p b zero none one = omega arith
total_one f p b (suc n) none one = by (total_one f p b n) (cases_eq n p)
  where
    by : (((q : ℕ) → q < n → (q ≡ p → ⊥) → f q ≡ 0) → (p < n → f p ≤ b) → total f n ≤ b) → (n ≡ p) ⊎ (n ≡ p → ⊥) → total f n + f n ≤ b
    by rest (inl same) =
        let nothing = total_none f n (λ q l. none q (omega (arith, l)) (λ e. omega (arith, l, e, same))) in
        let last : f n ≤ b = subst (λ i. f i ≤ b) (sym same) (one (omega (arith, same))) in omega (arith, nothing, last)
    by rest (inr other) =
        let before = rest (λ q l d. none q (omega (arith, l)) d) (λ l. one (omega (arith, l))) in
        let last = none n (omega arith) other in omega (arith, before, last)

-- If only p's reference is open, the sum of the distances is at most 2 k + 2.
pub bound_alone : {Core Pokes Entry : Type 0} → (z : Sizes) (P : Program Core Pokes Entry) (M : Machine Core) (role : ℕ → Role) → Steady z P M role → (p : ℕ)
    → ((q : ℕ) → (q ≡ p → ⊥) → M.is_open q ≡ false) →
    (f : ℕ → ℕ) → AreDistances z M f → total f (wires z) ≤ 2 * z.k + 2
bound_alone z P M role ok p others f h =
    total_one f p (2 * z.k + 2) (wires z) (λ q l n. (h q l).0 (others q n)) (λ l. far_bound z P M role ok p (f p) (far_of z P M role ok f h p l))

advances_lower : {Pokes : Type 0} → (o : Outcome Pokes) (X : Type 0) → Closer o → Advances o X → X
advances_lower (Issued p) X c a = absurd c
advances_lower (Advanced p) X c a = absurd c
advances_lower Stalled X c a = absurd c
advances_lower (Retired p v) X c a = a
advances_lower Moved X c a = a
advances_lower (Combined p q) X c a = a
advances_lower (Served p) X c a = a
advances_lower (Answered l) X c a = a
advances_lower (Poked q) X c a = absurd c

closer_runs : {Pokes : Type 0} → (o : Outcome Pokes) → Closer o → o ≡ Stalled → ⊥
closer_runs o c e = subst Closer e c

-- A step that moves a message lowers the sum.
closer_is : {Core Pokes Entry : Type 0} → (z : Sizes) (P : Program Core Pokes Entry) (M : Machine Core) (role : ℕ → Role) (st : Step Pokes)
    → Steady z P M role → Closer (step z P M st).outcome → DrainIs z P M (Some st)
closer_is z P M role st ok c =
    let g = goes_step z P M role st ok in
    let l : Lower z.k (wires z) role g.0 = advances_lower (step z P M st).outcome (Lower z.k (wires z) role g.0) c g.2 in (
      closer_runs (step z P M st).outcome c,
      (λ f h df dh.
          let before : (p : ℕ) → p < wires z → Far z.k role p (f p) = far_of z P M role ok f df in
          let now : (p : ℕ) → p < wires z → Far z.k g.0 p (h p) = far_of z P (step z P M st).machine g.0 g.1 h dh in
          total_lt f h (wires z) l.mover
          (λ i b. let n = l.none_grows i (f i) (before i b) in let u = far_unique z.k g.0 i n.0 (h i) n.1 (now i b) in let m = n.2 in omega arith)
          l.within
          (let n = l.falls (f l.mover) (before l.mover l.within) in let u = far_unique z.k g.0 l.mover n.0 (h l.mover) n.1 (now l.mover l.within) in
          let m = n.2 in omega arith)),
    )

-- If r < c, the next step of a steady machine's drain does not stall and lowers the sum of the distances;
-- if there is none, no reference is open.
pub drain_is : {Core Pokes Entry : Type 0} → (z : Sizes) (P : Program Core Pokes Entry) (M : Machine Core) (role : ℕ → Role) → Steady z P M role → z.r < z.c
    → DrainIs z P M (drain_step z M)
drain_is z P M role ok room = turns (least (λ w. is_any (M.net.replies 0 w)) (wires z)) (least_is (λ w. is_any (M.net.replies 0 w)) (wires z))
  where
    N : ℕ
    N = wires z

    ups : ((d w : ℕ) → is_any (M.net.replies d w) ≡ false) → ((w : ℕ) → is_any (M.net.requests z.k w) ≡ false) → DrainIs z P M (up_step z M.net)
    ups none no_front = stages (greatest (λ s. some_wire (M.net.requests s) (wires z)) z.k) (greatest_is (λ s. some_wire (M.net.requests s) (wires z)) z.k)
      where
        wires_of : (s : ℕ) → s < z.k → some_wire (M.net.requests s) (wires z) ≡ true → ((v : ℕ) → is_any (M.net.requests (suc s) v) ≡ false) → (o : Option ℕ)
            → LeastIs (λ w. is_any (M.net.requests s w)) (wires z) o → least (λ w. is_any (M.net.requests s w)) (wires z) ≡ o
            → DrainIs z P M (elim o [ Some w ↦ Some (Up s w) | None ↦ None ])
        wires_of s l any next (Some w) h e = closer_is z P M role (Up s w) ok (up_goes z P M s w l h.within (omega arith) h.passes next)
        wires_of s l any next None h e = absurd (true≢false (sym any ∙ ap is_some e))

        above : (s : ℕ) → s < z.k → ((j : ℕ) → s < j → j < z.k → some_wire (M.net.requests j) (wires z) ≡ false) → (v : ℕ)
            → is_any (M.net.requests (suc s) v) ≡ false
        above s l h v = elim (cases_eq (suc s) z.k) [
          | inl e ↦ subst (λ d. is_any (M.net.requests d v) ≡ false) (sym e) (no_front v)
          | inr n ↦ no_request z P M role ok (suc s) (no_wire (M.net.requests (suc s)) (wires z) (h (suc s) (omega arith) (omega arith))) v
        ]

        stages : (o : Option ℕ) → GreatestIs (λ s. some_wire (M.net.requests s) (wires z)) z.k o
            → DrainIs z P M (elim o [ Some s ↦ first_wire (M.net.requests s) (wires z) (Up s) | None ↦ None ])
        stages (Some s) h = wires_of s h.within h.passes (above s h.within h.behind) (least (λ w. is_any (M.net.requests s w)) (wires z))
            (least_is (λ w. is_any (M.net.requests s w)) (wires z)) refl
        stages None h = all_idle z P M role ok (λ d w y m. nothing_in (M.net.replies d w) y (none d w) m)
            (λ d w x m. let deep = (ok.placed.requests d w x m).deep in
            nothing_in (M.net.requests d w) x (elim (cases_eq d z.k) [
              | inl e ↦ subst (λ i. is_any (M.net.requests i w) ≡ false) (sym e) (no_front w)
              | inr n ↦ no_request z P M role ok d (no_wire (M.net.requests d) (wires z) (h d (omega arith))) w
            ]) m)

    serves : ((d w : ℕ) → is_any (M.net.replies d w) ≡ false) → (o : Option ℕ) → LeastIs (λ w. is_any (M.net.requests z.k w)) (wires z) o
        → DrainIs z P M (or_else (elim o [ Some w ↦ Some (Serve w) | None ↦ None ]) (up_step z M.net))
    serves none (Some m) h = closer_is z P M role (Serve m) ok (serve_goes z P M m h.within h.passes (none z.k m))
    serves none None h = ups none (no_request z P M role ok z.k h)

    downs : ((w : ℕ) → is_any (M.net.replies 0 w) ≡ false) → (o : Option ℕ) → LeastIs (λ s. some_wire (M.net.replies (suc s)) (wires z)) z.k o
        → DrainIs z P M (or_else (elim o [ Some s ↦ first_wire (M.net.replies (suc s)) (wires z) (Down s) | None ↦ None ])
        (or_else (first_wire (M.net.requests z.k) (wires z) Serve) (up_step z M.net)))
    downs port (Some s) h = wires_of (least (λ w. is_any (M.net.replies (suc s) w)) (wires z)) (least_is (λ w. is_any (M.net.replies (suc s) w)) (wires z)) refl
      where
        below : (d : ℕ) → d ≤ s → (v : ℕ) → is_any (M.net.replies d v) ≡ false
        below zero l v = port v
        below (suc d) l v = no_reply z P M role ok (suc d) (no_wire (M.net.replies (suc d)) (wires z) (h.before d (omega arith))) v

        wires_of : (o : Option ℕ) → LeastIs (λ w. is_any (M.net.replies (suc s) w)) (wires z) o → least (λ w. is_any (M.net.replies (suc s) w)) (wires z) ≡ o
            → DrainIs z P M (or_else (elim o [ Some w ↦ Some (Down s w) | None ↦ None ])
            (or_else (first_wire (M.net.requests z.k) (wires z) Serve) (up_step z M.net)))
        wires_of (Some w) g e = closer_is z P M role (Down s w) ok (down_goes z P M role s w ok h.within g.within room g.passes (below s (omega arith)))
        wires_of None g e = absurd (true≢false (sym h.passes ∙ ap is_some e))
    downs port None h = serves everywhere (least (λ w. is_any (M.net.requests z.k w)) (wires z)) (least_is (λ w. is_any (M.net.requests z.k w)) (wires z))
      where
        beyond : (d : ℕ) → z.k ≤ d → (xs : List Reply) (v : ℕ) → M.net.replies (suc d) v ≡ xs → is_any (M.net.replies (suc d) v) ≡ false
        beyond d g [] v e = ap is_any e
        beyond d g (y ∷ ys) v e = let t = (ok.placed.replies (suc d) v y (subst (In y) (sym e) (inl refl))).deep in absurd (omega arith)

        everywhere : (d w : ℕ) → is_any (M.net.replies d w) ≡ false
        everywhere zero w = port w
        everywhere (suc d) w = elim (cases_lt d z.k) [
          | inl l ↦ no_reply z P M role ok (suc d) (no_wire (M.net.replies (suc d)) (wires z) (h d l)) w
          | inr g ↦ beyond d g (M.net.replies (suc d) w) w refl
        ]

    turns : (o : Option ℕ) → LeastIs (λ w. is_any (M.net.replies 0 w)) (wires z) o
        → DrainIs z P M (or_else (elim o [ Some w ↦ Some (Turn w) | None ↦ None ])
        (or_else (down_step z M.net) (or_else (first_wire (M.net.requests z.k) (wires z) Serve) (up_step z M.net))))
    turns (Some p) h = closer_is z P M role (Turn p) ok (turn_goes z P M role p ok h.within h.passes)
    turns None h = downs (no_reply z P M role ok 0 h) (least (λ s. some_wire (M.net.replies (suc s)) (wires z)) z.k)
        (least_is (λ s. some_wire (M.net.replies (suc s)) (wires z)) z.k)

-- A processor that is not idle has a distance.
has_distance : {Core Pokes Entry : Type 0} → (z : Sizes) (P : Program Core Pokes Entry) (M : Machine Core) (role : ℕ → Role) → Steady z P M role
    → (fuel q : ℕ) (r : Role) → role q ≡ r → ((s b : ℕ) → r ≡ Waiting s b → z.k ≤ s + fuel) → (r ≡ Idle → ⊥) → (n : ℕ) × Distance z.k M.net q n
has_distance z P M role ok fuel q Idle e near n = absurd (n refl)
has_distance z P M role ok fuel q (Asking d) e near n =
    let h : Stands M.net q (Asking d) = subst (Stands M.net q) e (ok.stands q) in
    let l = (ok.placed.requests d h.0 h.1 h.2).deep in
    (2 * z.k + 2 - d, asks q (2 * z.k + 2 - d) d h.0 h.1 h.2 h.3 (omega arith))
has_distance z P M role ok fuel q (Replying d) e near n =
    let h : Stands M.net q (Replying d) = subst (Stands M.net q) e (ok.stands q) in
    (suc d, tells q (suc d) d h.0 h.1 h.2 h.3 refl)
has_distance z P M role ok zero q (Waiting s b) e near n =
    let h : Stands M.net q (Waiting s b) = subst (Stands M.net q) e (ok.stands q) in
    let d = (ok.placed.records s h.0 h.1 h.2).deep in let l = near s b refl in absurd (omega arith)
has_distance z P M role ok (suc fuel) q (Waiting s b) e near n =
    let h : Stands M.net q (Waiting s b) = subst (Stands M.net q) e (ok.stands q) in
    let g = ok.placed.records s h.0 h.1 h.2 in
    let deeper : s < depth (role b) = subst (λ j. s < depth (role j)) h.4 g.beyond in
    let l = near s b refl in
    let i = has_distance z P M role ok fuel b (role b) refl (λ t c f. let m : s < t = subst (λ j. s < depth j) f deeper in omega arith)
    (λ f. let m : s < 0 = subst (λ j. s < depth j) f deeper in absurd (omega arith)) in
    (i.0, waits q i.0 s h.0 h.1 h.2 h.3 (subst (λ j. Distance z.k M.net j i.0) (sym h.4) i.1))

-- Each open reference of a steady machine has a distance.
pub distances_are : {Core Pokes Entry : Type 0} → (z : Sizes) (P : Program Core Pokes Entry) (M : Machine Core) (role : ℕ → Role) → Steady z P M role
    → (f : ℕ → ℕ) × AreDistances z M f
distances_are z P M role ok = ((λ p. (each p).0), (λ p l. (each p).1))
  where
    pick : (p : ℕ) (b : Bool) → M.is_open p ≡ b → (n : ℕ) × ((M.is_open p ≡ false → n ≡ 0) × (M.is_open p ≡ true → Distance z.k M.net p n))
    pick p false e = (0, ((λ f. refl), (λ f. absurd (true≢false (sym f ∙ e)))))
    pick p true e =
        let h = has_distance z P M role ok z.k p (role p) refl (λ s b f. omega arith) (λ i. true≢false (sym e ∙ (ok.shut p).1 i)) in
        (h.0, ((λ f. absurd (true≢false (sym e ∙ f))), (λ f. h.1)))

    each : (p : ℕ) → (n : ℕ) × ((M.is_open p ≡ false → n ≡ 0) × (M.is_open p ≡ true → Distance z.k M.net p n))
    each p = pick p (M.is_open p) refl
