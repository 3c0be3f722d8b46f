-- One processor alone has a reference open, and a drain retires it: only its entry is added to the order.
use Rattle.std.proofs.Common.{◌≡◌, ℕ, suc, ◌%◌, ◌<◌, Bool, true, false, List, [], ◌∷◌, ◌++◌, length, drop, map}
use Rattle.std.proofs.Common.{nat_lt, ◌⊎◌, inl, inr, Option, Some, None, refl, sym, ap, ap₂, ◌∙◌, subst, lt-ltb}
use Rattle.std.specs.Prelude.{if◌then◌else◌}
use Rattle.std.proofs.lemmas.Bool.{cases_eq, cases_Bool, true≢false}
use Rattle.std.proofs.lemmas.List.{append-nil}
use Rattle.messages.specs.declared.message.Request.{Request}
use Rattle.messages.specs.declared.message.Reply.{Reply}
use Rattle.messages.specs.declared.message.Record.{Record}
use Rattle.messages.specs.declared.moves.UpMove.TheVariants as up
use Rattle.messages.specs.declared.moves.DownMove.TheVariants as down
use Rattle.messages.specs.Places.{put, put2, In}
use Rattle.messages.specs.Queues.{Combination, combination, unmarked, records_of, records_but, answers}
use Rattle.messages.specs.Network.{Sizes, wires, Net, put_requests, put_records, put_replies}
use Rattle.messages.specs.Naming.{Unnamed}
use Rattle.messages.specs.Moves.{accepted, up_from, moved_up, push_all, has_room, answered, down_from}
use Rattle.messages.specs.Moves.{moved_down, injected, module_taken, module_replied, port_taken}
use Rattle.omega_wires.specs.Wires.{wire_after, wire_before}
use Rattle.omega_wires.proofs.Lemmas.{path_zero}
use Rattle.machine_theory.specs.network_theory.Roles.{Role, Idle, Asking, Replying}
use Rattle.messages.proofs.Lemmas.{In-append_right, In-put2, Joins, combination_joins, put_other, put_same}
use Rattle.machine_theory.proofs.Lemmas.network_theory.{pop_request_unnamed}
use Rattle.machine_theory.specs.serialization.Program.{Kind, Rests, Alone, Refers, word_of, path_of}
use Rattle.machine_theory.specs.serialization.Machine.{Machine, Turn, Up, Serve, Down, Poke, retire_from, issue, advance, begin, turned, step, IsIdle}
use Rattle.machine_theory.specs.serialization.Steadiness.{Steady}
use Rattle.machine_theory.specs.serialization.Draining.{least, greatest, is_any, some_wire, first_wire, or_else, down_step, up_step, drain_step}
use Rattle.machine_theory.proofs.Lemmas.serialization.{LeastIs, goes_step, idle_names_none, least_is}
use Rattle.machine_theory.specs.serialization.Order.{passed_by, pass, from_machine}
use Rattle.machine_theory.specs.Theory.{Program, Step, Result, stalled, went_up, went_down, serve_from}
use Rattle.machine_theory.specs.Order.{Passed}

-- ---- the step that a drain takes next

-- The step is no poke, and a turn only of a processor with a reply on its wire.
abbrev pub Named : {Core : Type 0} → Machine Core → Step → Type 0
Named M (Turn q) = is_any (M.net.replies 0 q) ≡ true
Named M (Poke q) = ⊥
Named M (Up s w) = Unit {0}
Named M (Serve m) = Unit {0}
Named M (Down s w) = Unit {0}

abbrev AllNamed : {Core : Type 0} → Machine Core → Option Step → Type 0
AllNamed M None = Unit {0}
AllNamed M (Some st) = Named M st

module _ (Core : Type 0) (M : Machine Core) where
  first_named : {X : Type 0} (at : ℕ → List X) (n : ℕ) (go : ℕ → Step) → ((w : ℕ) → is_any (at w) ≡ true → Named M (go w)) → AllNamed M (first_wire at n go)
  first_named {X} at n go h = by (least (λ w. is_any (at w)) n) (least_is (λ w. is_any (at w)) n)
    where
      by : (o : Option ℕ) → LeastIs (λ w. is_any (at w)) n o → AllNamed M (elim o [ Some w ↦ Some (go w) | None ↦ None ])
      by None l = tt
      by (Some w) l = h w l.passes

  or_named : (a b : Option Step) → AllNamed M a → AllNamed M b → AllNamed M (or_else a b)
  or_named None b h g = g
  or_named (Some st) b h g = h

  down_named : (z : Sizes) (o : Option ℕ) → AllNamed M (elim o [ Some s ↦ first_wire (M.net.replies (suc s)) (wires z) (Down s) | None ↦ None ])
  down_named z None = tt
  down_named z (Some s) = first_named (M.net.replies (suc s)) (wires z) (Down s) (λ w e. tt)

  up_named : (z : Sizes) (o : Option ℕ) → AllNamed M (elim o [ Some s ↦ first_wire (M.net.requests s) (wires z) (Up s) | None ↦ None ])
  up_named z None = tt
  up_named z (Some s) = first_named (M.net.requests s) (wires z) (Up s) (λ w e. tt)

  all_named : (z : Sizes) → AllNamed M (drain_step z M)
  all_named z =
      or_named (first_wire (M.net.replies 0) (wires z) Turn)
      (or_else (down_step z M.net) (or_else (first_wire (M.net.requests z.k) (wires z) Serve) (up_step z M.net)))
      (first_named (M.net.replies 0) (wires z) Turn (λ w e. e))
      (or_named (down_step z M.net) (or_else (first_wire (M.net.requests z.k) (wires z) Serve) (up_step z M.net))
      (down_named z (least (λ s. some_wire (M.net.replies (suc s)) (wires z)) z.k))
      (or_named (first_wire (M.net.requests z.k) (wires z) Serve) (up_step z M.net)
      (first_named (M.net.requests z.k) (wires z) Serve (λ w e. tt))
      (up_named z (greatest (λ s. some_wire (M.net.requests s) (wires z)) z.k))))

  -- The next step of a drain is no poke, and a turn only if its processor has a reply on its wire.
  pub drain_named : (z : Sizes) (st : Step) → drain_step z M ≡ Some st → Named M st
  drain_named z st e = subst (AllNamed M) e (all_named z)

-- ---- a turn when no reference is open

-- The turn stalls, is an advance, or sends a request.
abbrev pub FirstTurn : {Core : Type 0} → Sizes → Program Core → Machine Core → ℕ → Type 0
FirstTurn z P M p =
    ((step z P M (Turn p) ≡ stalled M) × ((nat_lt p (wires z) ≡ false) ⊎ (P.kind p (M.core p) ≡ Rests)))
    ⊎ ((step z P M (Turn p) ≡ advance P M p) ⊎ (step z P M (Turn p) ≡ issue P M p))

-- If a processor has no reference open, its turn stalls, is an advance, or sends a request.
pub first_turn : {Core : Type 0} → (z : Sizes) (P : Program Core) (M : Machine Core) (p : ℕ) → M.is_open p ≡ false → FirstTurn z P M p
first_turn {Core} z P M p shut = by (nat_lt p (wires z)) refl (P.kind p (M.core p)) refl
  where
    within : (k : Kind) → nat_lt p (wires z) ≡ true → P.kind p (M.core p) ≡ k → step z P M (Turn p) ≡ begin P M p k
    within k l e = ap (λ b. if b then turned P M p (M.is_open p) else stalled M) l ∙ ap (turned P M p) shut ∙ ap (begin P M p) e

    by : (b : Bool) → nat_lt p (wires z) ≡ b → (k : Kind) → P.kind p (M.core p) ≡ k → FirstTurn z P M p
    by false l k e = inl (ap (λ b. if b then turned P M p (M.is_open p) else stalled M) l, inl l)
    by true l Rests e = inl (within Rests l e, inr e)
    by true l Alone e = inr (inl (within Alone l e))
    by true l Refers e = inr (inr (within Refers l e))

-- ---- a reference alone

module _ (Core : Type 0) (z : Sizes) (P : Program Core) (p : ℕ) where
  -- p's request is on its way: there is no reply yet, and the order is empty
  pub record IsAsking (h : Passed Core) : Type 0 where
    -- p has a reference open
    pub opened : h.machine.is_open p ≡ true
    -- no reply is in the network
    pub no_reply : (d w : ℕ) (y : Reply) → In y (h.machine.net.replies d w) → ⊥
    -- p waits in its own group, and no other waits
    pub group : h.group ≡ put {X = List ℕ} (λ q. []) p (p ∷ [])
    -- the order has no entry
    pub order : h.order ≡ []

  -- p's request was served: there is no request any more, and the order is p's entry
  pub record IsAnswered (h : Passed Core) : Type 0 where
    -- no request is in the network
    pub no_request : (d w : ℕ) (x : Request) → In x (h.machine.net.requests d w) → ⊥
    -- the order is p's entry alone
    pub order : h.order ≡ P.entry.turn p ∷ []

  abbrev pub Stage : Passed Core → Type 0
  Stage h = IsAsking h ⊎ IsAnswered h

  abbrev pub OthersShut : Machine Core → Type 0
  OthersShut M = (q : ℕ) → (q ≡ p → ⊥) → M.is_open q ≡ false

  pub record IsLone (h : Passed Core) : Type 0 where
    -- the role of each processor
    pub role : ℕ → Role
    -- the machine is steady with these roles
    pub steady : Steady z P h.machine role
    -- no other processor has a reference open
    pub others : OthersShut h.machine
    -- p's request is on its way, or was served
    pub stage : Stage h

  -- ---- it begins

  -- If no reference is open and p's turn sends a request, p's reference is alone after it.
  pub starts : (M : Machine Core) (role : ℕ → Role) → Steady z P M role → ((q : ℕ) → M.is_open q ≡ false) → step z P M (Turn p) ≡ issue P M p →
      IsLone (pass z P (from_machine M) (Turn p))
  unfolding injected
  starts M role ok shut e =
      let g = goes_step z P M role (Turn p) ok in
      record {
        role = g.0;
        steady = g.1;
        others = subst (λ (r : Result Core). OthersShut r.machine) (sym e) (λ q n. put_other M.is_open p true q n ∙ shut q);
        stage = subst (λ (r : Result Core). Stage (passed_by P.entry (from_machine M) r)) (sym e) (inl (record {
          opened = put_same M.is_open p true;
          no_reply = λ d w y m. (let c : Replying d ≡ Idle = sym (ok.placed.replies d w y m).replying ∙ (ok.shut y.leader).0 (shut y.leader) in cc);
          group = refl;
          order = refl;
        }));
      }

  module _ (h : Passed Core) (lone : IsLone h) where
    abbrev M : Machine Core
    M = h.machine

    -- ---- each message is p's

    is_p : (q : ℕ) (r : Role) → lone.role q ≡ r → (r ≡ Idle → ⊥) → q ≡ p
    is_p q r e n = elim (cases_eq q p) [ inl same ↦ same | inr other ↦ absurd (n (sym e ∙ (lone.steady.shut q).0 (lone.others q other))) ]

    leads_request : (d w : ℕ) (x : Request) → In x (M.net.requests d w) → x.leader ≡ p
    leads_request d w x m = is_p x.leader (Asking d) (lone.steady.placed.requests d w x m).asks (λ c. cc)

    -- After the one request is taken, none is left.
    none_left : (d w : ℕ) (x : Request) (rest : List Request) → M.net.requests d w ≡ x ∷ rest → (d' w' : ℕ) (b : Request) →
        In b (put2 M.net.requests d w rest d' w') → ⊥
    none_left d w x rest e d' w' b m =
        let free : Unnamed (put_requests M.net d w rest) x.leader =
        pop_request_unnamed z.k (path_of z P M.core) lone.role M.net d w x rest lone.steady.placed e in
        let here : In x (M.net.requests d w) = subst (In x) (sym e) (inl refl) in
        let old : In b (M.net.requests d' w') = elim (In-put2 M.net.requests d w rest d' w' b m) [ inl g ↦ rw (g.0, g.1, e) (inr g.2) | inr g ↦ g.1 ] in
        free.requests d' w' b m (leads_request d' w' b old ∙ sym (leads_request d w x here))

    -- ---- a step that is no turn

    abbrev Fine : Result Core → Type 0
    Fine r = (r.machine.is_open ≡ M.is_open) × Stage (passed_by P.entry h r)

    still : Fine (stalled M)
    still = (refl, by lone.stage)
      where
        by : Stage h → Stage (passed_by P.entry h (stalled M))
        by (inl a) = inl (record { opened = a.opened; no_reply = a.no_reply; group = a.group; order = append-nil h.order ∙ a.order })
        by (inr b) = inr (record { no_request = b.no_request; order = append-nil h.order ∙ b.order })

    either : (b : Bool) (r : Result Core) → Fine r → Fine (if b then r else stalled M)
    either true r f = f
    either false r f = still

    queued_fine : IsAsking h → (b : Bool) (net : Net) → net.replies ≡ M.net.replies → Fine (went_up M (if b then (up.Moved, net) else (up.Stalled, M.net)))
    queued_fine a false net same = still
    queued_fine a true net same = (
      refl,
      inl (record {
        opened = a.opened;
        no_reply = λ d w y m. a.no_reply d w y (subst (λ (f : ℕ → ℕ → List Reply). In y (f d w)) same m);
        group = a.group;
        order = append-nil h.order ∙ a.order;
      }),
    )

    goes_up : (s w : ℕ) (xs : List Request) → M.net.requests s w ≡ xs → Fine (went_up M (up_from z M.net s w xs))
    goes_up s w [] e = still
    goes_up s w (x ∷ rest) e = by lone.stage
      where
        joins : (v : ℕ) → IsAsking h → (o : Option Combination) →
            ((j : Combination) → o ≡ Some j → Joins z.r x ((put_requests M.net s w rest).requests (suc s) v) j) →
            Fine (went_up M (accepted z M.net (put_requests M.net s w rest) s v x o))
        joins v a None f =
            queued_fine a (nat_lt (length ((put_requests M.net s w rest).requests (suc s) v)) z.c)
            (put_requests (put_requests M.net s w rest) (suc s) v ((put_requests M.net s w rest).requests (suc s) v ++ unmarked x ∷ [])) refl
        joins v a (Some j) f =
            let J = f j refl in
            absurd (none_left s w x rest e (suc s) v J.entry (subst (In J.entry) (sym J.was) (In-append_right J.entry J.front (J.entry ∷ J.behind) (inl refl))))

        by : Stage h → Fine (went_up M (up_from z M.net s w (x ∷ rest)))
        by (inl a) =
            let v : ℕ = wire_after z.k s w (x.word % wires z) in
            joins v a (combination z.b z.r x ((put_requests M.net s w rest).requests (suc s) v) (M.net.records s v))
            (λ j f. combination_joins z.b z.r x ((put_requests M.net s w rest).requests (suc s) v) (M.net.records s v) j f)
        by (inr b) = absurd (b.no_request s w x (subst (In x) (sym e) (inl refl)))

    up_fine : (s w : ℕ) → Fine (step z P M (Up s w))
    unfolding moved_up
    up_fine s w = either (nat_lt w (wires z)) (went_up M (moved_up z M.net s w)) (by (nat_lt s z.k))
      where
        by : (b : Bool) → Fine (went_up M (if b then up_from z M.net s w (M.net.requests s w) else (up.Stalled, M.net)))
        by true = goes_up s w (M.net.requests s w) refl
        by false = still

    kept_requests : (wire : ℕ → ℕ) (s : ℕ) (ys : List Reply) (net : Net) → (push_all wire s ys net).requests ≡ net.requests
    unfolding push_all
    kept_requests wire s [] net = refl
    kept_requests wire s (y ∷ ys) net = kept_requests wire s ys (put_replies net s (wire y.leader) (net.replies s (wire y.leader) ++ y ∷ []))

    answered_stage : IsAnswered h → (net : Net) → net.requests ≡ M.net.requests → (d w : ℕ) (x : Request) → In x (net.requests d w) → ⊥
    answered_stage b net same d w x m = b.no_request d w x (subst (λ (f : ℕ → ℕ → List Request). In x (f d w)) same m)

    answered_fine : IsAnswered h → (rs : List Record) (net : Net) → net.requests ≡ M.net.requests → Fine (went_down M (answered rs, net))
    answered_fine b [] net same = (refl, inr (record { no_request = answered_stage b net same; order = append-nil h.order ∙ b.order }))
    answered_fine b (r ∷ rs) net same = (refl, inr (record { no_request = answered_stage b net same; order = append-nil h.order ∙ b.order }))

    goes_down : (s w : ℕ) (xs : List Reply) → M.net.replies (suc s) w ≡ xs → Fine (went_down M (down_from z M.net s w xs))
    goes_down s w [] e = still
    goes_down s w (x ∷ rest) e = by lone.stage
      where
        room : IsAnswered h → (b : Bool) (rs : List Record) (net : Net) → net.requests ≡ M.net.requests →
            Fine (went_down M (if b then (answered rs, net) else (down.Stalled, M.net)))
        room a true rs net same = answered_fine a rs net same
        room a false rs net same = still

        by : Stage h → Fine (went_down M (down_from z M.net s w (x ∷ rest)))
        by (inl a) = absurd (a.no_reply (suc s) w x (subst (In x) (sym e) (inl refl)))
        by (inr b) =
            let rs : List Record = records_of x.leader (M.net.records s w) in
            let net2 : Net = put_records (put_replies M.net (suc s) w rest) s w (records_but x.leader (M.net.records s w)) in
            let net3 : Net = push_all (wire_before z.k s w) s (answers rs x) net2 in
            room b (has_room z.c (wire_before z.k s w) s net3 (answers rs x)) rs net3 (kept_requests (wire_before z.k s w) s (answers rs x) net2)

    down_fine : (s w : ℕ) → Fine (step z P M (Down s w))
    unfolding moved_down
    down_fine s w = either (nat_lt w (wires z)) (went_down M (moved_down z M.net s w)) (by (nat_lt s z.k))
      where
        by : (b : Bool) → Fine (went_down M (if b then down_from z M.net s w (M.net.replies (suc s) w) else (down.Stalled, M.net)))
        by true = goes_down s w (M.net.replies (suc s) w) refl
        by false = still

    served_fine : (m : ℕ) (x : Request) (rest : List Request) → M.net.requests z.k m ≡ x ∷ rest → IsAsking h → Fine (serve_from z M m (x ∷ rest) [])
    unfolding module_taken module_replied
    served_fine m x rest e a =
        let taken : M.net.requests z.k m ≡ x ∷ drop 1 (M.net.requests z.k m) = e ∙ ap (λ xs. x ∷ xs) (sym (ap (drop 1) e)) in
        let here : In x (M.net.requests z.k m) = subst (In x) (sym e) (inl refl) in (
          refl,
          inr (record {
            no_request = λ d w b i. none_left z.k m x (drop 1 (M.net.requests z.k m)) taken d w b i;
            order = ap₂ (λ es g. es ++ map P.entry.turn g) a.order
                (ap (λ (f : ℕ → List ℕ). f x.leader) a.group ∙ ap (put {X = List ℕ} (λ q. []) p (p ∷ [])) (leads_request z.k m x here)
                ∙ put_same {X = List ℕ} (λ q. []) p (p ∷ []));
          }),
        )

    serves : (m : ℕ) (xs : List Request) → M.net.requests z.k m ≡ xs → (ys : List Reply) → Fine (serve_from z M m xs ys)
    serves m [] e ys = still
    serves m (x ∷ rest) e (y ∷ ys) = still
    serves m (x ∷ rest) e [] = by lone.stage
      where
        by : Stage h → Fine (serve_from z M m (x ∷ rest) [])
        by (inl a) = served_fine m x rest e a
        by (inr b) = absurd (b.no_request z.k m x (subst (In x) (sym e) (inl refl)))

    serve_fine : (m : ℕ) → Fine (step z P M (Serve m))
    serve_fine m = either (nat_lt m (wires z)) (serve_from z M m (M.net.requests z.k m) (M.net.replies z.k m))
        (serves m (M.net.requests z.k m) refl (M.net.replies z.k m))

    -- ---- p's turn

    -- The reply on a wire is p's, and p retires.
    pub record Retires (q : ℕ) (r : Result Core) : Type 0 where
      -- the turn is p's
      pub is : q ≡ p
      -- no other processor has a reference open after it
      pub others : OthersShut r.machine
      -- and p has none
      pub shut : r.machine.is_open p ≡ false
      -- p's request is on its way, or was served
      pub stage : Stage (passed_by P.entry h r)

    taken_stage : (q : ℕ) (y : Reply) (ys : List Reply) → IsAnswered h → Stage (passed_by P.entry h (retire_from P M q (y ∷ ys)))
    unfolding port_taken
    taken_stage q y ys b = inr (record { no_request = b.no_request; order = append-nil h.order ∙ b.order })

    turn_retires : (q : ℕ) (ys : List Reply) → M.net.replies 0 q ≡ ys → is_any ys ≡ true → Retires q (step z P M (Turn q))
    turn_retires q [] e any = absurd (true≢false (sym any))
    turn_retires q (y ∷ ys) e any = subst (Retires q) (sym taken) (record {
      is = is;
      others = λ i n. put_other M.is_open q false i (λ f. n (f ∙ is)) ∙ lone.others i n;
      shut = subst (λ i. put M.is_open q false i ≡ false) is (put_same M.is_open q false);
      stage = by lone.stage;
    })
      where
        here : In y (M.net.replies 0 q)
        here = subst (In y) (sym e) (inl refl)

        replying : lone.role q ≡ Replying 0
        replying =
            let at = lone.steady.placed.replies 0 q y here in
            let leads : y.leader ≡ q = sym (path_zero z.k y.leader (word_of P M.core y.leader % wires z)) ∙ at.wire in
            ap lone.role (sym leads) ∙ at.replying

        is : q ≡ p
        is = is_p q (Replying 0) replying (λ c. cc)

        within : q < wires z
        within = elim (lone.steady.small q) [ inl i ↦ absurd (let c : Replying 0 ≡ Idle = sym replying ∙ i in cc) | inr l ↦ l ]

        opened : M.is_open q ≡ true
        opened = elim (cases_Bool (M.is_open q)) [ inl o ↦ o | inr c ↦ absurd (let c : Replying 0 ≡ Idle = sym replying ∙ (lone.steady.shut q).0 c in cc) ]

        taken : step z P M (Turn q) ≡ retire_from P M q (y ∷ ys)
        taken = ap (λ b. if b then turned P M q (M.is_open q) else stalled M) (lt-ltb q (wires z) within) ∙ ap (turned P M q) opened ∙ ap (retire_from P M q) e

        by : Stage h → Stage (passed_by P.entry h (retire_from P M q (y ∷ ys)))
        by (inl a) = absurd (a.no_reply 0 q y here)
        by (inr b) = taken_stage q y ys b

    -- ---- each step of a drain

    abbrev pub After : Step → Type 0
    After (Turn q) = (q ≡ p) × ((pass z P h (Turn q)).machine.is_open p ≡ false)
    After (Poke q) = ⊥
    After (Up s w) = (pass z P h (Up s w)).machine.is_open p ≡ M.is_open p
    After (Serve m) = (pass z P h (Serve m)).machine.is_open p ≡ M.is_open p
    After (Down s w) = (pass z P h (Down s w)).machine.is_open p ≡ M.is_open p

    fine_kept : (st : Step) → Fine (step z P M st) → IsLone (pass z P h st)
    fine_kept st f =
        let g = goes_step z P M lone.role st lone.steady in
        record { role = g.0; steady = g.1; others = λ q n. ap (λ (b : ℕ → Bool). b q) f.0 ∙ lone.others q n; stage = f.1 }

    kept : (st : Step) → Named M st → IsLone (pass z P h st) × After st
    kept (Turn q) named =
        let g = goes_step z P M lone.role (Turn q) lone.steady in
        let r = turn_retires q (M.net.replies 0 q) refl named in
        (record { role = g.0; steady = g.1; others = r.others; stage = r.stage }, (r.is, r.shut))
    kept (Poke q) named = absurd named
    kept (Up s w) named = (fine_kept (Up s w) (up_fine s w), ap (λ (b : ℕ → Bool). b p) (up_fine s w).0)
    kept (Serve m) named = (fine_kept (Serve m) (serve_fine m), ap (λ (b : ℕ → Bool). b p) (serve_fine m).0)
    kept (Down s w) named = (fine_kept (Down s w) (down_fine s w), ap (λ (b : ℕ → Bool). b p) (down_fine s w).0)

    -- After the next step of a drain, p's reference is still the only one, and only p's own turn closes it.
    pub goes_on : (st : Step) → drain_step z M ≡ Some st → IsLone (pass z P h st) × After st
    goes_on st e = kept st (drain_named Core M z st e)

    -- If a drain has a next step, p is open.
    pub is_open_yet : (st : Step) → drain_step z M ≡ Some st → M.is_open p ≡ true
    is_open_yet st e = elim (cases_Bool (M.is_open p)) [ inl o ↦ o | inr shut ↦ absurd (no_more shut) ]
      where
        no_more : M.is_open p ≡ false → ⊥
        no_more shut =
            let idle : IsIdle z M = (λ q within. elim (cases_eq q p) [ inl same ↦ ap M.is_open same ∙ shut | inr other ↦ lone.others q other ]) in
            let none : Some st ≡ None = sym e ∙ idle_names_none z P M lone.role lone.steady idle in
            cc
