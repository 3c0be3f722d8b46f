-- A look through the pool and the switches finds whether a message or a record names a processor.
use Rattle.std.proofs.Common.{◌≡◌, ℕ, zero, suc, ◌+◌, ◌*◌, ◌/◌, ◌%◌, ◌^◌, ◌<◌, ◌≤◌, Bool, true, false, ◌||◌, List}
use Rattle.std.proofs.Common.{[], ◌∷◌, length, map, get_or, ◌⊎◌, inl, inr, refl, sym, ap, ◌∙◌, subst, arith}
use Rattle.std.specs.List.{list_any}
use Rattle.std.proofs.lemmas.Bool.{cases_eq, cases_lt}
use Rattle.std.proofs.lemmas.List.{get_or_past}
use Rattle.messages.specs.declared.message.Request.{Request}
use Rattle.messages.specs.declared.message.Reply.{Reply}
use Rattle.messages.specs.declared.message.Record.{Record}
use Rattle.messages.specs.Places.{In}
use Rattle.messages.proofs.Lemmas.{In-map}
use Rattle.combining_switch.specs.Pools.{IsFree, leader_of_reply, leader_of_request, replies_at, requests_at}
use Rattle.combining_switch.specs.Switches.{SwitchState, records_at}
use Rattle.omega_network.specs.Networks.{IsNetwork, NetworkLists, half, no_switch, on_wire, place, records_after, replies_before, requests_before, switch_at}
use Rattle.omega_network.proofs.Changes.{at_queue, at_reply_queue, inside, outside}
use Rattle.omega_network.proofs.Empty.{at_number, on_a_wire, place_of}

-- ---- messages

module _ {X : Type 0} (f : X → ℕ) (p : ℕ) where
  one_led : (xs : List X) → ((x : X) × In x xs × (f x ≡ p)) ⊎ (In p (map f xs) → ⊥)
  one_led [] = inr (λ m. m)
  one_led (x ∷ xs) = go (cases_eq (f x) p) (one_led xs)
    where
      go : (f x ≡ p) ⊎ (f x ≡ p → ⊥) → ((y : X) × In y xs × (f y ≡ p)) ⊎ (In p (map f xs) → ⊥) →
          ((y : X) × In y (x ∷ xs) × (f y ≡ p)) ⊎ (In p (map f (x ∷ xs)) → ⊥)
      go (inl e) rest = inl (x, inl refl, e)
      go (inr n) (inl h) = inl (h.0, inr h.1, h.2)
      go (inr n) (inr none) = inr (λ m. elim m [ inl e ↦ n (sym e) | inr o ↦ none o ])

  led_in : (queues : List (List X)) → ((q : ℕ) × (x : X) × In x (get_or queues q []) × (f x ≡ p)) ⊎ ((q : ℕ) → In p (map f (get_or queues q [])) → ⊥)
  led_in [] = inr (λ q m. m)
  led_in (xs ∷ queues) = go (one_led xs) (led_in queues)
    where
      none_of : (In p (map f xs) → ⊥) → ((q : ℕ) → In p (map f (get_or queues q [])) → ⊥) → (q : ℕ) → In p (map f (get_or (xs ∷ queues) q [])) → ⊥
      none_of here later zero m = here m
      none_of here later (suc q) m = later q m

      go : ((x : X) × In x xs × (f x ≡ p)) ⊎ (In p (map f xs) → ⊥)
          → ((q : ℕ) × (x : X) × In x (get_or queues q []) × (f x ≡ p)) ⊎ ((q : ℕ) → In p (map f (get_or queues q [])) → ⊥)
          → ((q : ℕ) × (x : X) × In x (get_or (xs ∷ queues) q []) × (f x ≡ p)) ⊎ ((q : ℕ) → In p (map f (get_or (xs ∷ queues) q [])) → ⊥)
      go (inl h) rest = inl (0, h.0, h.1, h.2)
      go (inr here) (inl h) = inl (suc h.0, h.1, h.2, h.3)
      go (inr here) (inr later) = inr (none_of here later)

-- A message on a wire is in the queue of the wire.
in_queue : {X : Type 0} (k w : ℕ) (xs : List X) (x : X) → In x (on_wire k w xs) → In x xs
in_queue k w xs x m = go (cases_lt w (2 ^ k))
  where
    go : (w < 2 ^ k) ⊎ (2 ^ k ≤ w) → In x xs
    go (inl l) = subst (In x) (inside k w xs l) m
    go (inr past) = absurd (subst (In x) (outside k w xs past) m)

-- The processor leads a request or a reply.
pub data Leads (n : NetworkLists) (p : ℕ) : Type 0 where
  by_request : (d w : ℕ) (x : Request) → In x (requests_before n d w) → x.leader ≡ p → Leads n p
  by_reply : (d w : ℕ) (y : Reply) → In y (replies_before n d w) → y.leader ≡ p → Leads n p

-- A processor leads a message of the network, or its cell in the pool is free.
pub leads_or_free : (n : NetworkLists) (p : ℕ) → Leads n p ⊎ IsFree n.pool p
leads_or_free n p = go (led_in leader_of_request p n.pool.requests) (led_in leader_of_reply p n.pool.replies)
  where
    go : ((q : ℕ) × (x : Request) × In x (get_or n.pool.requests q []) × (x.leader ≡ p)) ⊎
        ((q : ℕ) → In p (map leader_of_request (get_or n.pool.requests q [])) → ⊥)
        → ((q : ℕ) × (y : Reply) × In y (get_or n.pool.replies q []) × (y.leader ≡ p)) ⊎ ((q : ℕ) → In p (map leader_of_reply (get_or n.pool.replies q [])) → ⊥)
        → Leads n p ⊎ IsFree n.pool p
    go (inl h) rest = inl (by_request (h.0 / 2 ^ n.k) (h.0 % 2 ^ n.k) h.1
        (subst (In h.1) (ap (requests_at n.pool) (sym (place_of n.k h.0)) ∙ sym (at_queue n (h.0 / 2 ^ n.k) (h.0 % 2 ^ n.k) (on_a_wire n.k h.0))) h.2) h.3)
    go (inr a) (inl h) = inl (by_reply (h.0 / 2 ^ n.k) (h.0 % 2 ^ n.k) h.1
        (subst (In h.1) (ap (replies_at n.pool) (sym (place_of n.k h.0)) ∙ sym (at_reply_queue n (h.0 / 2 ^ n.k) (h.0 % 2 ^ n.k) (on_a_wire n.k h.0))) h.2) h.3)
    go (inr a) (inr b) = inr (record { no_request = a; no_reply = b })

-- A processor whose cell is free leads no message of the network.
pub free_leads_none : (n : NetworkLists) (p : ℕ) → IsFree n.pool p → Leads n p → ⊥
unfolding requests_before replies_before
free_leads_none n p free (by_request d w x m e) =
    free.no_request (place n.k d w) (subst (λ q. In q (map leader_of_request (requests_at n.pool (place n.k d w)))) e
    (In-map leader_of_request x (requests_at n.pool (place n.k d w)) (in_queue n.k w (requests_at n.pool (place n.k d w)) x m)))
free_leads_none n p free (by_reply d w y m e) =
    free.no_reply (place n.k d w) (subst (λ q. In q (map leader_of_reply (replies_at n.pool (place n.k d w)))) e
    (In-map leader_of_reply y (replies_at n.pool (place n.k d w)) (in_queue n.k w (replies_at n.pool (place n.k d w)) y m)))

-- ---- records

any_in : {X : Type 0} (f : X → Bool) (xs : List X) → list_any f xs ≡ true → (x : X) × In x xs × (f x ≡ true)
any_in f [] e = absurd (let no : false ≡ true = e in cc)
any_in {X} f (x ∷ xs) e = go (any_in f xs) (f x) refl e
  where
    go : (list_any f xs ≡ true → (y : X) × In y xs × (f y ≡ true)) → (b : Bool) → f x ≡ b → (b || list_any f xs) ≡ true → (y : X) × In y (x ∷ xs) × (f y ≡ true)
    go rest true is h = (x, inl refl, is)
    go rest false is h = let r = rest h in (r.0, inr r.1, r.2)

in_any : {X : Type 0} (f : X → Bool) (xs : List X) (x : X) → In x xs → f x ≡ true → list_any f xs ≡ true
in_any f [] x m e = elim m [ ]
in_any f (y ∷ ys) x (inl s) e = ap (λ b. b || list_any f ys) (ap f (sym s) ∙ e)
in_any f (y ∷ ys) x (inr m) e = ap (λ b. f y || b) (in_any f ys x m e) ∙ or_true (f y)
  where
    or_true : (b : Bool) → (b || true) ≡ true
    or_true true = refl
    or_true false = refl

either : (a b : Bool) → (a || b) ≡ true → (a ≡ true) ⊎ (b ≡ true)
either true b e = inl refl
either false b e = inr e

-- A switch of a list is at some place of it.
stands_at : (switches : List SwitchState) (t : SwitchState) → In t switches → (j : ℕ) × (j < length switches) × (get_or switches j no_switch ≡ t)
stands_at [] t m = elim m [ ]
stands_at (u ∷ us) t (inl e) = (0, omega arith, sym e)
stands_at (u ∷ us) t (inr m) = let h = stands_at us t m in let l = h.1 in (suc h.0, omega arith, h.2)

stands_in : (switches : List SwitchState) (j : ℕ) → j < length switches → In (get_or switches j no_switch) switches
stands_in [] j l = absurd (omega arith)
stands_in (u ∷ us) zero l = inl refl
stands_in (u ∷ us) (suc j) l = inr (stands_in us j (omega arith))

module _ (n : NetworkLists) (is : IsNetwork n) (f : Record → Bool) where
  abbrev at_one : SwitchState → Bool
  at_one t = list_any f (records_at t 0) || list_any f (records_at t 1)

  -- If the look through the switches finds a record that passes a test, one is at some output of the network.
  pub record_seen : list_any (λ t. list_any f (records_at t 0) || list_any f (records_at t 1)) n.switches ≡ true
      → (s w : ℕ) × (e : Record) × In e (records_after n s w) × (f e ≡ true)
  record_seen fact =
      let h = any_in at_one n.switches fact in
      let at = stands_at n.switches h.0 h.1 in
      go at.0 at.1 h.0 at.2 (either (list_any f (records_at h.0 0)) (list_any f (records_at h.0 1)) h.2)
    where
      there : (j : ℕ) → j < length n.switches → (t : SwitchState) → get_or n.switches j no_switch ≡ t → (v : ℕ) → v < 2 → list_any f (records_at t v) ≡ true
          → (s w : ℕ) × (e : Record) × In e (records_after n s w) × (f e ≡ true)
      there j l t e v two any =
          let r = any_in f (records_at t v) any in (
            j / half n.k,
            2 * (j % half n.k) + v,
            r.0,
            subst (In r.0) (ap (λ (u : SwitchState). records_at u v) (sym e) ∙ at_number n is j l no_switch v two)
                r.1,
            r.2,
          )

      go : (j : ℕ) → j < length n.switches → (t : SwitchState) → get_or n.switches j no_switch ≡ t
          → (list_any f (records_at t 0) ≡ true) ⊎ (list_any f (records_at t 1) ≡ true)
          → (s w : ℕ) × (e : Record) × In e (records_after n s w) × (f e ≡ true)
      go j l t e (inl a) = there j l t e 0 (omega arith) a
      go j l t e (inr a) = there j l t e 1 (omega arith) a

  -- If a record at some output of the network passes a test, the look through the switches finds one.
  pub seen_record : (s w : ℕ) (e : Record) → In e (records_after n s w) → f e ≡ true
      → list_any (λ t. list_any f (records_at t 0) || list_any f (records_at t 1)) n.switches ≡ true
  unfolding records_after
  seen_record s w e m holds = go (cases_lt (s * half n.k + w / 2) (length n.switches))
    where
      here : In e (records_at (switch_at n s (w / 2)) (w % 2))
      here = in_queue n.k w (records_at (switch_at n s (w / 2)) (w % 2)) e m

      fact : (v : ℕ) → v < 2 → In e (records_at (switch_at n s (w / 2)) v) → at_one (switch_at n s (w / 2)) ≡ true
      fact zero l o = ap (λ b. b || list_any f (records_at (switch_at n s (w / 2)) 1)) (in_any f (records_at (switch_at n s (w / 2)) 0) e o holds)
      fact (suc zero) l o = ap (λ b. list_any f (records_at (switch_at n s (w / 2)) 0) || b) (in_any f (records_at (switch_at n s (w / 2)) 1) e o holds)
          ∙ or_true (list_any f (records_at (switch_at n s (w / 2)) 0))
        where
          or_true : (b : Bool) → (b || true) ≡ true
          or_true true = refl
          or_true false = refl
      fact (suc (suc v)) l o = absurd (omega arith)

      none : (v : ℕ) → In e (records_at no_switch v) → ⊥
      none v o = o

      go : (s * half n.k + w / 2 < length n.switches) ⊎ (length n.switches ≤ s * half n.k + w / 2) → list_any at_one n.switches ≡ true
      go (inl l) = in_any at_one n.switches (switch_at n s (w / 2)) (stands_in n.switches (s * half n.k + w / 2) l) (fact (w % 2) (omega arith) here)
      go (inr past) = absurd (none (w % 2) (subst (λ (t : SwitchState). In e (records_at t (w % 2)))
          (get_or_past n.switches (s * half n.k + w / 2) no_switch past) here))
