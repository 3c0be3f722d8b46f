-- Each reference is served once, by the outcomes alone.
use Rattle.std.proofs.Common.{◌≡◌, ℕ, suc, ◌+◌, ◌≤◌, Bool, true, false, List, [], ◌∷◌, ◌++◌, length}
use Rattle.std.proofs.Common.{◌==◌, inl, inr, Option, Some, None, refl, sym, ap, ap₂, ◌∙◌, subst}
use Rattle.std.proofs.Common.{arith, eq-eqb, eqb-true, append-nil, append_assoc}
use Rattle.std.specs.Prelude.{if◌then◌else◌, ◌||◌}
use Rattle.std.proofs.lemmas.Bool.{cases_eq, cases_Bool, true≢false}
use Rattle.network_theory.specs.messages.Places.{put, In}
use Rattle.network_theory.specs.messages.Network.{Sizes}
use Rattle.serialization.specs.Program.{Program, Keeps}
use Rattle.serialization.specs.Machine.{Machine, Step, Outcome, Issued, Advanced, Retired, Moved, Combined, Served, Answered, Poked, Stalled, step}
use Rattle.serialization.specs.Order.{group_after, segment, served_from, served_after, Passed, pass, passes}
use Rattle.serialization.specs.Order.{from_machine, FlatMachine, flat_of, ran, outcomes, groups_after, serial_order}
use Rattle.network_theory.proofs.Lemmas.messages.{put_other, put_same}
use Rattle.serialization.specs.Serialization.{Begins, serves, times_served, IsRetirement, HasNotRetired, EachServedOnce, is_among}
use Rattle.serialization.proofs.Serial.{Follows, follows, follows_step, follows_passes}
use Rattle.serialization.proofs.Moments.{issues_by, retires_served, shut_unserved, unserved_of}

-- ---- runs and their outcomes

pub groups_by_outcomes : {Core Pokes Entry : Type 0} → (z : Sizes) (P : Program Core Pokes Entry) (steps : List (Step Pokes)) (h : Passed Core Entry)
    → (passes z P steps h).group ≡ groups_after h.group (outcomes z P steps h.machine)
unfolding passes outcomes groups_after
groups_by_outcomes z P [] h = refl
groups_by_outcomes z P (st ∷ sts) h = groups_by_outcomes z P sts (pass z P h st)

order_so_far : {Core Pokes Entry : Type 0} → (z : Sizes) (P : Program Core Pokes Entry) (steps : List (Step Pokes)) (h : Passed Core Entry)
    → (passes z P steps h).order ≡ h.order ++ serial_order P.entry h.group (outcomes z P steps h.machine)
unfolding passes outcomes serial_order
order_so_far z P [] h = sym (append-nil h.order)
order_so_far z P (st ∷ sts) h =
    let r = step z P h.machine st in
    order_so_far z P sts (pass z P h st)
    ∙ append_assoc h.order (segment P.entry h.group r.outcome) (serial_order P.entry (group_after h.group r.outcome) (outcomes z P sts r.machine))

-- The order of a run is the serial order of its outcomes.
pub order_by_outcomes : {Core Pokes Entry : Type 0} → (z : Sizes) (P : Program Core Pokes Entry) (M : Machine Core) (steps : List (Step Pokes))
    → (ran z P M steps).order ≡ serial_order P.entry (λ p. []) (outcomes z P steps M)
order_by_outcomes z P M steps = order_so_far z P steps (from_machine M)

groups_after-append : {Pokes : Type 0} → (group : ℕ → List ℕ) (os ps : List (Outcome Pokes))
    → groups_after group (os ++ ps) ≡ groups_after (groups_after group os) ps
unfolding groups_after
groups_after-append group [] ps = refl
groups_after-append group (o ∷ os) ps = groups_after-append (group_after group o) os ps

-- If the outcomes are cut in two, so are the steps.
pub record CutAt {Core Pokes Entry : Type 0} (z : Sizes) (P : Program Core Pokes Entry) (h : Passed Core Entry) (os ps : List (Outcome Pokes)) : Type 0 where
  pub front : List (Step Pokes)
  -- The steps of the outcomes after the cut.
  pub back : List (Step Pokes)
  pub front_is : outcomes z P front h.machine ≡ os
  pub back_is : outcomes z P back (passes z P front h).machine ≡ ps

cut : {Core Pokes Entry : Type 0}
    → (z : Sizes) (P : Program Core Pokes Entry) (h : Passed Core Entry) (steps : List (Step Pokes)) (os ps : List (Outcome Pokes))
    → outcomes z P steps h.machine ≡ os ++ ps → CutAt z P h os ps
unfolding outcomes passes
cut z P h steps [] ps e = record { front = []; back = steps; front_is = refl; back_is = e }
cut z P h [] (o ∷ os) ps e = absurd (cc)
cut z P h (st ∷ sts) (o ∷ os) ps e =
    let first : (step z P h.machine st).outcome ≡ o = cc in
    let later : outcomes z P sts (step z P h.machine st).machine ≡ os ++ ps = cc in
    let c = cut z P (pass z P h st) sts os ps later in
    record { front = st ∷ c.front; back = c.back; front_is = ap₂ (λ a b. a ∷ b) first c.front_is; back_is = c.back_is }

-- If there is an outcome, there is a first step.
pub record Begun {Core Pokes Entry : Type 0} (z : Sizes) (P : Program Core Pokes Entry) (h : Passed Core Entry) (o : Outcome Pokes)
    (os : List (Outcome Pokes)) : Type 0 where
  -- The step of the first outcome.
  pub first : Step Pokes
  -- The steps of the other outcomes.
  pub rest : List (Step Pokes)
  pub first_is : (step z P h.machine first).outcome ≡ o
  pub rest_is : outcomes z P rest (pass z P h first).machine ≡ os

begun : {Core Pokes Entry : Type 0}
    → (z : Sizes) (P : Program Core Pokes Entry) (h : Passed Core Entry) (steps : List (Step Pokes)) (o : Outcome Pokes) (os : List (Outcome Pokes))
    → outcomes z P steps h.machine ≡ o ∷ os → Begun z P h o os
unfolding outcomes
begun z P h [] o os e = absurd (cc)
begun z P h (st ∷ sts) o os e = record { first = st; rest = sts; first_is = cc; rest_is = cc }

-- ---- counting

-- 1 if there is a place, and otherwise 0
abbrev mark : Option ℕ → ℕ
mark None = 0
mark (Some i) = 1

among_in : (p : ℕ) (js : List ℕ) → is_among p js ≡ true → In p js
unfolding is_among
among_in p [] e = true≢false (sym e)
among_in p (j ∷ js) e = elim (cases_Bool (j == p)) [
  | inl s ↦ inl (sym (eqb-true j p s))
  | inr n ↦ inr (among_in p js (sym (ap (λ b. b || is_among p js) n) ∙ e))
]

still_marked : (p : ℕ) (js : List ℕ) (i : ℕ) (served : ℕ → Option ℕ) → mark (served p) ≡ 1 → mark (served_from i js served p) ≡ 1
unfolding served_from
still_marked p [] i served m = m
still_marked p (j ∷ js) i served m = still_marked p js (suc i) (put served j (Some i)) (elim (cases_eq p j) [
  | inl s ↦ ap mark (ap (put served j (Some i)) s ∙ put_same served j (Some i))
  | inr n ↦ ap mark (put_other served j (Some i) p n) ∙ m
])

served_among : (p : ℕ) (js : List ℕ) (i : ℕ) (served : ℕ → Option ℕ) → is_among p js ≡ true → mark (served_from i js served p) ≡ 1
unfolding served_from is_among
served_among p [] i served e = absurd (true≢false (sym e))
served_among p (j ∷ js) i served e = elim (cases_Bool (j == p)) [
  | inl s ↦ still_marked p js (suc i) (put served j (Some i)) (ap mark (ap (put served j (Some i)) (sym (eqb-true j p s)) ∙ put_same served j (Some i)))
  | inr n ↦ served_among p js (suc i) (put served j (Some i)) (sym (ap (λ b. b || is_among p js) n) ∙ e)
]

served_not_among : (p : ℕ) (js : List ℕ) (i : ℕ) (served : ℕ → Option ℕ) → is_among p js ≡ false → served_from i js served p ≡ served p
unfolding served_from is_among
served_not_among p [] i served e = refl
served_not_among p (j ∷ js) i served e = elim (cases_Bool (j == p)) [
  | inl s ↦ absurd (true≢false (sym (ap (λ b. b || is_among p js) s) ∙ e))
  | inr n ↦ served_not_among p js (suc i) (put served j (Some i)) (sym (ap (λ b. b || is_among p js) n) ∙ e)
      ∙ put_other served j (Some i) p (λ q. true≢false (sym (eq-eqb j p (sym q)) ∙ n))
]

-- A step that does not retire p either serves p or leaves its place as it was.
counts : {Pokes Entry : Type 0} → (group : ℕ → List ℕ) (order : List Entry) (served : ℕ → Option ℕ) (p : ℕ) (o : Outcome Pokes) → (IsRetirement p o → ⊥)
    → ((l : ℕ) → In p (group l) → served p ≡ None)
    → mark (served_after group order served o p) ≡ mark (served p) + serves group p o
counts group order served p (Retired q v) n h = ap mark (put_other served q None p (λ e. n (sym e))) ∙ omega arith
counts group order served p (Served l) n h = go (is_among p (group l)) refl
  where
    go : (b : Bool) → is_among p (group l) ≡ b → mark (served_from (length order) (group l) served p) ≡ mark (served p) + (if b then 1 else 0)
    go true e = served_among p (group l) (length order) served e ∙ sym (ap (λ o. mark o + 1) (h l (among_in p (group l) e)))
    go false e = ap mark (served_not_among p (group l) (length order) served e) ∙ omega arith
counts group order served p (Issued q) n h = omega arith
counts group order served p (Advanced q) n h = omega arith
counts group order served p Moved n h = omega arith
counts group order served p (Combined a b) n h = omega arith
counts group order served p (Answered a) n h = omega arith
counts group order served p (Poked q) n h = omega arith
counts group order served p Stalled n h = omega arith

counts_all : {Core Pokes Entry : Type 0}
    → (z : Sizes) (P : Program Core Pokes Entry) (good : ℕ → Core → Type 0) (keeps : Keeps P good) (first : FlatMachine Core) (p : ℕ)
    (steps : List (Step Pokes)) (h : Passed Core Entry) → Follows z P good first h → HasNotRetired p (outcomes z P steps h.machine)
    → mark ((passes z P steps h).served p) ≡ mark (h.served p) + times_served h.group p (outcomes z P steps h.machine)
unfolding passes outcomes times_served HasNotRetired
counts_all z P good keeps first p [] h f n = omega arith
counts_all z P good keeps first p (st ∷ sts) h f n =
    let r = step z P h.machine st in
    let a = counts h.group h.order h.served p r.outcome n.0 (λ l m. unserved_of z P good first h f p (f.simulates.groups.unserved l p m)) in
    let b = counts_all z P good keeps first p sts (pass z P h st) (follows_step z P good keeps first h f st) n.1 in
    omega arith

at_most_one : (o : Option ℕ) → mark o ≤ 1
at_most_one None = omega arith
at_most_one (Some i) = omega arith

-- the groups after an issue
group_at : {Core Pokes Entry : Type 0}
    → (z : Sizes) (P : Program Core Pokes Entry) (h : Passed Core Entry) (before : List (Outcome Pokes)) (st : Step Pokes) (p : ℕ)
    → h.group ≡ groups_after (λ q. []) before → (step z P h.machine st).outcome ≡ Issued p
    → (pass z P h st).group ≡ groups_after (λ q. []) (before ++ Issued p ∷ [])
unfolding groups_after
group_at z P h before st p group is = (λ i. group_after (group i) (is i)) ∙ sym (groups_after-append (λ q. []) before (Issued p ∷ []))

-- From after the issue on, a reference is served at most once, and exactly once if it retires.
once_from : {Core Pokes Entry : Type 0} → (z : Sizes) (P : Program Core Pokes Entry) (good : ℕ → Core → Type 0) → Keeps P good
    → (first : FlatMachine Core) (h : Passed Core Entry) → Follows z P good first h → (steps : List (Step Pokes)) (between rest : List (Outcome Pokes)) (p : ℕ)
    → outcomes z P steps h.machine ≡ between ++ rest → HasNotRetired p between → h.served p ≡ None
    → (times_served h.group p between ≤ 1) × ((value : ℕ) (later : List (Outcome Pokes)) → rest ≡ Retired p value ∷ later → times_served h.group p between ≡ 1)
once_from {Core} {Entry = Entry} z P good keeps first h f steps between rest p e not_retired none =
    let d = cut z P h steps between rest e in
    let h' : Passed Core Entry = passes z P d.front h in
    let f' : Follows z P good first h' = follows_passes z P good keeps first d.front h f in
    let count : mark (h'.served p) ≡ times_served h.group p between =
    counted (mark (h'.served p)) (times_served h.group p (outcomes z P d.front h.machine)) (times_served h.group p between) (h.served p)
    (counts_all z P good keeps first p d.front h f (subst (HasNotRetired p) (sym d.front_is) not_retired)) none
    (λ i. times_served h.group p (d.front_is i)) in (
      subst (λ n. n ≤ 1) count (at_most_one (h'.served p)),
      (λ value later g.
          let last : outcomes z P d.back h'.machine ≡ Retired p value ∷ later = d.back_is ∙ g in
          let r = begun z P h' d.back (Retired p value) later last in
          let s = retires_served z P good first h' f' r.first p value r.first_is in
          one_of (times_served h.group p between) (h'.served p) s.0 count s.1),
    )
  where
    one_of : (n : ℕ) (o : Option ℕ) (i : ℕ) → mark o ≡ n → o ≡ Some i → n ≡ 1
    one_of n None i e f = absurd (cc)
    one_of n (Some j) i e f = sym e

    counted : (m n t : ℕ) (o : Option ℕ) → m ≡ mark o + n → o ≡ None → n ≡ t → m ≡ t
    counted m n t None e none same = e ∙ none_more n ∙ same
      where
        none_more : (n : ℕ) → 0 + n ≡ n
        none_more n = omega arith
    counted m n t (Some i) e none same = absurd (cc)

-- In a run from where one may begin, each reference is served at most once until it retires, and once if it does.
pub served_once : {Core Pokes Entry : Type 0} → (z : Sizes) (P : Program Core Pokes Entry) (good : ℕ → Core → Type 0) → Keeps P good → (M : Machine Core)
    → Begins z P good M → (steps : List (Step Pokes)) → EachServedOnce (outcomes z P steps M)
served_once {Core} {Entry = Entry} z P good keeps M b steps before between rest p e not_retired =
    let c = cut z P (from_machine M) steps before (Issued p ∷ (between ++ rest)) e in
    let h : Passed Core Entry = ran z P M c.front in
    let f : Follows z P good (flat_of M) h = follows z P good keeps M b c.front in
    let i = begun z P h c.back (Issued p) (between ++ rest) c.back_is in
    let group : (pass z P h i.first).group ≡ groups_after (λ q. []) (before ++ Issued p ∷ []) =
    group_at z P h before i.first p (groups_by_outcomes z P c.front (from_machine M) ∙ (λ j. groups_after (λ q. []) (c.front_is j))) i.first_is in
    let unserved : (pass z P h i.first).served p ≡ None = (λ j. served_after h.group h.order h.served (i.first_is j) p)
    ∙ shut_unserved z P good (flat_of M) h f p (issues_by z P h.machine i.first p i.first_is) in
    let once = once_from z P good keeps (flat_of M) (pass z P h i.first)
    (follows_step z P good keeps (flat_of M) h f i.first) i.rest between rest p i.rest_is not_retired unserved in
    record {
      at_most = subst (λ (g : ℕ → List ℕ). times_served g p between ≤ 1) group once.0;
      exactly = λ value later g. subst (λ (g : ℕ → List ℕ). times_served g p between ≡ 1) group (once.1 value later g);
    }
