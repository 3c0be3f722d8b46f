-- The order of a run grows with the outcomes of steps.
use Rattle.std.proofs.Common.{◌≡◌, ℕ, ◌^◌, ◌<◌, ◌≤◌, Bool, true, false, eqb, List, [], ◌∷◌, ◌++◌, length}
use Rattle.std.proofs.Common.{nat_lt, Some, None, ◌⊎◌, inl, inr, refl, sym, ap, ap₂, ◌∙◌, subst, arith}
use Rattle.std.specs.Prelude.{◌&&◌, map, if◌then◌else◌}
use Rattle.std.specs.List.{IsDistinct, AllByRecursion, list_any}
use Rattle.std.proofs.lemmas.Bool.{cases_lt, eqb-true, ne_eqb}
use Rattle.std.proofs.lemmas.List.{map-append}
use Rattle.std.proofs.lemmas.Map.Steps.{length-le_from_distinct_below}
use mathlib.Core.Path.{fun_ext}
use Rattle.flat_machine.specs.declared.config.Config.{Config}
use Rattle.flat_machine.specs.declared.event.Event.{Event}
use Rattle.flat_machine.specs.declared.poke.Entry.{Entry}
use Rattle.flat_machine.specs.State.{is_running}
use Rattle.flat_machine.specs.Turns.{Turn, Retires, Reaches, Stops}
use Rattle.hart.specs.Deciding.{after_reply}
use Rattle.arrayvec.specs.ArrayVec.{ArrayVec}
use Rattle.messages.specs.declared.message.Request.{Request}
use Rattle.messages.specs.declared.message.Reply.{Reply}
use Rattle.messages.specs.declared.moves.UpMove.{UpMove}
use Rattle.messages.specs.declared.moves.UpMove.TheVariants as up
use Rattle.messages.specs.declared.moves.DownMove.{DownMove}
use Rattle.messages.specs.declared.moves.DownMove.TheVariants as down
use Rattle.messages.specs.Places.{In, Distinct}
use Rattle.messages.specs.Network.{Sizes, Net}
use Rattle.messages.specs.Moves.{moved_up, moved_down}
use Rattle.machine_theory.specs.serialization.Program.{Kind, Rests, Alone, Refers}
use Rattle.machine_theory.specs.Theory.{Program, Result, stalled, went_up, went_down, serve_from}
use Rattle.machine_theory.specs.Order.{segment, Passed, group_after}
use Rattle.machine_theory.specs.Theory as theory
use Rattle.machine_theory.specs.serialization.Machine.{Machine, retire_from, begin, turned, poked, all_shut}
use Rattle.machine_theory.specs.serialization.Order.{pass, passes, from_machine, ran}
use Rattle.machine_theory.specs.serialization.Serialization.{Begins}
use Rattle.machine_theory.proofs.Lemmas.serialization.{follows}
use Rattle.steps.specs.declared.step.Step.{Step}
use Rattle.steps.specs.declared.step.Step.TheVariants as step
use Rattle.steps.specs.declared.step.Outcome.{Outcome}
use Rattle.machine_ports.specs.Ports.{PortState}
use Rattle.machine_theory.specs.Processors.{ObservedCore, no_port, sizes_of, kind_of, next, program, may_poke, port_at}
use Rattle.machine_theory.specs.Flatness.{IsGood}
use Rattle.machine_theory.specs.Steps.{named, taken, answer_of, outcome_of_turn, outcome_of_reply, outcome_of, after, machine_of_parts}
use Rattle.machine_theory.proofs.Lemmas.{keeps}
use Rattle.machine_steps.specs.Machines.{MachineLists, machine_of, IsIdle, IsMachine, IsStep}
use Rattle.machine_steps.specs.Runs.{all_after, events_of, IsRun, passed}
use Rattle.machine_steps.specs.Ordering.{outcome_by, turn_tells, is_open_at, group_in, IsEntered}
use Rattle.machine_steps.proofs.Keeping.{count_small}
use Rattle.machine_steps.proofs.Flattening.{past_end}
use Rattle.machine_steps.proofs.Running.{run_begins, run_more, passes_machine}

-- ---- an outcome tells the order what the theory's does

-- Both outcomes are entered alike.
pub record Same (a b : theory.Outcome) : Type 0 where
  -- they change all groups alike
  pub group : (g : ℕ → List ℕ) → group_after g a ≡ group_after g b
  -- they put the same segment into the order
  pub segment_is : (g : ℕ → List ℕ) → segment g a ≡ segment g b

same_itself : (a : theory.Outcome) → Same a a
same_itself a = record { group = λ g. refl; segment_is = λ g. refl }

module _ (c : Config) (code : List ℕ) (M : Machine ObservedCore) where
  abbrev turns : ℕ → Turn
  turns p = next c code p (M.core p).state

  abbrev answer : theory.Outcome → Outcome
  answer = answer_of turns

  -- The outcome of this result tells the order what the theory's does.
  abbrev Tells : Step → (was_open : Bool) → Result ObservedCore → Type 0
  Tells s was_open r = Same (outcome_by s was_open (answer r.outcome)) r.outcome

  tells_stalled : (s : Step) (was_open : Bool) → Tells s was_open (stalled M)
  tells_stalled (step.Turn p) true = same_itself theory.Stalled
  tells_stalled (step.Turn p) false = same_itself theory.Stalled
  tells_stalled (step.Up s w) o = same_itself theory.Stalled
  tells_stalled (step.Serve m) o = same_itself theory.Stalled
  tells_stalled (step.Down s w) o = same_itself theory.Stalled
  tells_stalled (step.Poke q) o = same_itself theory.Stalled

  either : (s : Step) (o : Bool) (b : Bool) (r : Result ObservedCore) → Tells s o r → Tells s o (if b then r else stalled M)
  either s o true r k = k
  either s o false r k = tells_stalled s o

  after_reply_tells : (p found : ℕ) (done : Outcome) → turn_tells p true done ≡ theory.Stalled → Same (turn_tells p true done) (theory.Retired p found)
  after_reply_tells p found done e = record { group = λ g. ap (group_after g) e; segment_is = λ g. ap (segment g) e }

  reply_stalls : (p : ℕ) (t : Turn) (found : ℕ) → turn_tells p true (outcome_of_reply (after_reply t found)) ≡ theory.Stalled
  reply_stalls p t found = elim (after_reply t found) as (λ o. turn_tells p true (outcome_of_reply o) ≡ theory.Stalled) [ Some done ↦ refl | None ↦ refl ]

  retired : (p : ℕ) (ys : List Reply) → Tells (step.Turn p) true (retire_from (program c code) M p ys)
  retired p [] = tells_stalled (step.Turn p) true
  retired p (y ∷ ys) = after_reply_tells p y.value (outcome_of_reply (after_reply (turns p) y.value)) (reply_stalls p (turns p) y.value)

  alone : (p : ℕ) (runs : Bool) (t : Turn) → kind_of runs t ≡ Alone → turn_tells p false (outcome_of_turn t) ≡ theory.Advanced p
  alone p true (Retires after retired) k = refl
  alone p true (Stops cause) k = refl
  alone p true (Reaches word change after) k = absurd (cc)
  alone p false t k = absurd (cc)

  begun : (p : ℕ) (k : Kind) → kind_of (is_running (M.core p).state.status) (turns p) ≡ k → Tells (step.Turn p) false (begin (program c code) M p k)
  begun p Rests e = tells_stalled (step.Turn p) false
  begun p Alone e = let same =
      alone p (is_running (M.core p).state.status) (turns p) e in record { group = λ g. ap (group_after g) same; segment_is = λ g. ap (segment g) same }
  begun p Refers e = same_itself (theory.Issued p)

  turn : (p : ℕ) (b : Bool) → Tells (step.Turn p) b (turned (program c code) M p b)
  turn p true = retired p (M.net.replies 0 p)
  turn p false = begun p (kind_of (is_running (M.core p).state.status) (turns p)) refl

  goes_up : (s w : ℕ) (r : UpMove × Net) → Tells (step.Up s w) false (went_up M r)
  goes_up s w (up.Stalled, net) = same_itself theory.Stalled
  goes_up s w (up.Moved, net) = record { group = λ g. refl; segment_is = λ g. refl }
  goes_up s w (up.Combined first second, net) = same_itself (theory.Combined first second)

  goes_down : (s w : ℕ) (r : DownMove × Net) → Tells (step.Down s w) false (went_down M r)
  goes_down s w (down.Stalled, net) = same_itself theory.Stalled
  goes_down s w (down.Moved, net) = record { group = λ g. refl; segment_is = λ g. refl }
  goes_down s w (down.Answered to, net) = record { group = λ g. refl; segment_is = λ g. refl }

  serves : (m : ℕ) (xs : List Request) (ys : List Reply) → Tells (step.Serve m) false (serve_from (sizes_of c) M m xs ys)
  serves m [] ys = same_itself theory.Stalled
  serves m (x ∷ rest) (y ∷ ys) = same_itself theory.Stalled
  serves m (x ∷ rest) [] = same_itself (theory.Served x.leader)

  -- whether the step is a turn of a processor that is open
  abbrev opened : Step → Bool
  opened (step.Turn p) = M.is_open p
  opened (step.Up s w) = false
  opened (step.Serve m) = false
  opened (step.Down s w) = false
  opened (step.Poke q) = false

  pub tells : (s : Step) → Tells s (opened s) (taken c code M s)
  tells (step.Turn p) = either (step.Turn p) (M.is_open p) (nat_lt p (2 ^ c.k)) (turned (program c code) M p (M.is_open p)) (turn p (M.is_open p))
  tells (step.Up s w) =
      either (step.Up s w) false (nat_lt w (2 ^ c.k)) (went_up M (moved_up (sizes_of c) M.net s w)) (goes_up s w (moved_up (sizes_of c) M.net s w))
  tells (step.Serve m) = either (step.Serve m) false (nat_lt m (2 ^ c.k)) (serve_from (sizes_of c) M m (M.net.requests c.k m) (M.net.replies c.k m))
      (serves m (M.net.requests c.k m) (M.net.replies c.k m))
  tells (step.Down s w) =
      either (step.Down s w) false (nat_lt w (2 ^ c.k)) (went_down M (moved_down (sizes_of c) M.net s w)) (goes_down s w (moved_down (sizes_of c) M.net s w))
  tells (step.Poke q) =
      either (step.Poke q) false (all_shut (2 ^ c.k) M.is_open && may_poke c M.core q) (poked (program c code) M q) (same_itself (theory.Poked q))

-- ---- an outcome does not depend on what the processors have shown

module _ (c : Config) (code : List ℕ) where
  -- the machine, whose processors have shown other events
  abbrev observe_as : (shown : ℕ → List Event) → Machine ObservedCore → Machine ObservedCore
  observe_as shown M = record { net = M.net; mem = M.mem; core = λ p. record { state = (M.core p).state; events = shown p }; is_open = M.is_open }

  abbrev Alike : Result ObservedCore → Result ObservedCore → Type 0
  Alike r r' = r.outcome ≡ r'.outcome

  alike_if : (M M' : Machine ObservedCore) (b : Bool) (r r' : Result ObservedCore) → Alike r r' →
      Alike (if b then r else stalled M) (if b then r' else stalled M')
  alike_if M M' true r r' e = e
  alike_if M M' false r r' e = refl

  module _ (M : Machine ObservedCore) (shown : ℕ → List Event) where
    abbrev M' : Machine ObservedCore
    M' = observe_as shown M

    alike_turn : (p : ℕ) (b : Bool) → Alike (turned (program c code) M p b) (turned (program c code) M' p b)
    alike_turn p true = by (M.net.replies 0 p)
      where
        by : (ys : List Reply) → Alike (retire_from (program c code) M p ys) (retire_from (program c code) M' p ys)
        by [] = refl
        by (y ∷ ys) = refl
    alike_turn p false = by (kind_of (is_running (M.core p).state.status) (next c code p (M.core p).state))
      where
        by : (k : Kind) → Alike (begin (program c code) M p k) (begin (program c code) M' p k)
        by Rests = refl
        by Alone = refl
        by Refers = refl

    alike_up : (r : UpMove × Net) → Alike (went_up M r) (went_up M' r)
    alike_up (up.Stalled, net) = refl
    alike_up (up.Moved, net) = refl
    alike_up (up.Combined first second, net) = refl

    alike_down : (r : DownMove × Net) → Alike (went_down M r) (went_down M' r)
    alike_down (down.Stalled, net) = refl
    alike_down (down.Moved, net) = refl
    alike_down (down.Answered to, net) = refl

    alike_serve : (m : ℕ) (xs : List Request) (ys : List Reply) → Alike (serve_from (sizes_of c) M m xs ys) (serve_from (sizes_of c) M' m xs ys)
    alike_serve m [] ys = refl
    alike_serve m (x ∷ rest) (y ∷ ys) = refl
    alike_serve m (x ∷ rest) [] = refl

    pub alike : (s : Step) → Alike (taken c code M s) (taken c code M' s)
    alike (step.Turn p) = alike_if M M' (nat_lt p (2 ^ c.k)) (turned (program c code) M p (M.is_open p)) (turned (program c code) M' p (M.is_open p))
        (alike_turn p (M.is_open p))
    alike (step.Up s w) = alike_if M M' (nat_lt w (2 ^ c.k)) (went_up M (moved_up (sizes_of c) M.net s w)) (went_up M' (moved_up (sizes_of c) M.net s w))
        (alike_up (moved_up (sizes_of c) M.net s w))
    alike (step.Serve m) =
        alike_if M M' (nat_lt m (2 ^ c.k)) (serve_from (sizes_of c) M m (M.net.requests c.k m) (M.net.replies c.k m))
        (serve_from (sizes_of c) M' m (M.net.requests c.k m) (M.net.replies c.k m))
        (alike_serve m (M.net.requests c.k m) (M.net.replies c.k m))
    alike (step.Down s w) = alike_if M M' (nat_lt w (2 ^ c.k)) (went_down M (moved_down (sizes_of c) M.net s w))
        (went_down M' (moved_down (sizes_of c) M.net s w)) (alike_down (moved_down (sizes_of c) M.net s w))
    alike (step.Poke q) = alike_if M M' (all_shut (2 ^ c.k) M.is_open && may_poke c M.core q) (poked (program c code) M q) (poked (program c code) M' q) refl

-- ---- at most n distinct numbers are below n

apart : (j : ℕ) (js : List ℕ) → (In j js → ⊥) → AllByRecursion (λ y. eqb j y ≡ false) js
apart j [] n = tt
apart j (y ∷ ys) n = (ne_eqb j y (λ e. n (inl e)), apart j ys (λ m. n (inr m)))

distinct : (js : List ℕ) → Distinct js → IsDistinct eqb js
unfolding IsDistinct
distinct [] d = tt
distinct (j ∷ js) d = (apart j js d.0, distinct js d.1)

any_in : (q : ℕ) (js : List ℕ) → list_any (eqb q) js ≡ true → In q js
any_in q [] e = absurd (cc)
any_in q (j ∷ js) e = by (eqb q j) refl (any_in q js)
  where
    by : (b : Bool) → eqb q j ≡ b → (list_any (eqb q) js ≡ true → In q js) → In q (j ∷ js)
    by true is rest = inl (eqb-true q j is)
    by false is rest = inr (rest (rw is at e))

few_below : (js : List ℕ) (n : ℕ) → Distinct js → ((j : ℕ) → In j js → j < n) → length js ≤ n
few_below js n d below = length-le_from_distinct_below js n (distinct js d) (λ q e. below q (any_in q js e))

-- ---- so a group has at most 64

module _ (old : MachineLists) (is : IsMachine old) (idle : IsIdle old) where
  good_cores : (p : ℕ) → IsGood p ((machine_of old (λ p. [])).core p)
  unfolding machine_of_parts
  good_cores p = (is.ports.words p, at (cases_lt p (2 ^ old.config.k)))
    where
      at : (p < 2 ^ old.config.k) ⊎ (2 ^ old.config.k ≤ p) → (p < 2 ^ 8) ⊎ (is_running (port_at old.ports p).core.state.status ≡ false)
      at (inl within) = let small = count_small old.config.k is.limits.stages in inl (omega arith)
      at (inr past) =
          inr (ap (λ (port : PortState). is_running port.core.state.status) (past_end old.ports p no_port (subst (λ n. n ≤ p) (sym is.ports.all) past)))

  begins : Begins (sizes_of old.config) (program old.config old.code) IsGood (machine_of old (λ p. []))
  unfolding machine_of_parts
  begins = record { role = is.role; steady = is.steady; idle = idle; good_cores = good_cores; words = is.modules.words }

  pub few_wait : (steps : List Step) (p : ℕ) → length ((passed old steps).group p) ≤ 64
  few_wait steps p =
      let c = old.config in
      let f =
      follows (sizes_of c) (program c old.code) IsGood (keeps c old.code is.limits.stages is.code) (machine_of old (λ p. [])) begins (map named steps) in
      let g = f.simulates.groups in
      let few = few_below ((passed old steps).group p) (2 ^ c.k) (g.distinct p) (λ j m. f.simulates.within j (g.opened p j m)) in
      let small = count_small c.k is.limits.stages in
      omega (arith, few, small)

-- ---- one step more

passes_more : (z : Sizes) (P : Program ObservedCore) (xs : List theory.Step) (st : theory.Step) (h : Passed ObservedCore) →
    passes z P (xs ++ st ∷ []) h ≡ pass z P (passes z P xs h) st
unfolding passes
passes_more z P [] st h = refl
passes_more z P (x ∷ xs) st h = passes_more z P xs st (pass z P h x)

passed_more : (old : MachineLists) (done : List Step) (s : Step) →
    passed old (done ++ s ∷ []) ≡ pass (sizes_of old.config) (program old.config old.code) (passed old done) (named s)
passed_more old done s =
    ap (ran (sizes_of old.config) (program old.config old.code) (machine_of old (λ p. []))) (map-append named done (s ∷ []))
    ∙ passes_more (sizes_of old.config) (program old.config old.code) (map named done) (named s) (from_machine (machine_of old (λ p. [])))

-- After these steps, the outcomes have given these groups and entries.
pub record IsOrdered (old : MachineLists) (done : List Step) (m : MachineLists) (groups : List (ArrayVec ℕ)) (entries : List Entry) : Type 0 where
  -- the steps are a run
  pub run : IsRun old done m
  -- the groups are those of the theory's run
  pub group : group_in groups ≡ (passed old done).group
  -- the entries are the order of the theory's run
  pub order : entries ≡ (passed old done).order
  -- there are groups for 256 leaders
  pub leaders : length groups ≡ 256

-- Before the first step the groups are empty, and the order has no entries.
pub order_begins : (old : MachineLists) (groups : List (ArrayVec ℕ)) (entries : List Entry) → length groups ≡ 256 → ((p : ℕ) → group_in groups p ≡ []) →
    entries ≡ [] → IsOrdered old [] old groups entries
unfolding passes
order_begins old groups entries leaders none empty = record { run = run_begins old; group = fun_ext none; order = empty; leaders = leaders }

module _ (old m : MachineLists) (done : List Step) (groups : List (ArrayVec ℕ)) (entries : List Entry) (d : IsOrdered old done m groups entries) (s : Step)
    (o : Outcome) (new : MachineLists) (is : IsStep m s o new) where
  abbrev h : Passed ObservedCore
  h = passed old done

  abbrev M : Machine ObservedCore
  M = machine_of m (events_of h.machine)

  abbrev fact : theory.Outcome
  fact = outcome_by s (is_open_at m s) o

  -- The machine is that of the theory's run.
  machine_is : M ≡ h.machine
  machine_is =
      let e : h.machine ≡ all_after old.config old.code (machine_of old (λ p. [])) done =
      passes_machine old.config old.code done (from_machine (machine_of old (λ p. []))) in
      subst (λ N. machine_of m (events_of N) ≡ N) (sym e) (d.run.after (λ p. []))

  open_is : (t : Step) → is_open_at m t ≡ opened m.config m.code M t
  unfolding machine_of_parts
  open_is (step.Turn p) = refl
  open_is (step.Up t w) = refl
  open_is (step.Serve p) = refl
  open_is (step.Down t w) = refl
  open_is (step.Poke q) = refl

  outcome_is : o ≡ answer_of (λ p. next m.config m.code p (M.core p).state) (taken m.config m.code M s).outcome
  unfolding machine_of_parts outcome_of
  outcome_is =
      is.step.outcome ∙ ap (answer_of (λ p. next m.config m.code p (M.core p).state)) (alike m.config m.code (machine_of m (λ p. [])) (events_of h.machine) s)

  -- The outcome tells the order what the theory's does.
  same : Same fact (theory.step (sizes_of old.config) (program old.config old.code) h.machine (named s)).outcome
  same =
      let here : Same fact (taken m.config m.code M s).outcome = subst (λ b. Same (outcome_by s b o) (taken m.config m.code M s).outcome) (sym (open_is s))
      (subst (λ a. Same (outcome_by s (opened m.config m.code M s) a) (taken m.config m.code M s).outcome) (sym outcome_is) (tells m.config m.code M s)) in
      subst (λ N. Same fact (taken old.config old.code N s).outcome) machine_is
      (subst (λ code. Same fact (taken old.config code M s).outcome) d.run.code (subst (λ c. Same fact (taken c m.code M s).outcome) d.run.config here))

  group_is : group_after (group_in groups) fact ≡ (passed old (done ++ s ∷ [])).group
  group_is = ap (λ g. group_after g fact) d.group ∙ same.group h.group ∙ sym (ap (λ (x : Passed ObservedCore). x.group) (passed_more old done s))

  -- No group has more than 64 processors.
  pub few_after : IsMachine old → IsIdle old → (p : ℕ) → length (group_after (group_in groups) fact p) ≤ 64
  few_after machine idle p = subst (λ g. length (g p) ≤ 64) (sym group_is) (few_wait old machine idle (done ++ s ∷ []) p)

  -- If the outcome of the next step is entered, the groups and entries are those of the longer run.
  pub order_goes_on : (groups' : List (ArrayVec ℕ)) (entries' : List Entry) → IsEntered groups entries fact groups' entries' →
      IsOrdered old (done ++ s ∷ []) new groups' entries'
  order_goes_on groups' entries' e = record {
    run = run_more old m new done s o d.run is;
    group = e.group ∙ group_is;
    order =
        e.order
        ∙ ap₂ (λ es g. es ++ segment g fact) d.order d.group
        ∙ ap (λ l. h.order ++ l) (same.segment_is h.group)
        ∙ sym (ap (λ (x : Passed ObservedCore). x.order) (passed_more old done s));
    leaders = e.places ∙ d.leaders;
  }
