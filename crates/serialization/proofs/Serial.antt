-- The machine is the flat machine after the order, at each moment.
use Rattle.std.proofs.Common.{◌≡◌, ℕ, suc, ◌<◌, Bool, true, false, ◌&&◌, List, [], ◌∷◌, ◌++◌}
use Rattle.std.proofs.Common.{length, map, nat_lt, inl, inr, Option, Some, None, refl, sym, ap}
use Rattle.std.proofs.Common.{◌∙◌, subst, arith, ltb-true, append_assoc, length-append}
use Rattle.std.specs.Prelude.{if◌then◌else◌}
use Rattle.std.proofs.lemmas.Bool.{cases_eq, cases_Bool, true≢false, and_parts}
use Rattle.network_theory.specs.messages.declared.message.Request.{Request}
use Rattle.network_theory.specs.messages.declared.message.Reply.{Reply}
use Rattle.network_theory.specs.messages.Places.{put, In, Distinct}
use Rattle.network_theory.specs.messages.Network.{Sizes, wires, Net}
use Rattle.network_theory.specs.messages.declared.moves.UpMove.{UpMove}
use Rattle.network_theory.specs.messages.declared.moves.UpMove.TheVariants as up
use Rattle.network_theory.specs.messages.declared.moves.DownMove.{DownMove}
use Rattle.network_theory.specs.messages.declared.moves.DownMove.TheVariants as down
use Rattle.network_theory.specs.messages.Moves.{up_from, moved_up, down_from, moved_down}
use Rattle.network_theory.specs.Roles.{Idle}
use Rattle.network_theory.specs.Meaning.{Executed, execute, execute_all}
use Rattle.serialization.specs.Program.{Program, Kind, Rests, Alone, Refers, Keeps, own_of, word_of, path_of}
use Rattle.serialization.specs.Machine.{Machine, Step, Turn, Up, Serve, Down, Poke, Result, stalled, retire_from}
use Rattle.serialization.specs.Machine.{begin, turned, went_up, went_down, serve_from, all_shut, poked, step}
use Rattle.serialization.specs.Order.{group_after, segment, served_from, served_after, Passed, pass, passes}
use Rattle.serialization.specs.Order.{from_machine, FlatMachine, flat_step, flat_run, flat_of, ran}
use Rattle.serialization.specs.Simulation.{shows, owed_after, Simulates, Kept}
use Rattle.serialization.proofs.Simulating.{kept_stalled, kept_issue, kept_advance, kept_retire, kept_serve, kept_poked, flat_shows_one, still_none}
use Rattle.serialization.proofs.Steadying.{all_shut_is}
use Rattle.network_theory.proofs.Lemmas.{means_nothing}
use Rattle.serialization.proofs.SimulatingUp.{kept_up}
use Rattle.serialization.proofs.SimulatingDown.{kept_down}
use Rattle.network_theory.proofs.Lemmas.messages.{put_other, put_same}
use Rattle.serialization.specs.Serialization.{Begins, FindsAt}

pub flat_run-append : {Core Pokes Entry : Type 0} → (P : Program Core Pokes Entry) (f : FlatMachine Core) (js ks : List Entry)
    → flat_run P f (js ++ ks) ≡ flat_run P (flat_run P f js) ks
unfolding flat_run
flat_run-append P f [] ks = refl
flat_run-append P f (j ∷ js) ks = flat_run-append P (flat_step P f j) js ks

-- ---- the places of served references in the order

-- A processor is owed the word that its place of the order finds, and nothing if it has no place.
abbrev pub PlaceOf : {Core Pokes Entry : Type 0} → Program Core Pokes Entry → FlatMachine Core → List Entry → (ℕ → Core) → ℕ → Option ℕ → Option ℕ → Type 0
PlaceOf P first order core p None owed = owed ≡ None
PlaceOf P first order core p (Some place) owed = (word : ℕ) × (owed ≡ Some word) × FindsAt P first order core p place word

abbrev pub Places : {Core Pokes Entry : Type 0} → Program Core Pokes Entry → FlatMachine Core → List Entry → (ℕ → Core) → (ℕ → Option ℕ) → (ℕ → Option ℕ)
    → Type 0
Places P first order core served owed = (p : ℕ) → PlaceOf P first order core p (served p) (owed p)

-- The place of a processor stays right if the order gets longer and the processor's core stays.
place_further : {Core Pokes Entry : Type 0}
    → (P : Program Core Pokes Entry) (first : FlatMachine Core) (order more : List Entry) (core core' : ℕ → Core) (p : ℕ) (place owed : Option ℕ)
    → ((i : ℕ) → place ≡ Some i → core' p ≡ core p) → PlaceOf P first order core p place owed → PlaceOf P first (order ++ more) core' p place owed
place_further P first order more core core' p None owed same h = h
place_further P first order more core core' p (Some i) owed same h =
    let f = h.2 in (
      h.0,
      h.1,
      record {
        before = f.before;
        later = f.later ++ more;
        is = ap (λ l. l ++ more) f.is ∙ append_assoc f.before (P.entry.turn p ∷ f.later) more;
        at_place = f.at_place;
        found = f.found ∙ ap (λ g. (flat_run P first f.before).mem (P.word_of p g)) (sym (same i refl));
      },
    )

places_further : {Core Pokes Entry : Type 0}
    → (P : Program Core Pokes Entry) (first : FlatMachine Core) (order more : List Entry) (core core' : ℕ → Core) (served owed : ℕ → Option ℕ)
    → Places P first order core served owed → ((p i : ℕ) → served p ≡ Some i → core' p ≡ core p) → Places P first (order ++ more) core' served owed
places_further P first order more core core' served owed h same p = place_further P first order more core core' p (served p) (owed p) (same p) (h p)

places_retired : {Core Pokes Entry : Type 0}
    → (P : Program Core Pokes Entry) (first : FlatMachine Core) (order more : List Entry) (core : ℕ → Core) (served owed : ℕ → Option ℕ) (p : ℕ) (g : Core)
    → Places P first order core served owed → Places P first (order ++ more) (put core p g) (put served p None) (put owed p None)
places_retired {Core} P first order more core served owed p g h q = elim (cases_eq q p) [
  | inl e ↦ subst (λ o. PlaceOf P first (order ++ more) (put core p g) q o (put owed p None q)) (sym (ap (put served p None) e ∙ put_same served p None))
      (ap (put owed p None) e ∙ put_same owed p None)
  | inr n ↦ subst (λ o. PlaceOf P first (order ++ more) (put core p g) q o (put owed p None q)) (sym (put_other served p None q n))
      (subst (λ o. PlaceOf P first (order ++ more) (put core p g) q (served q) o) (sym (put_other owed p None q n))
      (place_further P first order more core (put core p g) q (served q) (owed q) (λ i e. put_other core p g q n) (h q)))
]

-- Places stay right if one reference is served, at the end of the order.
place_one : {Core Pokes Entry : Type 0}
    → (P : Program Core Pokes Entry) (first : FlatMachine Core) (order : List Entry) (core : ℕ → Core) (served : ℕ → Option ℕ) (f : Executed) (j : ℕ)
    → ((a : ℕ) → f.mem a ≡ (flat_run P first order).mem a) → Places P first order core served f.owed
    → Places P first (order ++ P.entry.turn j ∷ []) core (put served j (Some (length order))) (execute (own_of P core) (word_of P core) f j).owed
place_one {Core} {Entry = Entry} P first order core served f j mems h q = elim (cases_eq q j) [
  | inl e ↦ subst (λ o. PlaceOf P first order' core q o (put f.owed j (Some v) q))
      (sym (ap (put served j (Some (length order))) e ∙ put_same served j (Some (length order)))) (
        v,
        ap (put f.owed j (Some v)) e ∙ put_same f.owed j (Some v),
        record {
          before = order;
          later = [];
          is = ap (λ i. order ++ P.entry.turn i ∷ []) (sym e);
          at_place = refl;
          found = mems (P.word_of j (core j))
              ∙ ap (λ i. (flat_run P first order).mem (P.word_of i (core i))) (sym e);
        },
      )
  | inr n ↦ subst (λ o. PlaceOf P first order' core q o (put f.owed j (Some v) q)) (sym (put_other served j (Some (length order)) q n))
      (subst (λ o. PlaceOf P first order' core q (served q) o) (sym (put_other f.owed j (Some v) q n))
      (place_further P first order (P.entry.turn j ∷ []) core core q (served q) (f.owed q) (λ i e. refl) (h q)))
]
  where
    v : ℕ
    v = f.mem (P.word_of j (core j))

    order' : List Entry
    order' = order ++ P.entry.turn j ∷ []

-- Places stay right if a group is served, at the end of the order.
places_served : {Core Pokes Entry : Type 0}
    → (P : Program Core Pokes Entry) (first : FlatMachine Core) (core : ℕ → Core) (js : List ℕ) (order : List Entry) (served : ℕ → Option ℕ) (f : Executed)
    → Distinct js → ((j : ℕ) → In j js → f.owed j ≡ None) → ((j : ℕ) → In j js → P.kind j (core j) ≡ Refers)
    → ((a : ℕ) → f.mem a ≡ (flat_run P first order).mem a) → ((p : ℕ) → (flat_run P first order).core p ≡ shows P p (f.owed p) (core p))
    → Places P first order core served f.owed
    → Places P first (order ++ map P.entry.turn js) core (served_from (length order) js served) (execute_all (own_of P core) (word_of P core) f js).owed
unfolding served_from execute_all flat_run
places_served P first core [] order served f d none refer mems shown h = places_further P first order [] core core served f.owed h (λ p i e. refl)
places_served {Core} {Entry = Entry} P first core (j ∷ js) order served f d none refer mems shown h =
    let one = flat_shows_one P core j f (flat_run P first order) (none j (inl refl)) (refer j (inl refl)) mems shown in
    let order' : List Entry = order ++ P.entry.turn j ∷ [] in
    let now : flat_run P first order' ≡ flat_step P (flat_run P first order) (P.entry.turn j) = flat_run-append P first order (P.entry.turn j ∷ []) in
    let f' : Executed = execute (own_of P core) (word_of P core) f j in
    let served' : ℕ → Option ℕ = put served j (Some (length order)) in
    let longer : length order' ≡ suc (length order) = length-append order (P.entry.turn j ∷ []) ∙ omega arith in
    let rest = places_served P first core js order' served' f' d.1 (still_none f (own_of P core) (word_of P core) j js d none) (λ i m. refer i (inr m))
    (λ a. one.0 a ∙ ap (λ (H : FlatMachine Core). H.mem a) (sym now)) (λ p. ap (λ (H : FlatMachine Core). H.core p) now ∙ one.1 p)
    (place_one P first order core served f j mems h) in
    subst (λ l. Places P first l core (served_from (suc (length order)) js served') (execute_all (own_of P core) (word_of P core) f' js).owed)
    (append_assoc order (P.entry.turn j ∷ []) (map P.entry.turn js))
    (subst (λ n. Places P first (order' ++ map P.entry.turn js) core (served_from n js served')
    (execute_all (own_of P core) (word_of P core) f' js).owed) longer rest)

-- ---- a run that follows the flat machine

pub record Follows {Core Pokes Entry : Type 0} (z : Sizes) (P : Program Core Pokes Entry) (good : ℕ → Core → Type 0) (first : FlatMachine Core)
    (h : Passed Core Entry) : Type 0 where
  -- The word that each processor is owed, if its open reference is served.
  pub owed : ℕ → Option ℕ
  -- The machine simulates the flat machine after the order so far.
  pub simulates : Simulates z P good h.machine h.group owed (flat_run P first h.order)
  -- Each reference that is served has a place in the order, at which it finds the word that is owed.
  pub places : Places P first h.order h.machine.core h.served owed

-- What a run that follows the flat machine needs of the result of a step.
abbrev FollowsBy : {Core Pokes Entry : Type 0}
    → (z : Sizes) (P : Program Core Pokes Entry) (good : ℕ → Core → Type 0) (first : FlatMachine Core) (h : Passed Core Entry) (owed : ℕ → Option ℕ)
    → Result Core Pokes → Type 0
FollowsBy z P good first h owed r =
    Kept z P good h.machine.core h.group owed (flat_run P first h.order) r
    × Places P first (h.order ++ segment P.entry h.group r.outcome) r.machine.core (served_after h.group h.order h.served r.outcome)
    (owed_after P h.machine.core h.group (flat_run P first h.order) owed r.outcome)

module _ {Core Pokes Entry : Type 0} (z : Sizes) (P : Program Core Pokes Entry) (good : ℕ → Core → Type 0) (keeps : Keeps P good) (first : FlatMachine Core)
    (h : Passed Core Entry) (f : Follows z P good first h) where
  abbrev By : Result Core Pokes → Type 0
  By r = FollowsBy z P good first h f.owed r

  -- Places stay right if the order gets longer and the cores of served processors stay.
  plain : (more : List Entry) (core' : ℕ → Core) → ((p i : ℕ) → h.served p ≡ Some i → core' p ≡ h.machine.core p)
      → Places P first (h.order ++ more) core' h.served f.owed
  plain more core' same = places_further P first h.order more h.machine.core core' h.served f.owed f.places same

  by_stalled : By (stalled h.machine)
  by_stalled = (kept_stalled z P good h.machine h.group f.owed (flat_run P first h.order) f.simulates, plain [] h.machine.core (λ p i e. refl))

  -- A processor that is owed nothing has no place.
  no_place : (p i : ℕ) → f.owed p ≡ None → h.served p ≡ Some i → ⊥
  no_place p i none e =
      let g = subst (λ o. PlaceOf P first h.order h.machine.core p o (f.owed p)) e (f.places p) in
      let c : None ≡ Some g.0 = sym none ∙ g.1 in cc

  by_turn : (p : ℕ) → p < wires z → (o : Bool) → h.machine.is_open p ≡ o → By (turned P h.machine p o)
  by_turn p l true opened = retire (h.machine.net.replies 0 p) refl
    where
      retire : (xs : List Reply) → h.machine.net.replies 0 p ≡ xs → By (retire_from P h.machine p xs)
      retire [] e = by_stalled
      retire (y ∷ rest) e = (
        kept_retire z P good keeps h.machine h.group f.owed (flat_run P first h.order) p y rest f.simulates l opened e,
        places_retired P first h.order [] h.machine.core h.served f.owed p (P.retire p (h.machine.core p) y.value) f.places,
      )
  by_turn p l false shut = start (P.kind p (h.machine.core p)) refl
    where
      start : (k : Kind) → P.kind p (h.machine.core p) ≡ k → By (begin P h.machine p k)
      start Rests e = by_stalled
      start Alone e = (
        kept_advance z P good keeps h.machine h.group f.owed (flat_run P first h.order) p f.simulates l shut e,
        plain (P.entry.turn p ∷ []) (put h.machine.core p (P.alone p (h.machine.core p)))
            (λ q i s. put_other h.machine.core p (P.alone p (h.machine.core p)) q (λ g. no_place q i (ap f.owed g ∙ (f.simulates.shut p shut).1) s)),
      )
      start Refers e = (
        kept_issue z P good h.machine h.group f.owed (flat_run P first h.order) p f.simulates l shut e
            (keeps.phi p (h.machine.core p) (f.simulates.good_cores p) e),
        plain [] h.machine.core (λ q i s. refl),
      )

  by_serve : (m : ℕ) (xs : List Request) → h.machine.net.requests z.k m ≡ xs → (ys : List Reply) → By (serve_from z h.machine m xs ys)
  by_serve m [] e ys = by_stalled
  by_serve m (x ∷ rest) e (y ∷ ys) = by_stalled
  by_serve m (x ∷ rest) e [] = (
    kept_serve z P good keeps h.machine h.group f.owed (flat_run P first h.order) m x rest f.simulates e,
    places_served P first h.machine.core (h.group x.leader) h.order h.served (record {
      mem = (flat_run P first h.order).mem;
      owed = f.owed;
    }) (f.simulates.groups.distinct x.leader)
        (λ j i. f.simulates.groups.unserved x.leader j i) (λ j i. f.simulates.refers j (f.simulates.groups.opened x.leader j i))
        (λ a. refl) f.simulates.shown f.places,
  )

  -- A request's move changes the network alone.
  by_up : (r : UpMove × Net) → Kept z P good h.machine.core h.group f.owed (flat_run P first h.order) (went_up h.machine r) → By (went_up h.machine r)
  by_up (up.Stalled, net) k = by_stalled
  by_up (up.Moved, net) k = (k, plain [] h.machine.core (λ q i s. refl))
  by_up (up.Combined a b, net) k = (k, plain [] h.machine.core (λ q i s. refl))

  by_down : (r : DownMove × Net) → Kept z P good h.machine.core h.group f.owed (flat_run P first h.order) (went_down h.machine r) → By (went_down h.machine r)
  by_down (down.Stalled, net) k = by_stalled
  by_down (down.Moved, net) k = (k, plain [] h.machine.core (λ q i s. refl))
  by_down (down.Answered a, net) k = (k, plain [] h.machine.core (λ q i s. refl))

  by_poke : (q : Pokes) → ((p : ℕ) → p < wires z → h.machine.is_open p ≡ false) → P.is_lawful h.machine.core q ≡ true → By (poked P h.machine q)
  by_poke q shut lawful = (
    kept_poked z P good keeps h.machine h.group f.owed (flat_run P first h.order) q f.simulates shut lawful,
    plain (P.entry.poke q ∷ []) (P.poked_core q h.machine.core) (λ p i s. absurd (no_place p i (none p) s)),
  )
    where
      none : (p : ℕ) → f.owed p ≡ None
      none p = elim (cases_Bool (h.machine.is_open p)) [
        | inl o ↦ absurd (true≢false (sym o ∙ shut p (f.simulates.within p o)))
        | inr c ↦ (f.simulates.shut p c).1
      ]

  by_step : (st : Step Pokes) → By (step z P h.machine st)
  unfolding moved_up moved_down
  by_step (Turn p) = go (nat_lt p (wires z)) refl
    where
      go : (b : Bool) → nat_lt p (wires z) ≡ b → By (if b then turned P h.machine p (h.machine.is_open p) else stalled h.machine)
      go false e = by_stalled
      go true e = by_turn p (ltb-true p (wires z) e) (h.machine.is_open p) refl
  by_step (Up s w) = go (nat_lt w (wires z)) (nat_lt s z.k) refl
    where
      go : (n b : Bool) → nat_lt s z.k ≡ b
          → By (if n then went_up h.machine
          (if b then up_from z h.machine.net s w (h.machine.net.requests s w) else (up.Stalled, h.machine.net)) else stalled h.machine)
      go false b e = by_stalled
      go true false e = by_stalled
      go true true e = by_up (up_from z h.machine.net s w (h.machine.net.requests s w))
          (kept_up z P good h.machine h.group f.owed (flat_run P first h.order) s w (h.machine.net.requests s w) f.simulates (ltb-true s z.k e) refl)
  by_step (Serve m) = go (nat_lt m (wires z))
    where
      go : (n : Bool) → By (if n then serve_from z h.machine m (h.machine.net.requests z.k m) (h.machine.net.replies z.k m) else stalled h.machine)
      go false = by_stalled
      go true = by_serve m (h.machine.net.requests z.k m) refl (h.machine.net.replies z.k m)
  by_step (Down s w) = go (nat_lt w (wires z)) (nat_lt s z.k) refl
    where
      go : (n b : Bool) → nat_lt s z.k ≡ b
          → By (if n then went_down h.machine
          (if b then down_from z h.machine.net s w (h.machine.net.replies (suc s) w) else (down.Stalled, h.machine.net)) else stalled h.machine)
      go false b e = by_stalled
      go true false e = by_stalled
      go true true e = by_down (down_from z h.machine.net s w (h.machine.net.replies (suc s) w))
          (kept_down z P good h.machine h.group f.owed (flat_run P first h.order) s w (h.machine.net.replies (suc s) w) f.simulates (ltb-true s z.k e) refl)
  by_step (Poke q) = go (all_shut (wires z) h.machine.is_open && P.is_lawful h.machine.core q) refl
    where
      go : (b : Bool) → (all_shut (wires z) h.machine.is_open && P.is_lawful h.machine.core q) ≡ b → By (if b then poked P h.machine q else stalled h.machine)
      go false e = by_stalled
      go true e = let a = and_parts (all_shut (wires z) h.machine.is_open) (P.is_lawful h.machine.core q) e in
          by_poke q (all_shut_is (wires z) h.machine.is_open a.0) a.1

  -- A run that follows the flat machine still follows it after one more step.
  pub follows_step : (st : Step Pokes) → Follows z P good first (pass z P h st)
  follows_step st =
      let r = step z P h.machine st in
      let g = by_step st in
      record {
        owed = owed_after P h.machine.core h.group (flat_run P first h.order) f.owed r.outcome;
        simulates = subst (λ F. Simulates z P good r.machine (group_after h.group r.outcome)
            (owed_after P h.machine.core h.group (flat_run P first h.order) f.owed r.outcome) F)
            (sym (flat_run-append P first h.order (segment P.entry h.group r.outcome))) g.0;
        places = g.1;
      }

-- A run that follows the flat machine still follows it after a list of steps.
pub follows_passes : {Core Pokes Entry : Type 0}
    → (z : Sizes) (P : Program Core Pokes Entry) (good : ℕ → Core → Type 0) (keeps : Keeps P good) (first : FlatMachine Core) (steps : List (Step Pokes))
    (h : Passed Core Entry) → Follows z P good first h → Follows z P good first (passes z P steps h)
unfolding passes
follows_passes z P good keeps first [] h ok = ok
follows_passes z P good keeps first (st ∷ sts) h ok = follows_passes z P good keeps first sts (pass z P h st) (follows_step z P good keeps first h ok st)

-- An idle machine follows the flat machine that it is.
pub follows_idle : {Core Pokes Entry : Type 0} → (z : Sizes) (P : Program Core Pokes Entry) (good : ℕ → Core → Type 0) (M : Machine Core) → Begins z P good M
    → Follows z P good (flat_of M) (from_machine M)
unfolding flat_run
follows_idle z P good M b =
    let role = b.role in
    let idle : (p : ℕ) → role p ≡ Idle = (λ p. elim (b.steady.small p) [ inl i ↦ i | inr l ↦ (b.steady.shut p).0 (b.idle p l) ]) in
    record {
      owed = λ p. None;
      simulates = record {
        role = role;
        placed = b.steady.placed;
        means = means_nothing z.k (path_of z P M.core) role M.net (own_of P M.core) (word_of P M.core) (path_of z P M.core) (λ p. [])
            (λ p. None) b.steady.placed idle;
        groups = record {
          opened = λ p j m. absurd m;
          unserved = λ p j m. refl;
          one_word = λ p i j m. absurd m;
          home = λ p q j m. absurd m;
          distinct = λ p. tt;
        };
        mem_same = λ a. refl;
        shown = λ p. refl;
        shut = λ p e. (idle p, refl);
        refers = b.steady.refers;
        small = b.steady.small;
        within = λ p o. elim (b.steady.small p) [ inl i ↦ absurd (true≢false (sym o ∙ (b.steady.shut p).1 i)) | inr l ↦ l ];
        good_cores = b.good_cores;
        words = b.words;
        owed_words = λ p v e. absurd (cc);
      };
      places = λ p. refl;
    }

-- A run from where one may begin follows the flat machine.
pub follows : {Core Pokes Entry : Type 0} → (z : Sizes) (P : Program Core Pokes Entry) (good : ℕ → Core → Type 0) → Keeps P good → (M : Machine Core)
    → Begins z P good M → (steps : List (Step Pokes)) → Follows z P good (flat_of M) (ran z P M steps)
follows z P good keeps M b steps = follows_passes z P good keeps (flat_of M) steps (from_machine M) (follows_idle z P good M b)
