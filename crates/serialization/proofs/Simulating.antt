-- Each step keeps the machine's relation to the flat machine.
use Rattle.std.proofs.Common.{◌≡◌, ℕ, ◌%◌, ◌^◌, ◌<◌, true, false, List, [], ◌∷◌, map, inl, inr, Option, Some, None, refl, sym, ap, ap₂, ◌∙◌, subst, arith, drop}
use Rattle.std.proofs.lemmas.Bool.{cases_eq, cases_Bool, true≢false}
use Rattle.network_theory.specs.phi_algebra.declared.phi.Phi.{Phi}
use Rattle.network_theory.specs.phi_algebra.Functions.{IsInRange}
use Rattle.network_theory.specs.messages.declared.message.Request.{Request}
use Rattle.network_theory.specs.messages.declared.message.Reply.{Reply}
use Rattle.network_theory.specs.messages.Places.{put, In, Distinct}
use Rattle.network_theory.specs.messages.Queues.{applied}
use Rattle.network_theory.specs.messages.Network.{Sizes, wires, Net, put_requests, put_replies, records_on}
use Rattle.network_theory.specs.messages.Naming.{Unnamed}
use Rattle.network_theory.specs.messages.Moves.{injected, module_taken, module_replied, port_taken}
use Rattle.network_theory.specs.omega_wires.Wires.{path as way}
use Rattle.network_theory.proofs.Lemmas.omega_wires.{path_zero}
use Rattle.network_theory.specs.Giving.{leaves}
use Rattle.network_theory.specs.Roles.{Role, Idle, Asking, Replying, Placed}
use Rattle.network_theory.specs.Meaning.{Means, Executed, execute, execute_all}
use Rattle.serialization.specs.Program.{Program, Alone, Refers, Keeps, own_of, word_of, path_of}
use Rattle.serialization.specs.Machine.{Machine, stalled, with_net, retire_from, request_of, issue, advance, serve_from, poked}
use Rattle.serialization.specs.Order.{FlatMachine, flat_turn, flat_taken, flat_step, flat_run}
use Rattle.serialization.specs.Simulation.{shows, Simulates, Kept}
use Rattle.network_theory.proofs.Lemmas.messages.{put_other, put_same}
use Rattle.network_theory.proofs.Lemmas.{applied_small, below_role, executed_mem, executed_other, gives_leads}
use Rattle.network_theory.proofs.Lemmas.{groups_change, groups_issue, groups_serve, means_change, means_issue}
use Rattle.network_theory.proofs.Lemmas.{means_nothing, means_pop_reply, means_pop_request, means_serve, not_idle}
use Rattle.network_theory.proofs.Lemmas.{placed_change, placed_nowhere, pop_reply, pop_reply_unnamed, pop_request}
use Rattle.network_theory.proofs.Lemmas.{pop_request_unnamed, push_reply, push_request, put_agree, request_led}
use Rattle.network_theory.proofs.Lemmas.{small_put, unnamed_idle}

-- After a step that stalls, the machine simulates the flat machine.
pub kept_stalled : {Core Pokes Entry : Type 0}
    → (z : Sizes) (P : Program Core Pokes Entry) (good : ℕ → Core → Type 0) (M : Machine Core) (group : ℕ → List ℕ) (owed : ℕ → Option ℕ)
    (F : FlatMachine Core) → Simulates z P good M group owed F → Kept z P good M.core group owed F (stalled M)
unfolding flat_run
kept_stalled z P good M group owed F ok = ok

-- A reference in the flat machine, of a processor whose core is known.
flat_refers : {Core Pokes Entry : Type 0} → (P : Program Core Pokes Entry) (F : FlatMachine Core) (j : ℕ) (c : Core) → F.core j ≡ c → P.kind j c ≡ Refers
    → flat_step P F (P.entry.turn j) ≡ record {
      mem = put F.mem (P.word_of j c) (applied (P.phi_of j c) (F.mem (P.word_of j c)));
      core = put F.core j (P.retire j c (F.mem (P.word_of j c)));
    }
flat_refers P F j c e refers = ap (flat_taken P F) (P.entry.of_turn j) ∙ (λ i. flat_turn P F j (e i) (P.kind j (e i))) ∙ ap (flat_turn P F j c) refers

-- A turn without a reference in the flat machine, of a processor whose core is known.
flat_advances : {Core Pokes Entry : Type 0} → (P : Program Core Pokes Entry) (F : FlatMachine Core) (j : ℕ) (c : Core) → F.core j ≡ c → P.kind j c ≡ Alone
    → flat_step P F (P.entry.turn j) ≡ record { mem = F.mem; core = put F.core j (P.alone j c) }
flat_advances P F j c e alone = ap (flat_taken P F) (P.entry.of_turn j) ∙ (λ i. flat_turn P F j (e i) (P.kind j (e i))) ∙ ap (flat_turn P F j c) alone

-- If the flat machine takes the turn of a processor of a group, its words and cores are those after that processor is
-- served.
pub flat_shows_one : {Core Pokes Entry : Type 0} → (P : Program Core Pokes Entry) (core : ℕ → Core) (j : ℕ) (f : Executed) (F : FlatMachine Core)
    → f.owed j ≡ None → P.kind j (core j) ≡ Refers
    → ((a : ℕ) → f.mem a ≡ F.mem a) → ((p : ℕ) → F.core p ≡ shows P p (f.owed p) (core p))
    → ((a : ℕ) → (execute (own_of P core) (word_of P core) f j).mem a ≡ (flat_step P F (P.entry.turn j)).mem a)
    × ((p : ℕ) → (flat_step P F (P.entry.turn j)).core p ≡ shows P p ((execute (own_of P core) (word_of P core) f j).owed p) (core p))
flat_shows_one {Core} P core j f F none refer mems shown =
    let g : F.core j ≡ core j = shown j ∙ ap (λ o. shows P j o (core j)) none in
    let a : ℕ = P.word_of j (core j) in
    let G : FlatMachine Core = record { mem = put F.mem a (applied (P.phi_of j (core j)) (F.mem a)); core = put F.core j (P.retire j (core j) (F.mem a)) } in
    let st : flat_step P F (P.entry.turn j) ≡ G = flat_refers P F j (core j) g refer in
    let f' : Executed = execute (own_of P core) (word_of P core) f j in
    let same_mem : (i : ℕ) → f'.mem i ≡ G.mem i
    = (λ i. put_agree f.mem F.mem a (applied (P.phi_of j (core j)) (f.mem a)) i mems ∙ ap (λ v. put F.mem a (applied (P.phi_of j (core j)) v) i) (mems a)) in
    let same_core : (p : ℕ) → G.core p ≡ shows P p (f'.owed p) (core p)
    = (λ p. elim (cases_eq p j) [
      | inl e ↦ ap G.core e ∙ put_same F.core j (P.retire j (core j) (F.mem a)) ∙ ap (λ v. P.retire j (core j) v) (sym (mems a))
          ∙ ap (λ o. shows P j o (core j)) (sym (put_same f.owed j (Some (f.mem a)))) ∙ ap (λ i. shows P i (f'.owed i) (core i)) (sym e)
      | inr n ↦ put_other F.core j (P.retire j (core j) (F.mem a)) p n ∙ shown p
          ∙ ap (λ o. shows P p o (core p)) (sym (put_other f.owed j (Some (f.mem a)) p n))
    ]) in
    subst (λ (H : FlatMachine Core). ((i : ℕ) → f'.mem i ≡ H.mem i) × ((p : ℕ) → H.core p ≡ shows P p (f'.owed p) (core p))) (sym st) (same_mem, same_core)

-- After j of a group is served, the others are still owed nothing.
pub still_none : (f : Executed) (own : ℕ → Phi) (word : ℕ → ℕ) (j : ℕ) (js : List ℕ) → Distinct (j ∷ js) → ((i : ℕ) → In i (j ∷ js) → f.owed i ≡ None)
    → (i : ℕ) → In i js → (execute own word f j).owed i ≡ None
still_none f own word j js d none i m = put_other f.owed j (Some (f.mem (word j))) i (λ e. d.0 (subst (λ l. In l js) e m)) ∙ none i (inr m)

-- If the flat machine takes the turns of a group, its words and cores are those after the group is served.
pub flat_shows : {Core Pokes Entry : Type 0} → (P : Program Core Pokes Entry) (core : ℕ → Core) (js : List ℕ) (f : Executed) (F : FlatMachine Core)
    → Distinct js → ((j : ℕ) → In j js → f.owed j ≡ None) → ((j : ℕ) → In j js → P.kind j (core j) ≡ Refers)
    → ((a : ℕ) → f.mem a ≡ F.mem a) → ((p : ℕ) → F.core p ≡ shows P p (f.owed p) (core p))
    → ((a : ℕ) → (execute_all (own_of P core) (word_of P core) f js).mem a ≡ (flat_run P F (map P.entry.turn js)).mem a)
    × ((p : ℕ) → (flat_run P F (map P.entry.turn js)).core p ≡ shows P p ((execute_all (own_of P core) (word_of P core) f js).owed p) (core p))
unfolding flat_run execute_all
flat_shows P core [] f F d none refer mems shown = (mems, shown)
flat_shows P core (j ∷ js) f F d none refer mems shown =
    let one = flat_shows_one P core j f F (none j (inl refl)) (refer j (inl refl)) mems shown in
    flat_shows P core js (execute (own_of P core) (word_of P core) f j) (flat_step P F (P.entry.turn j)) d.1
    (still_none f (own_of P core) (word_of P core) j js d none) (λ i m. refer i (inr m)) one.0 one.1

good_put : {Core : Type 0} → (good : ℕ → Core → Type 0) (core : ℕ → Core) (p : ℕ) (g : Core) → ((q : ℕ) → good q (core q)) → good p g → (q : ℕ)
    → good q (put core p g q)
good_put good core p g all one q = elim (cases_eq q p) [
  | inl e ↦ subst (λ i. good i (put core p g i)) (sym e) (subst (good p) (sym (put_same core p g)) one)
  | inr n ↦ subst (good q) (sym (put_other core p g q n)) (all q)
]

small_put_word : (mem : ℕ → ℕ) (a v : ℕ) → ((i : ℕ) → mem i < 2 ^ 32) → v < 2 ^ 32 → (i : ℕ) → put mem a v i < 2 ^ 32
small_put_word mem a v all one i = elim (cases_eq i a) [
  | inl e ↦ subst (λ n. n < 2 ^ 32) (sym (ap (put mem a v) e ∙ put_same mem a v)) one
  | inr n ↦ subst (λ m. m < 2 ^ 32) (sym (put_other mem a v i n)) (all i)
]

-- A group leaves words below 2^32, and is owed such words.
executed_small : (own : ℕ → Phi) (word : ℕ → ℕ) (f : Executed) (js : List ℕ) → ((j : ℕ) → In j js → IsInRange (own j)) → ((a : ℕ) → f.mem a < 2 ^ 32)
    → ((p v : ℕ) → f.owed p ≡ Some v → v < 2 ^ 32)
    → ((a : ℕ) → (execute_all own word f js).mem a < 2 ^ 32) × ((p v : ℕ) → (execute_all own word f js).owed p ≡ Some v → v < 2 ^ 32)
unfolding execute_all
executed_small own word f [] range mems owes = (mems, owes)
executed_small own word f (j ∷ js) range mems owes =
    executed_small own word (execute own word f j) js (λ i m. range i (inr m))
    (small_put_word f.mem (word j) (applied (own j) (f.mem (word j))) mems (applied_small (own j) (f.mem (word j)) (range j (inl refl))))
    (λ p v e. elim (cases_eq p j) [
      | inl s ↦ (let h : Some (f.mem (word j)) ≡ Some v = sym (ap (put f.owed j (Some (f.mem (word j)))) s ∙ put_same f.owed j (Some (f.mem (word j)))) ∙ e in
          let k : f.mem (word j) ≡ v = cc in subst (λ n. n < 2 ^ 32) k (mems (word j)))
      | inr n ↦ owes p v (sym (put_other f.owed j (Some (f.mem (word j))) p n) ∙ e)
    ])

-- After a processor without an open reference issues one, the machine simulates the flat machine.
pub kept_issue : {Core Pokes Entry : Type 0}
    → (z : Sizes) (P : Program Core Pokes Entry) (good : ℕ → Core → Type 0) (M : Machine Core) (group : ℕ → List ℕ) (owed : ℕ → Option ℕ)
    (F : FlatMachine Core) (p : ℕ) → Simulates z P good M group owed F → p < wires z → M.is_open p ≡ false → P.kind p (M.core p) ≡ Refers
    → IsInRange (P.phi_of p (M.core p)) → Kept z P good M.core group owed F (issue P M p)
unfolding flat_run injected
kept_issue z P good M group owed F p ok l shut refers in_range =
    let path = path_of z P M.core in
    let idle = (ok.shut p shut).0 in
    let free = unnamed_idle z.k path ok.role M.net p ok.placed idle in
    record {
      role = put ok.role p (Asking 0);
      placed = push_request z.k path ok.role M.net 0 p (request_of P M.core p) ok.placed free
          (λ s w x m e. below_role z.k path ok.role M.net p Idle ok.placed idle s w x m e) (path_zero z.k p (P.word_of p (M.core p) % wires z)) (omega arith);
      means = means_issue (own_of P M.core) (word_of P M.core) path group owed M.net p p (request_of P M.core p) ok.means free refl refl refl in_range;
      groups = groups_issue (word_of P M.core) M.is_open group owed p ok.groups shut ((ok.shut p shut).1);
      mem_same = ok.mem_same;
      shown = ok.shown;
      shut = λ q e. elim (cases_eq q p) [
        | inl same ↦ absurd (true≢false (sym (ap (put M.is_open p true) same ∙ put_same M.is_open p true) ∙ e))
        | inr n ↦ (let h = ok.shut q (sym (put_other M.is_open p true q n) ∙ e) in (put_other ok.role p (Asking 0) q n ∙ h.0, h.1))
      ];
      refers = λ q e. elim (cases_eq q p) [
        | inl same ↦ ap (λ i. P.kind i (M.core i)) same ∙ refers
        | inr n ↦ ok.refers q (sym (put_other M.is_open p true q n) ∙ e)
      ];
      small = small_put ok.role (wires z) p (Asking 0) ok.small l;
      within = λ q e. elim (cases_eq q p) [
        | inl same ↦ subst (λ i. i < wires z) (sym same) l
        | inr n ↦ ok.within q (sym (put_other M.is_open p true q n) ∙ e)
      ];
      good_cores = ok.good_cores;
      words = ok.words;
      owed_words = ok.owed_words;
    }

-- A reply on its processor's wire has the value that the processor is owed.
pub owed_reply : {Core Pokes Entry : Type 0}
    → (z : Sizes) (P : Program Core Pokes Entry) (good : ℕ → Core → Type 0) (M : Machine Core) (group : ℕ → List ℕ) (owed : ℕ → Option ℕ)
    (F : FlatMachine Core) (p : ℕ) (y : Reply) (rest : List Reply) → Simulates z P good M group owed F → M.net.replies 0 p ≡ y ∷ rest → owed p ≡ Some y.value
owed_reply z P good M group owed F p y rest ok e =
    let path = path_of z P M.core in
    let here : In y (M.net.replies 0 p) = rw e (inl refl) in
    let is : y.leader ≡ p = sym (path_zero z.k y.leader (P.word_of y.leader (M.core y.leader) % wires z)) ∙ (ok.placed.replies 0 p y here).wire in
    ap owed (sym is) ∙ ok.means.replies 0 p y here (y.leader, y.value) (gives_leads (records_on path M.net.records) y.leader 0 y.value)

-- After a processor takes the reply to its reference, the machine simulates the flat machine.
pub kept_retire : {Core Pokes Entry : Type 0}
    → (z : Sizes) (P : Program Core Pokes Entry) (good : ℕ → Core → Type 0) (keeps : Keeps P good) (M : Machine Core) (group : ℕ → List ℕ)
    (owed : ℕ → Option ℕ) (F : FlatMachine Core) (p : ℕ) (y : Reply) (rest : List Reply) → Simulates z P good M group owed F → p < wires z
    → M.is_open p ≡ true → M.net.replies 0 p ≡ y ∷ rest
    → Kept z P good M.core group owed F (retire_from P M p (y ∷ rest))
unfolding flat_run port_taken
kept_retire z P good keeps M group owed F p y rest ok l opened e =
    let path = path_of z P M.core in
    let core' = put M.core p (P.retire p (M.core p) y.value) in
    let here : In y (M.net.replies 0 p) = rw e (inl refl) in
    let at = ok.placed.replies 0 p y here in
    let is : y.leader ≡ p = sym (path_zero z.k y.leader (P.word_of y.leader (M.core y.leader) % wires z)) ∙ at.wire in
    let replying : ok.role p ≡ Replying 0 = ap ok.role (sym is) ∙ at.replying in
    let found : owed p ≡ Some y.value = owed_reply z P good M group owed F p y rest ok e in
    let left : drop 1 (M.net.replies 0 p) ≡ rest = ap (drop 1) e in
    let net1 : Net = put_replies M.net 0 p (drop 1 (M.net.replies 0 p)) in
    let popped : M.net.replies 0 p ≡ y ∷ drop 1 (M.net.replies 0 p) = e ∙ ap (λ ys. y ∷ ys) (sym left) in
    let placed1 = pop_reply z.k path ok.role M.net 0 p y (drop 1 (M.net.replies 0 p)) ok.placed popped in
    let free : Unnamed net1 p = subst (Unnamed net1) is (pop_reply_unnamed z.k path ok.role M.net 0 p y (drop 1 (M.net.replies 0 p)) ok.placed popped) in
    let out_of : (i : ℕ) → In p (group i) → ⊥ = (λ i m. let n = ok.groups.unserved i p m in let c : Some y.value ≡ None = sym found ∙ n in cc) in
    let same : (q : ℕ) → (q ≡ p → ⊥) → core' q ≡ M.core q = (λ q n. put_other M.core p (P.retire p (M.core p) y.value) q n) in
    record {
      role = put ok.role p Idle;
      placed = placed_change z.k path (path_of z P core') ok.role Idle net1 p placed1 free
          (λ s w x m f. absurd (no_less s (below_role z.k path ok.role M.net p (Replying 0) ok.placed replying s w x m f)))
          (λ q d n. ap (λ g. way z.k q (P.word_of q g % wires z) d) (same q n));
      means = means_change (own_of P M.core) (own_of P core') (word_of P M.core) (word_of P core') M.is_open path (path_of z P core') group owed
          (put owed p None) net1 p
          (means_pop_reply (own_of P M.core) (word_of P M.core) path group owed M.net 0 p y (drop 1 (M.net.replies 0 p)) ok.means popped) free out_of
          (λ q n. ap (P.phi_of q) (same q n)) (λ q n. ap (P.word_of q) (same q n)) (λ q d n. ap (λ g. way z.k q (P.word_of q g % wires z) d) (same q n))
          (λ q n. put_other owed p None q n);
      groups = groups_change (word_of P M.core) (word_of P core') M.is_open (put M.is_open p false) group owed (put owed p None) p ok.groups out_of
          (λ q n. ap (P.word_of q) (same q n)) (λ q n. put_other owed p None q n) (λ q n. put_other M.is_open p false q n);
      mem_same = ok.mem_same;
      shown = λ q. elim (cases_eq q p) [
        | inl f ↦ ap F.core f ∙ ok.shown p ∙ ap (λ o. shows P p o (M.core p)) found ∙ sym (put_same M.core p (P.retire p (M.core p) y.value))
            ∙ ap (λ o. shows P p o (core' p)) (sym (put_same owed p None)) ∙ ap (λ i. shows P i (put owed p None i) (core' i)) (sym f)
        | inr n ↦ ok.shown q ∙ ap₂ (shows P q) (sym (put_other owed p None q n)) (sym (same q n))
      ];
      shut = λ q f. elim (cases_eq q p) [
        | inl g ↦ (ap (put ok.role p Idle) g ∙ put_same ok.role p Idle, ap (put owed p None) g ∙ put_same owed p None)
        | inr n ↦ (let h = ok.shut q (sym (put_other M.is_open p false q n) ∙ f) in (put_other ok.role p Idle q n ∙ h.0, put_other owed p None q n ∙ h.1))
      ];
      refers = λ q f. elim (cases_eq q p) [
        | inl g ↦ absurd (true≢false (sym f ∙ ap (put M.is_open p false) g ∙ put_same M.is_open p false))
        | inr n ↦ ap (P.kind q) (same q n) ∙ ok.refers q (sym (put_other M.is_open p false q n) ∙ f)
      ];
      small = small_put ok.role (wires z) p Idle ok.small l;
      within = λ q f. elim (cases_eq q p) [
        | inl g ↦ subst (λ i. i < wires z) (sym g) l
        | inr n ↦ ok.within q (sym (put_other M.is_open p false q n) ∙ f)
      ];
      good_cores = good_put good M.core p (P.retire p (M.core p) y.value) ok.good_cores
          (keeps.retire p (M.core p) y.value (ok.good_cores p) (ok.refers p opened) (ok.owed_words p y.value found));
      words = ok.words;
      owed_words = λ q v f. elim (cases_eq q p) [
        | inl g ↦ (let c : None ≡ Some v = sym (ap (put owed p None) g ∙ put_same owed p None) ∙ f in cc)
        | inr n ↦ ok.owed_words q v (sym (put_other owed p None q n) ∙ f)
      ];
    }
  where
    no_less : (s : ℕ) → s < 0 → ⊥
    no_less s h = omega arith

-- After a module serves a request, the machine simulates the flat machine that took the turns of its group.
pub kept_serve : {Core Pokes Entry : Type 0}
    → (z : Sizes) (P : Program Core Pokes Entry) (good : ℕ → Core → Type 0) (keeps : Keeps P good) (M : Machine Core) (group : ℕ → List ℕ)
    (owed : ℕ → Option ℕ) (F : FlatMachine Core) (m : ℕ) (x : Request) (rest : List Request) → Simulates z P good M group owed F
    → M.net.requests z.k m ≡ x ∷ rest
    → Kept z P good M.core group owed F (serve_from z M m (x ∷ rest) [])
unfolding module_taken module_replied
kept_serve z P good keeps M group owed F m x rest ok e =
    let path = path_of z P M.core in
    let own = own_of P M.core in
    let word = word_of P M.core in
    let p : ℕ = x.leader in
    let here : In x (M.net.requests z.k m) = rw e (inl refl) in
    let at = ok.placed.requests z.k m x here in
    let mean = ok.means.requests z.k m x here in
    let f : Executed = record { mem = F.mem; owed = owed } in
    let y : Reply = record { leader = p; value = M.mem x.word } in
    let popped : M.net.requests z.k m ≡ x ∷ drop 1 (M.net.requests z.k m) = e ∙ ap (λ xs. x ∷ xs) (sym (ap (drop 1) e)) in
    let net1 : Net = put_requests M.net z.k m (drop 1 (M.net.requests z.k m)) in
    let placed1 = pop_request z.k path ok.role M.net z.k m x (drop 1 (M.net.requests z.k m)) ok.placed popped in
    let free : Unnamed net1 p = pop_request_unnamed z.k path ok.role M.net z.k m x (drop 1 (M.net.requests z.k m)) ok.placed popped in
    let means1 = means_pop_request own word path group owed M.net z.k m x (drop 1 (M.net.requests z.k m)) ok.means popped in
    let refer : (j : ℕ) → In j (group p) → P.kind j (M.core j) ≡ Refers = (λ j i. ok.refers j (ok.groups.opened p j i)) in
    let flat = flat_shows P M.core (group p) f F (ok.groups.distinct p) (λ j i. ok.groups.unserved p j i) refer (λ a. refl) ok.shown in
    let led : In p (group p) = request_led own word group (records_on path M.net.records) z.k x mean in
    let small_words = executed_small own word f (group p) (λ j i. keeps.phi j (M.core j) (ok.good_cores j) (refer j i))
    (λ a. subst (λ v. v < 2 ^ 32) (ok.mem_same a) (ok.words a)) ok.owed_words in
    record {
      role = put ok.role p (Replying z.k);
      placed = push_reply z.k path ok.role net1 z.k m y placed1 free
          (λ s w r i g. below_role z.k path ok.role M.net p (Asking z.k) ok.placed at.asks s w r i g) at.wire (omega arith);
      means = means_serve own word M.is_open path group f net1 z.k m x y means1 ok.groups mean free refl (ok.mem_same x.word);
      groups = groups_serve own word M.is_open group f p ok.groups;
      mem_same = λ a.
          put_agree M.mem F.mem x.word (applied x.phi (M.mem x.word)) a ok.mem_same
          ∙ ap (λ v. put F.mem x.word (applied x.phi v) a) (ok.mem_same x.word)
          ∙ ap (λ v. put F.mem x.word v a) (mean.function (F.mem x.word))
          ∙ ap (λ w. put F.mem w (leaves own (group p) (F.mem w)) a) mean.word_is
          ∙ sym (executed_mem own word f (group p) (word p) (λ j i. ok.groups.one_word p j p i led) a)
          ∙ flat.0 a;
      shown = flat.1;
      refers = ok.refers;
      shut = λ q i. let h = ok.shut q i in
          let n : q ≡ p → ⊥ = not_idle ok.role p q (Asking z.k) at.asks (λ c. cc) h.0 in
          (put_other ok.role p (Replying z.k) q n ∙ h.0, executed_other own word f (group p) q (λ o. true≢false (sym (ok.groups.opened p q o) ∙ i)) ∙ h.1);
      small = elim (ok.small p) [
        | inl i ↦ (let c = sym at.asks ∙ i in cc)
        | inr l ↦ small_put ok.role (wires z) p (Replying z.k) ok.small l
      ];
      within = ok.within;
      good_cores = ok.good_cores;
      words = small_put_word M.mem x.word (applied x.phi (M.mem x.word)) ok.words (applied_small x.phi (M.mem x.word) mean.in_range);
      owed_words = small_words.1;
    }

-- After a step that adds no entry and changes no group, but only the network, the machine simulates the flat machine.
pub kept_plain : {Core Pokes Entry : Type 0}
    → (z : Sizes) (P : Program Core Pokes Entry) (good : ℕ → Core → Type 0) (M : Machine Core) (group : ℕ → List ℕ) (owed : ℕ → Option ℕ)
    (F : FlatMachine Core) (net : Net) (role : ℕ → Role) (ok : Simulates z P good M group owed F)
    → Placed z.k (path_of z P M.core) role net → Means (own_of P M.core) (word_of P M.core) (path_of z P M.core) group owed net
    → ((q : ℕ) → ok.role q ≡ Idle → role q ≡ Idle)
    → Simulates z P good (with_net M net) group owed F
kept_plain z P good M group owed F net role ok placed means idle = record {
  role = role;
  placed = placed;
  means = means;
  groups = ok.groups;
  mem_same = ok.mem_same;
  shown = ok.shown;
  refers = ok.refers;
  shut = λ p e. let h = ok.shut p e in (idle p h.0, h.1);
  small = λ p. elim (ok.small p) [ inl i ↦ inl (idle p i) | inr l ↦ inr l ];
  within = ok.within;
  good_cores = ok.good_cores;
  words = ok.words;
  owed_words = ok.owed_words;
}

-- After a local instruction or a stop, the machine simulates the flat machine.
pub kept_advance : {Core Pokes Entry : Type 0}
    → (z : Sizes) (P : Program Core Pokes Entry) (good : ℕ → Core → Type 0) (keeps : Keeps P good) (M : Machine Core) (group : ℕ → List ℕ)
    (owed : ℕ → Option ℕ) (F : FlatMachine Core) (p : ℕ) → Simulates z P good M group owed F → p < wires z → M.is_open p ≡ false → P.kind p (M.core p) ≡ Alone
    → Kept z P good M.core group owed F (advance P M p)
unfolding flat_run
kept_advance {Core} z P good keeps M group owed F p ok l shut is =
    let path = path_of z P M.core in
    let core' = put M.core p (P.alone p (M.core p)) in
    let idle = (ok.shut p shut).0 in
    let free = unnamed_idle z.k path ok.role M.net p ok.placed idle in
    let out_of : (i : ℕ) → In p (group i) → ⊥ = (λ i m. true≢false (sym (ok.groups.opened i p m) ∙ shut)) in
    let same : (q : ℕ) → (q ≡ p → ⊥) → core' q ≡ M.core q = (λ q n. put_other M.core p (P.alone p (M.core p)) q n) in
    let here : F.core p ≡ M.core p = ok.shown p ∙ ap (λ o. shows P p o (M.core p)) ((ok.shut p shut).1) in
    let G : FlatMachine Core = record { mem = F.mem; core = put F.core p (P.alone p (M.core p)) } in
    subst (λ H. Simulates z P good (advance P M p).machine group owed H) (sym (flat_advances P F p (M.core p) here is)) (record {
      role = put ok.role p Idle;
      placed = placed_change z.k path (path_of z P core') ok.role Idle M.net p ok.placed free
          (λ s w x m f. absurd (no_less s (below_role z.k path ok.role M.net p Idle ok.placed idle s w x m f)))
          (λ q d n. ap (λ g. way z.k q (P.word_of q g % wires z) d) (same q n));
      means = means_change (own_of P M.core) (own_of P core') (word_of P M.core) (word_of P core') M.is_open path
          (path_of z P core') group owed owed M.net p ok.means free out_of
          (λ q n. ap (P.phi_of q) (same q n)) (λ q n. ap (P.word_of q) (same q n)) (λ q d n. ap (λ g. way z.k q (P.word_of q g % wires z) d) (same q n))
          (λ q n. refl);
      groups = groups_change (word_of P M.core) (word_of P core') M.is_open M.is_open group owed owed p ok.groups out_of (λ q n. ap (P.word_of q) (same q n))
          (λ q n. refl) (λ q n. refl);
      mem_same = ok.mem_same;
      shown = λ q. elim (cases_eq q p) [
        | inl f ↦ ap G.core f ∙ put_same F.core p (P.alone p (M.core p)) ∙ sym (put_same M.core p (P.alone p (M.core p)))
            ∙ ap (λ o. shows P p o (core' p)) (sym ((ok.shut p shut).1)) ∙ ap (λ i. shows P i (owed i) (core' i)) (sym f)
        | inr n ↦ put_other F.core p (P.alone p (M.core p)) q n ∙ ok.shown q ∙ ap (shows P q (owed q)) (sym (same q n))
      ];
      shut = λ q f. elim (cases_eq q p) [
        | inl g ↦ (ap (put ok.role p Idle) g ∙ put_same ok.role p Idle, ap owed g ∙ (ok.shut p shut).1)
        | inr n ↦ (let h = ok.shut q f in (put_other ok.role p Idle q n ∙ h.0, h.1))
      ];
      refers = λ q f. elim (cases_eq q p) [
        | inl g ↦ absurd (true≢false (sym f ∙ ap M.is_open g ∙ shut))
        | inr n ↦ ap (P.kind q) (same q n) ∙ ok.refers q f
      ];
      small = small_put ok.role (wires z) p Idle ok.small l;
      within = ok.within;
      good_cores = good_put good M.core p (P.alone p (M.core p)) ok.good_cores (keeps.alone p (M.core p) (ok.good_cores p) is);
      words = ok.words;
      owed_words = ok.owed_words;
    })
  where
    no_less : (s : ℕ) → s < 0 → ⊥
    no_less s h = omega arith

-- After a poke of an idle machine, the machine simulates the flat machine.
pub kept_poked : {Core Pokes Entry : Type 0}
    → (z : Sizes) (P : Program Core Pokes Entry) (good : ℕ → Core → Type 0) (keeps : Keeps P good) (M : Machine Core) (group : ℕ → List ℕ)
    (owed : ℕ → Option ℕ) (F : FlatMachine Core) (q : Pokes) → Simulates z P good M group owed F → ((p : ℕ) → p < wires z → M.is_open p ≡ false)
    → P.is_lawful M.core q ≡ true → Kept z P good M.core group owed F (poked P M q)
unfolding flat_run
kept_poked z P good keeps M group owed F q ok shut lawful =
    let all : (p : ℕ) → M.is_open p ≡ false =
    (λ p. elim (cases_Bool (M.is_open p)) [ inl o ↦ absurd (true≢false (sym o ∙ shut p (ok.within p o))) | inr c ↦ c ]) in
    let idle : (p : ℕ) → ok.role p ≡ Idle = (λ p. (ok.shut p (all p)).0) in
    let none : (p : ℕ) → owed p ≡ None = (λ p. (ok.shut p (all p)).1) in
    let no_group : (p j : ℕ) → In j (group p) → ⊥ = (λ p j m. true≢false (sym (ok.groups.opened p j m) ∙ all j)) in
    let core' = P.poked_core q M.core in
    let mems : M.mem ≡ F.mem = (λ i a. ok.mem_same a i) in
    let cores : M.core ≡ F.core = (λ i p. sym (ok.shown p ∙ ap (λ o. shows P p o (M.core p)) (none p)) i) in
    subst (λ H. Simulates z P good (poked P M q).machine group owed H) (sym (ap (flat_taken P F) (P.entry.of_poke q))) (record {
      role = ok.role;
      placed = placed_nowhere z.k (path_of z P M.core) (path_of z P core') ok.role M.net ok.placed idle;
      means = means_nothing z.k (path_of z P M.core) ok.role M.net (own_of P core') (word_of P core') (path_of z P core') group owed ok.placed idle;
      groups = record {
        opened = ok.groups.opened;
        unserved = ok.groups.unserved;
        one_word = λ p i j m o. absurd (no_group p i m);
        home = ok.groups.home;
        distinct =
            ok.groups.distinct;
      };
      mem_same = λ a. ap (λ f. P.poked_mem q f a) mems;
      shown = λ p. ap (λ f. P.poked_core q f p) (sym cores) ∙ ap (λ o. shows P p o (core' p)) (sym (none p));
      shut = ok.shut;
      refers = λ p e. absurd (true≢false (sym e ∙ all p));
      small = ok.small;
      within = ok.within;
      good_cores = keeps.poked_core q M.core lawful ok.good_cores;
      words = keeps.poked_mem q M.core M.mem lawful ok.words;
      owed_words = ok.owed_words;
    })
