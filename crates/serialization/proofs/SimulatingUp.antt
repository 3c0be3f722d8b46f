-- A request moves up.
use Rattle.network_theory.specs.Meaning.{Groups, joined}
use Rattle.network_theory.proofs.Lemmas.{below_role, combining_meaning, combining_places, groups_joined}
use Rattle.network_theory.proofs.Lemmas.{means_pop_request, means_push_request, not_idle, pop_request}
use Rattle.network_theory.proofs.Lemmas.{pop_request_unnamed, push_request, records_none, request_further}
use Rattle.network_theory.proofs.Lemmas.{request_led, small_put}
use Rattle.std.proofs.Common.{◌≡◌, ℕ, suc, ◌%◌, ◌<◌, ◌≤◌, true, false, List, [], ◌∷◌, ◌++◌, length, nat_lt}
use Rattle.std.proofs.Common.{inl, inr, Option, Some, None, refl, sym, ap₂, ◌∙◌, subst, arith, ap}
use Rattle.std.specs.Prelude.{if◌then◌else◌}
use Rattle.network_theory.specs.messages.declared.message.Request.{Request}
use Rattle.network_theory.specs.messages.declared.message.Record.{Record}
use Rattle.network_theory.specs.messages.Places.{put, In}
use Rattle.network_theory.specs.messages.Queues.{Combination, combination, unmarked}
use Rattle.network_theory.specs.messages.Network.{Sizes, wires, Net, put_requests, records_on}
use Rattle.network_theory.specs.messages.declared.moves.UpMove.TheVariants as up
use Rattle.network_theory.specs.messages.Naming.{Unnamed}
use Rattle.network_theory.specs.messages.Moves.{queued, combined, accepted, up_from}
use Rattle.network_theory.specs.omega_wires.Wires.{wire_after}
use Rattle.network_theory.proofs.Lemmas.omega_wires.{path_suc}
use Rattle.network_theory.specs.Roles.{Asking, Waiting, depth}
use Rattle.serialization.specs.Program.{Program, own_of, word_of, path_of}
use Rattle.serialization.specs.Machine.{Machine, Moved, with_net, went_up}
use Rattle.serialization.specs.Order.{FlatMachine, flat_run}
use Rattle.serialization.specs.Simulation.{Simulates, Kept}
use Rattle.network_theory.proofs.Lemmas.messages.{In-append_right, combination_joins, put_other}
use Rattle.serialization.proofs.Simulating.{kept_stalled, kept_plain}

kept_moved : {Core Pokes Entry : Type 0}
    → (z : Sizes) (P : Program Core Pokes Entry) (good : ℕ → Core → Type 0) (M : Machine Core) (group : ℕ → List ℕ) (owed : ℕ → Option ℕ)
    (F : FlatMachine Core) (s w v : ℕ) (x : Request) (rest : List Request) → Simulates z P good M group owed F → s < z.k → M.net.requests s w ≡ x ∷ rest
    → path_of z P M.core x.leader (suc s) ≡ v
    → Kept z P good M.core group owed F (went_up M (queued z M.net (put_requests M.net s w rest) s v x))
unfolding flat_run
kept_moved z P good M group owed F s w v x rest ok l e on =
    let path = path_of z P M.core in
    let own = own_of P M.core in
    let word = word_of P M.core in
    let p : ℕ = x.leader in
    let y : Request = unmarked x in
    let here : In x (M.net.requests s w) = rw e (inl refl) in
    let at = ok.placed.requests s w x here in
    let net1 : Net = put_requests M.net s w rest in
    let placed1 = pop_request z.k path ok.role M.net s w x rest ok.placed e in
    let free : Unnamed net1 p = pop_request_unnamed z.k path ok.role M.net s w x rest ok.placed e in
    let means1 = means_pop_request own word path group owed M.net s w x rest ok.means e in
    let below : (t u : ℕ) (r : Record) → In r (M.net.records t u) → r.leader ≡ p
    → t < s = (λ t u r i g. below_role z.k path ok.role M.net p (Asking s) ok.placed at.asks t u r i g) in
    let none : records_on path M.net.records p s ≡ [] = records_none path M.net.records p s (λ u r i g. let b = below s u r i g in omega arith) in
    let moved : Kept z P good M.core group owed F (record {
      machine = with_net M (put_requests net1 (suc s) v (net1.requests (suc s) v ++ y ∷ []));
      outcome = Moved;
    })
    = kept_plain z P good M group owed F (put_requests net1 (suc s) v (net1.requests (suc s) v ++ y ∷ [])) (put ok.role p (Asking (suc s))) ok
    (push_request z.k path ok.role net1 (suc s) v y placed1 free (λ t u r i g. let b = below t u r i g in omega arith) on l)
    (means_push_request own word path group owed net1 (suc s) v y means1
    (request_further own word group (records_on path M.net.records) s x y (ok.means.requests s w x here) none refl refl refl))
    (λ q i. put_other ok.role p (Asking (suc s)) q (not_idle ok.role p q (Asking s) at.asks (λ c. cc) i) ∙ i) in
    elim (nat_lt (length (net1.requests (suc s) v)) z.c) as
    (λ b. Kept z P good M.core group owed F
    (went_up M (if b then (up.Moved, put_requests net1 (suc s) v (net1.requests (suc s) v ++ y ∷ [])) else (up.Stalled, M.net)))) [
      | true ↦ moved
      | false ↦ kept_stalled z P good M group owed F ok
    ]

kept_combined : {Core Pokes Entry : Type 0}
    → (z : Sizes) (P : Program Core Pokes Entry) (good : ℕ → Core → Type 0) (M : Machine Core) (group : ℕ → List ℕ) (owed : ℕ → Option ℕ)
    (F : FlatMachine Core) (s w v : ℕ) (x : Request) (rest : List Request) (j : Combination) → Simulates z P good M group owed F → s < z.k
    → M.net.requests s w ≡ x ∷ rest
    → path_of z P M.core x.leader (suc s) ≡ v → combination z.b z.r x ((put_requests M.net s w rest).requests (suc s) v) (M.net.records s v) ≡ Some j
    → Kept z P good M.core group owed F (went_up M (combined (put_requests M.net s w rest) s v j))
unfolding flat_run
kept_combined z P good M group owed F s w v x rest j ok l e on is =
    let path = path_of z P M.core in
    let own = own_of P M.core in
    let word = word_of P M.core in
    let q : ℕ = x.leader in
    let p : ℕ = j.made.leader in
    let here : In x (M.net.requests s w) = rw e (inl refl) in
    let at = ok.placed.requests s w x here in
    let mean = ok.means.requests s w x here in
    let net1 : Net = put_requests M.net s w rest in
    let placed1 = pop_request z.k path ok.role M.net s w x rest ok.placed e in
    let free : Unnamed net1 q = pop_request_unnamed z.k path ok.role M.net s w x rest ok.placed e in
    let means1 = means_pop_request own word path group owed M.net s w x rest ok.means e in
    let J = combination_joins z.b z.r x (net1.requests (suc s) v) (net1.records s v) j is in
    let led : J.entry.leader ≡ p = ap (λ (i : Combination). i.made.leader) (sym J.is) in
    let there : In J.entry (net1.requests (suc s) v) = subst (In J.entry) (sym J.was) (In-append_right J.entry J.front (J.entry ∷ J.behind) (inl refl)) in
    let mine = means1.requests (suc s) v J.entry there in
    let n : p ≡ q → ⊥ = (λ f. free.requests (suc s) v J.entry there (led ∙ f)) in
    let one : word q ≡ word p = sym mean.word_is ∙ sym J.same_word ∙ mine.word_is ∙ ap word led in
    record {
      role = put ok.role q (Waiting s p);
      placed = combining_places z.k path ok.role net1 z.b z.r s v x j is placed1 free (subst (λ r. depth r ≤ s) (sym at.asks) (omega arith)) on;
      means = combining_meaning own word path group owed z.k ok.role net1 z.b z.r s v x j is placed1 means1 free mean;
      groups = subst (λ i. Groups word M.is_open (joined group p i) owed) (ap (λ (i : Combination). i.made.second) (sym J.is))
          (groups_joined word M.is_open group owed p q ok.groups n one
          (subst (λ i. In i (group i)) led (request_led own word group (records_on path M.net.records) (suc s) J.entry mine))
          (request_led own word group (records_on path M.net.records) s x mean));
      mem_same = ok.mem_same;
      shown = ok.shown;
      refers = ok.refers;
      shut = λ i f. let h = ok.shut i f in (put_other ok.role q (Waiting s p) i (not_idle ok.role q i (Asking s) at.asks (λ c. cc) h.0) ∙ h.0, h.1);
      small = elim (ok.small q) [
        | inl i ↦ (let c = sym at.asks ∙ i in cc)
        | inr lq ↦ small_put ok.role (wires z) q (Waiting s p) ok.small lq
      ];
      within = ok.within;
      good_cores = ok.good_cores;
      words = ok.words;
      owed_words = ok.owed_words;
    }

-- After the first request on a wire moves up, the machine simulates the flat machine.
pub kept_up : {Core Pokes Entry : Type 0}
    → (z : Sizes) (P : Program Core Pokes Entry) (good : ℕ → Core → Type 0) (M : Machine Core) (group : ℕ → List ℕ) (owed : ℕ → Option ℕ)
    (F : FlatMachine Core) (s w : ℕ) (xs : List Request) → Simulates z P good M group owed F → s < z.k → M.net.requests s w ≡ xs
    → Kept z P good M.core group owed F (went_up M (up_from z M.net s w xs))
kept_up z P good M group owed F s w [] ok l e = kept_stalled z P good M group owed F ok
kept_up z P good M group owed F s w (x ∷ rest) ok l e =
    let here : In x (M.net.requests s w) = rw e (inl refl) in
    let at = ok.placed.requests s w x here in
    let mean = ok.means.requests s w x here in
    let v : ℕ = wire_after z.k s w (x.word % wires z) in
    let on : path_of z P M.core x.leader (suc s) ≡ v = path_suc z.k x.leader (word_of P M.core x.leader % wires z) s
    ∙ ap₂ (λ a b. wire_after z.k s a (b % wires z)) at.wire (sym mean.word_is) in
    go v on (combination z.b z.r x ((put_requests M.net s w rest).requests (suc s) v) (M.net.records s v)) (λ j f. f)
  where
    go : (v : ℕ) → path_of z P M.core x.leader (suc s) ≡ v → (o : Option Combination)
        → ((j : Combination) → o ≡ Some j → combination z.b z.r x ((put_requests M.net s w rest).requests (suc s) v) (M.net.records s v) ≡ Some j)
        → Kept z P good M.core group owed F (went_up M (accepted z M.net (put_requests M.net s w rest) s v x o))
    go v on None h = kept_moved z P good M group owed F s w v x rest ok l e on
    go v on (Some j) h = kept_combined z P good M group owed F s w v x rest j ok l e on (h j refl)
