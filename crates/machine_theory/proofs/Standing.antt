-- What a steady machine has at its places, and that a step keeps it steady.
use Rattle.std.proofs.Common.{◌≡◌, ℕ, ◌%◌, ◌^◌, ◌<◌, Bool, true, false, List, [], ◌∷◌, ◌⊎◌, inl, inr, refl, sym, ap, ◌∙◌, subst}
use Rattle.std.proofs.lemmas.Nat.{mod_below, pow_pos}
use Rattle.machine_ports.specs.flat_machine.declared.config.Config.{Config}
use Rattle.machine_ports.specs.flat_machine.declared.event.Event.{Event}
use Rattle.machine_ports.specs.flat_machine.State.{is_running}
use Rattle.machine_ports.specs.flat_machine.Turns.{Turn, turn_of}
use Rattle.machine_ports.specs.flat_machine.Laws.{HasWords}
use Rattle.machine_ports.specs.hart.Deciding.{IsReference}
use Rattle.serialization.proofs.Lemmas.omega_wires.{path_end, path_zero}
use Rattle.machine_ports.specs.Ports.{PortState, turn}
use Rattle.machine_ports.proofs.Lemmas.{reference_means}
use Rattle.serialization.specs.messages.declared.message.Request.{Request}
use Rattle.serialization.specs.messages.Places.{In}
use Rattle.serialization.specs.messages.Network.{Net}
use Rattle.serialization.specs.network_theory.Roles.{Role, Idle, Asking}
use Rattle.serialization.specs.Program.{Refers}
use Rattle.serialization.specs.Machine.{Machine}
use Rattle.serialization.specs.Steadiness.{Steady}
use Rattle.serialization.proofs.Lemmas.{goes_step}
use Rattle.steps.specs.declared.step.Step.{Step}
use Rattle.steps.specs.declared.step.Outcome.{Outcome}
use Rattle.machine_theory.specs.Processors.{ObservedCore, sizes_of, setting_of, word_by, next, program, port_at, open_at}
use Rattle.machine_theory.specs.Steps.{named, with_shown, after, machine_of_parts, IsStepOf}
use Rattle.machine_theory.proofs.TurnKinds.{Reached, reaches_of, runs_by}

module _ (c : Config) (code : List ℕ) (net : Net) (ports : List PortState) (modules : List (List ℕ)) where
  abbrev SteadyAs : (ℕ → List Event) → (ℕ → Role) → Type 0
  SteadyAs shown role = Steady (sizes_of c) (program c code) (machine_of_parts c net ports modules shown) role

  -- A steady machine is steady with any events shown.
  pub observed_again : (shown shown' : ℕ → List Event) (role : ℕ → Role) → SteadyAs shown role → SteadyAs shown' role
  unfolding machine_of_parts
  observed_again shown shown' role s =
      record { placed = s.placed; worded = s.worded; marked = s.marked; few = s.few; stands = s.stands; shut = s.shut; small = s.small; refers = s.refers }

  module _ (shown : ℕ → List Event) (role : ℕ → Role) (s : SteadyAs shown role) where
    -- In a steady machine, an open processor runs, and its next turn is a reference.
    reaches : (p : ℕ) → open_at ports p ≡ true → (is_running (port_at ports p).core.state.status ≡ true) × Reached (next c code p (port_at ports p).core.state)
    unfolding machine_of_parts
    reaches p opened =
        let r = runs_by (is_running (port_at ports p).core.state.status) (next c code p (port_at ports p).core.state) Refers (s.refers p opened) (λ no. cc) in
        (r.0, reaches_of (next c code p (port_at ports p).core.state) r.1)

    is_reference : (t : Turn) → Reached t → IsReference t
    is_reference t r = subst IsReference (sym r.is) tt

    -- In a steady machine, the turn of an open processor is a reference if its port has the setting of its number.
    pub refers : (p : ℕ) → open_at ports p ≡ true → (port_at ports p).core.setting ≡ setting_of c p → IsReference (turn (port_at ports p) code)
    refers p opened setting = subst IsReference (ap (λ s. turn_of s code (port_at ports p).core.state) (sym setting))
        (is_reference (next c code p (port_at ports p).core.state) (reaches p opened).1)

    -- In a steady machine, the slot of a processor that is not open is free.
    pub slot_free : (p : ℕ) → open_at ports p ≡ false → net.requests 0 p ≡ []
    unfolding machine_of_parts
    slot_free p shut = by (net.requests 0 p) refl
      where
        by : (xs : List Request) → net.requests 0 p ≡ xs → xs ≡ []
        by [] e = refl
        by (x ∷ rest) e =
            let at = s.placed.requests 0 p x (subst (In x) (sym e) (inl refl)) in
            let leads : x.leader ≡ p = sym (path_zero c.k x.leader _) ∙ at.wire in
            let idle : role p ≡ Idle = (s.shut p).0 shut in
            let c : Asking 0 ≡ Idle = sym at.asks ∙ ap role leads ∙ idle in
            absurd (cc)

    -- In a steady machine, the first request at a module is for a word of that module, and for the one that its open
    -- leader refers to.
    pub at_its_module : (m : ℕ) (x : Request) (rest : List Request) → net.requests c.k m ≡ x ∷ rest →
        (x.word % 2 ^ c.k ≡ m) × (x.word ≡ word_by (next c code x.leader (port_at ports x.leader).core.state)) × (open_at ports x.leader ≡ true)
    unfolding machine_of_parts
    at_its_module m x rest e =
        let here : In x (net.requests c.k m) = subst (In x) (sym e) (inl refl) in
        let at = s.placed.requests c.k m x here in
        let named = s.worded c.k m x here in
        let small : x.leader < 2 ^ c.k = within x (s.small x.leader) at.asks in
        let word : ℕ = word_by (next c code x.leader (port_at ports x.leader).core.state) in
        let ends : word % 2 ^ c.k ≡ m = sym (path_end c.k x.leader (word % 2 ^ c.k) small (mod_below word (2 ^ c.k) (pow_pos c.k))) ∙ at.wire in
        (ap (λ w. w % 2 ^ c.k) named ∙ ends, named, opened x at.asks (open_at ports x.leader) refl)
      where
        within : (x : Request) → (role x.leader ≡ Idle) ⊎ (x.leader < 2 ^ c.k) → role x.leader ≡ Asking c.k → x.leader < 2 ^ c.k
        within x (inl idle) asks = let e : Asking c.k ≡ Idle = sym asks ∙ idle in absurd (cc)
        within x (inr small) asks = small

        opened : (x : Request) → role x.leader ≡ Asking c.k → (b : Bool) → open_at ports x.leader ≡ b → open_at ports x.leader ≡ true
        opened x asks true e = e
        opened x asks false e = let f : Asking c.k ≡ Idle = sym asks ∙ (s.shut x.leader).0 e in absurd (cc)

    -- In a steady machine whose processors have words, the first request at a module is for a shared word.
    pub word_there : (m : ℕ) (x : Request) (rest : List Request) → net.requests c.k m ≡ x ∷ rest → ((p : ℕ) → HasWords (port_at ports p).core.state) →
        x.word < c.shared_words
    word_there m x rest e words =
        let a = at_its_module m x rest e in
        let p : ℕ = x.leader in
        let r = (reaches p a.2).1 in
        let m = reference_means (setting_of c p) code (port_at ports p).core.state r.word r.change r.after (words p) r.is in
        subst (λ w. w < c.shared_words) (sym (a.1 ∙ ap word_by r.is)) m.2

  -- A step of the machine's parts keeps a machine steady.
  pub stays_steady : (role : ℕ → Role) (s : Step) (o : Outcome) (net' : Net) (ports' : List PortState) (modules' : List (List ℕ)) → SteadyAs (λ p. []) role →
      IsStepOf c code net ports modules s o net' ports' modules' →
      (role' : ℕ → Role) × Steady (sizes_of c) (program c code) (machine_of_parts c net' ports' modules' (with_shown (λ p. []) s o)) role'
  unfolding after
  stays_steady role s o net' ports' modules' steady is =
      let g = goes_step (sizes_of c) (program c code) (machine_of_parts c net ports modules (λ p. [])) role (named s) steady in
      (g.0, subst (λ (M : Machine ObservedCore). Steady (sizes_of c) (program c code) M g.0) (sym (is.after (λ p. []))) g.1)
