-- What the calls of a step do is the step.
use Rattle.std.proofs.Common.{◌≡◌, ℕ, zero, suc, ◌+◌, ◌-◌, ◌*◌, ◌/◌, ◌%◌, ◌^◌, ◌<◌, ◌≤◌, Bool}
use Rattle.std.proofs.Common.{true, false, List, [], ◌∷◌, length, nat_lt, Option, Some, None}
use Rattle.std.proofs.Common.{refl, sym, ap, ap₂, ◌∙◌, subst, arith, lt-ltb, le-ltb}
use Rattle.std.proofs.lemmas.List.{set-get_or}
use Rattle.std.proofs.lemmas.Bool.{le-leb, lt-leb}
use Rattle.std.specs.Prelude.{◌&&◌, slice_get, slice_index, slice_index_or, slice_set, if◌then◌else◌}
use Rattle.flat_machine.specs.declared.config.Config.{Config}
use Rattle.flat_machine.specs.declared.poke.Poke.{Poke}
use Rattle.flat_machine.specs.declared.poke.Poke.TheVariants as poke
use Rattle.flat_machine.specs.State.{Processor, is_running}
use Rattle.flat_machine.specs.Laws.{HasWords}
use Rattle.flat_machine.specs.Flat.{is_lawful_register, with_poked_register, with_poked_byte}
use Rattle.flat_machine.specs.Memory.{in_local, in_shared}
use Rattle.flat_machine.specs.Words.{with_part}
use Rattle.flat_machine.proofs.Lemmas.{byte_words, register_words}
use Rattle.hart.specs.phi_algebra.declared.phi.Phi.{Phi}
use Rattle.hart.specs.Deciding.{IsReference}
use Rattle.hart.specs.phi_algebra.Functions.{apply}
use Rattle.machine_ports.specs.Ports.{PortState, begun, is_away, no_processor, turn, with_state}
use Rattle.machine_ports.proofs.Lemmas.{register_stays}
use Rattle.messages.specs.declared.message.Request.{Request}
use Rattle.messages.specs.declared.message.Reply.{Reply}
use Rattle.messages.specs.declared.moves.UpMove.{UpMove}
use Rattle.messages.specs.declared.moves.DownMove.{DownMove}
use Rattle.messages.specs.Network.{Sizes}
use Rattle.messages.specs.Moves.{moved_up, moved_down}
use Rattle.omega_network.specs.Networks.{NetworkLists, net_of}
use Rattle.omega_network.specs.Networks as network
use Rattle.steps.specs.declared.step.Step.{Step}
use Rattle.steps.specs.declared.step.Step.TheVariants as step
use Rattle.steps.specs.declared.step.Outcome.{Outcome}
use Rattle.steps.specs.declared.step.Outcome.TheVariants.{Stalled, Served, Poked}
use Rattle.machine_theory.specs.Processors.{sizes_of, no_port, port_at, word_at, is_lawful_poke}
use Rattle.machine_theory.specs.Steps.{IsStepOf}
use Rattle.machine_theory.proofs.Lemmas.{at_its_module, begins, byte_poked, finishes, found_within, goes_down}
use Rattle.machine_theory.proofs.Lemmas.{goes_up, no_module, no_place, no_request, no_stage_down, no_stage_up}
use Rattle.machine_theory.proofs.Lemmas.{no_wire_down, no_wire_up, not_home, not_idle, ports_stay, refers}
use Rattle.machine_theory.proofs.Lemmas.{register_poked, rests, serves, slot_free, unlawful, unnamed, word_poked}
use Rattle.machine_theory.proofs.Lemmas.{word_there}
use Rattle.machine_theory.specs.Turning.{IsBegun, IsFinishedBy, outcome_of_up, outcome_of_down}
use Rattle.machine_steps.specs.Machines.{MachineLists, AreHome, ArePorts, AreModules, IsIdle, IsMachine, IsStep}
use Rattle.machine_steps.specs.Serving.{DoesNothing, IsExecuted}
use Rattle.machine_steps.proofs.Keeping.{parts_kept, begun_kept, finished_kept, home_set, ports_set, modules_set, module_there, place_there}

abbrev pub with_network : MachineLists → NetworkLists → MachineLists
with_network m net = record { config = m.config; image = m.image; network = net; ports = m.ports; modules = m.modules; code = m.code }

abbrev pub with_port : MachineLists → NetworkLists → ℕ → PortState → MachineLists
with_port m net p x = record { config = m.config; image = m.image; network = net; ports = slice_set m.ports p x; modules = m.modules; code = m.code }

abbrev pub with_module : MachineLists → NetworkLists → ℕ → List ℕ → MachineLists
with_module m net i words = record { config = m.config; image = m.image; network = net; ports = m.ports; modules = slice_set m.modules i words; code = m.code }

-- The step is taken, and leaves a machine.
abbrev pub Done : MachineLists → Step → Outcome → MachineLists → Type 0
Done m s o m' = IsStep m s o m' × IsMachine m'

module _ (m : MachineLists) (is : IsMachine m) where
  abbrev c : Config
  c = m.config

  pub k_is : m.network.k ≡ m.config.k
  k_is = ap (λ (z : Sizes). z.k) is.sizes

  -- A step that stalls leaves the machine as it is.
  same : (s : Step) → IsStepOf c m.code (net_of m.network) m.ports m.modules s Stalled (net_of m.network) m.ports m.modules → IsStep m s Stalled m
  same s st = record { config = refl; image = refl; code = refl; cores = λ p. refl; step = st }

  done : (s : Step) (o : Outcome) (net' : NetworkLists) (ports' : List PortState) (modules' : List (List ℕ)) →
      network.sizes_of net' ≡ network.sizes_of m.network → ArePorts c ports' → AreModules c modules' →
      IsStepOf c m.code (net_of m.network) m.ports m.modules s o (net_of net') ports' modules' →
      Done m s o (record { config = m.config; image = m.image; network = net'; ports = ports'; modules = modules'; code = m.code })
  done s o net' ports' modules' sizes ports modules st = (
    record {
      config = refl;
      image = refl;
      code = refl;
      cores = ports_stay c m.code (net_of m.network) (net_of net') m.ports ports' m.modules modules'
          s o st;
      step = st;
    },
    parts_kept m.config m.code m.image m.network net' m.ports ports' m.modules modules' s o is st sizes ports modules,
  )

  -- ---- moves

  -- There are as many wires as ports.
  pub on_a_wire : (w : ℕ) → w < length m.ports → w < 2 ^ m.network.k
  on_a_wire w within = subst (λ k. w < 2 ^ k) (sym k_is) (subst (λ n. w < n) is.ports.all within)

  -- A move up stalls if there is no such stage.
  pub up_no_stage : (s w : ℕ) → m.network.k ≤ s → IsStep m (step.Up s w) Stalled m
  up_no_stage s w past = same (step.Up s w) (no_stage_up c m.code (net_of m.network) m.ports m.modules s w (subst (λ k. k ≤ s) k_is past))

  -- A move up stalls if there is no such wire.
  pub up_no_wire : (s w : ℕ) → length m.ports ≤ w → IsStep m (step.Up s w) Stalled m
  up_no_wire s w past = same (step.Up s w) (no_wire_up c m.code (net_of m.network) m.ports m.modules s w (subst (λ n. n ≤ w) is.ports.all past))

  -- A move down stalls if there is no such stage.
  pub down_no_stage : (s w : ℕ) → m.network.k ≤ s → IsStep m (step.Down s w) Stalled m
  down_no_stage s w past = same (step.Down s w) (no_stage_down c m.code (net_of m.network) m.ports m.modules s w (subst (λ k. k ≤ s) k_is past))

  -- A move down stalls if there is no such wire.
  pub down_no_wire : (s w : ℕ) → length m.ports ≤ w → IsStep m (step.Down s w) Stalled m
  down_no_wire s w past = same (step.Down s w) (no_wire_down c m.code (net_of m.network) m.ports m.modules s w (subst (λ n. n ≤ w) is.ports.all past))

  -- A move up in the network is a step, and leaves a machine.
  pub up_done : (s w : ℕ) (r : UpMove) (net' : NetworkLists) → w < 2 ^ m.network.k → r ≡ (moved_up (network.sizes_of m.network) (net_of m.network) s w).0 →
      net_of net' ≡ (moved_up (network.sizes_of m.network) (net_of m.network) s w).1 →
      network.sizes_of net' ≡ network.sizes_of m.network → Done m (step.Up s w) (outcome_of_up r) (with_network m net')
  up_done s w r net' within outcome after sizes =
      done (step.Up s w) (outcome_of_up r) net' m.ports m.modules sizes is.ports is.modules
      (goes_up c m.code (net_of m.network) m.ports m.modules s w r (net_of net') (subst (λ k. w < 2 ^ k) k_is within)
      (outcome ∙ ap (λ z. (moved_up z (net_of m.network) s w).0) is.sizes) (after ∙ ap (λ z. (moved_up z (net_of m.network) s w).1) is.sizes))

  -- A move down in the network is a step, and leaves a machine.
  pub down_done : (s w : ℕ) (r : DownMove) (net' : NetworkLists) → w < 2 ^ m.network.k →
      r ≡ (moved_down (network.sizes_of m.network) (net_of m.network) s w).0 →
      net_of net' ≡ (moved_down (network.sizes_of m.network) (net_of m.network) s w).1 →
      network.sizes_of net' ≡ network.sizes_of m.network → Done m (step.Down s w) (outcome_of_down r) (with_network m net')
  down_done s w r net' within outcome after sizes =
      done (step.Down s w) (outcome_of_down r) net' m.ports m.modules sizes is.ports is.modules
      (goes_down c m.code (net_of m.network) m.ports m.modules s w r (net_of net') (subst (λ k. w < 2 ^ k) k_is within)
      (outcome ∙ ap (λ z. (moved_down z (net_of m.network) s w).0) is.sizes) (after ∙ ap (λ z. (moved_down z (net_of m.network) s w).1) is.sizes))

  -- ---- turns

  inside : (p : ℕ) → p < 2 ^ c.k → p < length m.ports
  inside p within = subst (λ n. p < n) (sym is.ports.all) within

  -- A turn stalls if there is no such processor.
  pub turn_unnamed : (p : ℕ) → length m.ports ≤ p → IsStep m (step.Turn p) Stalled m
  turn_unnamed p past = same (step.Turn p) (unnamed c m.code (net_of m.network) m.ports m.modules p (subst (λ n. n ≤ p) is.ports.all past))

  -- A turn stalls if the processor has no reference open and does not run.
  pub turn_rests : (p : ℕ) → p < length m.ports → (port_at m.ports p).is_open ≡ false → is_running (port_at m.ports p).core.state.status ≡ false →
      IsStep m (step.Turn p) Stalled m
  turn_rests p within shut rest = same (step.Turn p) (rests c m.code (net_of m.network) m.ports m.modules p (subst (λ n. p < n) is.ports.all within) shut rest)

  -- A processor that has a reference open is at an instruction that refers to a word.
  pub turn_refers : (p : ℕ) → p < 2 ^ c.k → (port_at m.ports p).is_open ≡ true → IsReference (turn (port_at m.ports p) m.code)
  turn_refers p within opened = refers c m.code (net_of m.network) m.ports m.modules (λ q. []) is.role is.steady p opened (is.ports.settings p within)

  -- If a processor has no reference open, no request is on its wire.
  pub turn_slot_free : (p : ℕ) → (port_at m.ports p).is_open ≡ false → (net_of m.network).requests 0 p ≡ []
  turn_slot_free p shut = slot_free c m.code (net_of m.network) m.ports m.modules (λ q. []) is.role is.steady p shut

  pub begin_done : (p : ℕ) (port' : PortState) (o : Outcome) (net' : NetworkLists) → p < 2 ^ c.k → (port_at m.ports p).is_open ≡ false →
      is_running (port_at m.ports p).core.state.status ≡ true →
      port' ≡ (begun (port_at m.ports p) m.code (turn (port_at m.ports p) m.code)).1 →
      IsBegun p (port_at m.ports p) m.code (turn (port_at m.ports p) m.code) (net_of m.network) o (net_of net') →
      network.sizes_of net' ≡ network.sizes_of m.network → Done m (step.Turn p) o (with_port m net' p port')
  begin_done p port' o net' within shut runs becomes b sizes =
      done (step.Turn p) o net' (slice_set m.ports p port') m.modules sizes
      (begun_kept c m.code is.limits is.code m.ports is.ports p within port' becomes runs) is.modules
      (begins c m.code (net_of m.network) m.ports m.modules p within (inside p within) shut runs (port_at m.ports p) port' o (net_of net') refl
      (is.ports.settings p within) becomes b)

  pub finish_done : (p : ℕ) (port' : PortState) (o : Outcome) (net' : NetworkLists) → p < 2 ^ c.k → (port_at m.ports p).is_open ≡ true →
      IsFinishedBy p (turn (port_at m.ports p) m.code) (port_at m.ports p) (net_of m.network) (slice_get ((net_of m.network).replies 0 p) 0) o port'
      (net_of net') →
      network.sizes_of net' ≡ network.sizes_of m.network → Done m (step.Turn p) o (with_port m net' p port')
  finish_done p port' o net' within opened f sizes =
      done (step.Turn p) o net' (slice_set m.ports p port') m.modules sizes (kept (slice_get ((net_of m.network).replies 0 p) 0) f) is.modules
      (finishes c m.code (net_of m.network) m.ports m.modules p within (inside p within) opened (port_at m.ports p) port' o (net_of net') refl
      (is.ports.settings p within) f)
    where
      kept : (r : Option Reply) → IsFinishedBy p (turn (port_at m.ports p) m.code) (port_at m.ports p) (net_of m.network) r o port' (net_of net') →
          ArePorts c (slice_set m.ports p port')
      kept None f = ports_set c m.ports is.ports p within port' (ap (λ (q : PortState). q.core.setting) f.1)
          (subst (λ (q : PortState). HasWords q.core.state) (sym f.1) (is.ports.words p))
          (subst (λ (q : PortState). is_away q.core.state ≡ true → q.core.state ≡ no_processor) (sym f.1) (is.ports.rest p))
      kept (Some reply) f = finished_kept c m.code is.limits is.code m.ports is.ports p within port' reply.value f.done f.word
          (turn_refers p within opened) f.by f.port

  -- ---- services

  -- A service stalls if there is no such module.
  pub serve_unnamed : (i : ℕ) → length m.modules ≤ i → IsStep m (step.Serve i) Stalled m
  serve_unnamed i past = same (step.Serve i) (no_module c m.code (net_of m.network) m.ports m.modules i (subst (λ n. n ≤ i) is.modules.all past))

  module _ (i : ℕ) (within : i < 2 ^ c.k) where
    abbrev words : List ℕ
    words = slice_index_or m.modules i []

    first_of : (x : Request) (xs : List Request) → slice_get xs 0 ≡ Some x → (rest : List Request) × (xs ≡ x ∷ rest)
    first_of x [] e = absurd (cc)
    first_of x (y ∷ ys) e = (ys, (let same : y ≡ x = cc in ap (λ z. z ∷ ys) same))

    abbrev first : Option Request
    first = slice_get ((net_of m.network).requests m.network.k i) 0

    at_k : slice_get ((net_of m.network).requests c.k i) 0 ≡ first
    at_k = ap (λ k. slice_get ((net_of m.network).requests k i) 0) (sym k_is)

    pub serve_place : (x : Request) → first ≡ Some x → x.word / 2 ^ m.network.k < length words
    serve_place x e =
        let f = first_of x ((net_of m.network).requests c.k i) (at_k ∙ e) in
        let a = at_its_module c m.code (net_of m.network) m.ports m.modules (λ q. []) is.role is.steady i x f.0 f.1 in
        let w = word_there c m.code (net_of m.network) m.ports m.modules (λ q. []) is.role is.steady i x f.0 f.1 is.ports.words in
        subst (λ k. x.word / 2 ^ k < length words) (sym k_is) (place_there c m.modules is.modules i x.word 0 a.0 w)

    kept_done : (s : Step) (o : Outcome) (net' : NetworkLists) (words' : List ℕ) → DoesNothing (net_of m.network) words o (net_of net') words' →
        IsStepOf c m.code (net_of m.network) m.ports m.modules s Stalled (net_of m.network) m.ports m.modules →
        network.sizes_of net' ≡ network.sizes_of m.network → Done m s o (with_module m net' i words')
    kept_done s o net' words' kept st sizes =
        subst (λ o. Done m s o (with_module m net' i words')) (sym kept.0)
        (subst (λ xs. Done m s Stalled (record { config = m.config; image = m.image; network = net'; ports = m.ports; modules = xs; code = m.code }))
        (sym (set-get_or m.modules i []) ∙ ap (slice_set m.modules i) (sym kept.2))
        (done s Stalled net' m.ports m.modules sizes is.ports is.modules
        (subst (λ n. IsStepOf c m.code (net_of m.network) m.ports m.modules s Stalled n m.ports m.modules) (sym kept.1) st)))

    pub serve_done : (words' : List ℕ) (o : Outcome) (net' : NetworkLists) → (net_of m.network).replies m.network.k i ≡ [] →
        IsExecuted (network.sizes_of m.network) i (net_of m.network) words first o (net_of net') words' →
        network.sizes_of net' ≡ network.sizes_of m.network → Done m (step.Serve i) o (with_module m net' i words')
    serve_done words' o net' free e sizes =
        by ((net_of m.network).requests c.k i) refl (subst (λ f. IsExecuted (sizes_of c) i (net_of m.network) words f o (net_of net') words') (sym at_k)
        (subst (λ z. IsExecuted z i (net_of m.network) words first o (net_of net') words') is.sizes e))
      where
        none_free : (net_of m.network).replies c.k i ≡ []
        none_free = subst (λ k. (net_of m.network).replies k i ≡ []) k_is free

        by : (xs : List Request) → (net_of m.network).requests c.k i ≡ xs →
            IsExecuted (sizes_of c) i (net_of m.network) words (slice_get ((net_of m.network).requests c.k i) 0) o (net_of net') words' →
            Done m (step.Serve i) o (with_module m net' i words')
        by [] at e =
            let k = subst (λ (xs : List Request). IsExecuted (sizes_of c) i (net_of m.network) words (slice_get xs 0) o (net_of net') words') at e in
            kept_done (step.Serve i) o net' words' k (no_request c m.code (net_of m.network) m.ports m.modules i within at) sizes
        by (x ∷ rest) at e =
            let done_so = subst (λ (xs : List Request). IsExecuted (sizes_of c) i (net_of m.network) words (slice_get xs 0) o (net_of net') words') at e in
            let home = at_its_module c m.code (net_of m.network) m.ports m.modules (λ q. []) is.role is.steady i x rest at in
            let there = word_there c m.code (net_of m.network) m.ports m.modules (λ q. []) is.role is.steady i x rest at is.ports.words in
            subst (λ o. Done m (step.Serve i) o (with_module m net' i words')) (sym done_so.0)
            (done (step.Serve i) (Served x.leader) net' m.ports (slice_set m.modules i words') sizes is.ports
            (subst (λ xs. AreModules c (slice_set m.modules i xs)) (sym done_so.2)
            (modules_set c m.modules is.modules i x.word (apply x.phi (slice_index words (x.word / 2 ^ c.k))) home.0 there done_so.3))
            (serves c m.code (net_of m.network) m.ports m.modules i x rest words' (net_of net') within at none_free home.0
            (module_there c m.modules is.modules i x.word 0 home.0 there)
            (place_there c m.modules is.modules i x.word 0 home.0 there) is.modules.words done_so.2 done_so.1))

    pub serve_full : (words' : List ℕ) (o : Outcome) (net' : NetworkLists) → ((net_of m.network).replies m.network.k i ≡ [] → ⊥) →
        DoesNothing (net_of m.network) words o (net_of net') words' →
        network.sizes_of net' ≡ network.sizes_of m.network → Done m (step.Serve i) o (with_module m net' i words')
    serve_full words' o net' full e sizes =
        kept_done (step.Serve i) o net' words' e (no_place c m.code (net_of m.network) m.ports m.modules i within
        (λ free. full (subst (λ k. (net_of m.network).replies k i ≡ []) (sym k_is) free))) sizes

  -- ---- pokes

  -- A poke stalls if a reference is open.
  pub poke_busy : (q : Poke) → (IsIdle m → ⊥) → IsStep m (step.Poke q) Stalled m
  poke_busy q busy = same (step.Poke q) (not_idle c m.code (net_of m.network) m.ports m.modules q busy)

  -- A poke stalls if a core is away.
  pub poke_away : (q : Poke) → (AreHome m → ⊥) → IsStep m (step.Poke q) Stalled m
  poke_away q away = same (step.Poke q) (not_home c m.code (net_of m.network) m.ports m.modules q away)

  and_false : (a b : Bool) → b ≡ false → (a && b) ≡ false
  and_false true b e = e
  and_false false b e = refl

  module _ (idle : IsIdle m) (home : AreHome m) where
    refused : (q : Poke) → is_lawful_poke c q ≡ false → IsStep m (step.Poke q) Stalled m
    refused q e = same (step.Poke q) (unlawful c m.code (net_of m.network) m.ports m.modules idle home q e)

    -- A poke of a register stalls if there is no such processor.
    pub register_unnamed : (p register value : ℕ) → length m.ports ≤ p → IsStep m (step.Poke (poke.Register p register value)) Stalled m
    register_unnamed p register value past =
        refused (poke.Register p register value) (and_false
        (nat_lt value (2 ^ 32)) _ (ap (λ b. b && is_lawful_register register value) (le-ltb p (2 ^ c.k) (subst (λ n. n ≤ p) is.ports.all past))))

    -- A poke of local memory stalls if there is no such processor.
    pub local_unnamed : (p address value : ℕ) → length m.ports ≤ p → IsStep m (step.Poke (poke.Local p address value)) Stalled m
    local_unnamed p address value past =
        refused (poke.Local p address value) (and_false
        (nat_lt value 256) _ (ap (λ b. b && in_local address) (le-ltb p (2 ^ c.k) (subst (λ n. n ≤ p) is.ports.all past))))

    -- A poke of shared memory stalls if the address is not in it.
    pub shared_unnamed : (address value : ℕ) → in_shared c.shared_words address ≡ false → IsStep m (step.Poke (poke.Shared address value)) Stalled m
    shared_unnamed address value out = refused (poke.Shared address value) (and_false (nat_lt value 256) _ out)

    port_done : (q : Poke) (p : ℕ) (change : Processor → Processor) (lawful : Bool) (port' : PortState) (o : Outcome) → p < 2 ^ c.k →
        is_lawful_poke c q ≡ lawful → ((s : Processor) → HasWords s → HasWords (change s)) → ((s : Processor) → is_away (change s) ≡ is_away s) →
        (lawful ≡ true → IsStepOf c m.code (net_of m.network) m.ports m.modules (step.Poke q) Poked (net_of m.network)
        (slice_set m.ports p (with_state (port_at m.ports p) (change (port_at m.ports p).core.state))) m.modules) →
        port' ≡ (if lawful then with_state (port_at m.ports p) (change (port_at m.ports p).core.state) else port_at m.ports p) →
        o ≡ (if lawful then Poked else Stalled) → Done m (step.Poke q) o (with_port m m.network p port')
    port_done q p change true port' o within is_lawful words stays written becomes answers =
        subst (λ o. Done m (step.Poke q) o (with_port m m.network p port')) (sym answers)
        (subst (λ x. Done m (step.Poke q) Poked (with_port m m.network p x)) (sym becomes)
        (done (step.Poke q) Poked m.network (slice_set m.ports p (with_state (port_at m.ports p) (change (port_at m.ports p).core.state))) m.modules refl
        (home_set c m.ports is.ports p within (with_state (port_at m.ports p) (change (port_at m.ports p).core.state)) refl
        (words (port_at m.ports p).core.state (is.ports.words p)) (stays (port_at m.ports p).core.state ∙ home p within)) is.modules (written refl)))
    port_done q p change false port' o within is_lawful words stays written becomes answers =
        subst (λ o. Done m (step.Poke q) o (with_port m m.network p port')) (sym answers)
        (subst (λ x. Done m (step.Poke q) Stalled (with_port m m.network p x)) (sym becomes)
        (subst (λ ports. Done m (step.Poke q) Stalled
        (record { config = m.config; image = m.image; network = m.network; ports = ports; modules = m.modules; code = m.code }))
        (sym (set-get_or m.ports p no_port))
        (refused q is_lawful, is)))

    pub register_done : (p register value : ℕ) (port' : PortState) (o : Outcome) (written : Bool) → p < length m.ports → value < 2 ^ 32 →
        written ≡ is_lawful_register register value →
        port' ≡ (if is_lawful_register register value then with_state (port_at m.ports p) (with_poked_register register value (port_at m.ports p).core.state)
        else port_at m.ports p) →
        o ≡ (if written then Poked else Stalled) → Done m (step.Poke (poke.Register p register value)) o (with_port m m.network p port')
    register_done p register value port' o written within small lawful becomes answers =
        let below : p < 2 ^ c.k = subst (λ n. p < n) is.ports.all within in
        port_done (poke.Register p register value) p (with_poked_register register value) (is_lawful_register register value) port' o below
        (ap₂ (λ a b. a && (b && is_lawful_register register value)) (lt-ltb value (2 ^ 32) small) (lt-ltb p (2 ^ c.k) below))
        (λ s words. register_words register value s small words) (register_stays register value)
        (λ e. register_poked c m.code (net_of m.network) m.ports m.modules idle home p register value below within small e)
        becomes (answers ∙ ap (λ b. if b then Poked else Stalled) lawful)

    pub local_done : (p address value : ℕ) (port' : PortState) (o : Outcome) (written : Bool) → p < length m.ports → value < 256 → written ≡ in_local address →
        port' ≡ (if in_local address then with_state (port_at m.ports p) (with_poked_byte address value (port_at m.ports p).core.state)
        else port_at m.ports p) →
        o ≡ (if written then Poked else Stalled) → Done m (step.Poke (poke.Local p address value)) o (with_port m m.network p port')
    local_done p address value port' o written within small lawful becomes answers =
        let below : p < 2 ^ c.k = subst (λ n. p < n) is.ports.all within in
        port_done (poke.Local p address value) p (with_poked_byte address value) (in_local address) port' o below
        (ap₂ (λ a b. a && (b && in_local address)) (lt-ltb value 256 small) (lt-ltb p (2 ^ c.k) below))
        (λ s words. byte_words address value s small words) (λ s. refl)
        (λ e. byte_poked c m.code (net_of m.network) m.ports m.modules idle home p address value below within small e)
        becomes (answers ∙ ap (λ b. if b then Poked else Stalled) lawful)

    pub shared_done : (address value number : ℕ) (phi : Phi) (words' : List ℕ) → value < 256 → 2 ^ 31 ≤ address → (address - 2 ^ 31) / 4 < c.shared_words →
        (address - 2 ^ 31) / 4 % 2 ^ c.k ≡ number →
        ((x : ℕ) → x < 2 ^ 32 → apply phi x ≡ with_part 1 (address % 4) x value) →
        words' ≡ slice_set (slice_index_or m.modules number []) ((address - 2 ^ 31) / 4 / 2 ^ c.k)
        (apply phi (slice_index (slice_index_or m.modules number []) ((address - 2 ^ 31) / 4 / 2 ^ c.k))) →
        apply phi (slice_index (slice_index_or m.modules number []) ((address - 2 ^ 31) / 4 / 2 ^ c.k)) < 2 ^ 32 →
        Done m (step.Poke (poke.Shared address value)) Poked (with_module m m.network number words')
    shared_done address value number phi words' small start there is_number means becomes below =
        let word : ℕ = (address - 2 ^ 31) / 4 in
        let old : ℕ = slice_index (slice_index_or m.modules number []) (word / 2 ^ c.k) in
        let old_small : old < 2 ^ 32 = subst (λ n. slice_index (slice_index_or m.modules n []) (word / 2 ^ c.k) < 2 ^ 32) is_number (is.modules.words word) in
        let in_it : in_shared c.shared_words address ≡ true =
        ap₂ (λ a b. a && b) (le-leb (2 ^ 31) address start) (lt-ltb address (2 ^ 31 + 4 * c.shared_words) (omega arith)) in
        done (step.Poke (poke.Shared address value)) Poked m.network m.ports (slice_set m.modules number words') refl is.ports
        (subst (λ xs. AreModules c (slice_set m.modules number xs)) (sym becomes)
        (modules_set c m.modules is.modules number word (apply phi old) is_number there below))
        (word_poked c m.code (net_of m.network) m.ports m.modules idle home address value number words' small in_it is_number
        (module_there c m.modules is.modules number word 0 is_number there)
        (place_there c m.modules is.modules number word 0 is_number there)
        (becomes ∙ ap (slice_set (slice_index_or m.modules number []) (word / 2 ^ c.k)) (means old old_small)))

-- A step of a machine is a step of an equal machine, with an equal outcome.
pub step_by : {m now new : MachineLists} {s : Step} {o o' : Outcome} → m ≡ now → o' ≡ o → IsStep m s o new → IsStep now s o' new
step_by {m} {now} {new} {s} {o} {o'} e f st = subst (λ a. IsStep a s o' new) e (subst (λ b. IsStep m s b new) (sym f) st)

-- If a step leaves a machine as it is, it does so to an equal machine.
pub same_by : {m now : MachineLists} {s : Step} {o : Outcome} → m ≡ now → IsStep m s o m → IsStep now s o now
same_by {m} {now} {s} {o} e st = subst (λ a. IsStep a s o a) e st

-- ---- what a borrowed element is

same_default : {X : Type 0} (xs : List X) (i : ℕ) (d e : X) → i < length xs → slice_index_or xs i d ≡ slice_index_or xs i e
same_default [] i d e within = absurd (omega arith)
same_default (x ∷ xs) zero d e within = refl
same_default (x ∷ xs) (suc i) d e within = same_default xs i d e (omega arith)

-- What is read at a place within a list is the element there, with any default.
pub found : {X : Type 0} (xs : List X) (i place : ℕ) (d x : X) → place ≡ i → i < length xs → x ≡ slice_index_or xs place x → x ≡ slice_index_or xs i d
found xs i place d x same within is = is ∙ ap (λ j. slice_index_or xs j x) same ∙ same_default xs i x d within

module _ (m : MachineLists) (is : IsMachine m) (p place : ℕ) (same : place ≡ p) (within : p < 2 ^ m.config.k) (port : PortState) (at : port
    ≡ slice_index_or m.ports place port) where
  -- The port that is read at the place is that of processor p.
  pub port_is : port ≡ port_at m.ports p
  port_is = found m.ports p place no_port port same (subst (λ n. p < n) (sym is.ports.all) within) at

  there : (s : Step) (o : Outcome) (net' : NetworkLists) (port' : PortState) → Done m s o (with_port m net' p port') → Done m s o (with_port m net' place port')
  there s o net' port' d = subst (λ i. Done m s o (with_port m net' i port')) (sym same) d

  module _ (code : List ℕ) (code_is : code ≡ m.code) where
    -- If that port is open, its processor is at an instruction that refers to a word.
    pub port_refers : (port_at m.ports p).is_open ≡ true → IsReference (turn port code)
    port_refers opened = subst (λ code. IsReference (turn port code)) (sym code_is)
        (subst (λ (q : PortState). IsReference (turn q m.code)) (sym port_is) (turn_refers m is p within opened))

    -- A turn that the port at that place begins is a step, and leaves a machine.
    pub begin_there : (port' : PortState) (o : Outcome) (net' : NetworkLists) → (port_at m.ports p).is_open ≡ false →
        is_running (port_at m.ports p).core.state.status ≡ true →
        port' ≡ (begun port code (turn port code)).1 → IsBegun p port code (turn port code) (net_of m.network) o (net_of net') →
        network.sizes_of net' ≡ network.sizes_of m.network →
        Done m (step.Turn p) o (with_port m net' place port')
    begin_there port' o net' shut runs becomes b sizes =
        there (step.Turn p) o net' port' (begin_done m is p port' o net' within shut runs
        (becomes ∙ ap₂ (λ (q : PortState) code. (begun q code (turn q code)).1) port_is code_is)
        (subst (λ code. IsBegun p (port_at m.ports p) code (turn (port_at m.ports p) code) (net_of m.network) o (net_of net')) code_is
        (subst (λ (q : PortState). IsBegun p q code (turn q code) (net_of m.network) o (net_of net')) port_is b)) sizes)

    -- A turn that the port at that place finishes is a step, and leaves a machine.
    pub finish_there : (port' : PortState) (o : Outcome) (net' : NetworkLists) → (port_at m.ports p).is_open ≡ true →
        IsFinishedBy p (turn port code) port (net_of m.network) (slice_get ((net_of m.network).replies 0 p) 0) o port' (net_of net') →
        network.sizes_of net' ≡ network.sizes_of m.network →
        Done m (step.Turn p) o (with_port m net' place port')
    finish_there port' o net' opened f sizes =
        let reply = slice_get ((net_of m.network).replies 0 p) 0 in
        there (step.Turn p) o net' port' (finish_done m is p port' o net' within opened
        (subst (λ code. IsFinishedBy p (turn (port_at m.ports p) code) (port_at m.ports p) (net_of m.network) reply o port' (net_of net')) code_is
        (subst (λ (q : PortState). IsFinishedBy p (turn q code) q (net_of m.network) reply o port' (net_of net')) port_is f)) sizes)

  -- A poke of a register at the port at that place, lawful or not, is a step, and leaves a machine.
  pub register_there : (register value : ℕ) (port' : PortState) (o : Outcome) (written : Bool) → IsIdle m → AreHome m → value < 2 ^ 32 →
      written ≡ is_lawful_register register value →
      port' ≡ (if is_lawful_register register value then with_state port (with_poked_register register value port.core.state) else port) →
      o ≡ (if written then Poked else Stalled) → Done m (step.Poke (poke.Register p register value)) o (with_port m m.network place port')
  register_there register value port' o written idle home small lawful becomes answers =
      there (step.Poke (poke.Register p register value)) o m.network port'
      (register_done m is idle home p register value port' o written (subst (λ n. p < n) (sym is.ports.all) within) small lawful
      (becomes ∙ ap (λ (q : PortState). if is_lawful_register register value then with_state q (with_poked_register register value q.core.state)
      else q) port_is) answers)

  -- A poke of local memory at the port at that place, lawful or not, is a step, and leaves a machine.
  pub local_there : (address value : ℕ) (port' : PortState) (o : Outcome) (written : Bool) → IsIdle m → AreHome m → value < 256 → written ≡ in_local address →
      port' ≡ (if in_local address then with_state port (with_poked_byte address value port.core.state) else port) →
      o ≡ (if written then Poked else Stalled) → Done m (step.Poke (poke.Local p address value)) o (with_port m m.network place port')
  local_there address value port' o written idle home small lawful becomes answers =
      there (step.Poke (poke.Local p address value)) o m.network port'
      (local_done m is idle home p address value port' o written (subst (λ n. p < n) (sym is.ports.all) within) small lawful
      (becomes ∙ ap (λ (q : PortState). if in_local address then with_state q (with_poked_byte address value q.core.state) else q) port_is) answers)

module _ (m : MachineLists) (is : IsMachine m) (i place : ℕ) (same : place ≡ i) (within : i < 2 ^ m.config.k) (words : List ℕ) (at : words
    ≡ slice_index_or m.modules place words) where
  pub words_are : words ≡ slice_index_or m.modules i []
  words_are = found m.modules i place [] words same (subst (λ n. i < n) (sym is.modules.all) within) at

  -- The place of the first request at a module is within the module.
  pub request_place : (x : Request) → slice_get ((net_of m.network).requests m.network.k i) 0 ≡ Some x → x.word / 2 ^ m.network.k < length words
  request_place x e = subst (λ (xs : List ℕ). x.word / 2 ^ m.network.k < length xs) (sym words_are) (serve_place m is i within x e)

  -- A service of that module is a step, and leaves a machine, whether its reply slot is free or not.
  pub serve_there : (words' : List ℕ) (o : Outcome) (net' : NetworkLists) →
      ((net_of m.network).replies m.network.k i ≡ [] →
      IsExecuted (network.sizes_of m.network) i (net_of m.network) words (slice_get ((net_of m.network).requests m.network.k i) 0) o
      (net_of net') words') →
      (((net_of m.network).replies m.network.k i ≡ [] → ⊥) → DoesNothing (net_of m.network) words o (net_of net') words') →
      network.sizes_of net' ≡ network.sizes_of m.network → Done m (step.Serve i) o (with_module m net' place words')
  serve_there words' o net' executed full sizes =
      subst (λ j. Done m (step.Serve i) o (with_module m net' j words')) (sym same) (by ((net_of m.network).replies m.network.k i) refl)
    where
      by : (ys : List Reply) → (net_of m.network).replies m.network.k i ≡ ys → Done m (step.Serve i) o (with_module m net' i words')
      by [] e =
          serve_done m is i within words' o net' e
          (subst (λ (xs : List ℕ). IsExecuted (network.sizes_of m.network) i (net_of m.network) xs (slice_get ((net_of m.network).requests m.network.k i) 0) o
          (net_of net') words') words_are (executed e)) sizes
      by (y ∷ ys) e =
          let some : (net_of m.network).replies m.network.k i ≡ [] → ⊥ = λ none. let no : y ∷ ys ≡ [] = sym e ∙ none in absurd (cc) in
          serve_full m is i within words' o net' some
          (subst (λ (xs : List ℕ). DoesNothing (net_of m.network) xs o (net_of net') words') words_are (full some)) sizes

  -- A poke of a byte of a shared word in that module is a step, and leaves a machine.
  pub shared_there : (address value : ℕ) (phi : Phi) (words' : List ℕ) → IsIdle m → AreHome m → value < 256 → 2 ^ 31 ≤ address →
      (address - 2 ^ 31) / 4 < m.config.shared_words → i ≡ (address - 2 ^ 31) / 4 % 2 ^ m.config.k →
      ((x : ℕ) → x < 2 ^ 32 → apply phi x ≡ with_part 1 (address % 4) x value) →
      words' ≡ slice_set words ((address - 2 ^ 31) / 4 / 2 ^ m.config.k) (apply phi (slice_index words ((address - 2 ^ 31) / 4 / 2 ^ m.config.k))) →
      apply phi (slice_index words ((address - 2 ^ 31) / 4 / 2 ^ m.config.k)) < 2 ^ 32 →
      Done m (step.Poke (poke.Shared address value)) Poked (with_module m m.network place words')
  shared_there address value phi words' idle home small start inside number means becomes below =
      subst (λ j. Done m (step.Poke (poke.Shared address value)) Poked (with_module m m.network j words')) (sym same)
      (shared_done m is idle home address value i phi words' small start inside (sym number) means
      (becomes ∙ ap (λ (xs : List ℕ). slice_set xs ((address - 2 ^ 31) / 4 / 2 ^ m.config.k)
      (apply phi (slice_index xs ((address - 2 ^ 31) / 4 / 2 ^ m.config.k)))) words_are)
      (subst (λ (xs : List ℕ). apply phi (slice_index xs ((address - 2 ^ 31) / 4 / 2 ^ m.config.k)) < 2 ^ 32) words_are below))

  -- A shared word is at its place in its module.
  pub word_there_is : (word : ℕ) → word < m.config.shared_words → i ≡ word % 2 ^ m.config.k →
      slice_get words (word / 2 ^ m.config.k) ≡ Some (word_at m.config.k m.modules word)
  word_there_is word inside number =
      ap (λ (xs : List ℕ). slice_get xs (word / 2 ^ m.config.k)) words_are
      ∙ found_within (slice_index_or m.modules i []) (word / 2 ^ m.config.k) 0 (place_there m.config m.modules is.modules i word 0 (sym number) inside)
      ∙ ap (λ j. Some (slice_index (slice_index_or m.modules j []) (word / 2 ^ m.config.k))) number

-- ---- addresses that are not of shared memory

-- An address below 2^31 is not in shared memory.
pub below : (address words : ℕ) → address < 2 ^ 31 → in_shared words address ≡ false
below address words less = ap (λ b. b && nat_lt address (2 ^ 31 + 4 * words)) (lt-leb (2 ^ 31) address less)

-- An address past the last shared word is not in shared memory.
pub beyond : (address words : ℕ) → 2 ^ 31 ≤ address → words ≤ (address - 2 ^ 31) / 4 → in_shared words address ≡ false
beyond address words start past = ap₂ (λ a b. a && b) (le-leb (2 ^ 31) address start) (le-ltb address (2 ^ 31 + 4 * words) (omega arith))
