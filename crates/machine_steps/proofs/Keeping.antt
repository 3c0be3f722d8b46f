-- What holds of every machine still holds if a port, a module or the network changes.
use Rattle.std.proofs.Common.{◌≡◌, ℕ, ◌/◌, ◌%◌, ◌^◌, ◌<◌, ◌≤◌, Bool, true, false, List, [], length, Some, ◌⊎◌}
use Rattle.std.proofs.Common.{inl, inr, refl, sym, ap, ◌∙◌, subst, arith, get_or-set_same, get_or-set_other}
use Rattle.std.specs.Prelude.{slice_index_or, slice_set}
use Rattle.std.proofs.lemmas.Bool.{cases_eq, true≢false}
use Rattle.std.proofs.lemmas.List.{length-set}
use Rattle.std.proofs.Math.Nat.{pow-le-pow_right}
use Rattle.std.proofs.lemmas.Nat.{mod_below, pow_pos}
use Rattle.flat_machine.specs.declared.config.Config.{Config}
use Rattle.flat_machine.specs.declared.event.Retired as retirement
use Rattle.flat_machine.specs.State.{Processor, is_running}
use Rattle.flat_machine.specs.Turns.{Turn, Retires, Reaches, Stops, turn_of}
use Rattle.flat_machine.specs.Laws.{HasWords, AreBelow, LeavesWords}
use Rattle.flat_machine.specs.Limits.{IsWithinLimits}
use Rattle.flat_machine.proofs.Lemmas.{turn_words}
use Rattle.elf_image.specs.Images.{ImageContents}
use Rattle.hart.specs.Deciding.{after_reply, IsReference}
use Rattle.machine_ports.specs.Ports.{PortState, begun, is_away, no_processor, turn}
use Rattle.machine_ports.proofs.Lemmas.{no_reference, reaches_stays, retires_stays}
use Rattle.messages.specs.Places.{put}
use Rattle.messages.proofs.Lemmas.{put_other, put_same}
use Rattle.omega_network.specs.Networks.{NetworkLists, net_of}
use Rattle.omega_network.specs.Networks as network
use Rattle.steps.specs.declared.step.Step.{Step}
use Rattle.steps.specs.declared.step.Outcome.{Outcome}
use Rattle.machine_steps.specs.Parts.{places_of}
use Rattle.machine_steps.proofs.Parts.{quotient_small}
use Rattle.machine_theory.specs.Processors.{setting_of, port_at, no_port, word_at}
use Rattle.machine_theory.specs.Steps.{IsStepOf, with_shown}
use Rattle.machine_theory.proofs.Lemmas.{observed_again, stays_steady, words_set}
use Rattle.machine_steps.specs.Machines.{MachineLists, ArePorts, AreModules, IsMachine}

-- ---- a port changes

module _ (c : Config) (ports : List PortState) (all : ArePorts c ports) (p : ℕ) (within : p < 2 ^ c.k) (x : PortState) where
  inside : p < length ports
  inside = subst (λ n. p < n) (sym all.all) within

  here : port_at (slice_set ports p x) p ≡ x
  here = get_or-set_same ports p x no_port inside

  there : (q : ℕ) → (q ≡ p → ⊥) → port_at (slice_set ports p x) q ≡ port_at ports q
  there q other = get_or-set_other ports p q x no_port other

  -- `ArePorts` still holds if a port gets a core of the same setting that has words in range, and of which nothing is
  -- left if it is away.
  pub ports_set : x.core.setting ≡ (port_at ports p).core.setting → HasWords x.core.state →
      (is_away x.core.state ≡ true → x.core.state ≡ no_processor) → ArePorts c (slice_set ports p x)
  ports_set setting words rest = record {
    all = length-set ports p x ∙ all.all;
    settings = λ q small. setting_at q small (cases_eq q p);
    words = λ q. words_at q (cases_eq q p);
    rest = λ q. rest_at q (cases_eq q p);
  }
    where
      rest_at : (q : ℕ) → (q ≡ p) ⊎ (q ≡ p → ⊥) → is_away (port_at (slice_set ports p x) q).core.state ≡ true →
          (port_at (slice_set ports p x) q).core.state ≡ no_processor
      rest_at q (inl e) = subst (λ (y : PortState). is_away y.core.state ≡ true → y.core.state ≡ no_processor)
          (sym here ∙ ap (port_at (slice_set ports p x)) (sym e)) rest
      rest_at q (inr other) =
          subst (λ (y : PortState). is_away y.core.state ≡ true → y.core.state ≡ no_processor) (sym (there q other)) (all.rest q)

      setting_at : (q : ℕ) → q < 2 ^ c.k → (q ≡ p) ⊎ (q ≡ p → ⊥) → (port_at (slice_set ports p x) q).core.setting ≡ setting_of c q
      setting_at q small (inl e) =
          ap (λ i. (port_at (slice_set ports p x) i).core.setting) e ∙ ap (λ (y : PortState). y.core.setting) here ∙ setting ∙ all.settings p within
          ∙ ap (setting_of c) (sym e)
      setting_at q small (inr other) = ap (λ (y : PortState). y.core.setting) (there q other) ∙ all.settings q small

      words_at : (q : ℕ) → (q ≡ p) ⊎ (q ≡ p → ⊥) → HasWords (port_at (slice_set ports p x) q).core.state
      words_at q (inl e) = subst (λ (y : PortState). HasWords y.core.state) (sym here ∙ ap (port_at (slice_set ports p x)) (sym e)) words
      words_at q (inr other) = subst (λ (y : PortState). HasWords y.core.state) (sym (there q other)) (all.words q)

  -- `ArePorts` still holds if the new core is at home.
  pub home_set : x.core.setting ≡ (port_at ports p).core.setting → HasWords x.core.state → is_away x.core.state ≡ false → ArePorts c (slice_set ports p x)
  home_set setting words home = ports_set setting words (λ e. absurd (true≢false (sym e ∙ home)))

-- ---- a core that is at home

module _ (c : Config) (ports : List PortState) (all : ArePorts c ports) (p : ℕ) where
  -- A core is at home if it is not what is left of one that is away.
  pub home_unless : ((port_at ports p).core.state ≡ no_processor → ⊥) → is_away (port_at ports p).core.state ≡ false
  home_unless some = at (is_away (port_at ports p).core.state) refl
    where
      at : (b : Bool) → is_away (port_at ports p).core.state ≡ b → is_away (port_at ports p).core.state ≡ false
      at true e = absurd (some (all.rest p e))
      at false e = e

  -- A processor that runs has its core at home.
  pub home_running : is_running (port_at ports p).core.state.status ≡ true → is_away (port_at ports p).core.state ≡ false
  home_running runs = home_unless (λ e. true≢false (sym runs ∙ ap (λ (s : Processor). is_running s.status) e))

  -- A processor whose next turn is a reference has its core at home.
  pub home_referring : (code : List ℕ) → IsReference (turn (port_at ports p) code) → is_away (port_at ports p).core.state ≡ false
  home_referring code r = home_unless (λ e. no_reference (port_at ports p).core.setting code
      (subst (λ s. IsReference (turn_of (port_at ports p).core.setting code s)) e r))

-- ---- what a turn leaves of a port

-- If there are at most 6 stages, there are at most 64 wires.
pub count_small : (k : ℕ) → k ≤ 6 → 2 ^ k ≤ 64
count_small k few = pow-le-pow_right {n = 2} (omega arith) few

module _ (c : Config) (code : List ℕ) (limits : IsWithinLimits c) (bytes : AreBelow 256 code) (ports : List PortState) (all : ArePorts c ports) (p : ℕ)
    (within : p < 2 ^ c.k) where
  leaves : LeavesWords (turn (port_at ports p) code)
  leaves =
      let few = count_small c.k limits.stages in
      subst (λ s. LeavesWords (turn_of s code (port_at ports p).core.state)) (sym (all.settings p within))
      (turn_words (setting_of c p) code (port_at ports p).core.state (omega arith) (omega arith) bytes (all.words p))

  -- `ArePorts` still holds after a port begins its turn.
  pub begun_kept : (port' : PortState) → port' ≡ (begun (port_at ports p) code (turn (port_at ports p) code)).1 →
      is_running (port_at ports p).core.state.status ≡ true → ArePorts c (slice_set ports p port')
  begun_kept port' is runs = subst (λ y. ArePorts c (slice_set ports p y)) (sym is) (by (turn (port_at ports p) code) refl leaves)
    where
      home : is_away (port_at ports p).core.state ≡ false
      home = home_running c ports all p runs

      by : (t : Turn) → turn (port_at ports p) code ≡ t → LeavesWords t → ArePorts c (slice_set ports p (begun (port_at ports p) code t).1)
      by (Retires after retired) e l = home_set c ports all p within (begun (port_at ports p) code (Retires after retired)).1 refl l
          (retires_stays (port_at ports p).core.setting code (port_at ports p).core.state after retired e ∙ home)
      by (Reaches word change after) e l =
          home_set c ports all p within (begun (port_at ports p) code (Reaches word change after)).1 refl (all.words p) home
      by (Stops cause) e l =
          let old = all.words p in
          home_set c ports all p within (begun (port_at ports p) code (Stops cause)).1 refl
          (record { pc = old.pc; registers = old.registers; local = old.local }) home

  -- `ArePorts` still holds after a port finishes its turn with a word.
  pub finished_kept : (port' : PortState) (found : ℕ) (done : Processor × retirement.Retired) → found < 2 ^ 32 →
      IsReference (turn (port_at ports p) code) → after_reply (turn (port_at ports p) code) found ≡ Some done →
      port' ≡ record { core = record { setting = (port_at ports p).core.setting; state = done.0 }; is_open = false } → ArePorts c (slice_set ports p port')
  finished_kept port' found done small refers by_turn is =
      subst (λ y. ArePorts c (slice_set ports p y)) (sym is) (by (turn (port_at ports p) code) refl leaves by_turn)
    where
      new : PortState
      new = record { core = record { setting = (port_at ports p).core.setting; state = done.0 }; is_open = false }

      by : (t : Turn) → turn (port_at ports p) code ≡ t → LeavesWords t → after_reply t found ≡ Some done → ArePorts c (slice_set ports p new)
      by (Reaches word change after) t l e =
          let same : after found ≡ done = cc in
          home_set c ports all p within new refl (subst (λ (d : Processor × retirement.Retired). HasWords d.0) same (l found small).1)
          (ap (λ (d : Processor × retirement.Retired). is_away d.0) (sym same)
          ∙ reaches_stays (port_at ports p).core.setting code (port_at ports p).core.state word change after found t
          ∙ home_referring c ports all p code refers)
      by (Retires after retired) t l e = absurd (cc)
      by (Stops cause) t l e = absurd (cc)

-- ---- a module changes

module _ (c : Config) (modules : List (List ℕ)) (all : AreModules c modules) (number word : ℕ) (v : ℕ) (is : word % 2 ^ c.k ≡ number)
    (inside : word < c.shared_words) where
  within : number < 2 ^ c.k
  within = subst (λ n. n < 2 ^ c.k) is (mod_below word (2 ^ c.k) (pow_pos c.k))

  -- The module of a shared word is one of the modules.
  pub module_there : number < length modules
  module_there = subst (λ n. number < n) (sym all.all) within

  -- The place of a shared word is within its module.
  pub place_there : word / 2 ^ c.k < length (slice_index_or modules number [])
  place_there = subst (λ n. word / 2 ^ c.k < n) (sym (all.places number within)) (quotient_small word c.shared_words (2 ^ c.k) (pow_pos c.k) inside)

  -- `AreModules` still holds if a shared word becomes another word.
  pub modules_set : v < 2 ^ 32 → AreModules c (slice_set modules number (slice_set (slice_index_or modules number []) (word / 2 ^ c.k) v))
  modules_set small =
      let w = words_set c.k modules number word v is module_there place_there in
      record {
        all = length-set modules number (slice_set (slice_index_or modules number []) (word / 2 ^ c.k) v) ∙ all.all;
        places = λ m l. places_at m l (cases_eq m number);
        words = λ i. subst (λ (f : ℕ → ℕ). f i < 2 ^ 32) (sym w) (words_at i (cases_eq i word));
        end = λ i past. ap (λ (f : ℕ → ℕ). f i) w ∙ put_other (word_at c.k modules) word v i
            (λ e. absurd (let l : c.shared_words ≤ word = subst (λ j. c.shared_words ≤ j) e past in omega arith)) ∙ all.end i past;
      }
    where
      places_at : (m : ℕ) → m < 2 ^ c.k → (m ≡ number) ⊎ (m ≡ number → ⊥) →
          length (slice_index_or (slice_set modules number (slice_set (slice_index_or modules number []) (word / 2 ^ c.k) v)) m []) ≡ places_of c
      places_at m l (inl e) =
          ap (λ j. length (slice_index_or (slice_set modules number (slice_set (slice_index_or modules number []) (word / 2 ^ c.k) v)) j [])) e
          ∙ ap length (get_or-set_same modules number (slice_set (slice_index_or modules number []) (word / 2 ^ c.k) v) [] module_there)
          ∙ length-set (slice_index_or modules number []) (word / 2 ^ c.k) v ∙ all.places number within
      places_at m l (inr other) =
          ap length (get_or-set_other modules number m (slice_set (slice_index_or modules number []) (word / 2 ^ c.k) v) [] other) ∙ all.places m l

      words_at : (i : ℕ) → (i ≡ word) ⊎ (i ≡ word → ⊥) → put (word_at c.k modules) word v i < 2 ^ 32
      words_at i (inl e) = subst (λ (n : ℕ). n < 2 ^ 32) (sym (put_same (word_at c.k modules) word v) ∙ ap (put (word_at c.k modules) word v) (sym e)) small
      words_at i (inr other) = subst (λ (n : ℕ). n < 2 ^ 32) (sym (put_other (word_at c.k modules) word v i other)) (all.words i)

-- ---- the machine

-- a machine with this configuration, code and image
module _ (config : Config) (code : List ℕ) (image : ImageContents) where
  abbrev machine : NetworkLists → List PortState → List (List ℕ) → MachineLists
  machine net ports modules = record { config = config; image = image; network = net; ports = ports; modules = modules; code = code }

  -- After a step, `IsMachine` still holds if the network keeps its sizes, and `ArePorts` and `AreModules` hold.
  pub parts_kept : (net net' : NetworkLists) (ports ports' : List PortState) (modules modules' : List (List ℕ)) (s : Step) (o : Outcome) →
      IsMachine (machine net ports modules) →
      IsStepOf config code (net_of net) ports modules s o (net_of net') ports' modules' → network.sizes_of net' ≡ network.sizes_of net →
      ArePorts config ports' → AreModules config modules' → IsMachine (machine net' ports' modules')
  parts_kept net net' ports ports' modules modules' s o m is sizes ports_are modules_are =
      let steady = stays_steady config code (net_of net) ports modules m.role s o (net_of net') ports' modules' m.steady is in
      record {
        limits = m.limits;
        sizes = sizes ∙ m.sizes;
        ports = ports_are;
        modules = modules_are;
        code = m.code;
        role = steady.0;
        steady = observed_again config code (net_of net') ports' modules' (with_shown (λ p. []) s o) (λ p. []) steady.0 steady.1;
      }
