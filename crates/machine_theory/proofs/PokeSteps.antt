-- Writes from outside are steps of the machine.
use Rattle.std.proofs.Common.{◌≡◌, ℕ, zero, suc, ◌-◌, ◌/◌, ◌%◌, ◌^◌, ◌<◌, Bool, true, false, List}
use Rattle.std.proofs.Common.{[], length, ◌⊎◌, inl, inr, refl, sym, ap, ap₂, ◌∙◌, lt-ltb, arith}
use Rattle.std.proofs.lemmas.Bool.{and_parts, cases_eq, true≢false}
use Rattle.std.specs.Prelude.{◌&&◌, not, slice_index, slice_index_or, slice_set, if◌then◌else◌}
use Rattle.machine_ports.specs.flat_machine.declared.config.Config.{Config}
use Rattle.machine_ports.specs.flat_machine.declared.event.Event.{Event}
use Rattle.machine_ports.specs.flat_machine.declared.poke.Poke.{Poke}
use Rattle.machine_ports.specs.flat_machine.declared.poke.Poke.TheVariants as poke
use Rattle.machine_ports.specs.flat_machine.State.{Processor}
use Rattle.machine_ports.specs.flat_machine.Words.{with_part}
use Rattle.machine_ports.specs.flat_machine.Memory.{in_local, in_shared}
use Rattle.machine_ports.specs.flat_machine.Flat.{is_lawful_register, with_poked_register, with_poked_byte}
use Rattle.machine_ports.specs.Ports.{PortState, is_away, with_state}
use Rattle.serialization.specs.messages.Places.{put}
use Rattle.serialization.specs.messages.Network.{Net}
use Rattle.serialization.specs.Machine.{Machine, poked, all_shut}
use Rattle.serialization.proofs.Lemmas.{all_shut_is}
use Rattle.steps.specs.declared.step.Step.TheVariants as step
use Rattle.steps.specs.declared.step.Outcome.TheVariants.{Poked, Stalled}
use Rattle.machine_theory.specs.Theory.{stalled}
use Rattle.machine_theory.specs.Processors.{ObservedCore, program, port_at, word_at, observed_at, open_at, are_home}
use Rattle.machine_theory.specs.Processors.{changed, is_lawful_poke, poked_words, poked_processors}
use Rattle.machine_theory.specs.Steps.{taken, machine_of_parts, IsStepOf}
use Rattle.machine_theory.proofs.TurnSteps.{stalls, step_of}
use Rattle.machine_theory.proofs.PortSets.{core_changed, open_kept}
use Rattle.machine_theory.proofs.ServeSteps.{words_set}

-- If none of the first n processors is open, the test `all_shut` holds.
pub shut_all : (n : ℕ) (is_open : ℕ → Bool) → ((p : ℕ) → p < n → is_open p ≡ false) → all_shut n is_open ≡ true
unfolding all_shut
shut_all zero is_open h = refl
shut_all (suc n) is_open h = ap₂ (λ a b. not a && b) (h n (omega arith)) (shut_all n is_open (λ p l. h p (omega arith)))

-- If none of the first n cores is away, the test `are_home` holds.
pub home_all : (n : ℕ) (states : ℕ → Processor) → ((p : ℕ) → p < n → is_away (states p) ≡ false) → are_home n states ≡ true
unfolding are_home
home_all zero states h = refl
home_all (suc n) states h = ap₂ (λ a b. not a && b) (h n (omega arith)) (home_all n states (λ p l. h p (omega arith)))

not_true : (b : Bool) → not b ≡ true → b ≡ false
not_true false e = refl
not_true true e = absurd (true≢false (sym e))

-- If the test `are_home` holds, none of the first n cores is away.
pub are_home_is : (n : ℕ) (states : ℕ → Processor) → are_home n states ≡ true → (p : ℕ) → p < n → is_away (states p) ≡ false
unfolding are_home
are_home_is zero states e p within = absurd (omega arith)
are_home_is (suc n) states e p within =
    let parts = and_parts (not (is_away (states n))) (are_home n states) e in
    at parts.0 (λ l. are_home_is n states parts.1 p l) (cases_eq p n)
  where
    at : not (is_away (states n)) ≡ true → (p < n → is_away (states p) ≡ false) → (p ≡ n) ⊎ (p ≡ n → ⊥) → is_away (states p) ≡ false
    at last earlier (inl same) = ap (λ i. is_away (states i)) same ∙ not_true (is_away (states n)) last
    at last earlier (inr other) = earlier (omega arith)

module _ (c : Config) (code : List ℕ) (net : Net) (ports : List PortState) (modules : List (List ℕ)) where
  abbrev M : (ℕ → List Event) → Machine ObservedCore
  M shown = machine_of_parts c net ports modules shown

  -- whether no core is away
  abbrev all_home : Bool
  all_home = are_home (2 ^ c.k) (λ p. (port_at ports p).core.state)

  poke_by : (q : Poke) (b : Bool) → (all_shut (2 ^ c.k) (open_at ports) && (all_home && is_lawful_poke c q)) ≡ b → (shown : ℕ → List Event) →
      taken c code (M shown) (step.Poke q) ≡ (if b then poked (program c code) (M shown) q else stalled (M shown))
  unfolding machine_of_parts
  poke_by q b e shown = ap (λ b. if b then poked (program c code) (M shown) q else stalled (M shown)) e

  pub poke_refused : (q : Poke) → (all_shut (2 ^ c.k) (open_at ports) && (all_home && is_lawful_poke c q)) ≡ false →
      IsStepOf c code net ports modules (step.Poke q) Stalled net ports modules
  unfolding machine_of_parts
  poke_refused q e = stalls c code net ports modules (step.Poke q) (poke_by q false e)

  -- A poke stalls if some processor is open.
  pub not_idle : (q : Poke) → (((p : ℕ) → p < 2 ^ c.k → open_at ports p ≡ false) → ⊥) →
      IsStepOf c code net ports modules (step.Poke q) Stalled net ports modules
  not_idle q busy = poke_refused q (by (all_shut (2 ^ c.k) (open_at ports)) refl)
    where
      by : (b : Bool) → all_shut (2 ^ c.k) (open_at ports) ≡ b → (all_shut (2 ^ c.k) (open_at ports) && (all_home && is_lawful_poke c q)) ≡ false
      by true e = absurd (busy (all_shut_is (2 ^ c.k) (open_at ports) e))
      by false e = ap (λ b. b && (all_home && is_lawful_poke c q)) e

  -- A poke stalls if some core is away.
  pub not_home : (q : Poke) → (((p : ℕ) → p < 2 ^ c.k → is_away (port_at ports p).core.state ≡ false) → ⊥) →
      IsStepOf c code net ports modules (step.Poke q) Stalled net ports modules
  not_home q away = poke_refused q (by all_home refl)
    where
      none : (a : Bool) → (a && (false && is_lawful_poke c q)) ≡ false
      none true = refl
      none false = refl

      by : (b : Bool) → all_home ≡ b → (all_shut (2 ^ c.k) (open_at ports) && (all_home && is_lawful_poke c q)) ≡ false
      by true e = absurd (away (are_home_is (2 ^ c.k) (λ p. (port_at ports p).core.state) e))
      by false e = ap (λ b. all_shut (2 ^ c.k) (open_at ports) && (b && is_lawful_poke c q)) e ∙ none (all_shut (2 ^ c.k) (open_at ports))

  module _ (idle : (p : ℕ) → p < 2 ^ c.k → open_at ports p ≡ false) (at_home : (p : ℕ) → p < 2 ^ c.k → is_away (port_at ports p).core.state ≡ false) where
    may : (q : Poke) (b : Bool) → is_lawful_poke c q ≡ b → (all_shut (2 ^ c.k) (open_at ports) && (all_home && is_lawful_poke c q)) ≡ b
    may q b e =
        ap₂ (λ x y. x && (y && is_lawful_poke c q)) (shut_all (2 ^ c.k) (open_at ports) idle)
        (home_all (2 ^ c.k) (λ p. (port_at ports p).core.state) at_home) ∙ e

    -- A poke that is not lawful stalls.
    pub unlawful : (q : Poke) → is_lawful_poke c q ≡ false → IsStepOf c code net ports modules (step.Poke q) Stalled net ports modules
    unlawful q e = poke_refused q (may q false e)

    -- A lawful poke that changes one processor alone is done, and changes that processor's port.
    port_poked : (q : Poke) (p : ℕ) (change : Processor → Processor) → p < length ports → is_lawful_poke c q ≡ true →
        poked_words q (word_at c.k modules) ≡ word_at c.k modules →
        ((core : ℕ → ObservedCore) → poked_processors q core ≡ put core p (changed change (core p))) →
        IsStepOf c code net ports modules (step.Poke q) Poked net
        (slice_set ports p (with_state (port_at ports p) (change (port_at ports p).core.state))) modules
    unfolding machine_of_parts
    port_poked q p change inside lawful words by = step_of c code net net ports
        (slice_set ports p (with_state (port_at ports p) (change (port_at ports p).core.state))) modules modules (step.Poke q) Poked (record {
          result = λ shown. poked (program c code) (M shown) q;
          is = λ shown. poke_by q true (may q true lawful) shown;
          answers = refl;
          leaves = λ shown.
              ap₂ (λ (f : ℕ → ObservedCore) (b : ℕ → Bool). record { net = net; mem = word_at c.k modules; core = f; is_open = b })
              (core_changed ports p (with_state (port_at ports p) (change (port_at ports p).core.state)) inside shown)
              (open_kept ports p (with_state (port_at ports p) (change (port_at ports p).core.state)) inside refl)
              ∙ ap₂ (λ w (f : ℕ → ObservedCore). record { net = net; mem = w; core = f; is_open = open_at ports }) (sym words)
              (sym (by (observed_at ports shown)));
        })

    -- A poke of a register is done if the processor is there, the value is a word, and the register is lawful.
    pub register_poked : (p register value : ℕ) → p < 2 ^ c.k → p < length ports → value < 2 ^ 32 → is_lawful_register register value ≡ true →
        IsStepOf c code net ports modules (step.Poke (poke.Register p register value)) Poked net
        (slice_set ports p (with_state (port_at ports p) (with_poked_register register value (port_at ports p).core.state))) modules
    register_poked p register value within inside small lawful =
        port_poked (poke.Register p register value) p (with_poked_register register value) inside
        (ap₂ (λ a b. a && b) (lt-ltb value (2 ^ 32) small) (ap₂ (λ a b. a && b) (lt-ltb p (2 ^ c.k) within) lawful)) refl (λ core. refl)

    -- A poke of a local byte is done if the processor is there, the value is a byte, and the address is local.
    pub byte_poked : (p address value : ℕ) → p < 2 ^ c.k → p < length ports → value < 256 → in_local address ≡ true →
        IsStepOf c code net ports modules (step.Poke (poke.Local p address value)) Poked net
        (slice_set ports p (with_state (port_at ports p) (with_poked_byte address value (port_at ports p).core.state))) modules
    byte_poked p address value within inside small lawful =
        port_poked (poke.Local p address value) p (with_poked_byte address value) inside
        (ap₂ (λ a b. a && b) (lt-ltb value 256 small) (ap₂ (λ a b. a && b) (lt-ltb p (2 ^ c.k) within) lawful)) refl (λ core. refl)

    -- A poke of a shared byte is done, in the module of its word, if the value is a byte and the address is shared.
    pub word_poked : (address value number : ℕ) (memory' : List ℕ) → value < 256 → in_shared c.shared_words address ≡ true →
        (address - 2 ^ 31) / 4 % 2 ^ c.k ≡ number → number < length modules →
        (address - 2 ^ 31) / 4 / 2 ^ c.k < length (slice_index_or modules number []) →
        memory' ≡ slice_set (slice_index_or modules number []) ((address - 2 ^ 31) / 4 / 2 ^ c.k)
        (with_part 1 (address % 4) (slice_index (slice_index_or modules number []) ((address - 2 ^ 31) / 4 / 2 ^ c.k)) value) →
        IsStepOf c code net ports modules (step.Poke (poke.Shared address value)) Poked net ports (slice_set modules number memory')
    unfolding machine_of_parts
    word_poked address value number memory' small lawful is there place memory =
        let word : ℕ = (address - 2 ^ 31) / 4 in
        let old : ℕ = slice_index (slice_index_or modules number []) (word / 2 ^ c.k) in
        let found : word_at c.k modules word ≡ old = ap (λ i. slice_index (slice_index_or modules i []) (word / 2 ^ c.k)) is in
        let written : word_at c.k (slice_set modules number memory')
        ≡ put (word_at c.k modules) word (with_part 1 (address % 4) (word_at c.k modules word) value)
        = ap (λ xs. word_at c.k (slice_set modules number xs)) memory ∙ words_set c.k modules number word (with_part 1 (address % 4) old value) is there place
        ∙ ap (λ v. put (word_at c.k modules) word (with_part 1 (address % 4) v value)) (sym found) in
        step_of c code net net ports ports modules (slice_set modules number memory') (step.Poke (poke.Shared address value)) Poked (record {
          result = λ shown. poked (program c code) (M shown) (poke.Shared address value);
          is = λ shown. poke_by (poke.Shared address value) true
              (may (poke.Shared address value) true (ap₂ (λ a b. a && b) (lt-ltb value 256 small) lawful)) shown;
          answers = refl;
          leaves = λ shown. ap (λ f. record { net = net; mem = f; core = observed_at ports shown; is_open = open_at ports }) written;
        })
