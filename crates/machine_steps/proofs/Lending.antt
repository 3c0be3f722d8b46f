-- A core is taken out of a machine, or put into it, and what is read if cores are at home.
use Rattle.std.proofs.Common.{◌≡◌, ℕ, ◌^◌, ◌<◌, Bool, true, false, List, [], length, nat_lt, refl, sym, ap, ap₂, ◌∙◌, subst, lt-ltb, ltb-true, arith}
use Rattle.std.specs.Prelude.{◌==◌, ◌&&◌, not, slice_index_or, slice_set}
use Rattle.std.proofs.lemmas.Bool.{true≢false}
use Rattle.flat_machine.specs.declared.event.Event.{Event}
use Rattle.flat_machine.specs.Laws.{HasWords}
use Rattle.hart.specs.State.{CoreState}
use Rattle.machine_ports.specs.Ports.{PortState, is_away, no_processor, with_state}
use Rattle.omega_network.specs.Networks.{net_of}
use Rattle.machine_theory.specs.serialization.Steadiness.{Steady}
use Rattle.machine_theory.specs.Theory as theory
use Rattle.machine_theory.specs.Processors.{ObservedCore, sizes_of, program, port_at, open_at, setting_of, word_at}
use Rattle.machine_theory.specs.Cores as cores
use Rattle.machine_theory.specs.Steps.{machine_of_parts}
use Rattle.machine_theory.proofs.Lemmas.{core_changed, open_kept, steady_with}
use Rattle.machine_steps.specs.Machines.{MachineLists, AreHome, IsMachine, away_at, is_there, machine_of, with_core_at}
use Rattle.machine_steps.proofs.Handling.{port_is, turn_refers}
use Rattle.machine_steps.proofs.Keeping.{home_referring, home_unless, ports_set}

-- ---- the machine with another core

module _ (m : MachineLists) (is : IsMachine m) (p : ℕ) (within : p < 2 ^ m.config.k) where
  inside : p < length m.ports
  inside = subst (λ n. p < n) (sym is.ports.all) within

  -- A processor whose core is away has no reference open.
  pub away_shut : away_at m p ≡ true → open_at m.ports p ≡ false
  away_shut away = by (open_at m.ports p) refl
    where
      by : (b : Bool) → open_at m.ports p ≡ b → open_at m.ports p ≡ false
      by true e = absurd (true≢false (sym away ∙ home_referring m.config m.ports is.ports p m.code (turn_refers m is p within e)))
      by false e = e

  module _ (core : CoreState) where
    abbrev port : PortState
    port = record (port_at m.ports p) { core = core }

    -- A machine with another core at a port is, in the theory, the machine with that core put in.
    pub core_put : (shown : ℕ → List Event) →
        machine_of (with_core_at m p core) shown ≡ cores.with_core (machine_of m shown) p (record { state = core.state; events = shown p })
    unfolding machine_of_parts
    core_put shown =
        ap₂ (λ (f : ℕ → ObservedCore) (b : ℕ → Bool). record { net = net_of m.network; mem = word_at m.config.k m.modules; core = f; is_open = b })
        (core_changed m.ports p port inside shown) (open_kept m.ports p port inside refl)

    -- `IsMachine` still holds with another core at a port, if no reference is open there, the setting is the same, the
    -- core's words are in range, and nothing is left of it if it is away.
    pub put_is_machine : open_at m.ports p ≡ false → core.setting ≡ (port_at m.ports p).core.setting → HasWords core.state →
        (is_away core.state ≡ true → core.state ≡ no_processor) → IsMachine (with_core_at m p core)
    unfolding machine_of_parts
    put_is_machine shut setting words rest = record {
      limits = is.limits;
      sizes = is.sizes;
      ports = ports_set m.config m.ports is.ports p within port setting words rest;
      modules = is.modules;
      code = is.code;
      role = is.role;
      steady = subst (λ (M : theory.Machine ObservedCore). Steady (sizes_of m.config) (program m.config m.code) M is.role) (sym (core_put (λ q. [])))
          (steady_with (sizes_of m.config) (program m.config m.code) (machine_of m (λ q. [])) is.role p (record { state = core.state; events = [] }) is.steady
          shut);
    }

-- ---- after a call that changes the core of a port

-- A core that has registers is at home.
pub home_by_registers : (core : CoreState) → length core.state.registers ≡ 32 → is_away core.state ≡ false
home_by_registers core e = ap (λ n. n == 0) e

module _ (m : MachineLists) (is : IsMachine m) (p place : ℕ) (same : place ≡ p) (within : p < 2 ^ m.config.k) (port : PortState) (at : port
    ≡ slice_index_or m.ports place port) (port' : PortState) where
  found_port : port ≡ port_at m.ports p
  found_port = port_is m is p place same within port at

  abbrev left : MachineLists
  left = record { config = m.config; image = m.image; network = m.network; ports = slice_set m.ports place port'; modules = m.modules; code = m.code }

  module _ (core : CoreState) (becomes : port' ≡ record port { core = core }) where
    left_is : left ≡ with_core_at m p core
    left_is =
        ap₂ (λ i (q : PortState).
        record { config = m.config; image = m.image; network = m.network; ports = slice_set m.ports i q; modules = m.modules; code = m.code }) same
        (becomes ∙ ap (λ (q : PortState). record q { core = core }) found_port)

    -- The machine after a core is put in is the theory's machine with that core.
    pub put_there : (shown : ℕ → List Event) →
        machine_of left shown ≡ cores.with_core (machine_of m shown) p (record { state = core.state; events = shown p })
    put_there shown = ap (λ (n : MachineLists). machine_of n shown) left_is ∙ core_put m is p within core shown

    -- `IsMachine` still holds if a core of the processor's setting, with words in range and 32 registers, is put in for
    -- one that is away.
    pub put_keeps : away_at m p ≡ true → core.setting ≡ setting_of m.config p → HasWords core.state → length core.state.registers ≡ 32 → IsMachine left
    put_keeps away setting words registers = subst IsMachine (sym left_is)
        (put_is_machine m is p within core (away_shut m is p within away) (setting ∙ sym (is.ports.settings p within)) words
        (λ e. absurd (true≢false (sym e ∙ home_by_registers core registers))))

  module _ (becomes : port' ≡ with_state port no_processor) where
    abbrev none : CoreState
    none = record (port_at m.ports p).core { state = no_processor }

    becomes_none : port' ≡ record port { core = none }
    becomes_none = becomes ∙ ap (λ (q : PortState). record port { core = record q.core { state = no_processor } }) found_port

    -- The machine after a core is taken out is the theory's machine without that core.
    pub taken_there : (shown : ℕ → List Event) → machine_of left shown ≡ cores.without (machine_of m shown) p
    unfolding machine_of_parts
    taken_there shown = put_there none becomes_none shown

    -- `IsMachine` still holds if a core is taken out of a port with no open reference.
    pub taken_keeps : port.is_open ≡ false → IsMachine left
    taken_keeps shut = subst IsMachine (sym (left_is none becomes_none))
        (put_is_machine m is p within none (ap (λ (q : PortState). q.is_open) (sym found_port) ∙ shut) refl
        (record { pc = omega arith; registers = λ r. omega arith; local = λ r. omega arith }) (λ e. refl))

-- ---- what is read of cores

-- If no core is away, each processor is there.
pub home_there : (m : MachineLists) → AreHome m → (p : ℕ) → is_there m p ≡ nat_lt p (2 ^ m.config.k)
home_there m home p = by (nat_lt p (2 ^ m.config.k)) refl
  where
    by : (b : Bool) → nat_lt p (2 ^ m.config.k) ≡ b → (b && not (away_at m p)) ≡ b
    by true e = ap not (home p (ltb-true p (2 ^ m.config.k) e))
    by false e = refl

-- A processor whose state is not that of a core that is away is there.
pub there_unless : (m : MachineLists) → IsMachine m → (p : ℕ) → p < 2 ^ m.config.k → ((port_at m.ports p).core.state ≡ no_processor → ⊥) → is_there m p ≡ true
there_unless m is p within some = ap₂ (λ a b. a && not b) (lt-ltb p (2 ^ m.config.k) within) (home_unless m.config m.ports is.ports p some)
