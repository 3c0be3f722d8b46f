-- The parts of a new machine.
use Rattle.std.proofs.Common.{◌≡◌, ℕ, zero, suc, ◌+◌, ◌-◌, ◌*◌, ◌/◌, ◌%◌, ◌^◌, ◌<◌, ◌≤◌, true, false, List}
use Rattle.std.proofs.Common.{[], ◌∷◌, ◌++◌, length, ◌⊎◌, inl, inr, refl, sym, ap, ◌∙◌, subst, arith}
use Rattle.std.specs.Prelude.{slice_index, slice_index_or, replicate}
use Rattle.std.proofs.lemmas.Bool.{cases_lt, eqb-true, true≢false}
use Rattle.std.proofs.lemmas.Nat.{div-add-mod', mod_below, pow_pos}
use Rattle.std.proofs.lemmas.List.FromFn.{length-map-range_with_len, get_or-map-range_with_len}
use mathlib.Core.Path.{fun_ext}
use Rattle.flat_machine.specs.declared.config.Config.{Config}
use Rattle.flat_machine.specs.Laws.{HasWords, AreBelow}
use Rattle.flat_machine.specs.Limits.{IsWithinLimits}
use Rattle.flat_machine.specs.Memory.{number_at}
use Rattle.flat_machine.proofs.Lemmas.{number_small}
use Rattle.local_memory.specs.Accesses.{padded, region_of_bytes}
use Rattle.elf_image.specs.declared.layout.Layout.{Layout}
use Rattle.elf_image.specs.Images.{ImageContents, IsPlaced}
use Rattle.machine_ports.specs.Ports.{PortState, is_away, no_processor}
use Rattle.messages.specs.Network.{IsEmptyNet, empty_net}
use Rattle.omega_network.specs.Networks.{NetworkLists, net_of}
use Rattle.omega_network.specs.Networks as network
use Rattle.machine_theory.specs.network_theory.Roles.{Idle}
use Rattle.machine_theory.specs.Theory as theory
use Rattle.machine_theory.specs.serialization.Steadiness.{Steady}
use Rattle.machine_theory.proofs.Lemmas.serialization.{steady_start}
use Rattle.machine_steps.specs.Parts.{opening_port, opening_ports, opening_word, opening_module, opening_modules, places_of}
use Rattle.machine_steps.proofs.Parts.{the_opening}
use Rattle.machine_theory.specs.Processors.{ObservedCore, sizes_of, program, no_port, port_at, observed_at, open_at, word_at}
use Rattle.machine_theory.specs.Steps.{machine_of_parts}
use Rattle.machine_steps.specs.Machines.{ArePorts, AreModules, IsMachine}
use Rattle.machine_steps.specs.Openings.{IsOpening}
use Rattle.machine_steps.proofs.Flattening.{past_end}

-- ---- bytes and zeros

zeros_below : (count bound : ℕ) → 0 < bound → AreBelow bound (replicate count 0)
zeros_below zero bound some place = some
zeros_below (suc count) bound some zero = some
zeros_below (suc count) bound some (suc place) = zeros_below count bound some place

followed_below : (bytes rest : List ℕ) (bound : ℕ) → AreBelow bound bytes → AreBelow bound rest → AreBelow bound (bytes ++ rest)
followed_below [] rest bound all zeros k = zeros k
followed_below (x ∷ xs) rest bound all zeros zero = all 0
followed_below (x ∷ xs) rest bound all zeros (suc k) = followed_below xs rest bound (λ i. all (suc i)) zeros k

pub region_below : (bytes : List ℕ) → AreBelow 256 bytes → AreBelow 256 (region_of_bytes bytes)
unfolding padded
region_below bytes all = followed_below bytes (replicate (2 ^ 16 - length bytes) 0) 256 all (zeros_below (2 ^ 16 - length bytes) 256 (omega arith))

-- The number read past the last byte is 0.
none_there : (bytes : List ℕ) (place size : ℕ) → length bytes ≤ place → number_at bytes place size ≡ 0
unfolding number_at
none_there bytes place zero past = refl
none_there bytes place (suc size) past =
    let low : slice_index bytes place ≡ 0 = past_end bytes place 0 past in
    let high = none_there bytes (place + 1) size (omega arith) in
    omega arith

module _ (c : Config) (layout : Layout) (limits : IsWithinLimits c) (placed : IsPlaced layout c.shared_words) where
  -- ---- ports

  abbrev ports : List PortState
  ports = opening_ports c layout (2 ^ c.k)

  count_ports : length ports ≡ 2 ^ c.k
  count_ports = length-map-range_with_len (opening_port c layout) 0 (2 ^ c.k)

  port_is : (p : ℕ) → p < 2 ^ c.k → port_at ports p ≡ opening_port c layout p
  port_is p within = get_or-map-range_with_len (opening_port c layout) 0 (2 ^ c.k) p p no_port within (omega arith)

  port_past : (p : ℕ) → 2 ^ c.k ≤ p → port_at ports p ≡ no_port
  port_past p past = past_end ports p no_port (subst (λ n. n ≤ p) (sym count_ports) past)

  entry_small : layout.entry < 2 ^ 32
  entry_small = let e : layout.entry / 2 ^ 16 ≡ 1 = eqb-true (layout.entry / 2 ^ 16) 1 placed.entry_in_code in omega arith

  pub ports_home : (p : ℕ) → p < 2 ^ c.k → is_away (port_at ports p).core.state ≡ false
  ports_home p within = ap (λ (q : PortState). is_away q.core.state) (port_is p within)

  pub ports_are : AreBelow 256 layout.local → ArePorts c ports
  ports_are bytes = record {
    all = count_ports;
    settings = λ p within. ap (λ (q : PortState). q.core.setting) (port_is p within);
    words = λ p. at p (cases_lt p (2 ^ c.k));
    rest = λ p. rest_at p (cases_lt p (2 ^ c.k));
  }
    where
      rest_at : (p : ℕ) → (p < 2 ^ c.k) ⊎ (2 ^ c.k ≤ p) → is_away (port_at ports p).core.state ≡ true → (port_at ports p).core.state ≡ no_processor
      rest_at p (inl within) e = absurd (true≢false (sym e ∙ ports_home p within))
      rest_at p (inr past) e = ap (λ (q : PortState). q.core.state) (port_past p past)

      at : (p : ℕ) → (p < 2 ^ c.k) ⊎ (2 ^ c.k ≤ p) → HasWords (port_at ports p).core.state
      at p (inl within) = subst (λ (q : PortState). HasWords q.core.state) (sym (port_is p within))
          (record { pc = entry_small; registers = zeros_below 32 (2 ^ 32) (omega arith); local = region_below layout.local bytes })
      at p (inr past) = subst (λ (q : PortState). HasWords q.core.state) (sym (port_past p past))
          (record { pc = omega arith; registers = λ r. omega arith; local = λ r. omega arith })

  pub ports_shut : (p : ℕ) → open_at ports p ≡ false
  ports_shut p = at (cases_lt p (2 ^ c.k))
    where
      at : (p < 2 ^ c.k) ⊎ (2 ^ c.k ≤ p) → open_at ports p ≡ false
      at (inl within) = ap (λ (q : PortState). q.is_open) (port_is p within)
      at (inr past) = ap (λ (q : PortState). q.is_open) (port_past p past)

  -- ---- modules

  abbrev modules : List (List ℕ)
  modules = opening_modules c layout.shared (2 ^ c.k)

  module_is : (i : ℕ) → i < 2 ^ c.k → slice_index_or modules i [] ≡ opening_module c layout.shared (places_of c) i
  module_is i within = get_or-map-range_with_len (opening_module c layout.shared (places_of c)) 0 (2 ^ c.k) i i [] within (omega arith)

  -- Each word is that of the shared bytes, or zero.
  word_by : (i : ℕ) → (word_at c.k modules i ≡ number_at layout.shared (4 * i) 4) ⊎ (word_at c.k modules i ≡ 0)
  word_by i = at (cases_lt (i / 2 ^ c.k) (places_of c))
    where
      there : word_at c.k modules i ≡ slice_index (opening_module c layout.shared (places_of c) (i % 2 ^ c.k)) (i / 2 ^ c.k)
      there = ap (λ xs. slice_index xs (i / 2 ^ c.k)) (module_is (i % 2 ^ c.k) (mod_below i (2 ^ c.k) (pow_pos c.k)))

      at : (i / 2 ^ c.k < places_of c) ⊎ (places_of c ≤ i / 2 ^ c.k) → (word_at c.k modules i ≡ number_at layout.shared (4 * i) 4) ⊎ (word_at c.k modules i ≡ 0)
      at (inl within) =
          inl (there ∙ get_or-map-range_with_len (opening_word c layout.shared (i % 2 ^ c.k)) 0 (places_of c) (i / 2 ^ c.k) (i / 2 ^ c.k) 0 within (omega arith)
          ∙ ap (λ n. number_at layout.shared (4 * n) 4) (div-add-mod' i (2 ^ c.k)))
      at (inr past) =
          let n : length (opening_module c layout.shared (places_of c) (i % 2 ^ c.k)) ≡ places_of c =
          length-map-range_with_len (opening_word c layout.shared (i % 2 ^ c.k)) 0 (places_of c) in
          inr (there ∙ past_end (opening_module c layout.shared (places_of c) (i % 2 ^ c.k)) (i / 2 ^ c.k) 0 (subst (λ l. l ≤ i / 2 ^ c.k) (sym n) past))

  pub modules_are : AreBelow 256 layout.shared → AreModules c modules
  modules_are bytes = record {
    all = length-map-range_with_len (opening_module c layout.shared (places_of c)) 0 (2 ^ c.k);
    places = λ i within. ap length (module_is i within) ∙ length-map-range_with_len (opening_word c layout.shared i) 0 (places_of c);
    words = λ i. small i (word_by i);
    end = λ i past. none i past (word_by i);
  }
    where
      small : (i : ℕ) → (word_at c.k modules i ≡ number_at layout.shared (4 * i) 4) ⊎ (word_at c.k modules i ≡ 0) → word_at c.k modules i < 2 ^ 32
      small i (inl e) = subst (λ (n : ℕ). n < 2 ^ 32) (sym e) (number_small layout.shared (4 * i) 4 bytes)
      small i (inr e) = omega arith

      none : (i : ℕ) → c.shared_words ≤ i → (word_at c.k modules i ≡ number_at layout.shared (4 * i) 4) ⊎ (word_at c.k modules i ≡ 0) →
          word_at c.k modules i ≡ 0
      none i past (inl e) = let short = placed.shared in e ∙ none_there layout.shared (4 * i) 4 (omega arith)
      none i past (inr e) = e

  -- ---- the machine

  module _ (net : NetworkLists) (empty : IsEmptyNet (net_of net)) where
    net_is : net_of net ≡ empty_net
    net_is i = record {
      requests = fun_ext (λ d. fun_ext (λ w. (empty d w).0)) i;
      records = fun_ext (λ d. fun_ext (λ w. (empty d w).1)) i;
      replies = fun_ext (λ d. fun_ext (λ w. (empty d w).2)) i;
    }

    steady : (code : List ℕ) → Steady (sizes_of c) (program c code) (machine_of_parts c (net_of net) ports modules (λ p. [])) (λ p. Idle)
    unfolding machine_of_parts
    steady code =
        subst (λ (M : theory.Machine ObservedCore). Steady (sizes_of c) (program c code) M (λ p. Idle))
        (λ i. record { net = sym net_is i; mem = word_at c.k modules; core = observed_at ports (λ p. []); is_open = fun_ext (λ p. sym (ports_shut p)) i })
        (steady_start (sizes_of c) (program c code) (word_at c.k modules) (observed_at ports (λ p. [])))

    -- `IsMachine` holds of an empty network of this size and the opening's ports, modules and code, if the layout is of
    -- bytes.
    pub new_is_machine : (image : ImageContents) → network.sizes_of net ≡ sizes_of c → AreBelow 256 layout.code → AreBelow 256 layout.local →
        AreBelow 256 layout.shared →
        IsMachine (record { config = c; image = image; network = net; ports = ports; modules = modules; code = region_of_bytes layout.code })
    new_is_machine image sizes code local shared = record {
      limits = limits;
      sizes = sizes;
      ports = ports_are local;
      modules = modules_are shared;
      code = region_below layout.code code;
      role = λ p. Idle;
      steady = steady (region_of_bytes layout.code);
    }

    -- The machine of these parts opens on the image of the layout.
    pub new_opens : IsOpening c (record { layout = layout; shared_words = c.shared_words })
        (record {
          config = c;
          image = record { layout = layout; shared_words = c.shared_words };
          network = net;
          ports = ports;
          modules = modules;
          code = region_of_bytes layout.code;
        })
    new_opens = record {
      config = refl;
      image_is = refl;
      idle = λ p within. ports_shut p;
      home = ports_home;
      flat = λ i. record { processors = (the_opening c layout).processors i; shared = (the_opening c layout).shared i; code = region_of_bytes layout.code };
      machine = λ shown. ap (λ n. machine_of_parts c n ports modules shown) net_is;
    }
