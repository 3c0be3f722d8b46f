-- A lawful poke writes the same on the machine and on the flat machine.
use Rattle.std.proofs.Common.{◌≡◌, ℕ, ◌+◌, ◌-◌, ◌*◌, ◌/◌, ◌%◌, ◌^◌, ◌<◌, ◌≤◌, true, List, length, length-set, Option, Some, None, sym, ap, ◌∙◌, subst, arith}
use Rattle.std.specs.Prelude.{slice_get, slice_index, slice_index_or, ◌&&◌, nat_lt, nat_le}
use Rattle.std.proofs.lemmas.Bool.{ltb-true, leb-true, and_parts}
use Rattle.machine_ports.specs.flat_machine.declared.config.Config.{Config}
use Rattle.machine_ports.specs.flat_machine.declared.event.Event.{Event}
use Rattle.machine_ports.specs.flat_machine.declared.poke.Poke.{Poke}
use Rattle.machine_ports.specs.flat_machine.declared.poke.Poke.TheVariants as poke
use Rattle.machine_ports.specs.flat_machine.declared.poke.Entry.TheVariants as entry
use Rattle.machine_ports.specs.flat_machine.State.{Processor, FlatState}
use Rattle.machine_ports.specs.flat_machine.Flat.{written, is_lawful, is_lawful_register, with_processor, with_poked_register, with_poked_byte}
use Rattle.machine_ports.specs.flat_machine.Memory.{in_local, in_shared}
use Rattle.machine_ports.specs.flat_machine.Laws.{WritesWords}
use Rattle.machine_ports.specs.flat_machine.Words.{with_part}
use Rattle.serialization.specs.messages.Places.{put}
use Rattle.machine_theory.specs.Processors.{ObservedCore, no_processor, are_home, changed, may_poke, poked_processors, poked_words, is_lawful_poke}
use Rattle.machine_theory.specs.FlatSizes.{HasSize}
use Rattle.machine_theory.proofs.Reading.{read_set, found_within, observed_changed}

-- the processors of a flat machine, which have shown these events
abbrev pub cores_of : FlatState → (shown : ℕ → List Event) → ℕ → ObservedCore
cores_of F shown = λ p. record { state = slice_index_or F.processors p no_processor; events = shown p }

-- the words and the processors of a flat machine
abbrev pub parts_of : FlatState → (shown : ℕ → List Event) → (ℕ → ℕ) × (ℕ → ObservedCore)
parts_of F shown = (slice_index F.shared, cores_of F shown)

-- A poke that may be done is lawful.
pub may_is_lawful : (c : Config) (core : ℕ → ObservedCore) (q : Poke) → may_poke c core q ≡ true → is_lawful_poke c q ≡ true
may_is_lawful c core q h = (and_parts (are_home (2 ^ c.k) (λ p. (core p).state)) (is_lawful_poke c q) h).1

module _ (c : Config) (code : List ℕ) where
  -- ---- what is written

  -- A change of one processor on the machine is the same change on the flat machine.
  processor_changed : (F : FlatState) (shown : ℕ → List Event) (j : ℕ) (change : Processor → Processor) → j < length F.processors →
      (slice_index F.shared, put {X = ObservedCore} (cores_of F shown) j (changed change (cores_of F shown j)))
      ≡ parts_of (with_processor F j change (slice_get F.processors j)) shown
  processor_changed F shown j change within =
      ap (λ (f : ℕ → ObservedCore). (slice_index F.shared, f))
      (sym (observed_changed F.processors j (change (slice_index_or F.processors j no_processor)) shown within))
      ∙ ap (λ o. parts_of (with_processor F j change o) shown) (sym (found_within F.processors j no_processor within))

  -- A poke that is lawful for the machine's size is lawful for a flat machine of that size.
  pub lawful_same : (F : FlatState) (q : Poke) → HasSize c code F → is_lawful_poke c q ≡ true → is_lawful F q ≡ true
  lawful_same F (poke.Register j register value) size h = ap (λ n. nat_lt j n && is_lawful_register register value) size.processors
      ∙ (and_parts (nat_lt value (2 ^ 32)) (nat_lt j (2 ^ c.k) && is_lawful_register register value) h).1
  lawful_same F (poke.Local j address value) size h =
      ap (λ n. nat_lt j n && in_local address) size.processors ∙ (and_parts (nat_lt value 256) (nat_lt j (2 ^ c.k) && in_local address) h).1
  lawful_same F (poke.Shared address value) size h =
      ap (λ n. in_shared n address) size.shared ∙ (and_parts (nat_lt value 256) (in_shared c.shared_words address) h).1

  -- A lawful poke writes a word or a byte in range.
  pub lawful_writes : (q : Poke) → is_lawful_poke c q ≡ true → WritesWords (entry.Poke q)
  lawful_writes (poke.Register j register value) h =
      ltb-true value (2 ^ 32) (and_parts (nat_lt value (2 ^ 32)) (nat_lt j (2 ^ c.k) && is_lawful_register register value) h).0
  lawful_writes (poke.Local j address value) h = ltb-true value 256 (and_parts (nat_lt value 256) (nat_lt j (2 ^ c.k) && in_local address) h).0
  lawful_writes (poke.Shared address value) h = ltb-true value 256 (and_parts (nat_lt value 256) (in_shared c.shared_words address) h).0

  -- A lawful poke does to the words and cores what it does to a flat machine of that size.
  pub written_agrees : (F : FlatState) (shown : ℕ → List Event) (q : Poke) → HasSize c code F → is_lawful_poke c q ≡ true →
      (poked_words q (slice_index F.shared), poked_processors q (cores_of F shown)) ≡ parts_of (written F q) shown
  written_agrees F shown (poke.Register j register value) size h =
      let a = and_parts (nat_lt j (2 ^ c.k)) (is_lawful_register register value)
      (and_parts (nat_lt value (2 ^ 32)) (nat_lt j (2 ^ c.k) && is_lawful_register register value) h).1 in
      processor_changed F shown j (with_poked_register register value) (subst (λ n. j < n) (sym size.processors) (ltb-true j (2 ^ c.k) a.0))
  written_agrees F shown (poke.Local j address value) size h =
      let a = and_parts (nat_lt j (2 ^ c.k)) (in_local address) (and_parts (nat_lt value 256) (nat_lt j (2 ^ c.k) && in_local address) h).1 in
      processor_changed F shown j (with_poked_byte address value) (subst (λ n. j < n) (sym size.processors) (ltb-true j (2 ^ c.k) a.0))
  written_agrees F shown (poke.Shared address value) size h =
      let a = and_parts (nat_le (2 ^ 31) address) (nat_lt address (2 ^ 31 + 4 * c.shared_words))
      (and_parts (nat_lt value 256) (in_shared c.shared_words address) h).1 in
      let low : 2 ^ 31 ≤ address = leb-true (2 ^ 31) address a.0 in
      let high : address < 2 ^ 31 + 4 * c.shared_words = ltb-true address (2 ^ 31 + 4 * c.shared_words) a.1 in
      let there : (address - 2 ^ 31) / 4 < length F.shared = subst (λ n. (address - 2 ^ 31) / 4 < n) (sym size.shared) (omega arith) in
      ap (λ (f : ℕ → ℕ). (f, cores_of F shown)) (sym
      (read_set F.shared ((address - 2 ^ 31) / 4) (with_part 1 (address % 4) (slice_index F.shared ((address - 2 ^ 31) / 4)) value) 0 there))

  -- ---- sizes

  size_changed : (F : FlatState) (j : ℕ) (change : Processor → Processor) (o : Option Processor) → HasSize c code F →
      HasSize c code (with_processor F j change o)
  size_changed F j change None size = size
  size_changed F j change (Some p) size =
      record { processors = length-set F.processors j (change p) ∙ size.processors; shared = size.shared; code_is = size.code_is }

  -- A flat machine has the same size after a write.
  pub size_written : (F : FlatState) (q : Poke) → HasSize c code F → HasSize c code (written F q)
  size_written F (poke.Register j register value) size = size_changed F j (with_poked_register register value) (slice_get F.processors j) size
  size_written F (poke.Local j address value) size = size_changed F j (with_poked_byte address value) (slice_get F.processors j) size
  size_written F (poke.Shared address value) size = record {
    processors = size.processors;
    shared = length-set F.shared ((address - 2 ^ 31) / 4) (with_part 1 (address % 4) (slice_index F.shared ((address - 2 ^ 31) / 4)) value) ∙ size.shared;
    code_is = size.code_is;
  }
