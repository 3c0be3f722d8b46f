-- Processors keep their words in range, so the functions of their references are in range.
use Rattle.std.proofs.Common.{◌≡◌, ℕ, ◌-◌, ◌/◌, ◌%◌, ◌^◌, ◌<◌, ◌≤◌, Bool, true, false, eqb, List, ◌⊎◌, inl, inr, refl, sym, ap, ◌∙◌, subst, arith}
use Rattle.std.specs.Prelude.{◌&&◌, nat_lt, slice_set, if◌then◌else◌}
use Rattle.std.proofs.Math.Nat.{pow-le-pow_right}
use Rattle.std.proofs.lemmas.Bool.{cases_eq, ltb-true, and_parts}
use Rattle.machine_ports.specs.flat_machine.declared.config.Config.{Config}
use Rattle.machine_ports.specs.flat_machine.declared.poke.Poke.{Poke}
use Rattle.machine_ports.specs.flat_machine.declared.poke.Poke.TheVariants as poke
use Rattle.machine_ports.specs.flat_machine.State.{Processor, is_running}
use Rattle.machine_ports.specs.flat_machine.Turns.{Turn, Retires, Reaches, Stops}
use Rattle.machine_ports.specs.flat_machine.Flat.{is_lawful_register, with_poked_register, with_poked_byte}
use Rattle.machine_ports.specs.flat_machine.Memory.{in_local}
use Rattle.machine_ports.specs.flat_machine.Laws.{AreBelow, HasWords, LeavesWords}
use Rattle.machine_ports.proofs.Lemmas.flat_machine.{byte_words, register_words, turn_words, with_part_small}
use Rattle.serialization.specs.phi_algebra.Functions.{IsInRange}
use Rattle.machine_ports.specs.hart.Deciding.{after_reply}
use Rattle.machine_ports.specs.Ports.{reference_phi}
use Rattle.machine_ports.proofs.Lemmas.{reference_means}
use Rattle.serialization.specs.messages.Places.{put}
use Rattle.serialization.proofs.Lemmas.messages.{put_other, put_same}
use Rattle.serialization.specs.Program.{Keeps, Alone, Refers}
use Rattle.machine_theory.specs.Processors.{ObservedCore, setting_of, kind_of, alone_by, retired_by, changed}
use Rattle.machine_theory.specs.Processors.{poked_processors, poked_words, is_lawful_poke, next, program}
use Rattle.machine_theory.proofs.FlatPokes.{may_is_lawful}
use Rattle.machine_theory.proofs.TurnKinds.{reaches_of, runs_by}
use Rattle.machine_theory.specs.Flatness.{IsGood}
use Rattle.machine_theory.proofs.Flat.{MeansChange}

module _ (c : Config) (code : List ℕ) (few : c.k ≤ 6) (bytes : AreBelow 256 code) where
  count_small : 2 ^ c.k < 2 ^ 32
  count_small = let most : 2 ^ c.k ≤ 2 ^ 6 = pow-le-pow_right {n = 2} (omega arith) few in omega (arith, most)

  number_small : (p : ℕ) (g : ObservedCore) → IsGood p g → is_running g.state.status ≡ true → p < 2 ^ 8
  number_small p g h runs = by_reason h.1
    where
      by_reason : (p < 2 ^ 8) ⊎ (is_running g.state.status ≡ false) → p < 2 ^ 8
      by_reason (inl small) = small
      by_reason (inr rests) = let c : true ≡ false = sym runs ∙ rests in absurd (cc)

  turn_leaves : (p : ℕ) (g : ObservedCore) → IsGood p g → is_running g.state.status ≡ true → LeavesWords (next c code p g.state)
  turn_leaves p g h runs = let small = number_small p g h runs in turn_words (setting_of c p) code g.state (omega arith) count_small bytes h.0

  -- If a processor's words are in range, its reference's function does to a word what its turn does.
  pub means_change : (p : ℕ) (state : Processor) → HasWords state → MeansChange c code p state
  means_change p state h = record { change = λ word change after e. let m = reference_means (setting_of c p) code state word change after h e in (m.2, m.1) }

  phi_kept : (p : ℕ) (g : ObservedCore) → IsGood p g → kind_of (is_running g.state.status) (next c code p g.state) ≡ Refers →
      IsInRange (reference_phi (setting_of c p) code g.state)
  phi_kept p g h e =
      let runs = runs_by (is_running g.state.status) (next c code p g.state) Refers e (λ no. cc) in
      let r = reaches_of (next c code p g.state) runs.1 in
      (reference_means (setting_of c p) code g.state r.word r.change r.after h.0 r.is).0

  alone_kept : (p : ℕ) (g : ObservedCore) → IsGood p g → kind_of (is_running g.state.status) (next c code p g.state) ≡ Alone →
      IsGood p (alone_by g (next c code p g.state))
  alone_kept p g h e =
      let runs = runs_by (is_running g.state.status) (next c code p g.state) Alone e (λ no. cc) in
      by_turn (next c code p g.state) (turn_leaves p g h runs.0)
    where
      by_turn : (t : Turn) → LeavesWords t → IsGood p (alone_by g t)
      by_turn (Retires after retired) leaves =
          (leaves, inl (number_small p g h (runs_by (is_running g.state.status) (next c code p g.state) Alone e (λ no. cc)).0))
      by_turn (Stops cause) leaves = (
        record { pc = h.0.pc; registers = h.0.registers; local = h.0.local },
        inl (number_small p g h (runs_by (is_running g.state.status) (next c code p g.state) Alone e (λ no. cc)).0),
      )
      by_turn (Reaches word change after) leaves = h

  retire_kept : (p : ℕ) (g : ObservedCore) (v : ℕ) → IsGood p g → kind_of (is_running g.state.status) (next c code p g.state) ≡ Refers → v < 2 ^ 32 →
      IsGood p (retired_by g (after_reply (next c code p g.state) v))
  retire_kept p g v h e small =
      let runs = runs_by (is_running g.state.status) (next c code p g.state) Refers e (λ no. cc) in
      by_turn (next c code p g.state) (turn_leaves p g h runs.0)
    where
      by_turn : (t : Turn) → LeavesWords t → IsGood p (retired_by g (after_reply t v))
      by_turn (Reaches word change after) leaves =
          ((leaves v small).1, inl (number_small p g h (runs_by (is_running g.state.status) (next c code p g.state) Refers e (λ no. cc)).0))
      by_turn (Retires after retired) leaves = h
      by_turn (Stops cause) leaves = h

  -- ---- pokes

  changed_kept : (j : ℕ) (change : Processor → Processor) (core : ℕ → ObservedCore) → ((s : Processor) → HasWords s → HasWords (change s)) →
      ((s : Processor) → is_running (change s).status ≡ is_running s.status) →
      ((p : ℕ) → IsGood p (core p)) → (p : ℕ) → IsGood p (put core j (changed change (core j)) p)
  changed_kept j change core words status h p = at (cases_eq p j)
    where
      still : (p < 2 ^ 8) ⊎ (is_running (core p).state.status ≡ false) → (p < 2 ^ 8) ⊎ (is_running (change (core p).state).status ≡ false)
      still (inl small) = inl small
      still (inr rests) = inr (status (core p).state ∙ rests)

      good : IsGood p (changed change (core p))
      good = (words (core p).state (h p).0, still (h p).1)

      at : (p ≡ j) ⊎ (p ≡ j → ⊥) → IsGood p (put core j (changed change (core j)) p)
      at (inl same) = subst (λ (g : ObservedCore). IsGood p g)
          (ap (λ i. changed change (core i)) same ∙ sym (put_same core j (changed change (core j))) ∙ ap (put core j (changed change (core j))) (sym same))
          good
      at (inr other) = subst (λ (g : ObservedCore). IsGood p g) (sym (put_other core j (changed change (core j)) p other)) (h p)

  register_status : (register value : ℕ) (s : Processor) → is_running (with_poked_register register value s).status ≡ is_running s.status
  register_status register value s = at (eqb register 32)
    where
      at : (b : Bool) → is_running (if b then record s { pc = value } else record s { registers = slice_set s.registers register value }).status
          ≡ is_running s.status
      at true = refl
      at false = refl

  poked_core_kept : (q : Poke) (core : ℕ → ObservedCore) → is_lawful_poke c q ≡ true → ((p : ℕ) → IsGood p (core p)) → (p : ℕ) →
      IsGood p (poked_processors q core p)
  poked_core_kept (poke.Register j register value) core lawful h =
      let small : value < 2 ^ 32 =
      ltb-true value (2 ^ 32) (and_parts (nat_lt value (2 ^ 32)) (nat_lt j (2 ^ c.k) && is_lawful_register register value) lawful).0 in
      changed_kept j (with_poked_register register value) core (λ s words. register_words register value s small words) (register_status register value) h
  poked_core_kept (poke.Local j address value) core lawful h =
      let small : value < 256 = ltb-true value 256 (and_parts (nat_lt value 256) (nat_lt j (2 ^ c.k) && in_local address) lawful).0 in
      changed_kept j (with_poked_byte address value) core (λ s words. byte_words address value s small words) (λ s. refl) h
  poked_core_kept (poke.Shared address value) core lawful h = h

  poked_mem_kept : (q : Poke) (mem : ℕ → ℕ) → is_lawful_poke c q ≡ true → ((a : ℕ) → mem a < 2 ^ 32) → (a : ℕ) → poked_words q mem a < 2 ^ 32
  poked_mem_kept (poke.Register j register value) mem lawful h a = h a
  poked_mem_kept (poke.Local j address value) mem lawful h a = h a
  poked_mem_kept (poke.Shared address value) mem lawful h a = at (cases_eq a ((address - 2 ^ 31) / 4))
    where
      at : (a ≡ (address - 2 ^ 31) / 4) ⊎ (a ≡ (address - 2 ^ 31) / 4 → ⊥) → poked_words (poke.Shared address value) mem a < 2 ^ 32
      at (inl same) = subst (λ v. v < 2 ^ 32) (sym (ap (poked_words (poke.Shared address value) mem) same ∙ put_same mem ((address - 2 ^ 31) / 4) _))
          (with_part_small 1 (address % 4) (mem ((address - 2 ^ 31) / 4)) value (omega arith) (h ((address - 2 ^ 31) / 4)))
      at (inr other) = subst (λ v. v < 2 ^ 32) (sym (put_other mem ((address - 2 ^ 31) / 4) _ a other)) (h a)

  -- The program of the machine keeps good cores good, and words below 2^32.
  pub keeps : Keeps (program c code) IsGood
  keeps = record {
    phi = phi_kept;
    alone = alone_kept;
    retire = retire_kept;
    poked_core = λ q core may. poked_core_kept q core (may_is_lawful c core q may);
    poked_mem = λ q core mem may. poked_mem_kept q mem (may_is_lawful c core q may);
  }
