-- The byte that a processor sees: where an address is, and what is there.
use Rattle.std.proofs.Common.{◌≡◌, ℕ, ◌+◌, ◌-◌, ◌*◌, ◌/◌, ◌%◌, ◌^◌, ◌<◌, ◌≤◌, Bool, true, false, nat_lt}
use Rattle.std.proofs.Common.{Option, Some, None, Ok, Err, refl, sym, ap, ap₂, ◌∙◌, subst, arith}
use Rattle.std.proofs.Common.{le-leb, ne_eqb, eq-eqb, lt-ltb, le-ltb, ltb-true, ltb-false}
use Rattle.std.specs.Prelude.{◌&&◌, not, slice_get, slice_index, if◌then◌else◌}
use Rattle.std.proofs.lemmas.Bool.{and_parts}
use Rattle.flat_machine.specs.declared.fault.Fault.TheVariants.{NoRegion}
use Rattle.flat_machine.specs.declared.effect.Region.TheVariants as region
use Rattle.flat_machine.specs.declared.setting.Setting.{Setting}
use Rattle.flat_machine.specs.State.{Processor, setting_of}
use Rattle.flat_machine.specs.Words.{part_of}
use Rattle.flat_machine.specs.Memory.{number_at, in_code, in_local, in_shared, region_of}
use Rattle.machine_theory.specs.Processors.{no_processor, port_at, word_at}
use Rattle.machine_theory.proofs.Lemmas.{found_within}
use Rattle.machine_steps.specs.Machines.{MachineLists, IsMachine, away_at, is_there}
use Rattle.machine_steps.specs.Openings.{flat_state}
use Rattle.machine_steps.specs.Seeing.{byte_in, byte_of, byte_seen}
use Rattle.machine_steps.proofs.Flattening.{state_at, count_is, word_is, none_past, sound}
use Rattle.machine_steps.proofs.Handling.{below}
use Rattle.machine_steps.proofs.LocalBytes.{byte_is_aligned, number_of_byte}

-- The region of an access of one byte, by its address.
byte_region : (s : Setting) (address : ℕ) → region_of s 1 address false ≡ (
    if in_shared s.shared_words address then Ok (region.Shared ((address - 2 ^ 31) / 4)) else
    if in_local address then Ok (region.Local (address % 2 ^ 16)) else
    if in_code address then Ok (region.Code (address % 2 ^ 16)) else
    Err NoRegion
    )
unfolding region_of
byte_region s address = rw (byte_is_aligned address) refl

module _ (m : MachineLists) (k : ℕ) where
  -- A processor that is there has a number below 2^k.
  pub there_within : is_there m k ≡ true → k < 2 ^ m.config.k
  there_within there = ltb-true k (2 ^ m.config.k) (and_parts (nat_lt k (2 ^ m.config.k)) (not (away_at m k)) there).0

  -- If a processor is there, testing this does not change the byte that it sees.
  pub seen_there : (address : ℕ) → is_there m k ≡ true →
      byte_seen (flat_state m) k address ≡ (if is_there m k then byte_seen (flat_state m) k address else None)
  seen_there address there = ap (λ b. if b then byte_seen (flat_state m) k address else None) (sym there)

module _ (m : MachineLists) (is : IsMachine m) (k address : ℕ) where
  pub not_there : 2 ^ m.config.k ≤ k → byte_seen (flat_state m) k address ≡ None
  not_there past = ap (byte_of (flat_state m) k address) (none_past (flat_state m).processors k (subst (λ n. n ≤ k) (sym (count_is m is)) past))

  module _ (within : k < 2 ^ m.config.k) where
    abbrev own : Processor
    own = (port_at m.ports k).core.state

    -- the byte, by the region of the address
    abbrev by_region : (shared local code : Bool) → Option ℕ
    by_region shared local code = byte_in (flat_state m) own address (
        if shared then Ok (region.Shared ((address - 2 ^ 31) / 4)) else
        if local then Ok (region.Local (address % 2 ^ 16)) else
        if code then Ok (region.Code (address % 2 ^ 16)) else
        Err NoRegion
        )

    there : byte_seen (flat_state m) k address ≡ by_region (in_shared m.config.shared_words address) (in_local address) (in_code address)
    there =
        let found : slice_get (flat_state m).processors k ≡ Some own =
        found_within (flat_state m).processors k no_processor (subst (λ n. k < n) (sym (count_is m is)) within) ∙ ap Some (state_at m is k) in
        ap (byte_of (flat_state m) k address) found ∙ ap (byte_in (flat_state m) own address) (byte_region (setting_of (flat_state m) k) address)
        ∙ ap (λ words. by_region (in_shared words address) (in_local address) (in_code address)) (sound m is).size.shared

    shared_by : (b : Bool) → by_region b false false
        ≡ (if b then Some (part_of 1 (address % 4) (word_at m.config.k m.modules ((address - 2 ^ 31) / 4))) else None)
    shared_by true = ap (λ w. Some (part_of 1 (address % 4) w)) (word_is m is ((address - 2 ^ 31) / 4))
    shared_by false = refl

    local_by : (b : Bool) → by_region false b false ≡ (if b then Some (slice_index own.local (address % 2 ^ 16)) else None)
    local_by true = ap (λ n. Some n) (number_of_byte own.local (address % 2 ^ 16))
    local_by false = refl

    -- From 2^31 on, the byte is of a shared word.
    pub in_words : 2 ^ 31 ≤ address →
        byte_seen (flat_state m) k address ≡ (if in_shared m.config.shared_words address
        then Some (part_of 1 (address % 4) (word_at m.config.k m.modules ((address - 2 ^ 31) / 4))) else None)
    in_words start =
        there
        ∙ ap₂ (λ l c. by_region (in_shared m.config.shared_words address) l c) (ne_eqb (address / 2 ^ 16) 2 (λ e. absurd (omega (arith, start, e))))
        (ne_eqb (address / 2 ^ 16) 1 (λ e. absurd (omega (arith, start, e))))
        ∙ shared_by (in_shared m.config.shared_words address)

    -- In code, the byte is of code.
    pub in_program : address < 2 ^ 31 → address / 2 ^ 16 ≡ 1 → byte_seen (flat_state m) k address ≡ Some (number_at m.code (address % 2 ^ 16) 1)
    in_program less e =
        there
        ∙ ap (λ s. by_region s (in_local address) (in_code address)) (below address m.config.shared_words less)
        ∙ ap₂ (λ l c. by_region false l c) (ne_eqb (address / 2 ^ 16) 2 (λ f. absurd (omega (arith, e, f)))) (eq-eqb (address / 2 ^ 16) 1 e)

    -- Elsewhere below 2^31, the byte is of the processor's own local memory.
    pub in_own : address < 2 ^ 31 → (address / 2 ^ 16 ≡ 1 → ⊥) → is_there m k ≡ true →
        byte_seen (flat_state m) k address ≡ (if is_there m k && in_local address then Some (slice_index own.local (address % 2 ^ 16)) else None)
    in_own less other here =
        there
        ∙ ap (λ s. by_region s (in_local address) (in_code address)) (below address m.config.shared_words less)
        ∙ ap (λ c. by_region false (in_local address) c) (ne_eqb (address / 2 ^ 16) 1 other)
        ∙ local_by (in_local address)
        ∙ ap (λ b. if b && in_local address then Some (slice_index own.local (address % 2 ^ 16)) else None) (sym here)

-- The test whether a shared word of this number is there is that of its address.
pub word_there : (address words : ℕ) → 2 ^ 31 ≤ address → nat_lt ((address - 2 ^ 31) / 4) words ≡ in_shared words address
word_there address words start = by (nat_lt ((address - 2 ^ 31) / 4) words) refl
  where
    by : (b : Bool) → nat_lt ((address - 2 ^ 31) / 4) words ≡ b → b ≡ in_shared words address
    by true e =
        let less = ltb-true ((address - 2 ^ 31) / 4) words e in
        sym (ap₂ (λ a b. a && b) (le-leb (2 ^ 31) address start) (lt-ltb address (2 ^ 31 + 4 * words) (omega (arith, start, less))))
    by false e =
        let past = ltb-false ((address - 2 ^ 31) / 4) words e in
        sym (ap₂ (λ a b. a && b) (le-leb (2 ^ 31) address start) (le-ltb address (2 ^ 31 + 4 * words) (omega (arith, start, past))))
