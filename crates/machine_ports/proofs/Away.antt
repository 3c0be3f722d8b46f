-- A core that is away refers to no word. Turns and writes from outside leave each core where it is.
use Rattle.std.proofs.Common.{◌≡◌, ℕ, ◌%◌, Bool, true, false, cond, eqb, List, length, Result, Ok, Err, refl, ap, subst, length-set}
use Rattle.std.specs.Prelude.{◌==◌, slice_set, if◌then◌else◌}
use Rattle.rv_table.specs.declared.insn.Insn.{Insn}
use Rattle.flat_machine.specs.declared.effect.Effect.{Effect}
use Rattle.flat_machine.specs.declared.effect.Effect.TheVariants as does
use Rattle.flat_machine.specs.declared.effect.Region.{Region}
use Rattle.flat_machine.specs.declared.effect.Region.TheVariants as region
use Rattle.flat_machine.specs.declared.event.Cause.TheVariants as cause
use Rattle.flat_machine.specs.declared.event.Retired.{Retired}
use Rattle.flat_machine.specs.declared.fault.Fault.{Fault}
use Rattle.flat_machine.specs.declared.fault.Fault.TheVariants.{TargetNotAligned}
use Rattle.flat_machine.specs.declared.setting.Setting.{Setting}
use Rattle.flat_machine.specs.Effects.{effect_of, with_register}
use Rattle.flat_machine.specs.Flat.{with_poked_register}
use Rattle.flat_machine.specs.Memory.{region_of}
use Rattle.flat_machine.specs.Operations.{amo_value, load_size, loaded, store_size}
use Rattle.flat_machine.specs.State.{Processor}
use Rattle.flat_machine.specs.Turns.{Turn, Retires, Reaches, Stops, accessed, fetched, gone_to, next_pc, performed, retired_writing, turn_by, turn_of}
use Rattle.hart.specs.Deciding.{IsReference}
use Rattle.machine_ports.specs.Ports.{is_away, no_processor}

-- The stand-in for a core that is away refers to no word.
pub no_reference : (s : Setting) (code : List ℕ) → IsReference (turn_of s code no_processor) → ⊥
unfolding fetched
no_reference s code r = r

-- ---- turns

-- The turn leaves the core where it was, at home or away.
Stays : Processor → Turn → Type 0
Stays p (Retires after retired) = is_away after ≡ is_away p
Stays p (Reaches word change after) = (found : ℕ) → is_away (after found).0 ≡ is_away p
Stays p (Stops cause) = Unit {0}

gone_stays : (target rd value : ℕ) (p : Processor) → is_away (gone_to target rd value p) ≡ is_away p
unfolding with_register
gone_stays target rd value p = by (eqb rd 0)
  where
    by : (b : Bool) → (length (cond b p.registers (slice_set p.registers rd value)) == 0) ≡ (length p.registers == 0)
    by true = refl
    by false = ap (λ n. n == 0) (length-set p.registers rd value)

module _ (s : Setting) (code : List ℕ) (p : Processor) (i : Insn) where
  accessed_stays : (size address rd : ℕ) (value change : ℕ → ℕ) (writes : Bool) (r : Result Region Fault) →
      Stays p (accessed code p i size address rd value change writes r)
  unfolding Stays
  accessed_stays size address rd value change writes (Ok (region.Shared word)) = λ found. gone_stays (next_pc p) rd _ p
  accessed_stays size address rd value change writes (Ok (region.Local place)) = gone_stays (next_pc p) rd _ p
  accessed_stays size address rd value change writes (Ok (region.Code place)) = gone_stays (next_pc p) rd _ p
  accessed_stays size address rd value change writes (Err fault) = tt

  jump_stays : (rd value target : ℕ) (b : Bool) →
      Stays p (cond b (Retires (gone_to target rd value p) (retired_writing p.pc i rd value)) (Stops (cause.Fault TargetNotAligned)))
  unfolding Stays
  jump_stays rd value target true = gone_stays target rd value p
  jump_stays rd value target false = tt

  performed_stays : (e : Effect) → Stays p (performed s code p i e)
  unfolding Stays
  performed_stays (does.Write rd value) = gone_stays (next_pc p) rd value p
  performed_stays (does.Jump rd value target) = jump_stays rd value target (eqb (target % 4) 0)
  performed_stays does.Pass = gone_stays (next_pc p) 0 0 p
  performed_stays (does.Load op rd address) =
      accessed_stays (load_size op) address rd (loaded op) (λ old. old) false (region_of s (load_size op) address false)
  performed_stays (does.Store op address value) =
      accessed_stays (store_size op) address 0 (λ old. 0) (λ old. value) true (region_of s (store_size op) address true)
  performed_stays (does.Amo op rd address value) =
      accessed_stays 4 address rd (λ old. old) (λ old. amo_value op old value) true (region_of s 4 address true)
  performed_stays (does.Print byte) = gone_stays (next_pc p) 0 0 p
  performed_stays (does.Halt byte) = tt
  performed_stays (does.Fail fault) = tt

turn_stays : (s : Setting) (code : List ℕ) (p : Processor) (r : Result Insn Fault) → Stays p (turn_by s code p r)
unfolding Stays
turn_stays s code p (Ok i) = performed_stays s code p i (effect_of s p.pc p.registers i)
turn_stays s code p (Err fault) = tt

module _ (s : Setting) (code : List ℕ) (p : Processor) where
  stays : (t : Turn) → turn_of s code p ≡ t → Stays p t
  stays t is = subst (Stays p) is (turn_stays s code p (fetched code p.pc))

  -- A turn that retires leaves the core where it was, at home or away.
  pub retires_stays : (after : Processor) (retired : Retired) → turn_of s code p ≡ Retires after retired → is_away after ≡ is_away p
  unfolding Stays
  retires_stays after retired is = stays (Retires after retired) is

  -- A turn that reaches a shared word leaves the core where it was, at home or away, for any word found there.
  pub reaches_stays : (word : ℕ) (change : ℕ → ℕ) (after : ℕ → Processor × Retired) (found : ℕ) → turn_of s code p ≡ Reaches word change after →
      is_away (after found).0 ≡ is_away p
  unfolding Stays
  reaches_stays word change after found is = stays (Reaches word change after) is found

-- ---- writes from outside

-- A poke of a register or pc leaves the core where it was, at home or away.
pub register_stays : (register value : ℕ) (p : Processor) → is_away (with_poked_register register value p) ≡ is_away p
register_stays register value p = by (eqb register 32)
  where
    by : (b : Bool) → is_away (cond b (record p { pc = value }) (record p { registers = slice_set p.registers register value })) ≡ is_away p
    by true = refl
    by false = ap (λ n. n == 0) (length-set p.registers register value)
