-- Facts of processors that every run keeps.
use Rattle.std.proofs.Common.{◌≡◌, ◌≢◌, ℕ, ◌+◌, ◌%◌, ◌^◌, Bool, true, false, cond, eqb, zero}
use Rattle.std.proofs.Common.{suc, ◌<◌, ◌≤◌, List, [], ◌∷◌, Option, Some, None, Result, Ok}
use Rattle.std.proofs.Common.{Err, length, refl, sym, ap, subst, ◌∙◌, arith, rules}
use Rattle.std.specs.Prelude.{All, slice_get, slice_set, slice_index, nat_le, nat_lt, ◌&&◌, ◌||◌}
use Rattle.std.proofs.lemmas.List.Elements.{All-set}
use Rattle.std.proofs.lemmas.List.{get_or-set_other}
use Rattle.std.proofs.lemmas.Bool.{and_parts, eqb-false, eqb-true, le-ltb, leb-true}
use Rattle.std.proofs.lemmas.Option.{get_or_from_slice_get, slice_get_within}
use Rattle.rv_table.specs.declared.insn.Insn.{Insn}
use Rattle.flat_machine.specs.declared.fault.Fault.{Fault}
use Rattle.flat_machine.specs.declared.effect.Region.{Region}
use Rattle.flat_machine.specs.declared.effect.Region.TheVariants as region
use Rattle.flat_machine.specs.declared.effect.Effect.{Effect}
use Rattle.flat_machine.specs.declared.effect.Effect.TheVariants as does
use Rattle.flat_machine.specs.declared.event.Status.{Status}
use Rattle.flat_machine.specs.declared.event.Cause.TheVariants as cause
use Rattle.flat_machine.specs.declared.fault.Fault.TheVariants.{TargetNotAligned}
use Rattle.flat_machine.specs.declared.poke.Poke.{Poke}
use Rattle.flat_machine.specs.declared.poke.Poke.TheVariants as poke
use Rattle.flat_machine.specs.declared.poke.Entry.{Entry}
use Rattle.flat_machine.specs.declared.poke.Entry.TheVariants as entry
use Rattle.flat_machine.specs.declared.setting.Setting.{Setting}
use Rattle.flat_machine.specs.State.{FlatState, Processor, is_running, status_of, setting_of}
use Rattle.flat_machine.specs.Words.{plus}
use Rattle.flat_machine.specs.Operations.{load_size, loaded, store_size, amo_value}
use Rattle.flat_machine.specs.Memory.{region_of}
use Rattle.flat_machine.specs.Effects.{effect_of, with_register}
use Rattle.flat_machine.specs.Turns.{Turn, Retires, Reaches, Stops, turn_of, turn_by, performed, accessed, fetched, gone_to, next_pc, retired_writing}
use Rattle.flat_machine.specs.Flat.{taken, with_taken, step_of, turned, flat_step, flat_run, poked, written}
use Rattle.flat_machine.specs.Flat.{is_lawful, is_lawful_register, with_poked_register, with_poked_byte}
use Rattle.flat_machine.specs.Flat.{with_processor}
use Rattle.flat_machine.specs.Laws.{HasZero, HasAlignedPc}

-- What holds of all elements of a list holds of the one at a place.
pub all_get : {X : Type 0} (P : X → Type 0) (xs : List X) (k : ℕ) (x : X) → All P xs → slice_get xs k ≡ Some x → P x
all_get P xs k x all e =
    let inside : k < length xs = slice_get_within xs k x e in
    subst P (get_or_from_slice_get xs k x x e) (all k x inside)

-- A fact of a processor is kept by going on, by jumping to an aligned target, by storing, by stopping and by lawful
-- pokes.
pub record IsKept (P : Processor → Type 0) : Type 0 where
  -- The fact is kept if the processor writes a register and goes on to the next instruction.
  pub next : (p : Processor) (rd value : ℕ) → P p → P (gone_to (next_pc p) rd value p)
  pub jump : (p : Processor) (target rd value : ℕ) → P p → target % 4 ≡ 0 → P (gone_to target rd value p)
  pub store : (p : Processor) (bytes : List ℕ) → P p → P (record p { local = bytes })
  pub stop : (p : Processor) (status : Status) → P p → P (record p { status = status })
  -- The fact is kept if a lawful poke writes a register or pc.
  pub register : (p : Processor) (r v : ℕ) → P p → is_lawful_register r v ≡ true → P (with_poked_register r v p)

module _ (P : Processor → Type 0) (kept : IsKept P) where
  -- What a turn leaves has the fact.
  Leaves : Turn → Type 0
  Leaves (Retires after retired) = P after
  Leaves (Reaches word change after) = (x : ℕ) → P (after x).0
  Leaves (Stops cause) = Unit {0}

  accessed_leaves : (code : List ℕ) (p : Processor) (i : Insn) (size address rd : ℕ) (value change : ℕ → ℕ) (writes : Bool) (r : Result Region Fault) → P p →
      Leaves (accessed code p i size address rd value change writes r)
  unfolding Leaves
  accessed_leaves code p i size address rd value change writes (Ok (region.Shared word)) h = λ x. kept.next p rd _ h
  accessed_leaves code p i size address rd value change writes (Ok (region.Local place)) h = kept.store (gone_to (next_pc p) rd _ p) _ (kept.next p rd _ h)
  accessed_leaves code p i size address rd value change writes (Ok (region.Code place)) h = kept.next p rd _ h
  accessed_leaves code p i size address rd value change writes (Err fault) h = tt

  jump_leaves : (p : Processor) (i : Insn) (rd value target : ℕ) (b : Bool) → eqb (target % 4) 0 ≡ b → P p →
      Leaves (cond b (Retires (gone_to target rd value p) (retired_writing p.pc i rd value)) (Stops (cause.Fault TargetNotAligned)))
  unfolding Leaves
  jump_leaves p i rd value target true e h = kept.jump p target rd value h (eqb-true _ _ e)
  jump_leaves p i rd value target false e h = tt

  performed_leaves : (s : Setting) (code : List ℕ) (p : Processor) (i : Insn) (e : Effect) → P p → Leaves (performed s code p i e)
  unfolding Leaves
  performed_leaves s code p i (does.Write rd value) h = kept.next p rd value h
  performed_leaves s code p i (does.Jump rd value target) h = jump_leaves p i rd value target (eqb (target % 4) 0) refl h
  performed_leaves s code p i does.Pass h = kept.next p 0 0 h
  performed_leaves s code p i (does.Load op rd address) h =
      accessed_leaves code p i (load_size op) address rd (loaded op) (λ old. old) false (region_of s (load_size op) address false) h
  performed_leaves s code p i (does.Store op address value) h =
      accessed_leaves code p i (store_size op) address 0 (λ old. 0) (λ old. value) true (region_of s (store_size op) address true) h
  performed_leaves s code p i (does.Amo op rd address value) h =
      accessed_leaves code p i 4 address rd (λ old. old) (λ old. amo_value op old value) true (region_of s 4 address true) h
  performed_leaves s code p i (does.Print byte) h = kept.next p 0 0 h
  performed_leaves s code p i (does.Halt byte) h = tt
  performed_leaves s code p i (does.Fail fault) h = tt

  turn_leaves : (s : Setting) (code : List ℕ) (p : Processor) (r : Result Insn Fault) → P p → Leaves (turn_by s code p r)
  unfolding Leaves
  turn_leaves s code p (Ok i) h = performed_leaves s code p i (effect_of s p.pc p.registers i) h
  turn_leaves s code p (Err fault) h = tt

  taken_leaves : (p : Processor) (shared : List ℕ) (t : Turn) → P p → Leaves t → P (taken p shared t).0
  unfolding Leaves
  taken_leaves p shared (Retires after retired) h l = l
  taken_leaves p shared (Reaches word change after) h l = l (slice_index shared word)
  taken_leaves p shared (Stops cause) h l = kept.stop p (status_of cause) h

  turned_keeps : (m : FlatState) (k : ℕ) (p : Option Processor) → slice_get m.processors k ≡ p → All P m.processors → All P (turned m k p).processors
  turned_keeps m k None at all = all
  turned_keeps m k (Some p) at all =
      let h = all_get P m.processors k p all at in
      let after = taken_leaves p m.shared (turn_of (setting_of m k) m.code p) h (turn_leaves (setting_of m k) m.code p (fetched m.code p.pc) h) in
      by_running (is_running p.status) (All-set P m.processors k (step_of m k p).0 after all)
    where
      by_running : (b : Bool) → All P (slice_set m.processors k (step_of m k p).0) → All P (cond b (with_taken m k (step_of m k p)) m).processors
      by_running true after = after
      by_running false after = all

  with_processor_keeps : (m : FlatState) (k : ℕ) (change : Processor → Processor) (p : Option Processor) → slice_get m.processors k ≡ p →
      ((q : Processor) → P q → P (change q)) → All P m.processors → All P (with_processor m k change p).processors
  with_processor_keeps m k change None at keeps all = all
  with_processor_keeps m k change (Some p) at keeps all = All-set P m.processors k (change p) (keeps p (all_get P m.processors k p all at)) all

  written_keeps : (m : FlatState) (p : Poke) → is_lawful m p ≡ true → All P m.processors → All P (written m p).processors
  written_keeps m (poke.Register k r v) lawful all =
      with_processor_keeps m k (with_poked_register r v) (slice_get m.processors k) refl
      (λ q h. kept.register q r v h (and_parts (nat_lt k (length m.processors)) (is_lawful_register r v) lawful).1) all
  written_keeps m (poke.Local k address value) lawful all =
      with_processor_keeps m k (with_poked_byte address value) (slice_get m.processors k) refl (λ q h. kept.store q _ h) all
  written_keeps m (poke.Shared address value) lawful all = all

  poked_keeps : (m : FlatState) (p : Poke) (b : Bool) → is_lawful m p ≡ b → All P m.processors → All P (cond b (written m p) m).processors
  poked_keeps m p true lawful all = written_keeps m p lawful all
  poked_keeps m p false lawful all = all

  step_keeps : (m : FlatState) (e : Entry) → All P m.processors → All P (flat_step m e).processors
  unfolding flat_step
  step_keeps m (entry.Processor k) all = turned_keeps m k (slice_get m.processors k) refl all
  step_keeps m (entry.Poke p) all = poked_keeps m p (is_lawful m p) refl all

  pub run_keeps : (m : FlatState) (es : List Entry) → All P m.processors → All P (flat_run m es).processors
  run_keeps m [] all = all
  run_keeps m (e ∷ es) all = run_keeps (flat_step m e) es (step_keeps m e all)

-- ---- register 0

zero_written : (registers : List ℕ) (rd value : ℕ) → slice_index registers 0 ≡ 0 → slice_index (with_register registers rd value) 0 ≡ 0
unfolding with_register
zero_written registers rd value h = by_register (eqb rd 0) refl
  where
    by_register : (b : Bool) → eqb rd 0 ≡ b → slice_index (cond b registers (slice_set registers rd value)) 0 ≡ 0
    by_register true e = h
    by_register false e = let ne : 0 ≢ rd = (λ is. eqb-false rd 0 e (sym is)) in get_or-set_other registers rd 0 value 0 ne ∙ h

zero_poked : (p : Processor) (r v : ℕ) (b : Bool) → HasZero p → 1 ≤ r →
    HasZero (cond b (record p { pc = v }) (record p { registers = slice_set p.registers r v }))
zero_poked p r v true h some = h
zero_poked p r v false h some = let ne : 0 ≢ r = omega arith in get_or-set_other p.registers r 0 v 0 ne ∙ h

not_zero : (r v : ℕ) → is_lawful_register r v ≡ true → 1 ≤ r
not_zero r v lawful = leb-true 1 r (and_parts (nat_le 1 r) (nat_lt r 32 || (eqb r 32 && eqb (v % 4) 0)) lawful).0

zero_is_kept : IsKept HasZero
zero_is_kept = record {
  next = λ p rd value h. zero_written p.registers rd value h;
  jump = λ p target rd value h aligned. zero_written p.registers rd value h;
  store = λ p bytes h. h;
  stop = λ p status h. h;
  register = λ p r v h lawful. zero_poked p r v (eqb r 32) h (not_zero r v lawful);
}

-- If register 0 of each processor holds 0, it does so after any list of entries.
pub zero_kept : (m : FlatState) (entries : List Entry) → All HasZero m.processors → All HasZero (flat_run m entries).processors
zero_kept m entries all = run_keeps HasZero zero_is_kept m entries all

-- ---- pc

next_aligned : (pc : ℕ) → pc % 4 ≡ 0 → plus pc 4 % 4 ≡ 0
unfolding plus
next_aligned pc h = omega arith

pc_poked : (p : Processor) (r v : ℕ) (b : Bool) → eqb r 32 ≡ b → HasAlignedPc p → is_lawful_register r v ≡ true →
    HasAlignedPc (cond b (record p { pc = v }) (record p { registers = slice_set p.registers r v }))
pc_poked p r v true is h lawful =
    let r_is : r ≡ 32 = eqb-true r 32 is in
    let not_below : nat_lt r 32 ≡ false = le-ltb r 32 (omega arith) in
    let either = (and_parts (nat_le 1 r) (nat_lt r 32 || (eqb r 32 && eqb (v % 4) 0)) lawful).1 in
    let last : (eqb r 32 && eqb (v % 4) 0) ≡ true = rw not_below at either in
    eqb-true (v % 4) 0 (and_parts (eqb r 32) (eqb (v % 4) 0) last).1
pc_poked p r v false is h lawful = h

alignment_is_kept : IsKept HasAlignedPc
alignment_is_kept = record {
  next = λ p rd value h. next_aligned p.pc h;
  jump = λ p target rd value h aligned. aligned;
  store = λ p bytes h. h;
  stop = λ p status h. h;
  register = λ p r v h lawful. pc_poked p r v (eqb r 32) refl h lawful;
}

-- If the pc of each processor is divisible by 4, it is so after any list of entries.
pub alignment_kept : (m : FlatState) (entries : List Entry) → All HasAlignedPc m.processors → All HasAlignedPc (flat_run m entries).processors
alignment_kept m entries all = run_keeps HasAlignedPc alignment_is_kept m entries all
