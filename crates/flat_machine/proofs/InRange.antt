-- Words stay words, in a turn, a step and a run.
use Rattle.std.proofs.Common.{◌≡◌, ℕ, ◌*◌, ◌+◌, ◌-◌, ◌/◌, ◌%◌, ◌^◌, ◌<◌, ◌≤◌, Bool, true, false, cond, eqb}
use Rattle.std.proofs.Common.{List, [], ◌∷◌, Option, Some, None, Result, Ok, Err, length, refl, arith}
use Rattle.std.specs.Prelude.{All, not, slice_get, slice_index, slice_set}
use Rattle.std.proofs.lemmas.List.{length-set}
use Rattle.std.proofs.lemmas.List.Elements.{All-head, All-set, All-tail}
use Rattle.std.proofs.lemmas.Option.{slice_get_within}
use Rattle.rv_table.specs.Rows.{InRange, insn_of}
use Rattle.rv_table.specs.declared.insn.Insn.{Insn}
use Rattle.rv_table.proofs.Lemmas.{read_fits}
use Rattle.flat_machine.specs.declared.effect.Effect.{Effect}
use Rattle.flat_machine.specs.declared.effect.Effect.TheVariants as does
use Rattle.flat_machine.specs.declared.effect.Region.{Region}
use Rattle.flat_machine.specs.declared.effect.Region.TheVariants as region
use Rattle.flat_machine.specs.declared.event.Cause.TheVariants as cause
use Rattle.flat_machine.specs.declared.fault.Fault.{Fault}
use Rattle.flat_machine.specs.declared.fault.Fault.TheVariants.{FetchOutsideCode, TargetNotAligned}
use Rattle.flat_machine.specs.declared.poke.Poke.{Poke}
use Rattle.flat_machine.specs.declared.poke.Poke.TheVariants as poke
use Rattle.flat_machine.specs.declared.poke.Entry.{Entry}
use Rattle.flat_machine.specs.declared.poke.Entry.TheVariants as entry
use Rattle.flat_machine.specs.declared.setting.Setting.{Setting}
use Rattle.flat_machine.specs.State.{FlatState, Processor, is_running, setting_of}
use Rattle.flat_machine.specs.Words.{part_of, with_part}
use Rattle.flat_machine.specs.Operations.{amo_value, load_size, loaded, store_size}
use Rattle.flat_machine.specs.Memory.{in_code, number_at, region_of, with_number}
use Rattle.flat_machine.specs.Effects.{effect_of, with_register}
use Rattle.flat_machine.specs.Turns.{Turn, Retires, Reaches, Stops, accessed, fetched, found, gone_to, next_pc, performed, retired_writing, turn_by, turn_of}
use Rattle.flat_machine.specs.Flat.{flat_run, flat_step, is_lawful, poked, step_of, taken, turned, with_poked_byte}
use Rattle.flat_machine.specs.Flat.{with_poked_register, with_processor, with_taken, written}
use Rattle.flat_machine.specs.Laws.{AreBelow, AsksForWords, HasWords, IsInRange, LeavesWords, WritesWords}
use Rattle.flat_machine.proofs.Accesses.{load_inside, number_small, part_small, set_below, shared_region, store_inside, with_number_below, with_part_small}
use Rattle.flat_machine.proofs.Kept.{all_get}
use Rattle.flat_machine.proofs.Values.{effect_asks, loaded_small, sum_small}

-- ---- turns

with_register_below : (registers : List ℕ) (rd value : ℕ) → value < 2 ^ 32 → AreBelow (2 ^ 32) registers → AreBelow (2 ^ 32) (with_register registers rd value)
unfolding with_register
with_register_below registers rd value small all = by_register (eqb rd 0)
  where
    by_register : (b : Bool) → AreBelow (2 ^ 32) (cond b registers (slice_set registers rd value))
    by_register true = all
    by_register false = set_below (2 ^ 32) registers rd value small all

gone_words : (target rd value : ℕ) (p : Processor) → target < 2 ^ 32 → value < 2 ^ 32 → HasWords p → HasWords (gone_to target rd value p)
gone_words target rd value p there small h = record { pc = there; registers = with_register_below p.registers rd value small h.registers; local = h.local }

next_words : (rd value : ℕ) (p : Processor) → value < 2 ^ 32 → HasWords p → HasWords (gone_to (next_pc p) rd value p)
next_words rd value p small h = gone_words (next_pc p) rd value p (sum_small p.pc 4) small h

module _ (s : Setting) (code : List ℕ) (p : Processor) (i : Insn) (bytes : AreBelow 256 code) (h : HasWords p) where
  module _ (size address rd : ℕ) (value change : ℕ → ℕ) (writes : Bool) (small : (old : ℕ) → old < 2 ^ (8 * size) →
      value old < 2 ^ 32) (inside : address % size ≡ 0 → address % 4 + size ≤ 4) where
    word_after : (x : ℕ) (b : Bool) → address % 4 + size ≤ 4 → x < 2 ^ 32 →
        cond b (with_part size (address % 4) x (change (part_of size (address % 4) x))) x < 2 ^ 32
    word_after x true fits below = with_part_small size (address % 4) x (change (part_of size (address % 4) x)) fits below
    word_after x false fits below = below

    bytes_after : (place number : ℕ) (b : Bool) → AreBelow 256 (cond b (with_number p.local place size number) p.local)
    bytes_after place number true = with_number_below p.local place size number h.local
    bytes_after place number false = h.local

    accessed_words : (r : Result Region Fault) → region_of s size address writes ≡ r → LeavesWords (accessed code p i size address rd value change writes r)
    accessed_words (Ok (region.Shared word)) at = λ x below. (
      word_after x writes (inside (shared_region s size address writes word at).0) below,
      next_words rd (value (part_of size (address % 4) x)) p (small _ (part_small size (address % 4) x)) h,
    )
    accessed_words (Ok (region.Local place)) at =
        let old : ℕ = number_at p.local place size in
        let read = next_words rd (value old) p (small old (number_small p.local place size h.local)) h in
        record { pc = read.pc; registers = read.registers; local = bytes_after place (change old) writes }
    accessed_words (Ok (region.Code place)) at = next_words rd _ p (small _ (number_small code place size bytes)) h
    accessed_words (Err fault) at = tt

  jump_words : (rd value target : ℕ) (b : Bool) → value < 2 ^ 32 → target < 2 ^ 32 →
      LeavesWords (cond b (Retires (gone_to target rd value p) (retired_writing p.pc i rd value)) (Stops (cause.Fault TargetNotAligned)))
  jump_words rd value target true small there = gone_words target rd value p there small h
  jump_words rd value target false small there = tt

  performed_words : (e : Effect) → AsksForWords e → LeavesWords (performed s code p i e)
  performed_words (does.Write rd value) asks = next_words rd value p asks h
  performed_words (does.Jump rd value target) asks = jump_words rd value target (eqb (target % 4) 0) asks.0 asks.1
  performed_words does.Pass asks = next_words 0 0 p (omega arith) h
  performed_words (does.Load op rd address) asks =
      accessed_words (load_size op) address rd (loaded op) (λ old. old) false (loaded_small op) (load_inside op address)
      (region_of s (load_size op) address false) refl
  performed_words (does.Store op address value) asks =
      accessed_words (store_size op) address 0 (λ old. 0) (λ old. value) true (λ old below. omega arith) (store_inside op address)
      (region_of s (store_size op) address true) refl
  performed_words (does.Amo op rd address value) asks =
      accessed_words 4 address rd (λ old. old) (λ old. amo_value op old value) true (λ old below. below) (λ aligned. omega arith)
      (region_of s 4 address true) refl
  performed_words (does.Print byte) asks = next_words 0 0 p (omega arith) h
  performed_words (does.Halt byte) asks = tt
  performed_words (does.Fail fault) asks = tt

-- The instruction at pc has operands that fit their fields.
pub fetched_fits : (code : List ℕ) (pc : ℕ) (i : Insn) → fetched code pc ≡ Ok i → InRange i
unfolding fetched
fetched_fits code pc i e = by_place (in_code pc) (insn_of (number_at code (pc % 2 ^ 16) 4)) refl e
  where
    by_place : (b : Bool) (o : Option Insn) → insn_of (number_at code (pc % 2 ^ 16) 4) ≡ o → cond (not b) (Err FetchOutsideCode) (found o) ≡ Ok i → InRange i
    by_place true (Some j) is e = let same : j ≡ i = cc in rw (← same) (read_fits (number_at code (pc % 2 ^ 16) 4) j is)
    by_place true None is e = absurd (cc)
    by_place false o is e = absurd (cc)

-- A turn leaves words if the processor has words, code is bytes, and the setting's numbers are words.
pub turn_words : (s : Setting) (code : List ℕ) (p : Processor) → s.number < 2 ^ 32 → s.processors < 2 ^ 32 → AreBelow 256 code → HasWords p →
    LeavesWords (turn_of s code p)
turn_words s code p number count bytes h = by_fetched (fetched code p.pc) refl
  where
    by_fetched : (r : Result Insn Fault) → fetched code p.pc ≡ r → LeavesWords (turn_by s code p r)
    by_fetched (Ok i) is = performed_words s code p i bytes h (effect_of s p.pc p.registers i)
        (effect_asks s p.pc p.registers i number count h.registers (fetched_fits code p.pc i is))
    by_fetched (Err fault) is = tt

-- ---- steps

taken_words : (p : Processor) (shared : List ℕ) (t : Turn) → HasWords p → AreBelow (2 ^ 32) shared → LeavesWords t →
    HasWords (taken p shared t).0 × AreBelow (2 ^ 32) (taken p shared t).1
taken_words p shared (Retires after retired) h words leaves = (leaves, words)
taken_words p shared (Reaches word change after) h words leaves =
    let left = leaves (slice_index shared word) (words word) in
    (left.1, set_below (2 ^ 32) shared word (change (slice_index shared word)) left.0 words)
taken_words p shared (Stops cause) h words leaves = (record { pc = h.pc; registers = h.registers; local = h.local }, words)

turned_in_range : (m : FlatState) (k : ℕ) (p : Option Processor) → slice_get m.processors k ≡ p → IsInRange m → IsInRange (turned m k p)
turned_in_range m k None at h = h
turned_in_range m k (Some p) at h =
    let inside : k < length m.processors = slice_get_within m.processors k p at in
    let count : length m.processors ≤ 2 ^ 8 = h.count in
    let words : HasWords p = all_get HasWords m.processors k p h.processors at in
    let leaves = turn_words (setting_of m k) m.code p (omega arith) (omega arith) h.code words in
    by_running (is_running p.status) (taken_words p m.shared (turn_of (setting_of m k) m.code p) words h.shared leaves)
  where
    by_running : (b : Bool) → HasWords (step_of m k p).0 × AreBelow (2 ^ 32) (step_of m k p).1 → IsInRange (cond b (with_taken m k (step_of m k p)) m)
    by_running true done =
        let same = length-set m.processors k (step_of m k p).0 in
        let count : length m.processors ≤ 2 ^ 8 = h.count in
        record { processors = All-set HasWords m.processors k (step_of m k p).0 done.0 h.processors; count = omega arith; shared = done.1; code = h.code }
    by_running false done = h

processor_in_range : (m : FlatState) (k : ℕ) (change : Processor → Processor) (p : Option Processor) → slice_get m.processors k ≡ p →
    ((q : Processor) → HasWords q → HasWords (change q)) → IsInRange m → IsInRange (with_processor m k change p)
processor_in_range m k change None at keeps h = h
processor_in_range m k change (Some p) at keeps h =
    let words = keeps p (all_get HasWords m.processors k p h.processors at) in
    let same = length-set m.processors k (change p) in
    let count : length m.processors ≤ 2 ^ 8 = h.count in
    record { processors = All-set HasWords m.processors k (change p) words h.processors; count = omega arith; shared = h.shared; code = h.code }

-- A processor that has words still has them after a poke writes a word into a register or pc.
pub register_words : (register value : ℕ) (p : Processor) → value < 2 ^ 32 → HasWords p → HasWords (with_poked_register register value p)
register_words register value p small h = by_register (eqb register 32)
  where
    by_register : (b : Bool) → HasWords (cond b (record p { pc = value }) (record p { registers = slice_set p.registers register value }))
    by_register true = record { pc = small; registers = h.registers; local = h.local }
    by_register false = record { pc = h.pc; registers = set_below (2 ^ 32) p.registers register value small h.registers; local = h.local }

-- A processor that has words still has them after a poke writes a byte into its local memory.
pub byte_words : (address value : ℕ) (p : Processor) → value < 256 → HasWords p → HasWords (with_poked_byte address value p)
byte_words address value p small h = record { pc = h.pc; registers = h.registers; local = set_below 256 p.local (address % 2 ^ 16) value small h.local }

written_in_range : (m : FlatState) (p : Poke) → WritesWords (entry.Poke p) → IsInRange m → IsInRange (written m p)
written_in_range m (poke.Register k register value) small h =
    processor_in_range m k (with_poked_register register value) (slice_get m.processors k) refl (λ q words. register_words register value q small words) h
written_in_range m (poke.Local k address value) small h =
    processor_in_range m k (with_poked_byte address value) (slice_get m.processors k) refl (λ q words. byte_words address value q small words) h
written_in_range m (poke.Shared address value) small h =
    let word : ℕ = (address - 2 ^ 31) / 4 in
    let new = with_part_small 1 (address % 4) (slice_index m.shared word) value (omega arith) (h.shared word) in
    record {
      processors = h.processors;
      count = h.count;
      shared = set_below (2 ^ 32) m.shared word (with_part 1 (address % 4) (slice_index m.shared word) value) new h.shared;
      code = h.code;
    }

poked_in_range : (m : FlatState) (p : Poke) → WritesWords (entry.Poke p) → IsInRange m → IsInRange (poked m p)
poked_in_range m p small h = by_law (is_lawful m p)
  where
    by_law : (b : Bool) → IsInRange (cond b (written m p) m)
    by_law true = written_in_range m p small h
    by_law false = h

-- A machine in range is in range after an entry, if a poke writes words.
pub step_in_range : (m : FlatState) (e : Entry) → WritesWords e → IsInRange m → IsInRange (flat_step m e)
unfolding flat_step
step_in_range m (entry.Processor k) writes h = turned_in_range m k (slice_get m.processors k) refl h
step_in_range m (entry.Poke p) writes h = poked_in_range m p writes h

-- ---- runs

-- A machine in range is in range after a list of entries whose pokes write words.
pub run_in_range : (m : FlatState) (entries : List Entry) → IsInRange m → All WritesWords entries → IsInRange (flat_run m entries)
run_in_range m [] h writes = h
run_in_range m (e ∷ es) h writes = run_in_range (flat_step m e) es (step_in_range m e (All-head WritesWords e es writes) h) (All-tail WritesWords e es writes)
