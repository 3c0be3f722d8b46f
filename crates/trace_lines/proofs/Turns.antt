-- A turn acts on the shared word of its effect, and its event names the instruction.
use Rattle.std.proofs.Common.{◌≡◌, ℕ, ◌*◌, ◌%◌, Bool, true, false, List, Option, Some, None, refl, sym, ap, ◌∙◌, subst}
use Rattle.std.specs.Prelude.{Result, Ok, Err, ◌==◌, slice_get, if◌then◌else◌}
use Rattle.rv_table.specs.declared.insn.Insn.{Insn}
use Rattle.rv_table.specs.declared.insn.Insn.TheVariants.{Op, OpImm, Shift, Load, Store, Branch, Upper, Jal, Jalr, Fence, Ecall, Ebreak, Amo}
use Rattle.rv_table.specs.declared.operation.AmoOp.{AmoOp}
use Rattle.rv_table.specs.declared.operation.LoadOp.{LoadOp}
use Rattle.rv_table.specs.declared.operation.StoreOp.{StoreOp}
use Rattle.rv_table.specs.declared.operation.UpperOp.TheVariants.{Lui, Auipc}
use Rattle.flat_machine.specs.declared.effect.Effect.{Effect}
use Rattle.flat_machine.specs.declared.effect.Effect.TheVariants as does
use Rattle.flat_machine.specs.declared.effect.Region.{Region}
use Rattle.flat_machine.specs.declared.effect.Region.TheVariants as region
use Rattle.flat_machine.specs.declared.event.Cause.{Cause}
use Rattle.flat_machine.specs.declared.event.Cause.TheVariants as cause
use Rattle.flat_machine.specs.declared.event.Event.{Event}
use Rattle.flat_machine.specs.declared.event.Event.TheVariants as event
use Rattle.flat_machine.specs.declared.event.Retired.{Retired}
use Rattle.flat_machine.specs.declared.fault.Fault.{Fault}
use Rattle.flat_machine.specs.declared.fault.Fault.TheVariants.{TargetNotAligned, UnknownCall}
use Rattle.flat_machine.specs.declared.setting.Setting.{Setting}
use Rattle.flat_machine.specs.Effects.{call_of, effect_of, register_of}
use Rattle.flat_machine.specs.Flat.{flat_event, step_of, taken, turn_event}
use Rattle.flat_machine.specs.Memory.{region_of}
use Rattle.flat_machine.specs.Operations.{amo_value, is_taken, load_size, loaded, store_size}
use Rattle.flat_machine.specs.State.{FlatState, Processor, is_running, setting_of}
use Rattle.flat_machine.specs.Turns.{Turn, Retires, Reaches, Stops, accessed, fetched, gone_to, performed, retired_writing, turn_by, turn_of}
use Rattle.flat_machine.specs.Words.{extended, plus}
use Rattle.trace_lines.specs.Laws.{RetiredTurnsHaveWords, StoppedTurnsHaveNone}
use Rattle.trace_lines.specs.References.{word_of_processor, word_of_region, word_of_turn}

-- ---- effects

accessed_word : (code : List ℕ) (p : Processor) (i : Insn) (size address rd : ℕ) (value change : ℕ → ℕ) (writes : Bool) (r : Result Region Fault) →
    word_of_turn (accessed code p i size address rd value change writes r) ≡ word_of_region r
accessed_word code p i size address rd value change writes (Ok (region.Shared word)) = refl
accessed_word code p i size address rd value change writes (Ok (region.Local place)) = refl
accessed_word code p i size address rd value change writes (Ok (region.Code place)) = refl
accessed_word code p i size address rd value change writes (Err fault) = refl

-- the shared word that an effect acts on
abbrev pub word_of_effect : Setting → Effect → Option ℕ
word_of_effect s (does.Write rd value) = None
word_of_effect s (does.Jump rd value target) = None
word_of_effect s does.Pass = None
word_of_effect s (does.Load op rd address) = word_of_region (region_of s (load_size op) address false)
word_of_effect s (does.Store op address value) = word_of_region (region_of s (store_size op) address true)
word_of_effect s (does.Amo op rd address value) = word_of_region (region_of s 4 address true)
word_of_effect s (does.Print byte) = None
word_of_effect s (does.Halt byte) = None
word_of_effect s (does.Fail fault) = None

jump_word : (aligned : Bool) (p : Processor) (r : Retired) (f : Fault) → word_of_turn (if aligned then Retires p r else Stops (cause.Fault f)) ≡ None
jump_word true p r f = refl
jump_word false p r f = refl

pub performed_word : (s : Setting) (code : List ℕ) (p : Processor) (i : Insn) (e : Effect) → word_of_turn (performed s code p i e) ≡ word_of_effect s e
performed_word s code p i (does.Write rd value) = refl
performed_word s code p i (does.Jump rd value target) =
    jump_word (target % 4 == 0) (gone_to target rd value p) (retired_writing p.pc i rd value) TargetNotAligned
performed_word s code p i does.Pass = refl
performed_word s code p i (does.Load op rd address) =
    accessed_word code p i (load_size op) address rd (loaded op) (λ old. old) false (region_of s (load_size op) address false)
performed_word s code p i (does.Store op address value) =
    accessed_word code p i (store_size op) address 0 (λ old. 0) (λ old. value) true (region_of s (store_size op) address true)
performed_word s code p i (does.Amo op rd address value) =
    accessed_word code p i 4 address rd (λ old. old) (λ old. amo_value op old value) true (region_of s 4 address true)
performed_word s code p i (does.Print byte) = refl
performed_word s code p i (does.Halt byte) = refl
performed_word s code p i (does.Fail fault) = refl

-- ---- instructions that act on no shared word

branch_word : (s : Setting) (target : ℕ) (is_taken : Bool) → word_of_effect s (if is_taken then does.Jump 0 0 target else does.Pass) ≡ None
branch_word s target true = refl
branch_word s target false = refl

call_cases : (s : Setting) (zero one two three : Bool) (byte number count : ℕ) →
    word_of_effect s (if zero then does.Halt byte else if one then does.Print byte else if two then does.Write 10 number else if three then does.Write 10 count
    else does.Fail UnknownCall) ≡ None
call_cases s true one two three byte number count = refl
call_cases s false true two three byte number count = refl
call_cases s false false true three byte number count = refl
call_cases s false false false true byte number count = refl
call_cases s false false false false byte number count = refl

call_word : (s : Setting) (a7 a0 : ℕ) → word_of_effect s (call_of s a7 a0) ≡ None
unfolding call_of
call_word s a7 a0 = call_cases s (a7 == 0) (a7 == 1) (a7 == 2) (a7 == 3) (a0 % 256) s.number s.processors

-- An instruction other than a load, a store or an AMO acts on no shared word.
pub local_word : (s : Setting) (pc : ℕ) (registers : List ℕ) (i : Insn) →
    ((op : LoadOp) (rd rs1 imm : ℕ) → i ≡ Load op rd rs1 imm → ⊥) → ((op : StoreOp) (rs1 rs2 imm : ℕ) → i ≡ Store op rs1 rs2 imm → ⊥) →
    ((op : AmoOp) (rd rs1 rs2 : ℕ) (aq rl : Bool) → i ≡ Amo op rd rs1 rs2 aq rl → ⊥) → word_of_effect s (effect_of s pc registers i) ≡ None
unfolding effect_of
local_word s pc registers (Op op rd rs1 rs2) no_load no_store no_amo = refl
local_word s pc registers (OpImm op rd rs1 imm) no_load no_store no_amo = refl
local_word s pc registers (Shift op rd rs1 amount) no_load no_store no_amo = refl
local_word s pc registers (Load op rd rs1 imm) no_load no_store no_amo = absurd (no_load op rd rs1 imm refl)
local_word s pc registers (Store op rs1 rs2 imm) no_load no_store no_amo = absurd (no_store op rs1 rs2 imm refl)
local_word s pc registers (Branch op rs1 rs2 offset) no_load no_store no_amo =
    branch_word s (plus pc (extended 13 (2 * offset))) (is_taken op (register_of registers rs1) (register_of registers rs2))
local_word s pc registers (Upper Lui rd upper) no_load no_store no_amo = refl
local_word s pc registers (Upper Auipc rd upper) no_load no_store no_amo = refl
local_word s pc registers (Jal rd offset) no_load no_store no_amo = refl
local_word s pc registers (Jalr rd rs1 imm) no_load no_store no_amo = refl
local_word s pc registers (Fence rd rs1 ordering) no_load no_store no_amo = refl
local_word s pc registers Ecall no_load no_store no_amo = call_word s (register_of registers 17) (register_of registers 10)
local_word s pc registers Ebreak no_load no_store no_amo = refl
local_word s pc registers (Amo op rd rs1 rs2 aq rl) no_load no_store no_amo = absurd (no_amo op rd rs1 rs2 aq rl refl)

-- ---- instructions that act on one

-- A load acts on the shared word at its address, if there is one.
pub load_word : (s : Setting) (pc : ℕ) (registers : List ℕ) (i : Insn) (op : LoadOp) (rd rs1 imm size address : ℕ) → i ≡ Load op rd rs1 imm →
    size ≡ load_size op → address ≡ plus (register_of registers rs1) (extended 12 imm) →
    word_of_effect s (effect_of s pc registers i) ≡ word_of_region (region_of s size address false)
unfolding effect_of
load_word s pc registers i op rd rs1 imm size address is size_is address_is = rw (is, size_is, address_is) refl

-- A store acts on the shared word at its address, if there is one.
pub store_word : (s : Setting) (pc : ℕ) (registers : List ℕ) (i : Insn) (op : StoreOp) (rs1 rs2 imm size address : ℕ) → i ≡ Store op rs1 rs2 imm →
    size ≡ store_size op → address ≡ plus (register_of registers rs1) (extended 12 imm) →
    word_of_effect s (effect_of s pc registers i) ≡ word_of_region (region_of s size address true)
unfolding effect_of
store_word s pc registers i op rs1 rs2 imm size address is size_is address_is = rw (is, size_is, address_is) refl

-- An AMO acts on the shared word at its address, if there is one.
pub amo_word : (s : Setting) (pc : ℕ) (registers : List ℕ) (i : Insn) (op : AmoOp) (rd rs1 rs2 : ℕ) (aq rl : Bool) (address : ℕ) →
    i ≡ Amo op rd rs1 rs2 aq rl → address ≡ register_of registers rs1 →
    word_of_effect s (effect_of s pc registers i) ≡ word_of_region (region_of s 4 address true)
unfolding effect_of
amo_word s pc registers i op rd rs1 rs2 aq rl address is address_is = rw (is, address_is) refl

-- A turn acts on the same word as its instruction's effect with the same registers.
pub turn_word : (s : Setting) (code : List ℕ) (p : Processor) (i : Insn) (registers : List ℕ) (word : Option ℕ) → p.registers ≡ registers →
    word_of_effect s (effect_of s p.pc registers i) ≡ word →
    word_of_turn (performed s code p i (effect_of s p.pc p.registers i)) ≡ word
turn_word s code p i registers word same e =
    performed_word s code p i (effect_of s p.pc p.registers i) ∙ ap (λ rs. word_of_effect s (effect_of s p.pc rs i)) same ∙ e

-- ---- events

-- An event that retires an instruction retires this one.
abbrev pub Tells : Insn → Event → Type 0
Tells i (event.Retired r) = r.insn ≡ i
Tells i (event.Stopped c) = Unit {0}

accessed_tells : (shared code : List ℕ) (p : Processor) (i : Insn) (size address rd : ℕ) (value change : ℕ → ℕ) (writes : Bool) (r : Result Region Fault) →
    Tells i (taken p shared (accessed code p i size address rd value change writes r)).2
accessed_tells shared code p i size address rd value change writes (Ok (region.Shared word)) = refl
accessed_tells shared code p i size address rd value change writes (Ok (region.Local place)) = refl
accessed_tells shared code p i size address rd value change writes (Ok (region.Code place)) = refl
accessed_tells shared code p i size address rd value change writes (Err fault) = tt

jump_tells : (shared : List ℕ) (p q : Processor) (i : Insn) (aligned : Bool) (pc rd value : ℕ) (f : Fault) →
    Tells i (taken p shared (if aligned then Retires q (retired_writing pc i rd value) else Stops (cause.Fault f))).2
jump_tells shared p q i true pc rd value f = refl
jump_tells shared p q i false pc rd value f = tt

performed_tells : (shared : List ℕ) (s : Setting) (code : List ℕ) (p : Processor) (i : Insn) (e : Effect) → Tells i (taken p shared (performed s code p i e)).2
performed_tells shared s code p i (does.Write rd value) = refl
performed_tells shared s code p i (does.Jump rd value target) =
    jump_tells shared p (gone_to target rd value p) i (target % 4 == 0) p.pc rd value TargetNotAligned
performed_tells shared s code p i does.Pass = refl
performed_tells shared s code p i (does.Load op rd address) =
    accessed_tells shared code p i (load_size op) address rd (loaded op) (λ old. old) false (region_of s (load_size op) address false)
performed_tells shared s code p i (does.Store op address value) =
    accessed_tells shared code p i (store_size op) address 0 (λ old. 0) (λ old. value) true (region_of s (store_size op) address true)
performed_tells shared s code p i (does.Amo op rd address value) =
    accessed_tells shared code p i 4 address rd (λ old. old) (λ old. amo_value op old value) true (region_of s 4 address true)
performed_tells shared s code p i (does.Print byte) = refl
performed_tells shared s code p i (does.Halt byte) = tt
performed_tells shared s code p i (does.Fail fault) = tt

-- A turn whose event retires an instruction acts on the same word as that instruction.
fetched_word : (shared : List ℕ) (s : Setting) (code : List ℕ) (p : Processor) (f : Result Insn Fault) (r : Retired) →
    (taken p shared (turn_by s code p f)).2 ≡ event.Retired r →
    word_of_turn (turn_by s code p f) ≡ word_of_turn (performed s code p r.insn (effect_of s p.pc p.registers r.insn))
fetched_word shared s code p (Ok i) r e =
    let same : r.insn ≡ i = subst (Tells i) e (performed_tells shared s code p i (effect_of s p.pc p.registers i)) in
    ap (λ j. word_of_turn (performed s code p j (effect_of s p.pc p.registers j))) (sym same)
fetched_word shared s code p (Err fault) r e = absurd (cc)

some_event : (a b : Event) → Some a ≡ Some b → a ≡ b
some_event a b e = cc

running_event : (m : FlatState) (k : ℕ) (p : Processor) (running : Bool) (shown : Event) → (if running then Some (step_of m k p).2 else None) ≡ Some shown →
    (step_of m k p).2 ≡ shown
running_event m k p true shown e = some_event (step_of m k p).2 shown e
running_event m k p false shown e = absurd (cc)

-- A turn that retires an instruction acts on the same shared word as the instruction, if on any.
pub retired_words : RetiredTurnsHaveWords
unfolding flat_event
retired_words m k p r there e =
    let s = setting_of m k in
    let shown : (step_of m k p).2 ≡ event.Retired r = running_event m k p (is_running p.status) (event.Retired r) (ap (turn_event m k) (sym there) ∙ e) in
    ap (word_of_processor m k) there ∙ fetched_word m.shared s m.code p (fetched m.code p.pc) r shown

-- ---- stops

stopped_turn : (p : Processor) (shared : List ℕ) (t : Turn) (c : Cause) → (taken p shared t).2 ≡ event.Stopped c → word_of_turn t ≡ None
stopped_turn p shared (Retires after retired) c e = absurd (cc)
stopped_turn p shared (Reaches word change after) c e = absurd (cc)
stopped_turn p shared (Stops other) c e = refl

stopped_word : (m : FlatState) (k : ℕ) (p : Option Processor) (c : Cause) → turn_event m k p ≡ Some (event.Stopped c) → word_of_processor m k p ≡ None
stopped_word m k None c e = refl
stopped_word m k (Some p) c e = stopped_turn p m.shared (turn_of (setting_of m k) m.code p) c (running_event m k p (is_running p.status) (event.Stopped c) e)

-- A turn that stops its processor acts on no shared word.
pub stopped_words : StoppedTurnsHaveNone
unfolding flat_event
stopped_words m k c e = stopped_word m k (slice_get m.processors k) c e
