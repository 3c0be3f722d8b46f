-- Local states have equal keys exactly if they are equal, but for registers and local memory of stopped processors.
use Rattle.std.proofs.Common.{◌≡◌, ℕ, Bool, true, false, cond, true≢false, List, [], ◌∷◌, refl, sym, ap, ◌∙◌}
use Rattle.std.specs.Prelude.{◌↔◌, IsTrue, slice_index, slice_index_or}
use Rattle.flat_machine.specs.declared.event.Status.{Status}
use Rattle.flat_machine.specs.declared.event.Status.TheVariants.{Running, Halted, Faulted}
use Rattle.flat_machine.specs.declared.fault.Fault.{Fault}
use Rattle.flat_machine.specs.declared.fault.Fault.TheVariants.{NoRow, FetchOutsideCode, TargetNotAligned, AddressNotAligned}
use Rattle.flat_machine.specs.declared.fault.Fault.TheVariants.{NoRegion, StoreToCode, UnknownCall, Breakpoint}
use Rattle.flat_machine.specs.State.{is_running, number_of_fault}
use Rattle.local_reduction.specs.LocalStates.{LocalState}
use Rattle.local_reduction.specs.Closing.{if_running}
use Rattle.local_reduction.specs.Forgetting.{kept_by, with_live}
use Rattle.state_store.specs.Keys.{status_numbers, key_of, same_key}
use Rattle.state_store.specs.KeyLaws.{keys_decide}
use Rattle.state_store.specs.Placed.{Placed, IsEqual, IsSame}

fault_numbered : ℕ → Fault
fault_numbered n =
    slice_index_or (NoRow ∷ NoRow ∷ FetchOutsideCode ∷ TargetNotAligned ∷ AddressNotAligned ∷ NoRegion ∷ StoreToCode ∷ UnknownCall ∷ Breakpoint ∷ []) n NoRow

fault_is : (f : Fault) → fault_numbered (number_of_fault f) ≡ f
unfolding fault_numbered
fault_is NoRow = refl
fault_is FetchOutsideCode = refl
fault_is TargetNotAligned = refl
fault_is AddressNotAligned = refl
fault_is NoRegion = refl
fault_is StoreToCode = refl
fault_is UnknownCall = refl
fault_is Breakpoint = refl

status_of_numbers : List ℕ → Status
status_of_numbers [] = Running
status_of_numbers (b ∷ []) = Halted b
status_of_numbers (n ∷ (m ∷ ms)) = Faulted (fault_numbered n)

status_is : (s : Status) → status_of_numbers (status_numbers s) ≡ s
unfolding status_of_numbers
status_is Running = refl
status_is (Halted b) = refl
status_is (Faulted f) = ap Faulted (fault_is f)

-- the parts of a key of a local state
kept_parts : (a : LocalState) → if_running a ≡ record {
  processor = record {
    pc = a.processor.pc;
    registers = (if_running a).processor.registers;
    local = (if_running a).processor.local;
    status = a.processor.status;
  };
  console = a.console;
}
kept_parts a = by (is_running a.processor.status)
  where
    forgotten : LocalState
    forgotten = record a { processor = record a.processor { registers = []; local = [] } }

    by : (b : Bool) → cond b a forgotten ≡ record {
      processor = record {
        pc = a.processor.pc;
        registers = (cond b a forgotten).processor.registers;
        local = (cond b a forgotten).processor.local;
        status = a.processor.status;
      };
      console = a.console;
    }
    by true = refl
    by false = refl

pub equal_of : (a b : Placed) → key_of a ≡ key_of b → IsEqual a b
equal_of a b same = record {
  setting = λ i. record { number = at 0 i; processors = at 1 i; shared_words = at 2 i };
  equal = kept_parts a.local_state ∙ ((λ i. record {
    processor = record { pc = at 3 i; registers = list 3 i; local = list 4 i; status = status i };
    console = list 2 i;
  }) ∙ sym (kept_parts b.local_state));
}
  where
    list : (n : ℕ) → slice_index_or (key_of a) n [] ≡ slice_index_or (key_of b) n []
    list n = ap (λ key. slice_index_or key n []) same

    at : (n : ℕ) → slice_index (slice_index_or (key_of a) 0 []) n ≡ slice_index (slice_index_or (key_of b) 0 []) n
    at n = ap (λ xs. slice_index xs n) (list 0)

    status : a.local_state.processor.status ≡ b.local_state.processor.status
    status =
        sym (status_is a.local_state.processor.status) ∙ (ap status_of_numbers (list 1) ∙ status_is b.local_state.processor.status)

pc_kept : (a : LocalState) → (if_running a).processor.pc ≡ a.processor.pc
pc_kept a = ap (λ (s : LocalState). s.processor.pc) (kept_parts a)

status_kept : (a : LocalState) → (if_running a).processor.status ≡ a.processor.status
status_kept a = ap (λ (s : LocalState). s.processor.status) (kept_parts a)

console_kept : (a : LocalState) → (if_running a).console ≡ a.console
console_kept a = ap (λ (s : LocalState). s.console) (kept_parts a)

-- Equal local states have the same key.
pub key_same : (a b : Placed) → IsEqual a b → key_of a ≡ key_of b
key_same a b h =
    let pc : a.local_state.processor.pc ≡ b.local_state.processor.pc =
    sym (pc_kept a.local_state) ∙ (ap (λ (s : LocalState). s.processor.pc) h.equal ∙ pc_kept b.local_state) in
    let status : a.local_state.processor.status ≡ b.local_state.processor.status =
    sym (status_kept a.local_state) ∙ (ap (λ (s : LocalState). s.processor.status) h.equal ∙ status_kept b.local_state) in
    let console : a.local_state.console ≡ b.local_state.console =
    sym (console_kept a.local_state) ∙ (ap (λ (s : LocalState). s.console) h.equal ∙ console_kept b.local_state) in
    λ i.
    ((h.setting i).number ∷ (h.setting i).processors ∷ (h.setting i).shared_words ∷ pc i ∷ [])
    ∷ status_numbers (status i) ∷ console i ∷ (h.equal i).processor.registers ∷ (h.equal i).processor.local ∷ []

pub keys_equal : (a b : Placed) → same_key a b ≡ true → IsEqual a b
keys_equal a b h = equal_of a b ((keys_decide (key_of a) (key_of b)).0 h)

-- A test of whether two local states are equal gives the same as comparing their keys.
pub eq_is_same_key : (fact : Bool) (a b : Placed) → (IsTrue fact ↔ IsEqual a b) → fact ≡ same_key a b
eq_is_same_key fact a b h = by fact (same_key a b) refl h
  where
    by : (t s : Bool) → same_key a b ≡ s → (IsTrue t ↔ IsEqual a b) → t ≡ s
    by true true is h = refl
    by true false is h =
        absurd (true≢false (sym ((keys_decide (key_of a) (key_of b)).1 (key_same a b (h.0 refl))) ∙ is))
    by false true is h = absurd (true≢false (sym (h.1 (keys_equal a b is))))
    by false false is h = refl

-- ---- what is kept of equal local states

module _ (live : List (List Bool)) where
  -- Leaving out what is not compared of a local state does not change what is kept of it.
  through : (a : LocalState) → kept_by live (if_running a) ≡ kept_by live a
  through a = by (is_running a.processor.status) refl
    where
      forgotten : LocalState
      forgotten = record a { processor = record a.processor { registers = []; local = [] } }

      bare : LocalState → LocalState
      bare s = record s { processor = record s.processor { registers = []; local = [] } }

      by : (b : Bool) → is_running a.processor.status ≡ b → kept_by live (cond b a forgotten) ≡ kept_by live a
      by true is = refl
      by false is =
          ap (λ b. cond b (with_live live forgotten) (bare (with_live live forgotten))) is
          ∙ sym (ap (λ b. cond b (with_live live a) (bare (with_live live a))) is)

  kept_equal : (a b : LocalState) → if_running a ≡ if_running b → kept_by live a ≡ kept_by live b
  kept_equal a b same = sym (through a) ∙ (ap (kept_by live) same ∙ through b)

  -- A local state found by its key is the same as the one looked for.
  pub found_same : (found sought first : Placed) → same_key sought found ≡ true → IsSame live sought first → IsSame live found first
  found_same found sought first same h =
      let equal = keys_equal sought found same in
      record { setting = sym equal.setting ∙ h.setting; kept = sym (kept_equal sought.local_state found.local_state equal.equal) ∙ h.kept }
