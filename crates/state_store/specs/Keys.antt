-- Keys by which tables look up local states.
use Rattle.std.specs.Prelude.{ℕ, Bool, List, [], ◌∷◌, nat_eq}
use Rattle.std.specs.Cmp.Lexicographic.{pointwise}
use Rattle.std.specs.Ordering.{on}
use Rattle.flat_machine.specs.declared.event.Status.{Status}
use Rattle.flat_machine.specs.declared.event.Status.TheVariants.{Running, Halted, Faulted}
use Rattle.flat_machine.specs.State.{number_of_fault}
use Rattle.local_reduction.specs.Closing.{if_running}
use Rattle.state_store.specs.Placed.{Placed}

abbrev pub status_numbers : Status → List ℕ
status_numbers Running = []
status_numbers (Halted byte) = byte ∷ []
status_numbers (Faulted fault) = number_of_fault fault ∷ 0 ∷ []

-- the key of a local state: all of a running processor, and a stopped one without registers and local memory
abbrev pub key_of : Placed → List (List ℕ)
key_of a =
    (a.setting.number ∷ a.setting.processors ∷ a.setting.shared_words ∷ a.local_state.processor.pc ∷ [])
    ∷ status_numbers a.local_state.processor.status ∷ a.local_state.console
    ∷ (if_running a.local_state).processor.registers ∷ (if_running a.local_state).processor.local ∷ []

abbrev pub same_keys : List (List ℕ) → List (List ℕ) → Bool
same_keys = pointwise (pointwise nat_eq)

abbrev pub same_key : Placed → Placed → Bool
same_key = on key_of same_keys
