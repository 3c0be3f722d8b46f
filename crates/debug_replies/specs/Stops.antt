-- Stop replies: where a machine is after `step` and `cont`. The texts are without their line feeds.
use Rattle.std.specs.Prelude.{ℕ, zero, suc, Bool, true, false, ◌&&◌, not, List, length, ◌++◌, codes}
use Rattle.std.specs.Prelude.{Option, Some, None, slice_get, slice_index_or, if◌then◌else◌}
use Rattle.std.specs.Option.{option_map}
use Rattle.std.specs.Fmt.{digits}
use Rattle.flat_machine.specs.declared.event.Status.{Status}
use Rattle.flat_machine.specs.declared.event.Status.TheVariants.{Running, Halted, Faulted}
use Rattle.flat_machine.specs.State.{Processor, FlatState, is_running}
use Rattle.debug_replies.specs.Breaking.{is_break}

abbrev pub is_halted : Status → Bool
is_halted Running = false
is_halted (Halted byte) = true
is_halted (Faulted fault) = false

abbrev pub is_halted_status : Option Status → Bool
is_halted_status None = false
is_halted_status (Some status) = is_halted status

-- whether a processor is there and halted
abbrev pub is_halted_at : FlatState → (p : ℕ) → Bool
is_halted_at m p = is_halted_status (option_map (λ (q : Processor). q.status) (slice_get m.processors p))

-- whether all processors below n are halted
abbrev pub are_halted : FlatState → (n : ℕ) → Bool
are_halted m zero = true
are_halted m (suc n) = are_halted m n && is_halted_at m n

-- the number of a processor in hex without leading zeros, or `-` if none is named
unfoldable pub name_text : Option ℕ → List ℕ
name_text None = codes "-"
name_text (Some p) = digits 16 false p

-- `halted` if all processors are, else `at` and the processor that is named, if any
unfoldable pub stop_text : FlatState → (named : Option ℕ) → List ℕ
stop_text m named = if are_halted m (length m.processors) then codes "halted" else codes "at " ++ name_text named

-- ---- the processor that is named after `cont`

abbrev pub is_faulted : Status → Bool
is_faulted Running = false
is_faulted (Halted byte) = false
is_faulted (Faulted fault) = true

abbrev pub is_faulted_status : Option Status → Bool
is_faulted_status None = false
is_faulted_status (Some status) = is_faulted status

-- whether a processor is there and a fault has stopped it
abbrev pub is_faulted_at : FlatState → (p : ℕ) → Bool
is_faulted_at m p = is_faulted_status (option_map (λ (q : Processor). q.status) (slice_get m.processors p))

abbrev pub is_running_status : Option Status → Bool
is_running_status None = false
is_running_status (Some status) = is_running status

-- whether a processor is there and runs
abbrev pub is_running_at : FlatState → (p : ℕ) → Bool
is_running_at m p = is_running_status (option_map (λ (q : Processor). q.status) (slice_get m.processors p))

abbrev pub is_break_of : (breaks : List Bool) → (pc : Option ℕ) → Bool
is_break_of breaks None = false
is_break_of breaks (Some pc) = is_break breaks pc

-- whether a processor is there and its next instruction is at a break
abbrev pub has_break_at : (breaks : List Bool) → FlatState → (p : ℕ) → Bool
has_break_at breaks m p = is_break_of breaks (option_map (λ (q : Processor). q.pc) (slice_get m.processors p))

-- whether a processor is at a break: it runs, and its next instruction is at one
abbrev pub is_at_break : (breaks : List Bool) → FlatState → (p : ℕ) → Bool
is_at_break breaks m p = is_running_at m p && has_break_at breaks m p

-- whether a fault has stopped a processor that none had stopped before
abbrev pub is_newly_faulted : (before : ℕ → Bool) → FlatState → (p : ℕ) → Bool
is_newly_faulted before m p = is_faulted_at m p && not (before p)

abbrev pub or_else : Option ℕ → Option ℕ → Option ℕ
or_else None other = other
or_else (Some p) other = Some p

-- the smallest number below n that passes a test, if one does
abbrev pub smallest : (test : ℕ → Bool) → (n : ℕ) → Option ℕ
smallest test zero = None
smallest test (suc n) = or_else (smallest test n) (if test n then Some n else None)

-- The smallest processor at a break; else the smallest that a fault has stopped, and that none had stopped before; else
-- none.
unfoldable pub named_stop : (before : ℕ → Bool) → FlatState → (breaks : List Bool) → Option ℕ
named_stop before m breaks =
    or_else (smallest (is_at_break breaks m) (length m.processors))
    (smallest (is_newly_faulted before m) (length m.processors))

-- ---- with a flag for each processor

abbrev pub is_flagged : (flags : List Bool) → (p : ℕ) → Bool
is_flagged flags p = slice_index_or flags p false
