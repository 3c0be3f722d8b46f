-- Which of the threads' faults is reported.
use Rattle.std.specs.Prelude.{Bool, true, false, List, Option, Some, None, filter_map, find, slice_get}
use Rattle.std.specs.Option.{option_or}
use Rattle.processor_threads.specs.declared.fault.RunFault.{RunFault}
use Rattle.processor_threads.specs.declared.fault.RunFault.TheVariants.{Memory, Full, Loan, Console, Budget, Start}
use Rattle.processor_threads.specs.declared.fault.RunFault.TheVariants.{Cancelled}

-- whether a fault is of the host, which runs the threads, and not of the run
abbrev pub is_of_host : RunFault → Bool
is_of_host Memory = true
is_of_host Console = true
is_of_host Start = true
is_of_host Full = false
is_of_host Loan = false
is_of_host Budget = false
is_of_host Cancelled = false

-- whether a thread met a fault itself, and was not stopped for that of another
abbrev pub is_own : RunFault → Bool
is_own Memory = true
is_own Console = true
is_own Start = true
is_own Full = true
is_own Loan = true
is_own Budget = true
is_own Cancelled = false

-- The fault that is reported after threads ended in these ways: the first of the host; if there is none, the first that
-- a thread met itself; only if there is none of these either, the first of all.
abbrev pub fault_of : List (Option RunFault) → Option RunFault
fault_of ends =
    let faults : List RunFault = filter_map (λ end. end) ends in
    option_or (find is_of_host faults) (option_or (find is_own faults) (slice_get faults 0))

-- whether the listener can have this fault: it found no memory for a byte, or could not be started
abbrev pub is_of_listener : Option RunFault → Bool
is_of_listener None = true
is_of_listener (Some Console) = true
is_of_listener (Some Start) = true
is_of_listener (Some Memory) = false
is_of_listener (Some Full) = false
is_of_listener (Some Loan) = false
is_of_listener (Some Budget) = false
is_of_listener (Some Cancelled) = false
