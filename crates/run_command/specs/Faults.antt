-- How the faults of runs on threads are reported.
use Rattle.command_io.specs.declared.fault.Fault.{Fault}
use Rattle.command_io.specs.declared.fault.Fault.TheVariants as fault
use Rattle.processor_threads.specs.declared.fault.RunFault.{RunFault}
use Rattle.processor_threads.specs.declared.fault.RunFault.TheVariants as run

abbrev pub fault_of : RunFault → Fault
fault_of run.Memory = fault.Memory
fault_of run.Console = fault.Memory
fault_of run.Full = fault.Full
fault_of run.Loan = fault.Loan
fault_of run.Budget = fault.Budget
fault_of run.Start = fault.Start
-- A thread is cancelled only after another has a fault, which is then reported.
fault_of run.Cancelled = fault.Memory

-- A run on threads that is not reported can end with this fault. One that a budget has ended may be.
abbrev pub IsOfRun : Fault → Type 0
IsOfRun fault.Memory = Unit {0}
IsOfRun fault.Full = Unit {0}
IsOfRun fault.Loan = Unit {0}
IsOfRun fault.Start = Unit {0}
IsOfRun other = ⊥
