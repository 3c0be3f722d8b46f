use Rattle.std.proofs.Common.{◌≡◌, ap, ◌∙◌, map}
use Rattle.processor_threads.specs.Consoles.{bytes_of}
use Rattle.processor_threads.specs.declared.fault.RunFault.TheVariants.{Budget}
use Rattle.processor_threads.specs.Faults.{is_of_host}
use Rattle.run_command.proofs.Consoles.{has_ended, is_host, of_threads, were_made}
use Rattle.run_command.proofs.run.run_on_threads.Goals as goal

pub returns-in-None-clause-ended : goal.returns-in-None-clause-ended
returns-in-None-clause-ended g c =
    let run = c.run_threads-ended.ensures in
    let ended = c.run_threads-ended.result in
    let made = were_made ended.fault ended.passes.items (ap is_host c.in-None.is) (λ nothing. (run.refused nothing).1) in
    has_ended c.events_are_listed.ensures.listed c.stopped_are_shut.ensures.shut c.runs_are_serialized.ensures.each c.runs_are_serialized.ensures.events
    g.N.Run.opening g.N.Run.first g.N.Run.count c.requires.first.1 c.requires.count ended.logged run.opening c.log_is_well_formed.ensures.kept
    ended.passes.items (run.whole made) (run.fits made) (run.stopped c.in-None.is) (map bytes_of ended.consoles.items) (run.sent c.in-None.is)

pub returns-in-Some-Budget-clause-unfinished : goal.returns-in-Some-Budget-clause-unfinished
returns-in-Some-Budget-clause-unfinished g c none =
    let run = c.run_threads-ended.ensures in
    let ended = c.run_threads-ended.result in
    let budget : c.in-Some-Budget.field-0 ≡ Budget = rw c.in-Some-Budget.is at c.in-Some-Budget.field-0-is in
    let made = were_made ended.fault ended.passes.items (ap is_host c.in-Some-Budget.is ∙ ap is_of_host budget) (λ nothing. (run.refused nothing).1) in
    of_threads g.N.Run.opening g.N.Run.first g.N.Run.count c.requires.first.1 ended.logged run.opening c.log_is_well_formed.ensures.kept
    ended.passes.items (run.fits made)
