use Rattle.std.proofs.Common.{List, [], ◌∷◌, length, map, sym, ap, ◌∙◌, subst}
use Rattle.std.proofs.lemmas.List.{length-map}
use Rattle.console_monitor.specs.Ends.{sent_by}
use Rattle.machine_lock.specs.Passes.{Held, IsWhole, TotalsAgree}
use Rattle.processor_threads.specs.Consoles.{console_of}
use Rattle.processor_threads.specs.Endings.{AreEnded}
use Rattle.processor_threads.specs.Faults.{fault_of}
use Rattle.processor_threads.proofs.Reported.{fault_of-last}
use Rattle.processor_threads.proofs.Rows.{all_stopped, new_sent, whole_again}
use Rattle.processor_threads.proofs.run.run_made.Goals as goal

pub run_workers-workers-requires-clause-sent : goal.run_workers-workers-requires-clause-sent
run_workers-workers-requires-clause-sent g c κs within = ap (map console_of) c.requires.passes ∙ new_sent g.N.Run.count ∙ sym c.requires.ends

pub run_workers-workers-requires-clause-ends : goal.run_workers-workers-requires-clause-ends
run_workers-workers-requires-clause-ends g c κs within =
    let workers = c.args.workers in
    let e = ap (map console_of) c.requires.passes ∙ new_sent g.N.Run.count ∙ sym c.requires.ends in
    workers.ends.ok.0 ∙ sym (length-map workers.ends.items sent_by) ∙ sym (ap length e) ∙ length-map workers.passes.items console_of ∙ sym workers.passes.ok.0

pub gather-logged-requires : goal.gather-logged-requires
gather-logged-requires g c =
    whole_again g.N.Run.count c.args.workers.passes.items c.run_workers-workers.result.workers.passes.items c.requires.whole
    c.run_workers-workers.ensures.back.processors

pub returns-clause-whole : goal.returns-clause-whole
returns-clause-whole g c =
    subst (IsWhole g.N.Run.count) (sym c.gather-logged.ensures.passes)
    (whole_again g.N.Run.count c.args.workers.passes.items c.run_workers-workers.result.workers.passes.items c.requires.whole
    c.run_workers-workers.ensures.back.processors)

pub returns-clause-totals : goal.returns-clause-totals
returns-clause-totals g c =
    subst (λ (hs : List Held). TotalsAgree g.N.Run.opening g.N.Run.first c.gather-logged.result.0.steps hs) (sym c.gather-logged.ensures.passes)
    c.gather-logged.ensures.totals

pub returns-clause-ended : goal.returns-clause-ended
returns-clause-ended g c =
    let back = c.run_workers-workers in
    subst (AreEnded back.result.workers.faults.items) (sym c.gather-logged.ensures.passes) back.ensures.back.ended

pub returns-clause-fault : goal.returns-clause-fault
returns-clause-fault g c =
    let faults = c.run_workers-workers.result.workers.faults.items in
    let of = c.finish-consoles.result.1 in
    c.graver_of-fault.ensures
    ∙ ap (λ reported. fault_of (reported ∷ of ∷ [])) (c.fault_of.ensures ∙ ap fault_of c.as_slice.ensures.value)
    ∙ sym (fault_of-last of faults)

pub returns-clause-stopped : goal.returns-clause-stopped
returns-clause-stopped g c none =
    all_stopped c.run_workers-workers.result.workers.faults.items c.finish-consoles.result.1 _ (returns-clause-ended g c)
    (sym (returns-clause-fault g c) ∙ none)
