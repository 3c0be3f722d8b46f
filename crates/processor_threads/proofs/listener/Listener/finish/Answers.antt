use Rattle.std.proofs.Common.{◌≡◌, List, ℕ, length, map, sym, ap, ◌∙◌, subst, vec_len}
use Rattle.std.proofs.lemmas.List.{length-map}
use Rattle.console_monitor.specs.Ends.{inlet_queue, sent_by, taken_of}
use Rattle.processor_threads.specs.Consoles.{AreBeginnings, bytes_of, end_queue}
use Rattle.processor_threads.proofs.Lists.{empty_beginnings}
use Rattle.processor_threads.proofs.listener.Listener.finish.Goals as goal

pub returns-clause-begun : goal.returns-clause-begun
returns-clause-begun g c =
    let self = c.args.self in
    let ends = c.args.ends.items in
    let inlets = self.monitor.inlets.items in
    let many : length (map sent_by ends) ≡ vec_len self.taken =
    length-map ends sent_by ∙ sym (length-map ends end_queue) ∙ ap length c.requires ∙ length-map inlets inlet_queue ∙ sym (length-map inlets taken_of)
    ∙ sym (ap length self.takes) ∙ length-map self.taken.items bytes_of ∙ sym self.taken.ok.0 in
    subst (λ (lists : List (List ℕ)). AreBeginnings lists (map sent_by ends)) (sym c.clear_each.ensures)
    (empty_beginnings (vec_len self.taken) (map sent_by ends) many)
