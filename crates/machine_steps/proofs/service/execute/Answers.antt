use Rattle.std.proofs.Common.{◌∙◌, sym}
use Rattle.machine_steps.proofs.service.execute.Goals as goal

-- The request is the one that was found at the module.
pub serve-requires-clause-leader : goal.serve-requires-clause-leader
serve-requires-clause-leader c = c.requires.leader c.in-Some.request (sym c.module_front.ensures ∙ c.in-Some.is)
