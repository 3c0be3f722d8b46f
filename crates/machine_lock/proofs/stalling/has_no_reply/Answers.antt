use Rattle.std.proofs.Common.{◌∙◌, sym, ap}
use Rattle.std.proofs.lemmas.Bool.{not-true}
use Rattle.std.specs.Prelude.{not, is_some, slice_get}
use Rattle.machine_steps.specs.omega_network.Networks.{net_of}
use Rattle.machine_steps.proofs.Lemmas.{none_there}
use Rattle.machine_lock.proofs.stalling.has_no_reply.Goals as goal

pub returns : goal.returns
returns c e =
    none_there ((net_of c.args.machine.now.network).replies c.args.stage c.args.wire)
    (not-true _ (ap not (sym (c.has_reply.ensures ∙ ap (λ n. is_some (slice_get ((net_of n).replies c.args.stage c.args.wire) 0)) c.network.ensures)) ∙ e))
