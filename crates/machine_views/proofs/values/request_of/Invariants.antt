use Rattle.std.proofs.Common.{suc, ◌==◌}
use Rattle.messages.specs.declared.message.Request.{Request}
use Rattle.omega_network.specs.Networks.{net_of}
use Rattle.machine_views.proofs.Finding.{NonePasses}
use Rattle.machine_views.proofs.values.request_of.Given as goal

abbrev pub invariant-loop-place : goal.invariant-loop-place
invariant-loop-place l = NonePasses (λ (x : Request). x.leader == l.leader) ((net_of l.network).requests (suc l.stage) l.wire) l.place
