use Rattle.std.proofs.Common.{◌==◌}
use Rattle.messages.specs.declared.message.Reply.{Reply}
use Rattle.omega_network.specs.Networks.{net_of}
use Rattle.machine_views.proofs.Finding.{NonePasses}
use Rattle.machine_views.proofs.values.reply_of.Given as goal

abbrev pub invariant-loop-place : goal.invariant-loop-place
invariant-loop-place l = NonePasses (λ (x : Reply). x.leader == l.leader) ((net_of l.network).replies l.stage l.wire) l.place
