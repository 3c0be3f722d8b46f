use Rattle.std.proofs.Common.{◌≡◌, [], refl, sym, ap, subst}
use Rattle.machine_steps.specs.messages.Network.{IsEmptyNet, empty_net}
use Rattle.machine_steps.specs.omega_network.Networks.{net_of}
use Rattle.machine_steps.specs.machine_theory.Theory as theory
use Rattle.machine_steps.specs.machine_theory.Processors.{ObservedCore}
use Rattle.machine_steps.specs.machine_theory.Steps.{machine_of_parts}
use Rattle.study_command.proofs.figures.count_run.Goals as goal

pub returns-clause-counted : goal.returns-clause-counted
unfolding machine_of_parts
returns-clause-counted c =
    let opening = c.in_ok-machine.machine in
    let opens = c.in_ok-machine.ensures.opening in
    let at_first : net_of opening.network ≡ empty_net = ap (λ (m : theory.Machine ObservedCore). m.net) (opens.machine (λ p. [])) in
    let nothing : IsEmptyNet (net_of opening.network) = subst IsEmptyNet (sym at_first) (λ d w. (refl, refl, refl)) in
    record {
      opening = opening;
      opens = opens;
      are = c.in_ok-counts.ensures.counts;
      most = c.in_ok-counts.ensures.longest nothing;
    }
