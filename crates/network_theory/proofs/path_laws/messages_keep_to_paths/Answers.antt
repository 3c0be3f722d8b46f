use Rattle.network_theory.proofs.Paths.{empty_networks, injecting, moving_down, moving_up, others_do_not_count}
use Rattle.network_theory.proofs.Paths.{replies_arrive, requests_arrive, serving, taking}
use Rattle.network_theory.proofs.path_laws.messages_keep_to_paths.Goals as goal

pub returns-clause-begins : goal.returns-clause-begins
returns-clause-begins c = empty_networks

pub returns-clause-others : goal.returns-clause-others
returns-clause-others c = others_do_not_count

pub returns-clause-injected : goal.returns-clause-injected
returns-clause-injected c = injecting

pub returns-clause-up : goal.returns-clause-up
returns-clause-up c = moving_up

pub returns-clause-down : goal.returns-clause-down
returns-clause-down c = moving_down c.replies_go_back_the_same_way.ensures.each

pub returns-clause-served : goal.returns-clause-served
returns-clause-served c = serving c.path_ends_at_the_module.ensures

pub returns-clause-taken : goal.returns-clause-taken
returns-clause-taken c = taking

pub returns-clause-requests : goal.returns-clause-requests
returns-clause-requests c = requests_arrive c.path_ends_at_the_module.ensures

pub returns-clause-replies : goal.returns-clause-replies
returns-clause-replies c = replies_arrive
