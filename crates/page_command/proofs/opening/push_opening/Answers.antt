use Rattle.std.proofs.Common.{◌^◌, ◌+◌, ◌++◌}
use Rattle.std.specs.Prelude.{string_bytes}
use Rattle.machine_steps.specs.machine_theory.Processors.{word_at}
use Rattle.machine_views.specs.Subjects.{processors_of}
use Rattle.omega_network.specs.Networks.{net_of}
use Rattle.page_command.specs.Openings.{parts_set, places_set, processors_set, words_set}
use Rattle.page_command.specs.Views.{view_at}
use Rattle.page_command.proofs.Lists.{joined}
use Rattle.page_command.proofs.opening.push_opening.Goals as goal

pub returns : goal.returns
unfolding parts_set
returns c =
    let m = c.args.machine.now in
    let V = view_at m in
    let states = processors_set (processors_of m) (2 ^ m.config.k) in
    let words = words_set (word_at m.config.k m.modules) m.config.shared_words in
    let places = places_set (net_of m.network) (2 ^ m.config.k) (m.config.k + 1) in
    let old = string_bytes c.args.text.now in
    let after_words = string_bytes c.push_words.new.text in
    let new = string_bytes c.push_places.new.text in
    let begun = string_bytes c.push_processors.new.text in
    joined V states (words ++ places) old begun new c.in_ok-push_processors.ensures
    (joined V words places begun after_words new c.in_ok-push_words.ensures c.in_ok-push_places.ensures)
