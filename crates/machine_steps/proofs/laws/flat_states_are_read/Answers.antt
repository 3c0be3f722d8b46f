use Rattle.std.proofs.Common.{◌≤◌, ◌<◌, Some, sym, ap, ◌∙◌, subst}
use Rattle.std.proofs.lemmas.List.FromFn.{length-map-range_with_len}
use Rattle.machine_theory.specs.Processors.{no_processor, word_at}
use Rattle.machine_theory.proofs.Lemmas.{found_within}
use Rattle.machine_steps.specs.Openings.{flat_state}
use Rattle.machine_steps.specs.Laws.{FlatProcessorsAreRead, FlatWordsAreRead}
use Rattle.machine_steps.proofs.Flattening.{count_is, none_past, state_at, word_is}
use Rattle.machine_steps.proofs.laws.flat_states_are_read.Goals as goal

processors : FlatProcessorsAreRead
processors m is = (
  count_is m is,
  λ p within. found_within (flat_state m).processors p no_processor (subst (λ n. p < n) (sym (count_is m is)) within) ∙ ap Some (state_at m is p),
  λ p past. none_past (flat_state m).processors p (subst (λ n. n ≤ p) (sym (count_is m is)) past),
)

words : FlatWordsAreRead
words m is = (length-map-range_with_len (word_at m.config.k m.modules) 0 m.config.shared_words, word_is m is)

pub returns-clause-processors : goal.returns-clause-processors
returns-clause-processors c = processors

pub returns-clause-words : goal.returns-clause-words
returns-clause-words c = words
