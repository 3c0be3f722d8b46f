use Rattle.std.proofs.Common.{◌≡◌, sym, ap, subst, ◌∙◌, arith}
use Rattle.std.specs.Prelude.{◌↔◌}
use Rattle.flat_machine.specs.State.{FlatState}
use Rattle.std.proofs.lemmas.Result.{err_from_is_err_and}
use Rattle.local_reduction.specs.Results.{FinalResult, IsFlatResult}
use Rattle.state_graph.specs.Laws.{IsTerminationOf}
use Rattle.machine_steps.specs.Openings.{flat_state}
use Rattle.exploration.specs.Results.{IsMachineResult}
use Rattle.exploration.specs.Fairness.{IsFairnessOf}
use Rattle.exploration.specs.States.{AreAllStates}
use Rattle.state_search.specs.state_store.declared.state_tables.Extent.{Extent}
use Rattle.state_search.specs.state_store.Opening.{flat_of}
use Rattle.exploration.proofs.Exploring.{are_read, ends_as, few_processors, flat_is, of_extent, wide, single}
use Rattle.exploration.proofs.run.explore_as.Goals as goal

pub explored_by_width-requires : goal.explored_by_width-requires
explored_by_width-requires g c =
    let seen = are_read c.machine_is_well_formed.ensures c.extent_of-extent.ensures (c.as_slice-all.ensures.value ∙ c.in-Ok.ensures) c.in-Ok-words_of.ensures in
    let few = few_processors c.args.machine.now.config.k c.machine_is_well_formed.ensures.limits.stages in
    record { cores = of_extent seen; room = omega (arith, seen.processors, few); words = wide seen }

pub returns : goal.returns
returns g c =
    let m = c.args.machine.now in
    let seen = are_read c.machine_is_well_formed.ensures c.extent_of-extent.ensures (c.as_slice-all.ensures.value ∙ c.in-Ok.ensures) c.in-Ok-words_of.ensures in
    let flat : flat_of c.deref-code.result.now c.as_slice-all.result.now c.in-Ok-words_of.words ≡ flat_state m =
    ap (λ k. flat_of k c.as_slice-all.result.now c.in-Ok-words_of.words) (c.deref-code.ensures ∙ c.code.ensures) ∙ flat_is seen in
    let law : (r : FinalResult) → IsMachineResult m r ↔ IsFlatResult (flat_state m) r =
    λ r. c.results_are_those_of_the_flat_machine.ensures.results m r c.machine_is_well_formed.ensures c.requires.idle in
    let found = c.in_ok-explored.explored in
    record {
      sound = λ r q there stands. (law q).1
          (subst (λ (n : FlatState). IsFlatResult n q) flat (c.in_ok-explored.ensures.sound r q there stands));
      complete = λ q h. c.in_ok-explored.ensures.complete q (subst (λ (n : FlatState). IsFlatResult n q) (sym flat) ((law q).0 h));
      once = c.in_ok-explored.ensures.once;
      classes = c.in_ok-explored.ensures.classes.all ∙ seen.processors;
      single = λ off. single seen.processors c.in_ok-explored.ensures.classes
          (ap (λ (e : Extent). e.exchanged) c.extent_of-extent.ensures ∙ off);
      termination = subst (λ (n : FlatState). IsTerminationOf n found.termination) flat c.in_ok-explored.ensures.termination;
      fairness = subst (λ (n : FlatState). IsFairnessOf n found.fairness) flat c.in_ok-explored.ensures.fairness;
      states = subst (λ (n : FlatState). AreAllStates n found.classes.items found.results.items found.termination found.states) flat
          c.in_ok-explored.ensures.states;
      few = c.in_ok-explored.ensures.few;
      given_up = tt;
    }

pub returns-in_err-explored-clause-given_up : goal.returns-in_err-explored-clause-given_up
returns-in_err-explored-clause-given_up g c =
    let m = c.args.machine.now in
    let seen = are_read c.machine_is_well_formed.ensures c.extent_of-extent.ensures (c.as_slice-all.ensures.value ∙ c.in-Ok.ensures) c.in-Ok-words_of.ensures in
    let flat : flat_of c.deref-code.result.now c.as_slice-all.result.now c.in-Ok-words_of.words ≡ flat_state m =
    ap (λ k. flat_of k c.as_slice-all.result.now c.in-Ok-words_of.words) (c.deref-code.ensures ∙ c.code.ensures) ∙ flat_is seen in
    let law : (r : FinalResult) → IsMachineResult m r ↔ IsFlatResult (flat_state m) r =
    λ r. c.results_are_those_of_the_flat_machine.ensures.results m r c.machine_is_well_formed.ensures c.requires.idle in
    let p = err_from_is_err_and c.from_residual.result c.from_residual.ensures.1 in
    rw (p.1, p.2)
    (ends_as _ (IsMachineResult m) _ (flat_state m) c.args.wish.limit
    (λ r h. (law r).1 (subst (λ (n : FlatState). IsFlatResult n r) flat h)) flat _ c.in_err-explored.ensures.given_up)
