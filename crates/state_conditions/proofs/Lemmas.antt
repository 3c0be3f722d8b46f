-- Results that stand for others have what conditions see exchanged.
use Rattle.std.proofs.Common.{List, ℕ, map, ap, sym, ◌∙◌}
use Rattle.std.specs.Prelude.{option_map}
use Rattle.std.proofs.lemmas.Option.{slice_get-map}
use Rattle.state_store.specs.local_reduction.Results.{FinalResult, StandsFor}
use Rattle.state_conditions.specs.Laws.{AreExchanged}
use Rattle.state_conditions.specs.Results.{processor_state}

-- If a result stands for another, what conditions see of its processors is exchanged in the other.
pub states_exchanged : (classes : List ℕ) (r q : FinalResult) → StandsFor classes r q →
    AreExchanged (map processor_state r.processors) (map processor_state q.processors)
states_exchanged classes r q x = record {
  place = x.0.place;
  taker = x.0.taker;
  taken = x.0.taken;
  takes = x.0.takes;
  each = λ k.
      slice_get-map processor_state q.processors k
      ∙ (ap (option_map processor_state) (x.1.each k) ∙ sym (slice_get-map processor_state r.processors (x.0.place k)));
}
