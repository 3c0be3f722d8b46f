-- Standing for is an equivalence of results.
use Rattle.std.proofs.Common.{refl, sym, ap, ◌∙◌}
use Rattle.std.specs.Prelude.{ℕ, List, slice_get}
use Rattle.local_reduction.specs.Results.{FinalResult, StandsFor}
use Rattle.local_reduction.proofs.Exchanging.{none, back, both}

module _ (classes : List ℕ) where
  -- Each result stands for itself.
  pub stands_for_itself : (r : FinalResult) → StandsFor classes r r
  stands_for_itself r = (none classes, record { words = refl; each = λ k. refl })

  -- If r stands for q, and q for p, r stands for p.
  pub stands_for_on : (r q p : FinalResult) → StandsFor classes r q → StandsFor classes q p → StandsFor classes r p
  stands_for_on r q p x y = (
    both classes x.0 y.0,
    record { words = y.1.words ∙ x.1.words; each = λ k. y.1.each k ∙ x.1.each (y.0.place k) },
  )

  -- If r stands for q, q stands for r.
  pub stands_for_back : (r q : FinalResult) → StandsFor classes r q → StandsFor classes q r
  stands_for_back r q x = (
    back classes x.0,
    record {
      words = sym x.1.words;
      each = λ i. ap (slice_get r.processors) (sym (x.0.taken i)) ∙ sym (x.1.each (x.0.taker i));
    },
  )
