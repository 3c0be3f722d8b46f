-- If no processors are exchanged, a result stands only for itself.
use Rattle.std.proofs.Common.{◌≡◌, ℕ, ◌^◌, ◌<◌, List, Some, length, refl, sym, ap, subst, ◌∙◌, arith}
use Rattle.std.specs.Prelude.{Contains, slice_get, slice_index_or}
use Rattle.std.proofs.lemmas.List.{ext_get_or}
use Rattle.std.proofs.lemmas.List.FromFn.{length-map-range_with_len}
use Rattle.std.proofs.lemmas.Option.{slice_get-get_or}
use Rattle.machine_steps.specs.Machines.{MachineLists}
use Rattle.exploration.specs.Endings.{AreSingle, IsOnce, IsStoodFor}
use Rattle.exploration.specs.Results.{IsMachineResult}
use Rattle.exploration.specs.local_reduction.Results.{FinalResult, StandsFor}
use Rattle.observed_results.specs.Lines.{no_processor}
use Rattle.refinement_command.specs.Refinements.{AreResults}

stands_for_itself : (classes : List ℕ) (r : FinalResult) → StandsFor classes r r
stands_for_itself classes r = (
  record { place = λ k. k; taker = λ k. k; taken = λ i. refl; takes = λ k. refl; alike = λ k. refl },
  record { words = refl; each = λ k. refl },
)

some_same : {X : Type 0} (x y : X) → Some x ≡ Some y → x ≡ y
some_same x y e = cc

module _ (m : MachineLists) where
  -- A result of the machine has all its processors.
  has_processors : (r : FinalResult) → IsMachineResult m r → length r.processors ≡ 2 ^ m.config.k
  has_processors r x = ap (λ (q : FinalResult). length q.processors) x.3 ∙ length-map-range_with_len _ 0 (2 ^ m.config.k)

  -- A result of single processors stands only for itself.
  stood_for : (classes : List ℕ) → AreSingle (2 ^ m.config.k) classes → (r q : FinalResult) → IsMachineResult m r → IsMachineResult m q →
      StandsFor classes r q → r ≡ q
  stood_for classes single r q one other x = λ i. record { processors = all i; words = sym x.1.words i }
    where
      same : (k : ℕ) → k < length r.processors → slice_index_or r.processors k no_processor ≡ slice_index_or q.processors k no_processor
      same k within =
          let count = has_processors r one in
          let also = has_processors q other in
          let here = slice_get-get_or r.processors k no_processor within in
          let there = slice_get-get_or q.processors k no_processor (omega (arith, within, count, also)) in
          let place = single (x.0.place k) k (omega (arith, within, count)) (x.0.alike k) in
          some_same _ _ (sym here ∙ (ap (slice_get r.processors) (sym place) ∙ (sym (x.1.each k) ∙ there)))

      all : r.processors ≡ q.processors
      all = ext_get_or no_processor r.processors q.processors (has_processors r one ∙ sym (has_processors q other)) same

  -- Without exchanges, the results found are those of the machine.
  pub all_alone : (classes : List ℕ) (results : List FinalResult) →
      ((r q : FinalResult) → Contains results r → StandsFor classes r q → IsMachineResult m q) →
      ((q : FinalResult) → IsMachineResult m q → IsStoodFor classes results q) → IsOnce results → AreSingle (2 ^ m.config.k) classes →
      AreResults m results
  all_alone classes results sound complete once single = record {
    sound = λ r inside. sound r r inside (stands_for_itself classes r);
    complete = λ q other.
        let x = complete q other in
        let one = sound x.0 x.0 x.1 (stands_for_itself classes x.0) in
        subst (Contains results) (stood_for classes single x.0 q one other x.2) x.1;
    once = once;
  }
