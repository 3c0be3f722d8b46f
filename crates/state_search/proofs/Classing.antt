-- Classes named by their first processor.
use Rattle.std.proofs.Common.{◌≡◌, ◌⊎◌, inl, inr, ℕ, ◌+◌, ◌<◌, false, List, [], ◌∷◌, ◌++◌, length, refl, sym, ap, subst, ◌∙◌, arith, length-append}
use Rattle.std.specs.Prelude.{slice_index}
use Rattle.std.proofs.lemmas.List.{get_or_append_left}
use Rattle.state_store.specs.declared.state_tables.Extent.{Extent}
use Rattle.state_store.specs.Moves.{AreClasses}
use Rattle.state_search.proofs.Lemmas.{found_at, there, up_to}

-- The first `done` processors have a class: that of a processor with the same number, or one of their own.
pub record AreNamed (e : Extent) (row classes : List ℕ) (done : ℕ) : Type 0 where
  -- The list has a class for each of the first `done` processors.
  pub all : length classes ≡ done
  -- Each has the same number in the row as the processor that names its class.
  pub alike : (k : ℕ) → k < done → slice_index row (slice_index classes k) ≡ slice_index row k
  -- If processors are not exchanged, each has a class of its own.
  pub own : e.exchanged ≡ false → (k : ℕ) → k < done → slice_index classes k ≡ k

last : (xs : List ℕ) (x : ℕ) → slice_index (xs ++ x ∷ []) (length xs) ≡ x
last [] x = refl
last (y ∷ xs) x = last xs x

-- If the next processor gets the class of one with the same number, or its own, one more processor has a class.
pub named_on : (e : Extent) (row classes new : List ℕ) (done class : ℕ) → AreNamed e row classes done → new ≡ classes ++ class ∷ [] →
    slice_index row class ≡ slice_index row done → (e.exchanged ≡ false → class ≡ done) → AreNamed e row new (done + 1)
named_on e row classes new done class h is alike own =
    subst (λ cs. AreNamed e row cs (done + 1)) (sym is)
    (record {
      all = omega (arith, length-append classes (class ∷ []), h.all);
      alike = λ k l. alike_at k (up_to k done l);
      own = λ off k l. own_at off k (up_to k done l);
    })
  where
    before : (k : ℕ) → k < done → slice_index (classes ++ class ∷ []) k ≡ slice_index classes k
    before k l = get_or_append_left classes (class ∷ []) 0 k (subst (λ n. k < n) (sym h.all) l)

    here : slice_index (classes ++ class ∷ []) done ≡ class
    here = ap (slice_index (classes ++ class ∷ [])) (sym h.all) ∙ last classes class

    alike_at : (k : ℕ) → (k < done) ⊎ (k ≡ done) → slice_index row (slice_index (classes ++ class ∷ []) k) ≡ slice_index row k
    alike_at k (inl l) = ap (slice_index row) (before k l) ∙ h.alike k l
    alike_at k (inr same) = ap (λ j. slice_index row (slice_index (classes ++ class ∷ []) j)) same
        ∙ (ap (slice_index row) here ∙ (alike ∙ ap (slice_index row) (sym same)))

    own_at : e.exchanged ≡ false → (k : ℕ) → (k < done) ⊎ (k ≡ done) → slice_index (classes ++ class ∷ []) k ≡ k
    own_at off k (inl l) = before k l ∙ h.own off k l
    own_at off k (inr same) = ap (slice_index (classes ++ class ∷ [])) same ∙ (here ∙ (own off ∙ sym same))

-- Once every processor has a class, the list has the classes of the processors.
pub are_classes : (e : Extent) (row classes : List ℕ) → AreNamed e row classes e.processors → AreClasses e classes
are_classes e row classes h = record {
  all = h.all;
  own = λ off j k few alike.
      let lk : k < length classes = subst (λ n. k < n) (sym h.all) few in
      let found = found_at classes j (slice_index classes k) 0 (alike ∙ there classes k 0 lk) in
      sym (h.own off j (subst (λ n. j < n) h.all found.0)) ∙ (found.1 ∙ h.own off k few);
}

-- Once every processor has a class, those of one class have equal numbers in the row.
pub alike_rows : (e : Extent) (row classes : List ℕ) → AreNamed e row classes e.processors → (j k : ℕ) → j < e.processors → k < e.processors →
    slice_index classes j ≡ slice_index classes k → slice_index row j ≡ slice_index row k
alike_rows e row classes h j k lj lk same = sym (h.alike j lj) ∙ (ap (slice_index row) same ∙ h.alike k lk)
