-- A trade of two places of one class is an exchange.
use Rattle.std.proofs.Common.{◌≡◌, ◌≢◌, ◌⊎◌, inl, inr, ℕ, zero, suc, [], ◌∷◌, ◌<◌, ◌≤◌, List, length, Some, refl, sym, ap, subst, ◌∙◌, arith}
use Rattle.std.specs.Prelude.{slice_get, slice_index, slice_set}
use Rattle.std.proofs.lemmas.Bool.{cases_eq}
use Rattle.std.proofs.lemmas.List.{length-set, get_or-set_same, get_or-set_other}
use Rattle.state_store.specs.local_reduction.Exchanging.{AreAlike}
use Rattle.state_store.proofs.Lemmas.local_reduction.{found_there, found_within, none, both, trade, trade_all}
use Rattle.state_search.specs.Rows.{IsRowExchanged, traded_row}

-- Row exchanges are reflexive.
pub as_it_was : (classes row : List ℕ) → IsRowExchanged classes row row
as_it_was classes row = record { exchange = none classes; each = λ k l. refl; others = λ k l. refl }

-- A place of the same class as one of the list is itself in the list.
within : (classes : List ℕ) (j k : ℕ) → AreAlike classes j k → k < length classes → j < length classes
within classes j k e l = let x = found_there classes k l in found_within classes j x.0 (e ∙ x.1)

-- Row exchanges are transitive.
pub then_exchanged : (classes a b c : List ℕ) → IsRowExchanged classes a b → IsRowExchanged classes b c → IsRowExchanged classes a c
then_exchanged classes a b c f g = record {
  exchange = both classes f.exchange g.exchange;
  each = λ k l. g.each k l ∙ f.each (g.exchange.place k) (within classes (g.exchange.place k) k (g.exchange.alike k) l);
  others = λ k l. g.others k l ∙ f.others k l;
}

pub trade_exchanges : (classes row : List ℕ) (j i : ℕ) → AreAlike classes j i → j < length classes → i < length classes → length classes ≤ length row →
    IsRowExchanged classes row (traded_row row j i)
trade_exchanges classes row j i e lj li long = record {
  exchange = trade classes j i e;
  each = λ k l. trade_all classes (λ p k. slice_index (traded_row row j i) k ≡ slice_index row p) j i e at_i at_j (λ k a b. other k a b) k;
  others = λ k l. other k (λ same. omega (arith, same, l, li)) (λ same. omega (arith, same, l, lj));
}
  where
    long_j : j < length row
    long_j = omega (arith, lj, long)

    at_i : slice_index (traded_row row j i) i ≡ slice_index row j
    at_i = get_or-set_same (slice_set row j (slice_index row i)) i (slice_index row j) 0 (omega (arith, li, long, length-set row j (slice_index row i)))

    at_j : slice_index (traded_row row j i) j ≡ slice_index row i
    at_j = by (cases_eq j i)
      where
        by : (j ≡ i) ⊎ (j ≡ i → ⊥) → slice_index (traded_row row j i) j ≡ slice_index row i
        by (inl same) = ap (slice_index (traded_row row j i)) same ∙ (at_i ∙ ap (slice_index row) same)
        by (inr ne) =
            get_or-set_other (slice_set row j (slice_index row i)) i j (slice_index row j) 0 ne ∙ get_or-set_same row j (slice_index row i) 0 long_j

    other : (k : ℕ) → k ≢ i → k ≢ j → slice_index (traded_row row j i) k ≡ slice_index row k
    other k a b =
        get_or-set_other (slice_set row j (slice_index row i)) i k (slice_index row j) 0 a ∙ get_or-set_other row j k (slice_index row i) 0 b

there : (xs : List ℕ) (k : ℕ) → k < length xs → slice_get xs k ≡ Some (slice_index xs k)
there [] k l = absurd (omega (arith, l))
there (x ∷ xs) zero l = refl
there (x ∷ xs) (suc k) l = there xs k (omega (arith, l))

-- Places with equal class numbers are of one class.
pub alike : (classes : List ℕ) (j k : ℕ) → j < length classes → k < length classes → slice_index classes j ≡ slice_index classes k → AreAlike classes j k
alike classes j k lj lk e = there classes j lj ∙ (ap Some e ∙ sym (there classes k lk))

-- If two places of one class trade, the new row is an exchange of the old one.
pub traded_so : (classes row new : List ℕ) (j i : ℕ) → slice_index classes j ≡ slice_index classes i → j < length classes → i < length classes →
    length classes ≤ length row → new ≡ traded_row row j i → IsRowExchanged classes row new
traded_so classes row new j i e lj li long is =
    subst (IsRowExchanged classes row) (sym is) (trade_exchanges classes row j i (alike classes j i lj li e) lj li long)
