-- The results found, run by run.
use Rattle.std.proofs.Common.{◌≡◌, ℕ, Bool, Option, zero, suc, ◌+◌, List, [], ◌∷◌, ◌++◌, length, Some, refl, sym, ap, ◌∙◌, subst, append_assoc, arith}
use Rattle.std.specs.Prelude.{slice_get}
use Rattle.std.proofs.lemmas.List.{append-nil, length-append}
use Rattle.flat_machine.specs.declared.config.Config.{Config}
use Rattle.elf_image.specs.Images.{ImageContents}
use Rattle.hunt_command.specs.declared.policy.Policy.{Policy}
use Rattle.hunt_command.specs.Findings.{FindingState, FindingsState, if_unfinished, noted}
use Rattle.hunt_command.specs.Hunts.{AreFound, IsResultOf, ResultState, found_from, greater, greatest_from, number_at, unfinished_from}

found_more : (start place : ℕ) (fs : List FindingState) (rs : List ResultState) (r : ResultState) →
    found_from start place fs (rs ++ r ∷ []) ≡ noted (found_from start place fs rs) r.text r.printed (number_at start (place + length rs))
found_more start place fs [] r = ap (λ n. noted fs r.text r.printed (number_at start n)) (let same : place ≡ place + 0 = omega arith in same)
found_more start place fs (x ∷ rs) r =
    found_more start (place + 1) (noted fs x.text x.printed (number_at start place)) rs r
    ∙ ap (λ n. noted (found_from start (place + 1) (noted fs x.text x.printed (number_at start place)) rs) r.text r.printed (number_at start n))
    (let same : place + 1 + length rs ≡ place + suc (length rs) = omega arith in same)

unfinished_more : (start place : ℕ) (rs : List ResultState) (r : ResultState) →
    unfinished_from start place (rs ++ r ∷ [])
    ≡ unfinished_from start place rs ++ if_unfinished r.end (number_at start (place + length rs))
unfinished_more start place [] r =
    append-nil (if_unfinished r.end (number_at start place))
    ∙ ap (λ n. if_unfinished r.end (number_at start n)) (let same : place ≡ place + 0 = omega arith in same)
unfinished_more start place (x ∷ rs) r =
    ap (λ ns. if_unfinished x.end (number_at start place) ++ ns) (unfinished_more start (place + 1) rs r)
    ∙ (sym (append_assoc (if_unfinished x.end (number_at start place)) (unfinished_from start (place + 1) rs)
    (if_unfinished r.end (number_at start (place + 1 + length rs))))
    ∙ ap (λ n. unfinished_from start place (x ∷ rs) ++ if_unfinished r.end (number_at start n))
    (let same : place + 1 + length rs ≡ place + suc (length rs) = omega arith in same))

greatest_more : (status : ℕ) (rs : List ResultState) (r : ResultState) → greatest_from status (rs ++ r ∷ []) ≡ greater r.status (greatest_from status rs)
greatest_more status [] r = refl
greatest_more status (x ∷ rs) r = greatest_more (greater x.status status) rs r

results_more : (observed : Option (List Bool)) (c : Config) (image : ImageContents) (policy : Policy) (start place : ℕ) (rs : List ResultState)
    (r : ResultState) →
    ((i : ℕ) (x : ResultState) → slice_get rs i ≡ Some x → IsResultOf observed c image policy (number_at start (place + i)) x) →
    IsResultOf observed c image policy (number_at start (place + length rs)) r →
    (i : ℕ) (x : ResultState) → slice_get (rs ++ r ∷ []) i ≡ Some x → IsResultOf observed c image policy (number_at start (place + i)) x
results_more observed c image policy start place [] r each one zero x there =
    let same : r ≡ x = cc in subst (IsResultOf observed c image policy (number_at start (place + 0))) same one
results_more observed c image policy start place [] r each one (suc i) x there = absurd (cc)
results_more observed c image policy start place (y ∷ rs) r each one zero x there = each zero x there
results_more observed c image policy start place (y ∷ rs) r each one (suc i) x there =
    subst (λ n. IsResultOf observed c image policy (number_at start n) x) (step i)
    (results_more observed c image policy start (place + 1) rs r
    (λ j z at. subst (λ n. IsResultOf observed c image policy (number_at start n) z) (sym (step j)) (each (suc j) z at))
    (subst (λ n. IsResultOf observed c image policy (number_at start n) r) (sym (step (length rs))) one) i x there)
  where
    step : (j : ℕ) → place + 1 + j ≡ place + suc j
    step j = omega arith

-- In no runs, no result is found, no run is unfinished, and the greatest exit status is 0.
pub none_found : (observed : Option (List Bool)) (c : Config) (image : ImageContents) (policy : Policy) (start : ℕ) →
    AreFound observed c image policy start 0 [] [] 0
none_found observed c image policy start = record {
  results = [];
  all = refl;
  each = λ place r there. absurd (cc);
  are = refl;
  those = refl;
  exit = refl;
}

-- After one more run, its result and its end are noted, and the greatest exit status is the greater of its own and that before.
pub one_found : (observed : Option (List Bool)) (c : Config) (image : ImageContents) (policy : Policy) (start place : ℕ) (fs : List FindingState)
    (unfinished : List ℕ) (greatest number : ℕ) (r : ResultState) → AreFound observed c image policy start place fs unfinished greatest →
    number ≡ number_at start place → IsResultOf observed c image policy number r →
    AreFound observed c image policy start (place + 1) (noted fs r.text r.printed number) (unfinished ++ if_unfinished r.end number) (greater r.status greatest)
one_found observed c image policy start place fs unfinished greatest number r f is one = record {
  results = f.results ++ r ∷ [];
  all = length-append f.results (r ∷ []) ∙ ap (λ n. n + 1) f.all;
  each = λ i x there. subst (λ n. IsResultOf observed c image policy (number_at start n) x) (let same : 0 + i ≡ i = omega arith in same)
      (results_more observed c image policy start 0 f.results r
      (λ j y at. subst (λ n. IsResultOf observed c image policy (number_at start n) y) (let same : j ≡ 0 + j = omega arith in same) (f.each j y at))
      (subst (λ n. IsResultOf observed c image policy n r) (is ∙ here) one) i x there);
  are = ap (λ (xs : List FindingState). noted xs r.text r.printed number) f.are ∙ ap (noted (found_from start 0 [] f.results) r.text r.printed) (is ∙ here)
      ∙ sym (found_more start 0 [] f.results r);
  those = ap (λ ns. ns ++ if_unfinished r.end number) f.those
      ∙ (ap (λ n. unfinished_from start 0 f.results ++ if_unfinished r.end n) (is ∙ here) ∙ sym (unfinished_more start 0 f.results r));
  exit = ap (greater r.status) f.exit ∙ sym (greatest_more 0 f.results r);
}
  where
    here : number_at start place ≡ number_at start (0 + length f.results)
    here = ap (number_at start) (let all = f.all in let same : place ≡ 0 + length f.results = omega (arith, all) in same)

-- The same, for findings that have noted first the result and then the end.
pub one_observed : (observed : Option (List Bool)) (c : Config) (image : ImageContents) (policy : Policy) (start place number : ℕ)
    (old middle new : FindingsState) (greatest greatest' : ℕ) (r : ResultState) →
    AreFound observed c image policy start place old.found old.unfinished greatest → number ≡ number_at start place →
    IsResultOf observed c image policy (number_at start place) r →
    middle ≡ record old { found = noted old.found r.text r.printed number; noted = old.noted + 1 } →
    new ≡ record middle { unfinished = middle.unfinished ++ if_unfinished r.end number } → greatest' ≡ greater r.status greatest →
    AreFound observed c image policy start (place + 1) new.found new.unfinished greatest'
one_observed observed c image policy start place number old middle new greatest greatest' r f is one next ended more =
    subst (λ (x : FindingsState × ℕ). AreFound observed c image policy start (place + 1) x.0.found x.0.unfinished x.1) (λ i. (sym both i, sym more i))
    (one_found observed c image policy start place old.found old.unfinished greatest number r f is
    (subst (λ n. IsResultOf observed c image policy n r) (sym is) one))
  where
    both : new ≡ record {
      found = noted old.found r.text r.printed number;
      noted = old.noted + 1;
      unfinished = old.unfinished ++ if_unfinished r.end number;
    }
    both = ended ∙ ap (λ (m : FindingsState). record m { unfinished = m.unfinished ++ if_unfinished r.end number }) next
