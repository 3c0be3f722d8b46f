-- Counts of processors that are in other places.
use Rattle.std.proofs.Common.{◌≡◌, ◌≢◌, ◌+◌, ℕ, zero, suc, ◌≤◌, Bool, true, false, not, cond, ◌&&◌, ◌==◌}
use Rattle.std.proofs.Common.{List, [], ◌∷◌, Some, map, refl, sym, ap, ◌∙◌, arith}
use Rattle.std.specs.Prelude.{count_by, option_map, slice_get, slice_set}
use Rattle.std.specs.List.{list_all, list_any}
use Rattle.std.proofs.lemmas.List.Sums.{sum_by-cons}
use Rattle.std.proofs.lemmas.Option.{slice_get-map}
use Rattle.flat_machine.proofs.Lemmas.{set_other}
use Rattle.state_conditions.specs.declared.condition.Comparison.{Comparison}
use Rattle.state_conditions.specs.declared.condition.Group.TheVariants as group
use Rattle.state_conditions.specs.declared.condition.ProcessorState.{ProcessorState}
use Rattle.state_conditions.specs.declared.condition.Subject.{Subject}
use Rattle.state_conditions.specs.declared.condition.Subject.TheVariants as subject
use Rattle.state_conditions.specs.declared.property.Kind.TheVariants as kind
use Rattle.state_conditions.specs.Conditions.{compares, holds, is_of, number_of}
use Rattle.state_conditions.specs.Laws.{AreExchanged, ExchangesKeepConditions}

-- ---- marks

-- how many marks are set
trues : List Bool → ℕ
trues [] = 0
trues (b ∷ bs) = cond b 1 0 + trues bs

nowhere_there : {X : Type 0} (i : ℕ) (x : X) → slice_get [] i ≡ Some x → ⊥
nowhere_there i x e = cc

-- If a mark that is set is cleared, one less is set.
one_less : (bs : List Bool) (i : ℕ) → slice_get bs i ≡ Some true → trues bs ≡ suc (trues (slice_set bs i false))
unfolding trues
one_less [] i e = absurd (nowhere_there i true e)
one_less (b ∷ bs) zero e = let is : b ≡ true = cc in rw is (omega arith)
one_less (b ∷ bs) (suc i) e = let less = one_less bs i e in omega (arith, less)

-- If each mark that is set has one of its own in another list, no more are set than there.
at_most : (some others : List Bool) (place : ℕ → ℕ) → ((j k : ℕ) → place j ≡ place k → j ≡ k) →
    ((k : ℕ) → slice_get some k ≡ Some true → slice_get others (place k) ≡ Some true) → trues some ≤ trues others
unfolding trues
at_most [] others place apart each = omega arith
at_most (false ∷ some) others place apart each =
    let rest = at_most some others (λ k. place (suc k)) (λ j k e. let same = apart (suc j) (suc k) e in omega (arith, same)) (λ k e. each (suc k) e) in
    omega (arith, rest)
at_most (true ∷ some) others place apart each =
    let ne : (k : ℕ) → place (suc k) ≢ place 0 = λ k e. let same = apart (suc k) 0 e in omega (arith, same) in
    let rest = at_most some (slice_set others (place 0) false) (λ k. place (suc k))
    (λ j k e. let same = apart (suc j) (suc k) e in omega (arith, same))
    (λ k e. set_other others (place 0) (place (suc k)) false (ne k) ∙ each (suc k) e) in
    let less = one_less others (place 0) (each 0 refl) in
    omega (arith, rest, less)

-- ---- counts

counted : (test : ProcessorState → Bool) (ps : List ProcessorState) → count_by test ps ≡ trues (map test ps)
unfolding trues
counted test [] = refl
counted test (p ∷ ps) =
    sum_by-cons (λ (q : ProcessorState). cond (test q) 1 0) p ps ∙ ap (λ n. cond (test p) 1 0 + n) (counted test ps)

back : (some others : List ProcessorState) → AreExchanged some others → AreExchanged others some
back some others x = record {
  place = x.taker;
  taker = x.place;
  taken = x.takes;
  takes = x.taken;
  each = λ i. ap (slice_get some) (sym (x.taken i)) ∙ sym (x.each (x.taker i));
}

module _ (test : ProcessorState → Bool) where
  no_more : (some others : List ProcessorState) → AreExchanged some others → trues (map test others) ≤ trues (map test some)
  no_more some others x =
      at_most (map test others) (map test some) x.place (λ j k e. sym (x.takes j) ∙ (ap x.taker e ∙ x.takes k))
      (λ k e. slice_get-map test some (x.place k)
      ∙ (ap (option_map test) (sym (x.each k)) ∙ (sym (slice_get-map test others k) ∙ e)))

  count_same : (some others : List ProcessorState) → AreExchanged some others → count_by test others ≡ count_by test some
  count_same some others x =
      let less = no_more some others x in
      let more = no_more others some (back some others x) in
      let one = counted test some in
      let other = counted test others in
      omega (arith, less, more, one, other)

number_same : (some others : List ProcessorState) → AreExchanged some others → (words : List ℕ) (s : Subject) →
    number_of s others words ≡ number_of s some words
number_same some others x words (subject.Word word) = refl
number_same some others x words (subject.Count g) = count_same (is_of g) some others x

holds_same : (condition : List (List Comparison)) (some others : List ProcessorState) (words : List ℕ) → AreExchanged some others →
    holds condition others words ≡ holds condition some words
holds_same condition some others words x =
    ap (λ (number : Subject → ℕ). list_any (λ parts. list_all (λ (c : Comparison). compares c.relation (number c.subject) c.value) parts) condition)
    (λ i s. number_same some others x words s i)

-- A state breaks a property exactly if it does so with its processors in other places.
pub kept : ExchangesKeepConditions
kept kind.Never condition some others words x = holds_same condition some others words x
kept kind.Always condition some others words x = ap not (holds_same condition some others words x)
kept kind.Finally condition some others words x =
    let running = count_same (is_of group.Running) some others x in
    λ i. not (holds_same condition some others words x i) && running i == 0
