-- Each step updates the counts.
use Rattle.std.proofs.Common.{◌≡◌, ℕ, ◌+◌, ◌<◌, ◌⊎◌, inl, inr, List, [], ◌∷◌, ◌++◌, length, Option, Some, None, refl, sym, ap, ◌∙◌, subst, arith}
use Rattle.std.specs.Prelude.{slice_set, slice_index, replicate}
use Rattle.std.proofs.lemmas.List.{get_or-set_same, get_or-set_other, get_or-replicate, length-append, length-replicate, length-set}
use Rattle.std.proofs.lemmas.Bool.{cases_eq}
use Rattle.steps.specs.Answered.{Answer}
use Rattle.steps.specs.Groups.{groups_after, groups_from, groups_of, no_groups}
use Rattle.run_counts.specs.Counting.{AreTimes, Noted, NotesGoOn, bumped, hit, observe, noted_from, noted_of, size_of, times}
use Rattle.run_counts.specs.Counts.{CountsGoOn}
use Rattle.run_counts.specs.Keys as key

-- ---- one count

no_times : (key : Noted → Option ℕ) (places : ℕ) → AreTimes key places [] (replicate places 0)
no_times key places = record { all = length-replicate places 0; each = λ place within. get_or-replicate places place 0 0 within }

times_more : (key : Noted → Option ℕ) (place : ℕ) (xs : List Noted) (x : Noted) → times key place (xs ++ x ∷ []) ≡ times key place xs + hit (key x) place
times_more key place [] x = omega arith
times_more key place (y ∷ xs) x = (let more = times_more key place xs x in omega (arith, more))

hit_here : (place : ℕ) → hit (Some place) place ≡ 1
hit_here place = grind arith

hit_other : (named place : ℕ) → (place ≡ named → ⊥) → hit (Some named) place ≡ 0
hit_other named place other = grind arith

module _ (key : Noted → Option ℕ) (places : ℕ) (xs : List Noted) (counts : List ℕ) (are : AreTimes key places xs counts) (x : Noted) where
  by_place : (named : Option ℕ) → key x ≡ named → AreTimes key places (xs ++ x ∷ []) (bumped counts named)
  by_place None is = record {
    all = are.all;
    each = λ place within.
        let more = times_more key place xs x in
        let none : hit (key x) place ≡ 0 = ap (λ n. hit n place) is in
        let old = are.each place within in
        omega (arith, more, none, old);
  }
  by_place (Some named) is = record {
    all = length-set counts named (slice_index counts named + 1) ∙ are.all;
    each = λ place within. at place within (cases_eq place named);
  }
    where
      at : (place : ℕ) → place < places → (place ≡ named) ⊎ (place ≡ named → ⊥) →
          slice_index (slice_set counts named (slice_index counts named + 1)) place ≡ times key place (xs ++ x ∷ [])
      at place within (inl same) =
          let inside : named < length counts = subst (λ p. p < length counts) same (subst (λ n. place < n) (sym are.all) within) in
          let set : slice_index (slice_set counts named (slice_index counts named + 1)) place ≡ slice_index counts named + 1 =
          ap (λ p. slice_index (slice_set counts named (slice_index counts named + 1)) p) same
          ∙ get_or-set_same counts named (slice_index counts named + 1) 0 inside in
          let old : slice_index counts named ≡ times key place xs = ap (λ p. slice_index counts p) (sym same) ∙ are.each place within in
          let one : hit (key x) place ≡ 1 = ap (λ n. hit n place) is ∙ ap (λ p. hit (Some named) p) same ∙ hit_here named in
          let more = times_more key place xs x in
          set ∙ omega (arith, old, one, more)
      at place within (inr other) =
          let kept : slice_index (slice_set counts named (slice_index counts named + 1)) place ≡ slice_index counts place =
          get_or-set_other counts named place (slice_index counts named + 1) 0 other in
          let old = are.each place within in
          let none : hit (key x) place ≡ 0 = ap (λ n. hit n place) is ∙ hit_other named place other in
          let more = times_more key place xs x in
          kept ∙ omega (arith, old, none, more)

  times_go_on : AreTimes key places (xs ++ x ∷ []) (bumped counts (key x))
  times_go_on = by_place (key x) refl

-- ---- all counts

-- The counts of no step are 0, and the counts of some steps, updated by one more, are those of all of them.
pub counts_more : CountsGoOn
counts_more = record {
  none = record {
    all = refl;
    kinds = no_times (λ x. key.kind x.step) 5;
    turns = no_times (λ x. key.turn x.step) 64;
    retired = no_times (λ x. key.retired x.step x.outcome) 64;
    moved = no_times (λ x. key.moved x.step x.outcome) 6;
    combined = no_times (λ x. key.combined x.step x.outcome) 6;
    returned = no_times (λ x. key.returned x.step x.outcome) 6;
    split = no_times (λ x. key.split x.step x.outcome) 6;
    served = no_times (λ x. key.service x.step) 64;
    groups = no_times (λ x. key.group x.step x.outcome x.size) 4160;
  };
  more = λ xs t x are. record {
    all = ap (λ n. n + 1) are.all ∙ sym (length-append xs (x ∷ []));
    kinds = times_go_on (λ x. key.kind x.step) 5 xs t.kinds are.kinds x;
    turns = times_go_on (λ x. key.turn x.step) 64 xs t.turns are.turns x;
    retired = times_go_on (λ x. key.retired x.step x.outcome) 64 xs t.retired are.retired x;
    moved = times_go_on (λ x. key.moved x.step x.outcome) 6 xs t.moved are.moved x;
    combined = times_go_on (λ x. key.combined x.step x.outcome) 6 xs t.combined are.combined x;
    returned = times_go_on (λ x. key.returned x.step x.outcome) 6 xs t.returned are.returned x;
    split = times_go_on (λ x. key.split x.step x.outcome) 6 xs t.split are.split x;
    served = times_go_on (λ x. key.service x.step) 64 xs t.served are.served x;
    groups = times_go_on (λ x. key.group x.step x.outcome x.size) 4160 xs t.groups are.groups x;
  };
}

-- ---- notes

noted_more : (groups : List (List ℕ)) (given_answers : List Answer) (a : Answer) →
    noted_from groups (given_answers ++ a ∷ []) ≡ noted_from groups given_answers
    ++ observe a.step a.outcome (size_of (groups_from groups given_answers) a.outcome) ∷ []
noted_more groups [] a = refl
noted_more groups (x ∷ given_answers) a =
    ap (λ rest. observe x.step x.outcome (size_of groups x.outcome) ∷ rest) (noted_more (groups_after groups x.step x.outcome) given_answers a)

-- No answers note no step, and each further answer notes its step, after the others.
pub notes_more : NotesGoOn
unfolding noted_of groups_of
notes_more = record { none = refl; more = λ given_answers a. noted_more no_groups given_answers a }
