-- Latencies of steps, one after another.
use Rattle.std.proofs.Common.{◌≡◌, ℕ, ◌+◌, ◌-◌, ◌<◌, ◌≤◌, List, [], ◌∷◌, ◌++◌, length, Option, Some, None, refl, sym, ap, ap₂, ◌∙◌, subst, arith}
use Rattle.std.specs.Prelude.{map, slice_index}
use Rattle.std.proofs.lemmas.List.{get_or-set_other, get_or-set_same, length-replicate, length-set}
use Rattle.std.proofs.lemmas.Option.{none-some}
use Rattle.steps.specs.declared.step.Step.{Step}
use Rattle.steps.specs.declared.step.Outcome.{Outcome}
use Rattle.steps.specs.declared.step.Outcome.TheVariants as outcome
use Rattle.run_counts.specs.declared.rounds.Begun.{Begun}
use Rattle.run_counts.specs.Keys as key
use Rattle.run_counts.specs.Latencies.{LatenciesGoOn, LatencyState, ReferencesTakeRounds, Retires, SendsNone, StepOnWord, TakesRounds}
use Rattle.run_counts.specs.Latencies.{in_round_of, latencies_after, latencies_from, latencies_of, latency_of, no_latencies, with_latency, with_reference}
use Rattle.run_counts.specs.Latencies.{with_request, with_retirement}
use Rattle.run_counts.specs.Rounds.{begun_at, begun_from}
use Rattle.run_counts.proofs.Order.{one_more}

-- ---- what a request and a retirement leave as it is

requests_stay : (t : LatencyState) (q : Option ℕ) → (with_request t q).begun ≡ t.begun
requests_stay t None = refl
requests_stay t (Some p) = refl

request_all : (t : LatencyState) (q : Option ℕ) → (with_request t q).all ≡ t.all
request_all t None = refl
request_all t (Some p) = refl

request_processors : (t : LatencyState) (q : Option ℕ) → (with_request t q).processors ≡ t.processors
request_processors t None = refl
request_processors t (Some p) = refl

request_words : (t : LatencyState) (q : Option ℕ) → (with_request t q).words ≡ t.words
request_words t None = refl
request_words t (Some p) = refl

request_length : (t : LatencyState) (q : Option ℕ) → length (with_request t q).sent ≡ length t.sent
request_length t None = refl
request_length t (Some p) = length-set t.sent p t.begun.count

retirements_stay : (t : LatencyState) (q w : Option ℕ) → (with_retirement t q w).begun ≡ t.begun
retirements_stay t None w = refl
retirements_stay t (Some p) None = refl
retirements_stay t (Some p) (Some w) = refl

retirement_sent : (t : LatencyState) (q w : Option ℕ) → (with_retirement t q w).sent ≡ t.sent
retirement_sent t None w = refl
retirement_sent t (Some p) None = refl
retirement_sent t (Some p) (Some w) = refl

-- ---- one step

-- what is known after the request of a step, if it sends one
abbrev asked : LatencyState → StepOnWord → LatencyState
asked t x = with_request (in_round_of t x.step) (key.issued x.step x.outcome)

begun_after : (t : LatencyState) (x : StepOnWord) → (latencies_after t x).begun ≡ begun_at t.begun x.step
begun_after t x =
    retirements_stay (asked t x) (key.retired x.step x.outcome) x.word ∙ requests_stay (in_round_of t x.step) (key.issued x.step x.outcome)

sent_after : (t : LatencyState) (x : StepOnWord) → (latencies_after t x).sent ≡ (asked t x).sent
sent_after t x = retirement_sent (asked t x) (key.retired x.step x.outcome) x.word

length_after : (t : LatencyState) (x : StepOnWord) → length (latencies_after t x).sent ≡ length t.sent
length_after t x = ap length (sent_after t x) ∙ request_length (in_round_of t x.step) (key.issued x.step x.outcome)

kept_by : (t : LatencyState) (p : ℕ) (q : Option ℕ) → (q ≡ Some p → ⊥) → slice_index (with_request t q).sent p ≡ slice_index t.sent p
kept_by t p None other = refl
kept_by t p (Some r) other = get_or-set_other t.sent r p t.begun.count 0 (λ same. other (ap Some (sym same)))

set_by : (t : LatencyState) (p : ℕ) (q : Option ℕ) → q ≡ Some p → p < length t.sent → slice_index (with_request t q).sent p ≡ t.begun.count
set_by t p q is small =
    ap (λ r. slice_index (with_request t r).sent p) is ∙ get_or-set_same t.sent p t.begun.count 0 small

-- ---- many steps

from_more : (t : LatencyState) (xs : List StepOnWord) (x : StepOnWord) → latencies_from t (xs ++ x ∷ []) ≡ latencies_after (latencies_from t xs) x
from_more t [] x = refl
from_more t (y ∷ xs) x = from_more (latencies_after t y) xs x

from_append : (t : LatencyState) (xs ys : List StepOnWord) → latencies_from t (xs ++ ys) ≡ latencies_from (latencies_from t xs) ys
from_append t [] ys = refl
from_append t (x ∷ xs) ys = from_append (latencies_after t x) xs ys

from_few : (t : LatencyState) (xs : List StepOnWord) → (latencies_from t xs).begun.count ≤ t.begun.count + length xs
from_few t [] = omega arith
from_few t (x ∷ xs) =
    let rest = from_few (latencies_after t x) xs in
    let same = ap (λ (b : Begun). b.count) (begun_after t x) in
    let one = one_more t.begun x.step in
    omega (arith, rest, same, one)

from_begun : (t : LatencyState) (xs : List StepOnWord) → (latencies_from t xs).begun ≡ begun_from t.begun (map (λ (x : StepOnWord). x.step) xs)
unfolding begun_from
from_begun t [] = refl
from_begun t (x ∷ xs) =
    from_begun (latencies_after t x) xs ∙ ap (λ (b : Begun). begun_from b (map (λ (y : StepOnWord). y.step) xs)) (begun_after t x)

from_length : (t : LatencyState) (xs : List StepOnWord) → length (latencies_from t xs).sent ≡ length t.sent
from_length t [] = refl
from_length t (x ∷ xs) = from_length (latencies_after t x) xs ∙ length_after t x

from_kept : (t : LatencyState) (p : ℕ) (xs : List StepOnWord) → SendsNone p xs → slice_index (latencies_from t xs).sent p ≡ slice_index t.sent p
from_kept t p [] none = refl
from_kept t p (x ∷ xs) none =
    from_kept (latencies_after t x) p xs none.1
    ∙ ap (λ sent. slice_index sent p) (sent_after t x)
    ∙ kept_by (in_round_of t x.step) p (key.issued x.step x.outcome) none.0

-- Before any step there are no latencies, each step adds its own, and no step begins two rounds.
pub latencies_more : LatenciesGoOn
unfolding latencies_of
latencies_more = record {
  none = λ words. refl;
  more = λ words steps x. from_more (no_latencies words) steps x;
  few = λ words steps. (let all = from_few (no_latencies words) steps in omega (arith, all));
}

-- ---- one reference

-- A turn that retires an instruction sends no request.
sends_none : (s : Step) (o : Outcome) (p : ℕ) → key.retired s o ≡ Some p → key.issued s o ≡ Some p → ⊥
sends_none s (outcome.Retired r) p is sent = none-some p sent
sends_none s outcome.Issued p is sent = none-some p is
sends_none s (outcome.Stopped cause) p is sent = none-some p is
sends_none s outcome.Moved p is sent = none-some p is
sends_none s (outcome.Combined first second) p is sent = none-some p is
sends_none s (outcome.Served leader) p is sent = none-some p is
sends_none s (outcome.Answered to) p is sent = none-some p is
sends_none s outcome.Poked p is sent = none-some p is
sends_none s outcome.Stalled p is sent = none-some p is

module _ (t : LatencyState) (between : List StepOnWord) (sends retires : StepOnWord) (p w : ℕ) (small : p < length t.sent)
    (sent : key.issued sends.step sends.outcome ≡ Some p) (none : SendsNone p between) (retired : Retires p w retires) where
  abbrev since : LatencyState
  since = latencies_after t sends

  abbrev until : LatencyState
  until = latencies_from since between

  abbrev mid : LatencyState
  mid = asked until retires

  is : latencies_after until retires ≡ with_reference mid p w
  is = ap₂ (λ q word. with_retirement mid q word) retired.by retired.on

  round_is : slice_index mid.sent p ≡ since.begun.count
  round_is =
      kept_by (in_round_of until retires.step) p (key.issued retires.step retires.outcome) (sends_none retires.step retires.outcome p retired.by)
      ∙ from_kept since p between none
      ∙ ap (λ rounds. slice_index rounds p) (sent_after t sends)
      ∙ set_by (in_round_of t sends.step) p (key.issued sends.step sends.outcome) sent small
      ∙ ap (λ (b : Begun). b.count) (sym (begun_after t sends))

  latency_is : latency_of mid p ≡ (latencies_after until retires).begun.count - since.begun.count
  latency_is =
      ap (λ n. mid.begun.count - n) round_is
      ∙ ap (λ (b : Begun). b.count - since.begun.count)
      (sym (retirements_stay mid (key.retired retires.step retires.outcome) retires.word))

  takes : TakesRounds p w since until (latencies_after until retires)
  takes = record {
    all =
        ap (λ (u : LatencyState). u.all) is
        ∙ ap₂ (λ xs n. xs ++ n ∷ []) (request_all (in_round_of until retires.step) (key.issued retires.step retires.outcome)) latency_is;
    processors =
        ap (λ (u : LatencyState). u.processors) is
        ∙ ap₂ (λ samples n. with_latency samples p n)
        (request_processors (in_round_of until retires.step) (key.issued retires.step retires.outcome)) latency_is;
    words =
        ap (λ (u : LatencyState). u.words) is
        ∙ ap₂ (λ samples n. with_latency samples w n)
        (request_words (in_round_of until retires.step) (key.issued retires.step retires.outcome)) latency_is;
  }

-- The rounds are those that the steps begin, and a reference takes the rounds from the step that sends its request to the step that retires it.
pub references_take : ReferencesTakeRounds
unfolding latencies_of
references_take = record {
  rounds = λ words steps. from_begun (no_latencies words) steps;
  taken = λ words before between sends retires p w small sent none retired.
      let t = latencies_from (no_latencies words) before in
      let long : length t.sent ≡ 64 = from_length (no_latencies words) before ∙ length-replicate {A = ℕ} 64 0 in
      subst (λ (s : LatencyState × LatencyState × LatencyState). TakesRounds p w s.0 s.1 s.2)
      (λ i. (
        sym (from_more (no_latencies words) before sends) i,
        sym (from_append (no_latencies words) before (sends ∷ between)) i,
        sym (from_more (no_latencies words) (before ++ sends ∷ between) retires ∙ ap (λ (u : LatencyState). latencies_after u retires)
            (from_append (no_latencies words) before (sends ∷ between))) i,
      ))
      (takes t between sends retires p w (subst (λ n. p < n) (sym long) small) sent none retired);
}
