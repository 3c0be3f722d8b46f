-- A tally notes the outcomes of steps.
use Rattle.std.proofs.Common.{◌≡◌, ℕ, ◌+◌, ◌<◌, ◌≤◌, ◌⊎◌, inl, inr, List, [], ◌∷◌, ◌++◌, length, get_or, Some, None, refl, sym, ap, ◌∙◌, subst, arith}
use Rattle.std.specs.Prelude.{slice_get, slice_set, slice_index_or, replicate}
use Rattle.std.proofs.lemmas.List.{get_or-set_same, get_or-set_other, get_or-replicate, length-replicate, length-set}
use Rattle.std.proofs.lemmas.Option.{slice_get-get_or, slice_get_cases}
use Rattle.std.proofs.lemmas.Bool.{cases_eq, cases_lt}
use Rattle.flat_machine.specs.declared.event.Event.{Event}
use Rattle.flat_machine.specs.declared.event.Event.TheVariants as event
use Rattle.flat_machine.specs.declared.event.Retired as retirement
use Rattle.steps.specs.declared.step.Step.{Step}
use Rattle.steps.specs.declared.step.Step.TheVariants as step
use Rattle.steps.specs.declared.step.Outcome.{Outcome}
use Rattle.steps.specs.declared.step.Outcome.TheVariants.{Retired, Issued, Stopped, Moved, Combined, Served, Answered, Poked, Stalled}
use Rattle.machine_steps.specs.messages.Places.{put}
use Rattle.machine_steps.proofs.Lemmas.messages.{put_other, put_same}
use Rattle.machine_steps.specs.machine_theory.Steps.{with_shown}
use Rattle.command_io.specs.Tallies.{ShownBy, TallyState, nothing_shown, with_retired, retired_at, noted_after}
use Rattle.command_io.specs.Events.{with_event, shown_from, shown_by, IsTally}

shown_more : (s : ShownBy) (events : List Event) (e : Event) → shown_from s (events ++ e ∷ []) ≡ with_event (shown_from s events) e
shown_more s [] e = refl
shown_more s (x ∷ xs) e = shown_more (with_event s x) xs e

-- A new tally has what the processors show in no steps.
pub tally_begins : (n : ℕ) → IsTally n (record { shown = replicate n nothing_shown; observed = 0 }) (λ p. []) 0
tally_begins n = record {
  all = length-replicate n nothing_shown;
  each = λ p within. get_or-replicate n p nothing_shown nothing_shown within;
  observed = refl;
}

module _ (n : ℕ) (t : TallyState) (events : ℕ → List Event) (steps : ℕ) (is : IsTally n t events steps) where
  kept : IsTally n (record { shown = t.shown; observed = t.observed + 1 }) events (steps + 1)
  kept = record { all = is.all; each = is.each; observed = ap (λ m. m + 1) is.observed }

  -- The event of a stop adds nothing to what is reported.
  stopped : (p : ℕ) (e : Event) → ((s : ShownBy) → with_event s e ≡ s) → (q : ℕ) → q < n →
      slice_index_or t.shown q nothing_shown ≡ shown_by (put events p (events p ++ e ∷ []) q)
  stopped p e nothing q within = by (cases_eq q p)
    where
      by : (q ≡ p) ⊎ (q ≡ p → ⊥) → slice_index_or t.shown q nothing_shown ≡ shown_by (put events p (events p ++ e ∷ []) q)
      by (inl same) =
          let old : slice_index_or t.shown q nothing_shown ≡ shown_by (events p) = is.each q within ∙ ap (λ i. shown_by (events i)) same in
          let now : put events p (events p ++ e ∷ []) q ≡ events p ++ e ∷ [] =
          ap (put events p (events p ++ e ∷ [])) same ∙ put_same events p (events p ++ e ∷ []) in
          old ∙ sym (nothing (shown_by (events p))) ∙ sym (shown_more nothing_shown (events p) e) ∙ ap shown_by (sym now)
      by (inr other) = is.each q within ∙ ap shown_by (sym (put_other events p (events p ++ e ∷ []) q other))

  module _ (p : ℕ) (r : retirement.Retired) where
    abbrev contents_are : List Event
    contents_are = events p ++ event.Retired r ∷ []

    abbrev there : ShownBy
    there = slice_index_or t.shown p nothing_shown

    inside : p < n → retired_at t.shown p r.out (slice_get t.shown p) ≡ slice_set t.shown p (with_retired there r.out)
    inside within = ap (retired_at t.shown p r.out) (slice_get-get_or t.shown p nothing_shown (subst (λ m. p < m) (sym is.all) within))

    outside : n ≤ p → retired_at t.shown p r.out (slice_get t.shown p) ≡ t.shown
    outside behind = by (slice_get_cases t.shown p).1
      where
        by : ((x : ShownBy) × (p < length t.shown) × (slice_get t.shown p ≡ Some x) × (get_or t.shown p x ≡ x))
            ⊎ ((length t.shown ≤ p) × (slice_get t.shown p ≡ None)) →
            retired_at t.shown p r.out (slice_get t.shown p) ≡ t.shown
        by (inl some) = (let l = is.all in let h = some.1 in absurd (omega (arith, l, h, behind)))
        by (inr none) = ap (retired_at t.shown p r.out) none.1

    now_shown : p < n → (q : ℕ) → q < n →
        slice_index_or (slice_set t.shown p (with_retired there r.out)) q nothing_shown ≡ shown_by (put events p contents_are q)
    now_shown within q q_within = by (cases_eq q p)
      where
        by : (q ≡ p) ⊎ (q ≡ p → ⊥) → slice_index_or (slice_set t.shown p (with_retired there r.out)) q nothing_shown ≡ shown_by (put events p contents_are q)
        by (inl same) =
            let set : slice_index_or (slice_set t.shown p (with_retired there r.out)) q nothing_shown ≡ with_retired there r.out =
            ap (λ i. slice_index_or (slice_set t.shown p (with_retired there r.out)) i nothing_shown) same
            ∙ get_or-set_same t.shown p (with_retired there r.out) nothing_shown (subst (λ m. p < m) (sym is.all) within) in
            let now : put events p contents_are q ≡ contents_are = ap (put events p contents_are) same ∙ put_same events p contents_are in
            set ∙ ap (λ s. with_retired s r.out) (is.each p within) ∙ sym (shown_more nothing_shown (events p) (event.Retired r)) ∙ ap shown_by (sym now)
        by (inr other) =
            get_or-set_other t.shown p q (with_retired there r.out) nothing_shown other
            ∙ is.each q q_within
            ∙ ap shown_by (sym (put_other events p contents_are q other))

    retires : (p < n) ⊎ (n ≤ p) → IsTally n (noted_after t (step.Turn p) (Retired r)) (put events p contents_are) (steps + 1)
    retires (inl within) = record {
      all = ap length (inside within) ∙ length-set t.shown p (with_retired there r.out) ∙ is.all;
      each = λ q q_within. ap (λ xs. slice_index_or xs q nothing_shown) (inside within) ∙ now_shown within q q_within;
      observed = ap (λ m. m + 1) is.observed;
    }
    retires (inr behind) = record {
      all = ap length (outside behind) ∙ is.all;
      each = λ q q_within. ap (λ xs. slice_index_or xs q nothing_shown) (outside behind) ∙ is.each q q_within
          ∙ ap shown_by (sym (put_other events p contents_are q (λ e. omega (arith, e, behind, q_within))));
      observed = ap (λ m. m + 1) is.observed;
    }

  turned : (p : ℕ) (o : Outcome) → IsTally n (noted_after t (step.Turn p) o) (with_shown events (step.Turn p) o) (steps + 1)
  turned p (Retired r) = retires p r (cases_lt p n)
  turned p (Stopped cause) = record { all = is.all; each = stopped p (event.Stopped cause) (λ s. refl); observed = ap (λ m. m + 1) is.observed }
  turned p Issued = kept
  turned p Moved = kept
  turned p (Combined first second) = kept
  turned p (Served leader) = kept
  turned p (Answered to) = kept
  turned p Poked = kept
  turned p Stalled = kept

  -- After a step is noted, the tally has what the processors show up to it.
  pub tally_more : (s : Step) (o : Outcome) → IsTally n (noted_after t s o) (with_shown events s o) (steps + 1)
  tally_more (step.Turn p) o = turned p o
  tally_more (step.Up s w) o = kept
  tally_more (step.Serve m) o = kept
  tally_more (step.Down s w) o = kept
  tally_more (step.Poke q) o = kept
