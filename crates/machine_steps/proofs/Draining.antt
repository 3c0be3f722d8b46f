-- The search for the next step of a drain, and what a drain's steps do.
use Rattle.std.proofs.Common.{◌≡◌, ℕ, zero, suc, ◌+◌, ◌^◌, ◌<◌, ◌≤◌, Bool, true, false, List, [], ◌∷◌, Option}
use Rattle.std.proofs.Common.{Some, None, is_some, ◌⊎◌, inl, inr, refl, sym, ap, ◌∙◌, subst, arith}
use Rattle.std.proofs.lemmas.Bool.{cases_lt, true≢false}
use Rattle.std.specs.Prelude.{IfSome, slice_get, if◌then◌else◌}
use Rattle.omega_wires.specs.Members.{HasNoneIn, IsFirst, members}
use Rattle.messages.specs.Network.{Sizes, Net, wires}
use Rattle.machine_theory.specs.serialization.Machine.{Up, Down}
use Rattle.machine_theory.specs.serialization.Draining.{least, greatest, is_any, some_wire, first_wire, down_step, up_step}
use Rattle.machine_theory.proofs.Lemmas.serialization.{LeastIs, least_is}
use Rattle.steps.specs.declared.step.Step.TheVariants as step
use Rattle.machine_steps.specs.Draining.{some_step}
use Rattle.machine_steps.proofs.Keeping.{count_small}

pub any_is : {X : Type 0} (xs : List X) → is_some (slice_get xs 0) ≡ is_any xs
any_is [] = refl
any_is (x ∷ xs) = refl

-- The first wire of a set is the least with a message, if the set has the wires of k stages that have one.
pub first_is_least : {X : Type 0} (k : ℕ) (at : ℕ → List X) (s : ℕ) (o : Option ℕ) → k ≤ 6 →
    ((w : ℕ) → w < 2 ^ k → members s w ≡ is_some (slice_get (at w) 0)) → ((w : ℕ) → 2 ^ k ≤ w → members s w ≡ false)
    → IfSome o (IsFirst (members s) 0) → (o ≡ None → HasNoneIn (members s) 0 64) → o ≡ least (λ w. is_any (at w)) (2 ^ k)
first_is_least {X} k at s o few exact past first none = go (least (λ w. is_any (at w)) (2 ^ k)) (least_is (λ w. is_any (at w)) (2 ^ k)) o first none
  where
    member : (w : ℕ) → w < 2 ^ k → members s w ≡ is_any (at w)
    member w within = exact w within ∙ any_is (at w)

    not_both : (w : ℕ) → members s w ≡ true → members s w ≡ false → ⊥
    not_both w is not_is = true≢false (sym is ∙ not_is)

    inside : (w : ℕ) → members s w ≡ true → (w < 2 ^ k) ⊎ (2 ^ k ≤ w) → w < 2 ^ k
    inside w is (inl within) = within
    inside w is (inr beyond) = absurd (not_both w is (past w beyond))

    go : (l : Option ℕ) → LeastIs (λ w. is_any (at w)) (2 ^ k) l → (o : Option ℕ) → IfSome o (IsFirst (members s) 0) →
        (o ≡ None → HasNoneIn (members s) 0 64) → o ≡ l
    go None h None is none = refl
    go None h (Some w) is none = let within = inside w is.member (cases_lt w (2 ^ k)) in absurd (not_both w is.member (member w within ∙ h w within))
    go (Some i) h None is none = let within = h.within in let most =
        count_small k few in absurd (not_both i (member i within ∙ h.passes) (none refl i (omega arith) (omega (arith, within, most))))
    go (Some i) h (Some w) is none = ap Some (by (cases_lt w i) (cases_lt i w))
      where
        by : (w < i) ⊎ (i ≤ w) → (i < w) ⊎ (w ≤ i) → w ≡ i
        by (inl less) _ = let within : w < 2 ^ k =
            (let last = h.within in omega (arith, less, last)) in absurd (not_both w is.member (member w within ∙ h.before w less))
        by (inr more) (inl less) = absurd (not_both i (member i h.within ∙ h.passes) (is.first i (omega arith) less))
        by (inr more) (inr less) = omega (arith, more, less)

least_step : (f : ℕ → Bool) (i : ℕ) → least f i ≡ None → least f (suc i) ≡ (if f i then Some i else None)
unfolding least
least_step f i none = ap (λ o. elim o [ Some j ↦ Some j | None ↦ if f i then Some i else None ]) none

pub least_more : (f : ℕ → Bool) (i : ℕ) → least f i ≡ None → f i ≡ false → least f (i + 1) ≡ None
least_more f i none fails = ap (least f) (let e : i + 1 ≡ suc i = omega arith in e) ∙ least_step f i none ∙ ap (λ b. if b then Some i else None) fails

least_stays : (f : ℕ → Bool) (n i : ℕ) → least f n ≡ Some i → least f (suc n) ≡ Some i
unfolding least
least_stays f n i found = ap (λ o. elim o [ Some j ↦ Some j | None ↦ if f n then Some n else None ]) found

pub least_found : (f : ℕ → Bool) (n i : ℕ) → least f i ≡ None → f i ≡ true → i < n → least f n ≡ Some i
least_found f zero i none passes within = absurd (omega arith)
least_found f (suc n) i none passes within = by (λ less. least_found f n i none passes less) (cases_lt i n)
  where
    by : (i < n → least f n ≡ Some i) → (i < n) ⊎ (n ≤ i) → least f (suc n) ≡ Some i
    by later (inr past) = let same : i ≡ n =
        omega arith in subst (λ m. least f (suc m) ≡ Some i) same (least_step f i none ∙ ap (λ b. if b then Some i else None) passes)
    by later (inl less) = least_stays f n i (later less)

pub greatest_more : (f : ℕ → Bool) (n i j : ℕ) → greatest f n ≡ greatest f j → j ≡ suc i → f i ≡ false → greatest f n ≡ greatest f i
unfolding greatest
greatest_more f n i j e same fails = e ∙ ap (greatest f) same ∙ ap (λ b. if b then Some i else greatest f i) fails

pub greatest_found : (f : ℕ → Bool) (n i j : ℕ) → greatest f n ≡ greatest f j → j ≡ suc i → f i ≡ true → greatest f n ≡ Some i
unfolding greatest
greatest_found f n i j e same passes = e ∙ ap (greatest f) same ∙ ap (λ b. if b then Some i else greatest f i) passes

-- ---- stages

module _ (z : Sizes) (net : Net) where
  abbrev pub down_at : ℕ → Bool
  down_at s = some_wire (net.replies (suc s)) (wires z)

  abbrev pub up_at : ℕ → Bool
  up_at s = some_wire (net.requests s) (wires z)

  -- The next step down is from stage s and wire w if no stage below s has a reply and w is the first wire with one.
  pub down_found : (s d w : ℕ) (r : Option ℕ) → least down_at s ≡ None → r ≡ least (λ w. is_any (net.replies d w)) (wires z) → d ≡ s + 1 → r ≡ Some w →
      s < z.k → Some (step.Down s w) ≡ some_step (down_step z net)
  down_found s d w r none is same some within =
      let at : least (λ w. is_any (net.replies (suc s) w)) (wires z) ≡ Some w =
      ap (λ e. least (λ w. is_any (net.replies e w)) (wires z)) (let e : suc s ≡ d = omega arith in e) ∙ sym is ∙ some in
      let stage : least down_at z.k ≡ Some s = least_found down_at z.k s none (ap is_some at) within in
      sym (ap some_step (ap (λ o. elim o [ Some s ↦ first_wire (net.replies (suc s)) (wires z) (Down s) | None ↦ None ]) stage
      ∙ ap (λ o. elim o [ Some w ↦ Some (Down s w) | None ↦ None ]) at))

  -- If no stage below s has a reply for a step down, and s has none, then none up to s has one.
  pub down_more : (s d : ℕ) (r : Option ℕ) → least down_at s ≡ None → r ≡ least (λ w. is_any (net.replies d w)) (wires z) → d ≡ s + 1 → r ≡ None →
      least down_at (s + 1) ≡ None
  down_more s d r none is same fails =
      least_more down_at s none (ap is_some (ap (λ e. least (λ w. is_any (net.replies e w)) (wires z)) (let e : suc s ≡ d = omega arith in e) ∙ sym is ∙ fails))

  -- If no stage has a reply for a step down, there is no step down.
  pub down_none : (s : ℕ) → least down_at s ≡ None → s ≡ z.k → None ≡ some_step (down_step z net)
  down_none s none end = sym (ap some_step (ap (λ o. elim o [ Some s ↦ first_wire (net.replies (suc s)) (wires z) (Down s) | None ↦ None ])
      (sym (ap (least down_at) end) ∙ none)))

  -- The next step up is from stage s and wire w if no stage above s has a request and w is the first wire with one.
  pub up_found : (s j w : ℕ) (r : Option ℕ) → greatest up_at z.k ≡ greatest up_at j → j ≡ s + 1 → r ≡ least (λ w. is_any (net.requests s w)) (wires z) →
      r ≡ Some w → Some (step.Up s w) ≡ some_step (up_step z net)
  up_found s j w r so_far same is some =
      let at : least (λ w. is_any (net.requests s w)) (wires z) ≡ Some w = sym is ∙ some in
      let stage : greatest up_at z.k ≡ Some s = greatest_found up_at z.k s j so_far (let e : j ≡ suc s = omega arith in e) (ap is_some at) in
      sym (ap some_step (ap (λ o. elim o [ Some s ↦ first_wire (net.requests s) (wires z) (Up s) | None ↦ None ]) stage
      ∙ ap (λ o. elim o [ Some w ↦ Some (Up s w) | None ↦ None ]) at))

  -- If no stage above s has a request for a step up, and s has none, the greatest that has one, if any, is below s.
  pub up_more : (s j : ℕ) (r : Option ℕ) → greatest up_at z.k ≡ greatest up_at j → j ≡ s + 1 → r ≡ least (λ w. is_any (net.requests s w)) (wires z) →
      r ≡ None → greatest up_at z.k ≡ greatest up_at s
  up_more s j r so_far same is fails = greatest_more up_at z.k s j so_far (let e : j ≡ suc s = omega arith in e) (ap is_some (sym is ∙ fails))

  -- If no stage has a request for a step up, there is no step up.
  pub up_none : (j : ℕ) → greatest up_at z.k ≡ greatest up_at j → j ≡ 0 → None ≡ some_step (up_step z net)
  unfolding greatest
  up_none j so_far end =
      sym (ap some_step (ap (λ o. elim o [ Some s ↦ first_wire (net.requests s) (wires z) (Up s) | None ↦ None ]) (so_far ∙ ap (greatest up_at) end)))
