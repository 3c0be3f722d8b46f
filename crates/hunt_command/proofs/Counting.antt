-- The notes of a run, step by step.
use Rattle.std.proofs.Common.{◌≡◌, ℕ, ◌+◌, length, arith, List, [], ◌∷◌, ◌++◌, Bool, true, false, refl, sym, ap, ◌∙◌, subst, if◌then◌else◌}
use Rattle.std.proofs.lemmas.List.{length-append}
use Rattle.steps.specs.declared.step.Step.{Step}
use Rattle.steps.specs.declared.step.Outcome.{Outcome}
use Rattle.steps.specs.Answers.{is_stalled}
use Rattle.machine_steps.specs.Noting.{AreNoted}
use Rattle.machine_steps.specs.Runs.{IsReplay, IsRun}
use Rattle.machine_steps.proofs.Lemmas.{noted_more}
use Rattle.machine_log.specs.Logs.{HasTaken, Log}

-- A step is noted unless it stalls.
module _ {N : Type 0} (R : N → Step → Outcome → N → Type 0) (old l new : Log) (s : Step) (o : Outcome) (first n n' : N)
    (opening : l.opening ≡ old.opening) (replay : IsReplay l.opening l.steps l.machine) (taken : HasTaken l s o new)
    (moved : is_stalled o ≡ false → R n s o n') (stalled : is_stalled o ≡ true → n' ≡ n) where
  entered_is : (b : Bool) → is_stalled o ≡ b → new.steps ≡ (if b then l.steps else l.steps ++ s ∷ [])
  entered_is b is = taken.steps ∙ ap (λ x. if x then l.steps else l.steps ++ s ∷ []) is

  goes_on : (b : Bool) → is_stalled o ≡ b → AreNoted R old.opening l.steps first n → AreNoted R old.opening new.steps first n'
  goes_on true is all =
      subst (λ (x : List Step × N). AreNoted R old.opening x.0 first x.1) (λ i. (sym (entered_is true is) i, sym (stalled is) i)) all
  goes_on false is all =
      subst (λ xs. AreNoted R old.opening xs first n') (sym (entered_is false is))
      (noted_more R old.opening l.machine new.machine l.steps s o first n n' (subst (λ m. IsRun m l.steps l.machine) opening replay.run) taken.step all
      (moved is))

  -- After a log has taken a step, which is noted unless it stalls, the notes are those of the log's steps.
  pub noted_on : AreNoted R old.opening l.steps first n → AreNoted R old.opening new.steps first n'
  noted_on = goes_on (is_stalled o) refl

-- There is room for a note of each step that the log can still take.
module _ {N : Type 0} (has_room : N → ℕ → Type 0) (l new : Log) (s : Step) (o : Outcome) (n n' : N) (limit : ℕ) (taken : HasTaken l s o new)
    (moved : (more : ℕ) → has_room n (more + 1) → is_stalled o ≡ false → has_room n' more) (stalled : is_stalled o ≡ true → n' ≡ n)
    (room : (left : ℕ) → length l.steps + left ≡ limit → has_room n left) where
  by : (b : Bool) → is_stalled o ≡ b → (left : ℕ) → length new.steps + left ≡ limit → has_room n' left
  by true is left all =
      let same = ap length (taken.steps ∙ ap (λ x. if x then l.steps else l.steps ++ s ∷ []) is) in
      subst (λ x. has_room x left) (sym (stalled is)) (room left (omega (arith, same, all)))
  by false is left all =
      let same = ap length (taken.steps ∙ ap (λ x. if x then l.steps else l.steps ++ s ∷ []) is) in
      let one = length-append l.steps (s ∷ []) in
      moved left (room (left + 1) (omega (arith, same, one, all))) is

  -- After a log has taken a step, there is still room for a note of each step that it can take.
  pub room_on : (left : ℕ) → length new.steps + left ≡ limit → has_room n' left
  room_on = by (is_stalled o) refl
