-- The next step of a schedule, and that none of its steps is a poke.
use Rattle.std.proofs.Common.{◌≡◌, ℕ, zero, suc, ◌+◌, ◌-◌, ◌^◌, ◌≤◌, Bool, true, false, List, ◌∷◌, ◌++◌, drop, length, Some, refl, sym, ap, ap₂, ◌∙◌, arith}
use Rattle.std.specs.Prelude.{slice_get, if◌then◌else◌}
use Rattle.std.specs.List.{range_with_len}
use Rattle.std.proofs.Math.Seq.{drop-cons}
use Rattle.std.proofs.lemmas.List.{drop_all}
use Rattle.std.proofs.lemmas.Option.{get_or_from_slice_get, slice_get_within}
use Rattle.steps.specs.declared.step.Step.{Step}
use Rattle.steps.specs.declared.step.Step.TheVariants.{Turn, Up, Serve, Down}
use Rattle.steps.specs.Kinds.{is_poke, no_poke}
use Rattle.steps.proofs.Lemmas.{no_poke_both, no_poke_each, no_poke_more}
use Rattle.schedules.specs.Choices.{by_stage, by_wire, choices}
use Rattle.random_schedules.specs.declared.course.Course.{Course}
use Rattle.random_schedules.specs.declared.strategy.Strategy.{Strategy}
use Rattle.random_schedules.specs.Schedules.{NextTurn, moves_after, next_turn, opening_course, schedule, turns_from}

-- The steps from place i on are the one there, and then those from place i + 1 on.
pub drop_at : (xs : List Step) (i : ℕ) (s : Step) → slice_get xs i ≡ Some s → drop i xs ≡ s ∷ drop (i + 1) xs
drop_at xs i s there =
    drop-cons xs i (Turn 0) (slice_get_within xs i s there)
    ∙ ap₂ (λ y ys. y ∷ ys) (get_or_from_slice_get xs i s (Turn 0) there) (ap (λ j. drop j xs) (let same : suc i ≡ i + 1 = omega arith in same))

-- After the network's steps comes the next turn.
pub turn_next : (s : Strategy) (k number : ℕ) (c d : Course) (moves : Bool) (turns place next : ℕ) → length (choices k) ≤ place → (turns ≡ 0 → ⊥) →
    next_turn s k number c ≡ record { course = d; moves = moves } → next ≡ (if moves then 0 else place) →
    drop place (choices k) ++ turns_from s k number c turns ≡ Turn d.processor ∷ (drop next (choices k) ++ turns_from s k number d (turns - 1))
turn_next s k number c d moves zero place next past some is moved = absurd (some refl)
turn_next s k number c d moves (suc n) place next past some is moved =
    ap (λ xs. xs ++ turns_from s k number c (suc n)) (drop_all place (choices k) past)
    ∙ ap (λ (a : NextTurn). Turn a.course.processor ∷ (moves_after k a.moves ++ turns_from s k number a.course n)) is
    ∙ ap₂ (λ xs m. Turn d.processor ∷ (xs ++ turns_from s k number d m)) (sym (by moves moved)) (let same : n ≡ suc n - 1 = omega arith in same)
  where
    by : (b : Bool) → next ≡ (if b then 0 else place) → drop next (choices k) ≡ moves_after k b
    by true e = ap (λ i. drop i (choices k)) e
    by false e = ap (λ i. drop i (choices k)) e ∙ drop_all place (choices k) past

no_poke_stages : (k stages : ℕ) (f : ℕ → ℕ → Step) → ((s w : ℕ) → is_poke (f s w) ≡ false) → no_poke (by_stage k stages f) ≡ true
no_poke_stages k zero f own = refl
no_poke_stages k (suc n) f own =
    no_poke_both (by_stage k n f) (by_wire k (f n)) (no_poke_stages k n f own) (no_poke_each (f n) (own n) (range_with_len 0 (2 ^ k)))

no_poke_choices : (k : ℕ) → no_poke (choices k) ≡ true
unfolding choices
no_poke_choices k =
    no_poke_both (by_stage k k Up ++ by_wire k Serve) (by_stage k k Down)
    (no_poke_both (by_stage k k Up) (by_wire k Serve) (no_poke_stages k k Up (λ s w. refl)) (no_poke_each Serve (λ w. refl) (range_with_len 0 (2 ^ k))))
    (no_poke_stages k k Down (λ s w. refl))

no_poke_moves : (k : ℕ) (moves : Bool) → no_poke (moves_after k moves) ≡ true
no_poke_moves k true = no_poke_choices k
no_poke_moves k false = refl

no_poke_turns : (s : Strategy) (k number : ℕ) (c : Course) (turns : ℕ) → no_poke (turns_from s k number c turns) ≡ true
no_poke_turns s k number c zero = refl
no_poke_turns s k number c (suc n) =
    let a : NextTurn = next_turn s k number c in
    no_poke_more (Turn a.course.processor) (moves_after k a.moves ++ turns_from s k number a.course n) refl
    (no_poke_both (moves_after k a.moves) (turns_from s k number a.course n) (no_poke_moves k a.moves) (no_poke_turns s k number a.course n))

-- No step of a random schedule is a poke.
pub no_poke_schedule : (s : Strategy) (k number turns : ℕ) → no_poke (schedule s k number turns) ≡ true
unfolding schedule
no_poke_schedule s k number turns = no_poke_turns s k number (opening_course number) turns
