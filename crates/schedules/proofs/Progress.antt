-- While a processor runs, some step of a round does something.
use Rattle.std.proofs.Common.{◌≡◌, ℕ, zero, suc, ◌^◌, ◌<◌, Bool, true, false, ◌⊎◌, inl, inr, nat_lt, List}
use Rattle.std.proofs.Common.{[], ◌∷◌, ◌++◌, Option, Some, None, refl, sym, ap, ◌∙◌, subst, arith}
use Rattle.std.specs.Prelude.{◌&&◌, slice_get, if◌then◌else◌}
use Rattle.std.proofs.lemmas.Bool.{and_from, and_parts, cases_eq, ltb-true, lt-ltb, true≢false}
use Rattle.std.proofs.lemmas.List.FromFn.{get_or-map-range_with_len, length-map-range_with_len}
use Rattle.std.proofs.lemmas.Option.{slice_get-get_or}
use Rattle.flat_machine.specs.declared.config.Config.{Config}
use Rattle.flat_machine.specs.State.{is_running}
use Rattle.flat_machine.specs.Turns.{Turn, Retires, Reaches, Stops}
use Rattle.machine_steps.specs.messages.declared.moves.UpMove.TheVariants as up
use Rattle.machine_steps.specs.messages.declared.moves.DownMove.TheVariants as down
use Rattle.machine_steps.specs.messages.Moves.{moved_up, moved_down, up_from, down_from}
use Rattle.machine_steps.specs.machine_theory.Theory.{stalled, went_up, went_down, serve_from}
use Rattle.machine_steps.specs.machine_theory.Theory as theory
use Rattle.machine_steps.specs.serialization.Machine.{begin, turned}
use Rattle.steps.specs.declared.step.Step.{Step}
use Rattle.steps.specs.declared.step.Step.TheVariants as step
use Rattle.steps.specs.Kinds.{is_poke, is_within}
use Rattle.steps.specs.declared.step.Outcome.{Outcome}
use Rattle.steps.specs.declared.step.Outcome.TheVariants.{Stalled}
use Rattle.machine_steps.specs.machine_theory.Processors.{ObservedCore, sizes_of, kind_of, kind_of_turn, next, program}
use Rattle.machine_steps.specs.machine_theory.Steps.{answer_of, outcome_of_turn, outcome_of, machine_of_parts}
use Rattle.machine_steps.specs.Machines.{MachineLists, machine_of, IsMachine, IsIdle}
use Rattle.machine_steps.specs.Draining.{drain_step}
use Rattle.machine_steps.proofs.Lemmas.{goes_on, none_idle}
use Rattle.schedules.specs.Rounds.{on_each_wire, ups, downs, round}
use Rattle.machine_steps.specs.Standing.{HasRunning}
use Rattle.schedules.proofs.NoPoke.{drain_is_no_poke}

-- ---- the steps of a round

-- The step names a processor, a module, or a stage and a wire that a machine of k stages has.
abbrev pub IsOfRound : (k : ℕ) → Step → Type 0
IsOfRound k s = (is_poke s ≡ false) × (is_within k s ≡ true)

-- The step is in the list.
abbrev pub Stands : List Step → Step → Type 0
Stands xs s = (i : ℕ) × (slice_get xs i ≡ Some s)

stands_before : (xs ys : List Step) (s : Step) → Stands xs s → Stands (xs ++ ys) s
stands_before [] ys s (i, e) = absurd (cc)
stands_before (x ∷ xs) ys s (zero, e) = (zero, e)
stands_before (x ∷ xs) ys s (suc i, e) = let h = stands_before xs ys s (i, e) in (suc h.0, h.1)

stands_after : (xs ys : List Step) (s : Step) → Stands ys s → Stands (xs ++ ys) s
stands_after [] ys s h = h
stands_after (x ∷ xs) ys s h = let t = stands_after xs ys s h in (suc t.0, t.1)

on_wire : (k : ℕ) (f : ℕ → Step) (w : ℕ) → w < 2 ^ k → Stands (on_each_wire k f) (f w)
on_wire k f w within = (
  w,
  slice_get-get_or (on_each_wire k f) w (step.Turn 0) (subst (λ n. w < n) (sym (length-map-range_with_len f 0 (2 ^ k))) within)
      ∙ ap Some (get_or-map-range_with_len f 0 (2 ^ k) w w (step.Turn 0) within (omega arith)),
)

in_ups : (k stages s w : ℕ) → s < stages → w < 2 ^ k → Stands (ups k stages) (step.Up s w)
in_ups k zero s w few within = absurd (omega (arith, few))
in_ups k (suc stage) s w few within = by (cases_eq s stage) (λ less. in_ups k stage s w less within)
  where
    by : (s ≡ stage) ⊎ (s ≡ stage → ⊥) → (s < stage → Stands (ups k stage) (step.Up s w)) → Stands (ups k (suc stage)) (step.Up s w)
    by (inl last) later = stands_before (on_each_wire k (step.Up stage)) (ups k stage) (step.Up s w)
        (subst (λ t. Stands (on_each_wire k (step.Up stage)) (step.Up t w)) (sym last) (on_wire k (step.Up stage) w within))
    by (inr other) later = stands_after (on_each_wire k (step.Up stage)) (ups k stage) (step.Up s w) (later (omega (arith, few, other)))

in_downs : (k stages s w : ℕ) → s < stages → w < 2 ^ k → Stands (downs k stages) (step.Down s w)
in_downs k zero s w few within = absurd (omega (arith, few))
in_downs k (suc stage) s w few within = by (cases_eq s stage) (λ less. in_downs k stage s w less within)
  where
    by : (s ≡ stage) ⊎ (s ≡ stage → ⊥) → (s < stage → Stands (downs k stage) (step.Down s w)) → Stands (downs k (suc stage)) (step.Down s w)
    by (inl last) later = stands_after (downs k stage) (on_each_wire k (step.Down stage)) (step.Down s w)
        (subst (λ t. Stands (on_each_wire k (step.Down stage)) (step.Down t w)) (sym last) (on_wire k (step.Down stage) w within))
    by (inr other) later = stands_before (downs k stage) (on_each_wire k (step.Down stage)) (step.Down s w) (later (omega (arith, few, other)))

abbrev turns_and_ups : ℕ → List Step
turns_and_ups k = on_each_wire k step.Turn ++ ups k k

both : (a b : ℕ) (n m : ℕ) → (nat_lt a n && nat_lt b m) ≡ true → (a < n) × (b < m)
both a b n m within = let parts = and_parts (nat_lt a n) (nat_lt b m) within in (ltb-true a n parts.0, ltb-true b m parts.1)

-- Each step that a machine of k stages can take is in its round.
pub in_round : (k : ℕ) (s : Step) → IsOfRound k s → Stands (round k) s
unfolding round
in_round k (step.Turn p) (own, within) =
    stands_before (turns_and_ups k ++ on_each_wire k step.Serve) (downs k k) (step.Turn p)
    (stands_before (turns_and_ups k) (on_each_wire k step.Serve) (step.Turn p)
    (stands_before (on_each_wire k step.Turn) (ups k k) (step.Turn p) (on_wire k step.Turn p (ltb-true p (2 ^ k) within))))
in_round k (step.Up s w) (own, within) =
    let here = both s w k (2 ^ k) within in
    stands_before (turns_and_ups k ++ on_each_wire k step.Serve) (downs k k) (step.Up s w)
    (stands_before (turns_and_ups k) (on_each_wire k step.Serve) (step.Up s w)
    (stands_after (on_each_wire k step.Turn) (ups k k) (step.Up s w) (in_ups k k s w here.0 here.1)))
in_round k (step.Serve m) (own, within) =
    stands_before (turns_and_ups k ++ on_each_wire k step.Serve) (downs k k) (step.Serve m)
    (stands_after (turns_and_ups k) (on_each_wire k step.Serve) (step.Serve m) (on_wire k step.Serve m (ltb-true m (2 ^ k) within)))
in_round k (step.Down s w) (own, within) =
    let here = both s w k (2 ^ k) within in
    stands_after (turns_and_ups k ++ on_each_wire k step.Serve) (downs k k) (step.Down s w) (in_downs k k s w here.0 here.1)
in_round k (step.Poke q) (own, within) = absurd (true≢false own)

-- ---- steps that do not stall are of the round

module _ (c : Config) (code : List ℕ) (M : theory.Machine ObservedCore) where
  abbrev turns : ℕ → Turn
  turns p = next c code p (M.core p).state

  abbrev answers : theory.Outcome → Outcome
  answers = answer_of turns

  inside : (a n : ℕ) (r : theory.Result ObservedCore) (b : Bool) → nat_lt a n ≡ b → (answers (if b then r else stalled M).outcome ≡ Stalled → ⊥) →
      nat_lt a n ≡ true
  inside a n r true e moves = e
  inside a n r false e moves = absurd (moves refl)

  stage_up : (s w : ℕ) (on_wire there : Bool) → nat_lt s c.k ≡ there →
      (answers (if on_wire then went_up M (if there then up_from (sizes_of c) M.net s w (M.net.requests s w) else (up.Stalled, M.net)) else stalled M).outcome
      ≡ Stalled → ⊥) → nat_lt s c.k ≡ true
  stage_up s w b true e moves = e
  stage_up s w true false e moves = absurd (moves refl)
  stage_up s w false false e moves = absurd (moves refl)

  stage_down : (s w : ℕ) (on_wire there : Bool) → nat_lt s c.k ≡ there →
      (answers (if on_wire then went_down M (if there then down_from (sizes_of c) M.net s w (M.net.replies (suc s) w) else (down.Stalled, M.net))
      else stalled M).outcome ≡ Stalled → ⊥) → nat_lt s c.k ≡ true
  stage_down s w b true e moves = e
  stage_down s w true false e moves = absurd (moves refl)
  stage_down s w false false e moves = absurd (moves refl)

  -- A step that writes nothing from outside and does not stall names places of the machine.
  pub moves_within : (s : Step) → is_poke s ≡ false → (outcome_of c code M s ≡ Stalled → ⊥) → is_within c.k s ≡ true
  unfolding outcome_of moved_up moved_down
  moves_within (step.Turn p) plain moves = inside p (2 ^ c.k) (turned (program c code) M p (M.is_open p)) (nat_lt p (2 ^ c.k)) refl moves
  moves_within (step.Up s w) plain moves =
      and_from (nat_lt s c.k) (nat_lt w (2 ^ c.k)) (stage_up s w (nat_lt w (2 ^ c.k)) (nat_lt s c.k) refl moves)
      (inside w (2 ^ c.k) (went_up M (moved_up (sizes_of c) M.net s w)) (nat_lt w (2 ^ c.k)) refl moves)
  moves_within (step.Serve m) plain moves =
      inside m (2 ^ c.k) (serve_from (sizes_of c) M m (M.net.requests c.k m) (M.net.replies c.k m)) (nat_lt m (2 ^ c.k)) refl moves
  moves_within (step.Down s w) plain moves =
      and_from (nat_lt s c.k) (nat_lt w (2 ^ c.k)) (stage_down s w (nat_lt w (2 ^ c.k)) (nat_lt s c.k) refl moves)
      (inside w (2 ^ c.k) (went_down M (moved_down (sizes_of c) M.net s w)) (nat_lt w (2 ^ c.k)) refl moves)
  moves_within (step.Poke q) plain moves = absurd (true≢false plain)

  -- ---- if no reference is open, a running processor has a turn

  begins : (p : ℕ) (t : Turn) → turns p ≡ t → answers (begin (program c code) M p (kind_of_turn t)).outcome ≡ Stalled → ⊥
  begins p (Retires after retired) e s = (let wrong : outcome_of_turn (Retires after retired) ≡ Stalled = ap outcome_of_turn (sym e) ∙ s in absurd (cc))
  begins p (Stops cause) e s = (let wrong : outcome_of_turn (Stops cause) ≡ Stalled = ap outcome_of_turn (sym e) ∙ s in absurd (cc))
  begins p (Reaches word change after) e s = absurd (cc)

  turn_moves : (p : ℕ) → p < 2 ^ c.k → M.is_open p ≡ false → is_running (M.core p).state.status ≡ true → outcome_of c code M (step.Turn p) ≡ Stalled → ⊥
  unfolding outcome_of
  turn_moves p within shut runs s =
      begins p (turns p) refl
      (sym
      (ap (λ b. answers (if b then turned (program c code) M p (M.is_open p) else stalled M).outcome) (lt-ltb p (2 ^ c.k) within)
      ∙ ap (λ b. answers (turned (program c code) M p b).outcome) shut
      ∙ ap (λ b. answers (begin (program c code) M p (kind_of b (turns p))).outcome) runs)
      ∙ s)

-- ---- the machine

module _ (m : MachineLists) (is : IsMachine m) (running : HasRunning m) where
  abbrev pub Goes : Step → Type 0
  Goes s = IsOfRound m.config.k s × (outcome_of m.config m.code (machine_of m (λ p. [])) s ≡ Stalled → ⊥)

  idle_moves : IsIdle m → outcome_of m.config m.code (machine_of m (λ p. [])) (step.Turn running.0) ≡ Stalled → ⊥
  unfolding machine_of_parts
  idle_moves idle = turn_moves m.config m.code (machine_of m (λ p. [])) running.0 running.1 (idle running.0 running.1) (ap is_running running.2)

  by_drain : (o : Option Step) → drain_step m ≡ o → (s : Step) × Goes s
  by_drain (Some s) e =
      let moves = (goes_on m is s e).moves in
      let own = drain_is_no_poke m s e in
      (s, ((own, moves_within m.config m.code (machine_of m (λ p. [])) s own moves), moves))
  by_drain None e = (step.Turn running.0, ((refl, lt-ltb running.0 (2 ^ m.config.k) running.1), idle_moves (none_idle m is e)))

  -- If a processor runs, some step of a round does not stall.
  pub some_step_moves : (s : Step) × Goes s
  some_step_moves = by_drain (drain_step m) refl
