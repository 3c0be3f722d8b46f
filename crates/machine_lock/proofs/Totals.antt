-- The passes' lists hold an event as often as the steps gave it.
use Rattle.std.proofs.Common.{◌≡◌, ◌≢◌, ◌⊎◌, ℕ, zero, suc, ◌+◌, ◌<◌, ◌≤◌, Bool, true, false, List}
use Rattle.std.proofs.Common.{[], ◌∷◌, ◌++◌, length, map, count_by, ◌==◌, drop, refl, sym, ap, ◌∙◌}
use Rattle.std.proofs.Common.{arith, inl, inr, Some, slice_get, eq-eqb, ne_eqb, ltb-true}
use Rattle.std.specs.Prelude.{◌&&◌, if◌then◌else◌, cond}
use Rattle.std.proofs.lemmas.Bool.{cases_eq}
use Rattle.std.proofs.lemmas.List.{map-append}
use Rattle.std.proofs.lemmas.List.Sums.{sum_by-append}
use Rattle.flat_machine.specs.declared.config.Config.{Config}
use Rattle.machine_steps.specs.machine_theory.Theory.{Machine}
use Rattle.machine_steps.specs.machine_theory.Processors.{ObservedCore}
use Rattle.machine_steps.specs.machine_theory.Steps.{outcome_of, after}
use Rattle.steps.specs.declared.step.Step.{Step}
use Rattle.steps.specs.declared.step.Step.TheVariants as step
use Rattle.steps.specs.declared.step.Outcome.{Outcome}
use Rattle.machine_steps.specs.Machines.{MachineLists}
use Rattle.machine_lock.specs.declared.row.PassEvent.{PassEvent}
use Rattle.steps.specs.Kinds.{is_turn_below, turns_below}
use Rattle.machine_lock.specs.Lists.{pass_events_of, all_pass_events, given_to, given, shown_at}
use Rattle.machine_lock.specs.Rows.{machine_after, pass_events_since, all_since, Fits}
use Rattle.machine_lock.specs.Passes.{Held, rows_of, IsWhole, all_stored}

both : (a b : Bool) → (a && b) ≡ true → (a ≡ true) × (b ≡ true)
both true b e = (refl, e)
both false b e = cc

abbrev of : ℕ → List PassEvent → List (ℕ × PassEvent)
of p ns = map (λ n. (p, n)) ns

-- the lists of this many processors, from p on
abbrev lists : (p many : ℕ) → (ℕ → List PassEvent) → List (ℕ × PassEvent)
lists p zero f = []
lists p (suc many) f = of p (f p) ++ lists (suc p) many f

module _ (test : ℕ × PassEvent → Bool) where
  abbrev times : List (ℕ × PassEvent) → ℕ
  times es = count_by test es

  times-append : (xs ys : List (ℕ × PassEvent)) → times (xs ++ ys) ≡ times xs + times ys
  times-append xs ys = sum_by-append (λ x. cond (test x) 1 0) xs ys

  -- the counts of empty lists and of joined lists
  none : (p many : ℕ) → times (lists p many (λ q. [])) ≡ 0
  none p zero = refl
  none p (suc many) = none (suc p) many

  joined : (p many : ℕ) (f g : ℕ → List PassEvent) → times (lists p many (λ q. f q ++ g q)) ≡ times (lists p many f) + times (lists p many g)
  joined p zero f g = refl
  joined p (suc many) f g =
      let rest = joined (suc p) many f g in
      let a = times-append (of p (f p ++ g p)) (lists (suc p) many (λ q. f q ++ g q)) in
      let b = ap times (map-append (λ n. (p, n)) (f p) (g p)) in
      let c = times-append (of p (f p)) (of p (g p)) in
      let d = times-append (of p (f p)) (lists (suc p) many f) in
      let e = times-append (of p (g p)) (lists (suc p) many g) in
      omega arith

  -- the counts of lists of which only one has elements
  abbrev only : ℕ → List PassEvent → ℕ → List PassEvent
  only q ns p = if q == p then ns else []

  above : (p many q : ℕ) (ns : List PassEvent) → q < p → times (lists p many (only q ns)) ≡ 0
  above p zero q ns h = refl
  above p (suc many) q ns h =
      let rest = above (suc p) many q ns (omega arith) in
      let no : only q ns p ≡ [] = ap (λ b. if b then ns else []) (ne_eqb q p (λ e. omega arith)) in
      ap (λ ms. times (of p ms ++ lists (suc p) many (only q ns))) no ∙ rest

  one : (p many q : ℕ) (ns : List PassEvent) → p ≤ q → q < p + many → times (lists p many (only q ns)) ≡ times (of q ns)
  one p zero q ns low high = absurd (omega arith)
  one p (suc many) q ns low high = by (λ less. one (suc p) many q ns less (omega arith)) (cases_eq p q)
    where
      by : (suc p ≤ q → times (lists (suc p) many (only q ns)) ≡ times (of q ns)) → (p ≡ q) ⊎ (p ≢ q) →
          times (of p (only q ns p) ++ lists (suc p) many (only q ns)) ≡ times (of q ns)
      by behind (inl same) =
          let here : only q ns p ≡ ns = ap (λ b. if b then ns else []) (eq-eqb q p (sym same)) in
          let rest = above (suc p) many q ns (omega arith) in
          let t = times-append (of p (only q ns p)) (lists (suc p) many (only q ns)) in
          let u : times (of p (only q ns p)) ≡ times (of q ns) = ap (λ ms. times (of p ms)) here ∙ ap (λ k. times (of k ns)) same in
          omega arith
      by behind (inr other) =
          let no : only q ns p ≡ [] = ap (λ b. if b then ns else []) (ne_eqb q p (λ e. other (sym e))) in
          let less : suc p ≤ q = omega (arith, low, other) in
          ap (λ ms. times (of p ms ++ lists (suc p) many (only q ns))) no ∙ behind less

  -- One step gives all processors together what it gives each.
  step_gives : (count place : ℕ) (s : Step) (o : Outcome) → is_turn_below count s ≡ true →
      times (lists 0 count (λ p. given_to p place s o)) ≡ times (given place s o)
  step_gives count place (step.Turn q) o h = one 0 count q (shown_at place o) (omega arith) (let less = ltb-true q count h in omega arith)
  step_gives count place (step.Up s w) o h = none 0 count
  step_gives count place (step.Serve m) o h = none 0 count
  step_gives count place (step.Down s w) o h = none 0 count
  step_gives count place (step.Poke poke) o h = none 0 count

  -- The steps give all processors together what they give each.
  pub steps_give : (c : Config) (code : List ℕ) (count place : ℕ) (M : Machine ObservedCore) (steps : List Step) → turns_below count steps ≡ true →
      times (lists 0 count (λ p. pass_events_of c code p place M steps)) ≡ times (all_pass_events c code place M steps)
  steps_give c code count place M [] h = none 0 count
  steps_give c code count place M (s ∷ ss) h =
      let parts = both (is_turn_below count s) (turns_below count ss) h in
      let o : Outcome = outcome_of c code M s in
      let here = step_gives count place s o parts.0 in
      let rest = steps_give c code count (suc place) (after c code M s) ss parts.1 in
      let a = joined 0 count (λ p. given_to p place s o) (λ p. pass_events_of c code p (suc place) (after c code M s) ss) in
      let b = times-append (given place s o) (all_pass_events c code (suc place) (after c code M s) ss) in
      omega arith

-- the lists of the passes, in order
stored_are : (hs : List Held) (p : ℕ) (f : ℕ → List PassEvent) →
    ((k : ℕ) (h : Held) → slice_get hs k ≡ Some h → (h.processor ≡ p + k) × (h.row.pass_events ≡ f (p + k))) → all_stored hs ≡ lists p (length hs) f
stored_are [] p f is = refl
stored_are (h ∷ hs) p f is =
    let here = is zero h refl in
    let zero_more : p + zero ≡ p = omega arith in
    let first : of h.processor h.row.pass_events ≡ of p (f p) = (λ i. of ((here.0 ∙ zero_more) i) ((here.1 ∙ ap f zero_more) i)) in
    let rest = stored_are hs (suc p) f (λ k x e.
    let there = is (suc k) x e in
    let n : p + suc k ≡ suc p + k = omega arith in
    (there.0 ∙ n, there.1 ∙ ap f n)) in
    (λ i. first i ++ rest i)

get-rows : (hs : List Held) (k : ℕ) (h : Held) → slice_get hs k ≡ Some h → slice_get (rows_of hs) k ≡ Some h.row
get-rows [] k h e = absurd (cc)
get-rows (x ∷ hs) zero h e = let is : x ≡ h = cc in ap (λ (y : Held). Some y.row) is
get-rows (x ∷ hs) (suc k) h e = get-rows hs k h e

-- Whatever test events are counted by, the lists of the passes hold as many as the steps after the first ones gave.
pub totals_agree : (opening : MachineLists) (first : List Step) (count : ℕ) (steps : List Step) (hs : List Held) → IsWhole count hs →
    Fits opening first count steps (rows_of hs) →
    (test : ℕ × PassEvent → Bool) → count_by test (all_stored hs) ≡ count_by test (all_since opening first steps)
totals_agree opening first count steps hs whole fits test =
    let f : ℕ → List PassEvent = (λ p. pass_events_since opening first p steps) in
    let are = stored_are hs 0 f (λ k h e.
    let own = whole.own k h e in
    let row = fits.each k h.row (get-rows hs k h e) in
    let z : 0 + k ≡ k = omega arith in
    (own ∙ sym z, row.pass_events ∙ ap f (sym z))) in
    ap (λ es. count_by test es) are
    ∙ ap (λ n. count_by test (lists 0 n f)) whole.many
    ∙ steps_give test opening.config opening.code count (length first) (machine_after opening first) (drop (length first) steps) fits.turns
