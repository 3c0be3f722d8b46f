-- A drain ends, within its bound.
use Rattle.std.proofs.Common.{◌≡◌, ℕ, zero, suc, ◌<◌, ◌≤◌, Bool, false, List, [], ◌∷◌, length, inl}
use Rattle.std.proofs.Common.{inr, Option, Some, None, is_some, refl, sym, ap, ap₂, ◌∙◌, arith}
use Rattle.std.proofs.lemmas.Bool.{true≢false}
use Rattle.network_theory.specs.messages.Places.{In}
use Rattle.network_theory.specs.messages.Network.{Sizes, wires}
use Rattle.network_theory.specs.Roles.{Role, Idle, Asking, Replying}
use Rattle.serialization.specs.Program.{Program}
use Rattle.serialization.specs.Machine.{Machine, Step, Turn, Up, Serve, Down, step, IsIdle, machine_after}
use Rattle.serialization.specs.Steadiness.{Steady, total}
use Rattle.serialization.specs.Draining.{least, greatest, is_any, some_wire, first_wire, or_else, down_step, up_step}
use Rattle.serialization.specs.Draining.{drain_step, AreDistances, DrainIs, drain_steps, drain_bound}
use Rattle.serialization.proofs.Steadying.{goes_step}
use Rattle.serialization.proofs.Draining.{drain_is, bound, distances_are}
use Rattle.serialization.proofs.Least.{LeastIs, GreatestIs, least_is, greatest_is}

-- ---- no step is named if no reference is open

no_least : (f : ℕ → Bool) (n : ℕ) → ((j : ℕ) → f j ≡ false) → least f n ≡ None
no_least f n h = go (least f n) (least_is f n)
  where
    go : (o : Option ℕ) → LeastIs f n o → o ≡ None
    go None l = refl
    go (Some i) l = absurd (true≢false (sym l.passes ∙ h i))

no_greatest : (f : ℕ → Bool) (n : ℕ) → ((j : ℕ) → f j ≡ false) → greatest f n ≡ None
no_greatest f n h = go (greatest f n) (greatest_is f n)
  where
    go : (o : Option ℕ) → GreatestIs f n o → o ≡ None
    go None l = refl
    go (Some i) l = absurd (true≢false (sym l.passes ∙ h i))

none_at : {X : Type 0} (xs : List X) → ((x : X) → In x xs → ⊥) → is_any xs ≡ false
none_at [] h = refl
none_at (x ∷ xs) h = absurd (h x (inl refl))

no_first : {X Pokes : Type 0} (at : ℕ → List X) (n : ℕ) (go : ℕ → Step Pokes) → ((w : ℕ) → is_any (at w) ≡ false) → first_wire at n go ≡ None
no_first at n go h = ap (λ o. elim o [ Some w ↦ Some (go w) | None ↦ None ]) (no_least (λ w. is_any (at w)) n h)

no_some : {X : Type 0} (at : ℕ → List X) (n : ℕ) → ((w : ℕ) → is_any (at w) ≡ false) → some_wire at n ≡ false
no_some at n h = ap is_some (no_least (λ w. is_any (at w)) n h)

-- If no reference of a steady machine is open, its drain names no step.
pub idle_names_none : {Core Pokes Entry : Type 0} → (z : Sizes) (P : Program Core Pokes Entry) (M : Machine Core) (role : ℕ → Role) → Steady z P M role
    → IsIdle z M → drain_step {Pokes = Pokes} z M ≡ None
idle_names_none z P M role ok no_open =
    let all : (p : ℕ) → role p ≡ Idle = (λ p. elim (ok.small p) [ inl i ↦ i | inr l ↦ (ok.shut p).0 (no_open p l) ]) in
    let requests : (d w : ℕ)
    → is_any (M.net.requests d w) ≡ false =
    (λ d w. none_at (M.net.requests d w) (λ x m. let h = (ok.placed.requests d w x m).asks in let c : Asking d ≡ Idle = sym h ∙ all x.leader in cc)) in
    let replies : (d w : ℕ) → is_any (M.net.replies d w) ≡ false =
    (λ d w. none_at (M.net.replies d w) (λ x m. let h = (ok.placed.replies d w x m).replying in let c : Replying d ≡ Idle = sym h ∙ all x.leader in cc)) in
    let turn : first_wire (M.net.replies 0) (wires z) Turn ≡ None = no_first (M.net.replies 0) (wires z) Turn (replies 0) in
    let going_down : down_step z M.net ≡ None =
    ap (λ o. elim o [ Some s ↦ first_wire (M.net.replies (suc s)) (wires z) (Down s) | None ↦ None ])
    (no_least (λ s. some_wire (M.net.replies (suc s)) (wires z)) z.k (λ s. no_some (M.net.replies (suc s)) (wires z) (replies (suc s)))) in
    let serve : first_wire (M.net.requests z.k) (wires z) Serve ≡ None = no_first (M.net.requests z.k) (wires z) Serve (requests z.k) in
    let going_up : up_step z M.net ≡ None =
    ap (λ o. elim o [ Some s ↦ first_wire (M.net.requests s) (wires z) (Up s) | None ↦ None ])
    (no_greatest (λ s. some_wire (M.net.requests s) (wires z)) z.k (λ s. no_some (M.net.requests s) (wires z) (requests s))) in
    ap₂ or_else turn (ap₂ or_else going_down (ap₂ or_else serve going_up))

-- ---- the end

-- A drain of n steps ends idle, if the sum of the distances is at most n.
pub drained : {Core Pokes Entry : Type 0} → (z : Sizes) (P : Program Core Pokes Entry) (n : ℕ) (M : Machine Core) (role : ℕ → Role) (f : ℕ → ℕ)
    → Steady z P M role → z.r < z.c → AreDistances z M f → total f (wires z) ≤ n → (p : ℕ) → (machine_after z P (drain_steps z P n M) M).is_open p ≡ false
unfolding drain_steps machine_after
drained {Core} {Pokes} z P zero M role f ok room df l p = go (drain_step z M) (drain_is z P M role ok room)
  where
    go : (o : Option (Step Pokes)) → DrainIs z P M o → M.is_open p ≡ false
    go None d = d p
    go (Some st) d =
        let s = goes_step z P M role st ok in
        let g = distances_are z P (step z P M st).machine s.0 s.1 in
        let less = d.1 f g.0 df g.1 in
        absurd (omega arith)
drained {Core} {Pokes} z P (suc n) M role f ok room df l p = go (λ st g. drained z P n (step z P M st).machine g) (drain_step z M) (drain_is z P M role ok room)
  where
    go : ((st : Step Pokes) (g : ℕ → Role) (h : ℕ → ℕ) → Steady z P (step z P M st).machine g → z.r < z.c → AreDistances z (step z P M st).machine h
        → total h (wires z) ≤ n → (q : ℕ) → (machine_after z P (drain_steps z P n (step z P M st).machine) (step z P M st).machine).is_open q ≡ false)
        → (o : Option (Step Pokes)) → DrainIs z P M o
        → (machine_after z P (elim o [ Some st ↦ st ∷ drain_steps z P n (step z P M st).machine | None ↦ [] ]) M).is_open p ≡ false
    go later None d = d p
    go later (Some st) d =
        let s = goes_step z P M role st ok in
        let g = distances_are z P (step z P M st).machine s.0 s.1 in
        let less = d.1 f g.0 df g.1 in
        later st s.0 g.0 s.1 room g.1 (omega arith) p

-- If r < c, no reference is open after the drain of a steady machine.
pub drain_ends : {Core Pokes Entry : Type 0} → (z : Sizes) (P : Program Core Pokes Entry) (M : Machine Core) (role : ℕ → Role) → Steady z P M role → z.r < z.c
    → (p : ℕ) → (machine_after z P (drain_steps z P (drain_bound z) M) M).is_open p ≡ false
drain_ends z P M role ok room =
    let f = distances_are z P M role ok in
    drained z P (drain_bound z) M role f.0 ok room f.1 (bound z P M role ok f.0 f.1)

-- A drain that may take n steps takes at most n.
pub drain_is_short : {Core Pokes Entry : Type 0} → (z : Sizes) (P : Program Core Pokes Entry) (n : ℕ) (M : Machine Core) → length (drain_steps z P n M) ≤ n
unfolding drain_steps
drain_is_short z P zero M = omega arith
drain_is_short {Core} {Pokes} z P (suc n) M = go (λ st. drain_is_short z P n (step z P M st).machine) (drain_step z M)
  where
    go : ((st : Step Pokes) → length (drain_steps z P n (step z P M st).machine) ≤ n) → (o : Option (Step Pokes))
        → length {A = Step Pokes} (elim o [ Some st ↦ st ∷ drain_steps z P n (step z P M st).machine | None ↦ [] ]) ≤ suc n
    go later None = omega arith
    go later (Some st) = let h = later st in omega arith

-- A steady machine is steady after each list of steps.
pub steady_after : {Core Pokes Entry : Type 0} → (z : Sizes) (P : Program Core Pokes Entry) (steps : List (Step Pokes)) (M : Machine Core) (role : ℕ → Role)
    → Steady z P M role → (role' : ℕ → Role) × Steady z P (machine_after z P steps M) role'
unfolding machine_after
steady_after z P [] M role ok = (role, ok)
steady_after z P (st ∷ sts) M role ok = let g = goes_step z P M role st ok in steady_after z P sts (step z P M st).machine g.0 g.1
