-- No step of a round writes from outside, and none of a drain.
use Rattle.std.proofs.Common.{◌≡◌, ℕ, zero, suc, ◌^◌, Bool, true, false, List, [], ◌∷◌, ◌++◌, take, map, Option, Some, None}
use Rattle.std.proofs.Common.{refl, sym, ◌∙◌, subst, append_assoc}
use Rattle.std.specs.Prelude.{slice_get, if◌then◌else◌}
use Rattle.std.specs.List.{range_with_len}
use Rattle.std.proofs.lemmas.List.{append-nil}
use Rattle.machine_steps.specs.messages.Network.{Sizes, Net, wires}
use Rattle.machine_steps.specs.machine_theory.Theory as theory
use Rattle.machine_steps.specs.serialization.Draining.{least, greatest, is_any, some_wire, first_wire, or_else, down_step, up_step}
use Rattle.machine_steps.specs.serialization.Draining as draining
use Rattle.machine_steps.specs.machine_theory.Theory.{Program}
use Rattle.steps.specs.Answers.{is_stalled}
use Rattle.steps.specs.declared.step.Step.{Step}
use Rattle.steps.specs.declared.step.Step.TheVariants as step
use Rattle.steps.specs.Kinds.{is_poke, no_poke}
use Rattle.steps.proofs.Lemmas.{no_poke_at, no_poke_both, no_poke_each, no_poke_more, no_poke_parts, no_poke_take}
use Rattle.machine_steps.specs.machine_theory.Processors.{ObservedCore, sizes_of, program}
use Rattle.machine_steps.specs.Draining.{drain_bound, drain_step, drain_steps, step_of}
use Rattle.machine_steps.specs.Machines.{MachineLists, machine_of}
use Rattle.machine_steps.proofs.Lemmas.{named_step}
use Rattle.schedules.specs.Rounds.{downs, on_each_wire, round, ups}
use Rattle.machine_steps.specs.Runs.{answer_after}
use Rattle.schedules.specs.Sweeps.{entered_of, rounds}

-- ---- the sweep

no_poke_ups : (k stages : ℕ) → no_poke (ups k stages) ≡ true
no_poke_ups k zero = refl
no_poke_ups k (suc stage) =
    no_poke_both (on_each_wire k (step.Up stage)) (ups k stage) (no_poke_each (step.Up stage) (λ w. refl) (range_with_len 0 (2 ^ k))) (no_poke_ups k stage)

no_poke_downs : (k stages : ℕ) → no_poke (downs k stages) ≡ true
no_poke_downs k zero = refl
no_poke_downs k (suc stage) =
    no_poke_both (downs k stage) (on_each_wire k (step.Down stage)) (no_poke_downs k stage)
    (no_poke_each (step.Down stage) (λ w. refl) (range_with_len 0 (2 ^ k)))

no_poke_round : (k : ℕ) → no_poke (round k) ≡ true
unfolding round
no_poke_round k =
    no_poke_both (on_each_wire k step.Turn ++ ups k k ++ on_each_wire k step.Serve) (downs k k)
    (no_poke_both (on_each_wire k step.Turn ++ ups k k) (on_each_wire k step.Serve)
    (no_poke_both (on_each_wire k step.Turn) (ups k k) (no_poke_each step.Turn (λ w. refl) (range_with_len 0 (2 ^ k))) (no_poke_ups k k))
    (no_poke_each step.Serve (λ w. refl) (range_with_len 0 (2 ^ k))))
    (no_poke_downs k k)

no_poke_rounds : (k count : ℕ) → no_poke (rounds k count) ≡ true
no_poke_rounds k zero = refl
no_poke_rounds k (suc n) = no_poke_both (rounds k n) (round k) (no_poke_rounds k n) (no_poke_round k)

-- No step of a round writes anything from outside.
pub step_of_round : (k place : ℕ) (s : Step) → slice_get (round k) place ≡ Some s → is_poke s ≡ false
step_of_round k place s there = no_poke_at (round k) place s (no_poke_round k) there

-- No step of whole rounds and a part of one writes anything from outside.
pub no_poke_asked : (k whole part : ℕ) → no_poke (rounds k whole ++ take part (round k)) ≡ true
no_poke_asked k whole part = no_poke_both (rounds k whole) (take part (round k)) (no_poke_rounds k whole) (no_poke_take part (round k) (no_poke_round k))

-- The new steps are the old ones, followed by steps that write nothing from outside.
abbrev AddsNoPoke : (done new : List Step) → Type 0
AddsNoPoke done new = (rest : List Step) × (no_poke rest ≡ true) × (new ≡ done ++ rest)

-- What is entered of steps that write nothing from outside follows the old steps, and writes nothing from outside either.
pub no_poke_entered : (m : MachineLists) (done asked : List Step) → no_poke asked ≡ true → AddsNoPoke done (entered_of m done asked)
unfolding entered_of
no_poke_entered m done [] own = ([], refl, sym (append-nil done))
no_poke_entered m done (s ∷ ss) own = by (is_stalled (answer_after m done s)) (λ now. no_poke_entered m now ss (no_poke_parts s ss own).1)
  where
    by : (b : Bool) → ((now : List Step) → AddsNoPoke now (entered_of m now ss)) → AddsNoPoke done (entered_of m (if b then done else done ++ s ∷ []) ss)
    by true later = later done
    by false later = let r = later (done ++ s ∷ []) in (s ∷ r.0, no_poke_more s r.0 (no_poke_parts s ss own).0 r.1, r.2 ∙ append_assoc done (s ∷ []) r.0)

-- ---- a drain

abbrev NamesNoPoke : Option theory.Step → Type 0
NamesNoPoke None = Unit {0}
NamesNoPoke (Some st) = is_poke (step_of st) ≡ false

either : (a b : Option theory.Step) → NamesNoPoke a → NamesNoPoke b → NamesNoPoke (or_else a b)
either (Some a) b h k = h
either None b h k = k

of_wire : (o : Option ℕ) (go : ℕ → theory.Step) → ((w : ℕ) → is_poke (step_of (go w)) ≡ false) → NamesNoPoke (elim o [ Some w ↦ Some (go w) | None ↦ None ])
of_wire None go h = tt
of_wire (Some w) go h = h w

of_stage : (o : Option ℕ) (f : ℕ → Option theory.Step) → ((s : ℕ) → NamesNoPoke (f s)) → NamesNoPoke (elim o [ Some s ↦ f s | None ↦ None ])
of_stage None f h = tt
of_stage (Some s) f h = h s

names_no_poke : (z : Sizes) (M : theory.Machine ObservedCore) → NamesNoPoke (draining.drain_step z M)
names_no_poke z M =
    let net : Net = M.net in
    either (first_wire (net.replies 0) (wires z) theory.Turn)
    (or_else (down_step z net) (or_else (first_wire (net.requests z.k) (wires z) theory.Serve) (up_step z net)))
    (of_wire (least (λ w. is_any (net.replies 0 w)) (wires z)) theory.Turn (λ w. refl))
    (either (down_step z net) (or_else (first_wire (net.requests z.k) (wires z) theory.Serve) (up_step z net))
    (of_stage (least (λ s. some_wire (net.replies (suc s)) (wires z)) z.k) (λ s. first_wire (net.replies (suc s)) (wires z) (theory.Down s))
    (λ s. of_wire (least (λ w. is_any (net.replies (suc s) w)) (wires z)) (theory.Down s) (λ w. refl)))
    (either (first_wire (net.requests z.k) (wires z) theory.Serve) (up_step z net)
    (of_wire (least (λ w. is_any (net.requests z.k w)) (wires z)) theory.Serve (λ w. refl))
    (of_stage (greatest (λ s. some_wire (net.requests s) (wires z)) z.k) (λ s. first_wire (net.requests s) (wires z) (theory.Up s))
    (λ s. of_wire (least (λ w. is_any (net.requests s w)) (wires z)) (theory.Up s) (λ w. refl)))))

-- The step that a drain takes next writes nothing from outside.
pub drain_is_no_poke : (m : MachineLists) (s : Step) → drain_step m ≡ Some s → is_poke s ≡ false
drain_is_no_poke m s e =
    let M : theory.Machine ObservedCore = machine_of m (λ p. []) in
    let n = named_step (draining.drain_step (sizes_of m.config) M) s e in
    subst (λ s. is_poke s ≡ false) n.2 (subst NamesNoPoke n.1 (names_no_poke (sizes_of m.config) M))

no_poke_drained : (z : Sizes) (P : Program ObservedCore) (bound : ℕ) (M : theory.Machine ObservedCore) →
    no_poke (map step_of (draining.drain_steps z P bound M)) ≡ true
unfolding draining.drain_steps
no_poke_drained z P zero M = refl
no_poke_drained z P (suc n) M = by (draining.drain_step z M) (names_no_poke z M) (λ N. no_poke_drained z P n N)
  where
    by : (o : Option theory.Step) → NamesNoPoke o → ((N : theory.Machine ObservedCore) → no_poke (map step_of (draining.drain_steps z P n N)) ≡ true) →
        no_poke (map step_of (elim o [ Some st ↦ st ∷ draining.drain_steps z P n (theory.step z P M st).machine | None ↦ [] ])) ≡ true
    by None own later = refl
    by (Some st) own later = no_poke_more (step_of st) (map step_of (draining.drain_steps z P n (theory.step z P M st).machine)) own
        (later (theory.step z P M st).machine)

-- No step of a drain writes anything from outside.
pub no_poke_drain : (m : MachineLists) → no_poke (drain_steps m) ≡ true
no_poke_drain m = no_poke_drained (sizes_of m.config) (program m.config m.code) (drain_bound m.config) (machine_of m (λ p. []))
