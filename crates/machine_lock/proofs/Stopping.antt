-- A processor whose list ends with its stop has no reference open, and never will have one.
use Rattle.std.proofs.Common.{◌≡◌, ◌≢◌, ◌⊎◌, inl, inr, ℕ, suc, Bool, true, false, not, List, [], ◌∷◌, ◌++◌, refl, sym, ap, ◌∙◌, subst, eq-eqb, ne_eqb, ⊎_elim}
use Rattle.std.specs.Prelude.{◌&&◌, nat_lt, Option, Some, None, if◌then◌else◌}
use Rattle.std.proofs.lemmas.Bool.{cases_eq}
use Rattle.flat_machine.specs.declared.config.Config.{Config}
use Rattle.flat_machine.specs.declared.event.Cause.{Cause}
use Rattle.flat_machine.specs.declared.event.Cause.TheVariants as cause
use Rattle.flat_machine.specs.declared.event.Event.TheVariants as event
use Rattle.flat_machine.specs.declared.event.Retired as retirement
use Rattle.flat_machine.specs.State.{Processor, is_running, status_of}
use Rattle.flat_machine.specs.Turns.{Turn, Retires, Reaches, Stops}
use Rattle.hart.specs.Deciding.{after_reply}
use Rattle.machine_steps.specs.messages.declared.message.Reply.{Reply}
use Rattle.machine_steps.specs.messages.declared.message.Request.{Request}
use Rattle.machine_steps.specs.messages.declared.moves.UpMove.{UpMove}
use Rattle.machine_steps.specs.messages.declared.moves.UpMove.TheVariants as up
use Rattle.machine_steps.specs.messages.declared.moves.DownMove.{DownMove}
use Rattle.machine_steps.specs.messages.declared.moves.DownMove.TheVariants as down
use Rattle.machine_steps.specs.messages.Moves.{moved_up, moved_down}
use Rattle.machine_steps.specs.messages.Network.{Net, Sizes, wires}
use Rattle.machine_steps.proofs.Lemmas.messages.{put_other, put_same}
use Rattle.machine_steps.specs.serialization.Program.{Kind, Rests, Alone, Refers}
use Rattle.machine_steps.specs.machine_theory.Theory as theory
use Rattle.machine_steps.specs.machine_theory.Processors.{ObservedCore, alone_by, kind_of, next, program, sizes_of}
use Rattle.machine_steps.specs.machine_theory.Steps.{outcome_of, after, answer_of, outcome_of_reply, outcome_of_turn}
use Rattle.steps.specs.declared.step.Step.{Step}
use Rattle.steps.specs.declared.step.Step.TheVariants as step
use Rattle.steps.specs.declared.step.Outcome.{Outcome}
use Rattle.steps.specs.declared.step.Outcome.TheVariants as outcome
use Rattle.machine_steps.specs.Runs.{all_after}
use Rattle.machine_lock.specs.declared.row.PassEvent.{PassEvent}
use Rattle.steps.specs.Kinds.{is_poke, no_poke}
use Rattle.machine_lock.specs.Lists.{given_to, pass_events_of, shown_at}

-- The processor is over: it has no reference open, and does not run.
record IsOver (p : ℕ) (M : theory.Machine ObservedCore) : Type 0 where
  pub shut : M.is_open p ≡ false
  pub rests : is_running (M.core p).state.status ≡ false

both : (a b : Bool) → (a && b) ≡ true → (a ≡ true) × (b ≡ true)
both true b e = (refl, e)
both false b e = absurd (cc)

-- ---- a processor that is over stays over

-- If a step leaves the processors as they are, one that is over stays over.
kept : (p : ℕ) (M N : theory.Machine ObservedCore) → N.core ≡ M.core → N.is_open ≡ M.is_open → IsOver p M → IsOver p N
kept p M N core shut h = record {
  shut = ap (λ (f : ℕ → Bool). f p) shut ∙ h.shut;
  rests = ap (λ (f : ℕ → ObservedCore). is_running (f p).state.status) core ∙ h.rests;
}

abbrev Stays : ℕ → theory.Result ObservedCore → Type 0
Stays p R = IsOver p R.machine

either_way : (p : ℕ) (b : Bool) (R S : theory.Result ObservedCore) → Stays p R → Stays p S → Stays p (if b then R else S)
either_way p true R S r s = r
either_way p false R S r s = s

went_up : (p : ℕ) (M : theory.Machine ObservedCore) (r : UpMove × Net) → IsOver p M → Stays p (theory.went_up M r)
went_up p M (up.Stalled, net) h = h
went_up p M (up.Moved, net) h = kept p M (theory.went_up M (up.Moved, net)).machine refl refl h
went_up p M (up.Combined first second, net) h = kept p M (theory.went_up M (up.Combined first second, net)).machine refl refl h

went_down : (p : ℕ) (M : theory.Machine ObservedCore) (r : DownMove × Net) → IsOver p M → Stays p (theory.went_down M r)
went_down p M (down.Stalled, net) h = h
went_down p M (down.Moved, net) h = kept p M (theory.went_down M (down.Moved, net)).machine refl refl h
went_down p M (down.Answered to, net) h = kept p M (theory.went_down M (down.Answered to, net)).machine refl refl h

served : (p : ℕ) (z : Sizes) (M : theory.Machine ObservedCore) (m : ℕ) (requests : List Request) (replies : List Reply) → IsOver p M →
    Stays p (theory.serve_from z M m requests replies)
served p z M m [] replies h = h
served p z M m (x ∷ rest) (y ∷ ys) h = h
served p z M m (x ∷ rest) [] h = kept p M (theory.serve_from z M m (x ∷ rest) []).machine refl refl h

module _ (c : Config) (code : List ℕ) where
  abbrev P : theory.Program ObservedCore
  P = program c code

  -- The turn of another processor keeps it over.
  retired_else : (p q : ℕ) (M : theory.Machine ObservedCore) (ys : List Reply) → p ≢ q → IsOver p M → Stays p (theory.retire_from P M q ys)
  retired_else p q M [] other h = h
  retired_else p q M (y ∷ ys) other h = record {
    shut = put_other M.is_open q false p other ∙ h.shut;
    rests = ap (λ (g : ObservedCore). is_running g.state.status) (put_other M.core q (P.retire q (M.core q) y.value) p other) ∙ h.rests;
  }

  begun_else : (p q : ℕ) (M : theory.Machine ObservedCore) (kind : Kind) → p ≢ q → IsOver p M → Stays p (theory.begin P M q kind)
  begun_else p q M Rests other h = h
  begun_else p q M Alone other h = record {
    shut = h.shut;
    rests = ap (λ (g : ObservedCore). is_running g.state.status) (put_other M.core q (P.alone q (M.core q)) p other) ∙ h.rests;
  }
  begun_else p q M Refers other h = record { shut = put_other M.is_open q true p other ∙ h.shut; rests = h.rests }

  turned_else : (p q : ℕ) (M : theory.Machine ObservedCore) (b : Bool) → p ≢ q → IsOver p M → Stays p (theory.turned P M q b)
  turned_else p q M true other h = retired_else p q M (M.net.replies 0 q) other h
  turned_else p q M false other h = begun_else p q M (P.kind q (M.core q)) other h

  -- Its own turn stalls.
  own_stalls : (p : ℕ) (M : theory.Machine ObservedCore) → IsOver p M → theory.turned P M p (M.is_open p) ≡ theory.stalled M
  own_stalls p M h =
      ap (theory.turned P M p) h.shut ∙ ap (λ b. theory.begin P M p (kind_of b (next c code p (M.core p).state))) h.rests

  own_stays : (p : ℕ) (M : theory.Machine ObservedCore) → IsOver p M → Stays p (theory.turned P M p (M.is_open p))
  own_stays p M h = subst (Stays p) (sym (own_stalls p M h)) h

  turn_stays : (p q : ℕ) (M : theory.Machine ObservedCore) → IsOver p M → (p ≡ q) ⊎ (p ≢ q) → Stays p (theory.turned P M q (M.is_open q))
  turn_stays p q M h (inl same) = subst (λ r. Stays p (theory.turned P M r (M.is_open r))) same (own_stays p M h)
  turn_stays p q M h (inr other) = turned_else p q M (M.is_open q) other h

  over_stays : (p : ℕ) (M : theory.Machine ObservedCore) (s : Step) → not (is_poke s) ≡ true → IsOver p M → IsOver p (after c code M s)
  unfolding after
  over_stays p M (step.Turn q) own h =
      either_way p (nat_lt q (wires (sizes_of c))) (theory.turned P M q (M.is_open q)) (theory.stalled M) (turn_stays p q M h (cases_eq p q)) h
  over_stays p M (step.Up s w) own h =
      either_way p (nat_lt w (wires (sizes_of c))) (theory.went_up M (moved_up (sizes_of c) M.net s w)) (theory.stalled M)
      (went_up p M (moved_up (sizes_of c) M.net s w) h) h
  over_stays p M (step.Serve m) own h =
      either_way p (nat_lt m (wires (sizes_of c))) (theory.serve_from (sizes_of c) M m (M.net.requests c.k m) (M.net.replies c.k m)) (theory.stalled M)
      (served p (sizes_of c) M m (M.net.requests c.k m) (M.net.replies c.k m) h) h
  over_stays p M (step.Down s w) own h =
      either_way p (nat_lt w (wires (sizes_of c))) (theory.went_down M (moved_down (sizes_of c) M.net s w)) (theory.stalled M)
      (went_down p M (moved_down (sizes_of c) M.net s w) h) h
  over_stays p M (step.Poke q) own h = absurd (cc)

  all_stays : (p : ℕ) (M : theory.Machine ObservedCore) (steps : List Step) → no_poke steps ≡ true → IsOver p M → IsOver p (all_after c code M steps)
  unfolding all_after
  all_stays p M [] own h = h
  all_stays p M (s ∷ ss) own h = let o = both (not (is_poke s)) (no_poke ss) own in all_stays p (after c code M s) ss o.1 (over_stays p M s o.0 h)

  -- ---- after a turn that stops it, the processor is over

  no_stop_in_reply : (nx : ℕ → Turn) (p : ℕ) (M : theory.Machine ObservedCore) (ys : List Reply) (why : Cause) →
      answer_of nx (theory.retire_from P M p ys).outcome ≡ outcome.Stopped why → ⊥
  no_stop_in_reply nx p M [] why e = cc
  no_stop_in_reply nx p M (y ∷ ys) why e = none (after_reply (nx p) y.value) e
    where
      none : (done : Option (Processor × retirement.Retired)) → outcome_of_reply done ≡ outcome.Stopped why → ⊥
      none None e = cc
      none (Some done) e = cc

  stopped : (why : Cause) → is_running (status_of why) ≡ false
  stopped (cause.Halt byte) = refl
  stopped (cause.Fault fault) = refl

  stop_by : (p : ℕ) (M : theory.Machine ObservedCore) (runs : Bool) (t : Turn) (why : Cause) → M.is_open p ≡ false → next c code p (M.core p).state ≡ t →
      answer_of (λ q. next c code q (M.core q).state) (theory.begin P M p (kind_of runs t)).outcome ≡ outcome.Stopped why →
      Stays p (theory.begin P M p (kind_of runs t))
  stop_by p M false t why shut is e = absurd (cc)
  stop_by p M true (Retires later retired) why shut is e = absurd (wrong (sym (ap outcome_of_turn is) ∙ e))
    where
      wrong : outcome.Retired retired ≡ outcome.Stopped why → ⊥
      wrong e = cc
  stop_by p M true (Reaches word change later) why shut is e = absurd (cc)
  stop_by p M true (Stops because) why shut is e = record {
    shut = shut;
    rests = ap (λ (g : ObservedCore). is_running g.state.status) (put_same M.core p (P.alone p (M.core p)) ∙ ap (alone_by (M.core p)) is) ∙ stopped because;
  }

  turned_stop : (p : ℕ) (M : theory.Machine ObservedCore) (b : Bool) (why : Cause) → M.is_open p ≡ b →
      answer_of (λ q. next c code q (M.core q).state) (theory.turned P M p b).outcome ≡ outcome.Stopped why → Stays p (theory.turned P M p b)
  turned_stop p M true why is e = absurd (no_stop_in_reply (λ q. next c code q (M.core q).state) p M (M.net.replies 0 p) why e)
  turned_stop p M false why is e =
      stop_by p M (is_running (M.core p).state.status) (next c code p (M.core p).state) why is refl e

  own_stop : (p : ℕ) (M : theory.Machine ObservedCore) (there : Bool) (why : Cause) →
      answer_of (λ q. next c code q (M.core q).state) (if there then theory.turned P M p (M.is_open p) else theory.stalled M).outcome ≡ outcome.Stopped why →
      Stays p (if there then theory.turned P M p (M.is_open p) else theory.stalled M)
  own_stop p M true why e = turned_stop p M (M.is_open p) why refl e
  own_stop p M false why e = absurd (cc)

  stop_is_over : (p : ℕ) (M : theory.Machine ObservedCore) (why : Cause) → outcome_of c code M (step.Turn p) ≡ outcome.Stopped why →
      IsOver p (after c code M (step.Turn p))
  unfolding outcome_of after
  stop_is_over p M why e = own_stop p M (nat_lt p (wires (sizes_of c))) why e

  -- ---- a list that ends with a stop

  -- If what a step gives ends with a stop, the step is the turn that stopped.
  gives_stop : (p place : ℕ) (M : theory.Machine ObservedCore) (s : Step) (o : Outcome) (before : List PassEvent) (at : ℕ) (why : Cause) →
      given_to p place s o ≡ before ++ record { event = event.Stopped why; place = at } ∷ [] → (s ≡ step.Turn p) × (o ≡ outcome.Stopped why)
  gives_stop p place M (step.Turn q) o before at why e = by (cases_eq p q)
    where
      in_shown : (o : Outcome) (before : List PassEvent) → shown_at place o ≡ before ++ record { event = event.Stopped why; place = at } ∷ [] →
          o ≡ outcome.Stopped why
      in_shown (outcome.Stopped because) [] e =
          let first : record { event = event.Stopped because; place = place } ≡ record { event = event.Stopped why; place = at } = cc in
          let same : event.Stopped because ≡ event.Stopped why = ap (λ (n : PassEvent). n.event) first in
          let it : because ≡ why = cc in ap outcome.Stopped it
      in_shown (outcome.Stopped because) (b ∷ []) e = absurd (cc)
      in_shown (outcome.Stopped because) (b ∷ c ∷ bs) e = absurd (cc)
      in_shown (outcome.Retired retired) [] e =
          let first : record { event = event.Retired retired; place = place } ≡ record { event = event.Stopped why; place = at } = cc in
          let same : event.Retired retired ≡ event.Stopped why = ap (λ (n : PassEvent). n.event) first in absurd (cc)
      in_shown (outcome.Retired retired) (b ∷ []) e = absurd (cc)
      in_shown (outcome.Retired retired) (b ∷ c ∷ bs) e = absurd (cc)
      in_shown outcome.Issued [] e = absurd (cc)
      in_shown outcome.Issued (b ∷ bs) e = absurd (cc)
      in_shown outcome.Moved [] e = absurd (cc)
      in_shown outcome.Moved (b ∷ bs) e = absurd (cc)
      in_shown (outcome.Combined first second) [] e = absurd (cc)
      in_shown (outcome.Combined first second) (b ∷ bs) e = absurd (cc)
      in_shown (outcome.Served leader) [] e = absurd (cc)
      in_shown (outcome.Served leader) (b ∷ bs) e = absurd (cc)
      in_shown (outcome.Answered to) [] e = absurd (cc)
      in_shown (outcome.Answered to) (b ∷ bs) e = absurd (cc)
      in_shown outcome.Poked [] e = absurd (cc)
      in_shown outcome.Poked (b ∷ bs) e = absurd (cc)
      in_shown outcome.Stalled [] e = absurd (cc)
      in_shown outcome.Stalled (b ∷ bs) e = absurd (cc)

      none : (before : List PassEvent) → [] ≡ before ++ record { event = event.Stopped why; place = at } ∷ [] → ⊥
      none [] e = cc
      none (b ∷ bs) e = cc

      by : (p ≡ q) ⊎ (p ≢ q) → (step.Turn q ≡ step.Turn p) × (o ≡ outcome.Stopped why)
      by (inl same) =
          (ap step.Turn (sym same), in_shown o before (sym (ap (λ (b : Bool). if b then shown_at place o else []) (eq-eqb q p (sym same))) ∙ e))
      by (inr other) =
          absurd (none before (sym (ap (λ (b : Bool). if b then shown_at place o else []) (ne_eqb q p (λ h. other (sym h)))) ∙ e))
  gives_stop p place M (step.Up s w) o [] at why e = absurd (cc)
  gives_stop p place M (step.Up s w) o (b ∷ bs) at why e = absurd (cc)
  gives_stop p place M (step.Serve m) o [] at why e = absurd (cc)
  gives_stop p place M (step.Serve m) o (b ∷ bs) at why e = absurd (cc)
  gives_stop p place M (step.Down s w) o [] at why e = absurd (cc)
  gives_stop p place M (step.Down s w) o (b ∷ bs) at why e = absurd (cc)
  gives_stop p place M (step.Poke q) o [] at why e = absurd (cc)
  gives_stop p place M (step.Poke q) o (b ∷ bs) at why e = absurd (cc)

  -- If one list followed by another ends with an element, the second is empty, or ends with it.
  tail_end : (xs ys before : List PassEvent) (n : PassEvent) → xs ++ ys ≡ before ++ n ∷ [] →
      ((ys ≡ []) × (xs ≡ before ++ n ∷ [])) ⊎ ((front : List PassEvent) × (ys ≡ front ++ n ∷ []))
  tail_end [] ys before n e = inr (before, e)
  tail_end (x ∷ xs) ys [] n e =
      let t : xs ++ ys ≡ [] = cc in
      let z = empty xs ys t in
      inl (z.1, sym (ap (λ (l : List PassEvent). x ∷ l) (sym z.0)) ∙ (let h : x ≡ n = cc in ap (λ (y : PassEvent). y ∷ []) h))
    where
      empty : (xs ys : List PassEvent) → xs ++ ys ≡ [] → (xs ≡ []) × (ys ≡ [])
      empty [] ys e = (refl, e)
      empty (x ∷ xs) ys e = absurd (cc)
  tail_end (x ∷ xs) ys (b ∷ bs) n e =
      let h : x ≡ b = cc in
      let t : xs ++ ys ≡ bs ++ n ∷ [] = cc in
      ⊎_elim (λ (z : (ys ≡ []) × (xs ≡ bs ++ n ∷ [])). inl (z.0, (λ i. h i ∷ z.1 i))) (λ (z : (front : List PassEvent) × (ys ≡ front ++ n ∷ [])). inr z)
      (tail_end xs ys bs n t)

  over_at_end : (p place : ℕ) (M : theory.Machine ObservedCore) (steps : List Step) (before : List PassEvent) (at : ℕ) (why : Cause) → no_poke steps ≡ true →
      pass_events_of c code p place M steps ≡ before ++ record { event = event.Stopped why; place = at } ∷ [] → IsOver p (all_after c code M steps)
  unfolding all_after
  over_at_end p place M [] [] at why own e = absurd (cc)
  over_at_end p place M [] (b ∷ bs) at why own e = absurd (cc)
  over_at_end p place M (s ∷ ss) before at why own e =
      let o = both (not (is_poke s)) (no_poke ss) own in
      let n : PassEvent = record { event = event.Stopped why; place = at } in
      let rest = pass_events_of c code p (suc place) (after c code M s) ss in
      ⊎_elim
      (λ (z : (rest ≡ []) × (given_to p place s (outcome_of c code M s) ≡ before ++ n ∷ [])).
      let it = gives_stop p place M s (outcome_of c code M s) before at why z.1 in
      let now : outcome_of c code M (step.Turn p) ≡ outcome.Stopped why = ap (outcome_of c code M) (sym it.0) ∙ it.1 in
      all_stays p (after c code M s) ss o.1 (subst (λ t. IsOver p (after c code M t)) (sym it.0) (stop_is_over p M why now)))
      (λ (z : (front : List PassEvent) × (rest ≡ front ++ n ∷ [])). over_at_end p (suc place) (after c code M s) ss z.0 at why o.1 z.1)
      (tail_end (given_to p place s (outcome_of c code M s)) rest before n e)

-- A processor whose list ends with its stop has no reference open after the steps, if no poke is among them.
pub stopped_are_shut : (c : Config) (code : List ℕ) (p place : ℕ) (M : theory.Machine ObservedCore) (steps : List Step) (before : List PassEvent) (at : ℕ)
    (why : Cause) →
    no_poke steps ≡ true → pass_events_of c code p place M steps ≡ before ++ record { event = event.Stopped why; place = at } ∷ [] →
    (all_after c code M steps).is_open p ≡ false
stopped_are_shut c code p place M steps before at why own e = (over_at_end c code p place M steps before at why own e).shut
