-- States between references, and what they show.
use Rattle.std.proofs.Common.{◌≡◌, inl, inr, ℕ, zero, suc, ◌<◌, Bool, true, false, cond, List, [], Some, refl, sym, ap, subst, ◌∙◌}
use Rattle.local_reduction.specs.flat_machine.declared.setting.Setting.{Setting}
use Rattle.local_reduction.specs.flat_machine.State.{FlatState, is_running}
use Rattle.local_reduction.specs.flat_machine.Turns.{Turn, Retires, Reaches, Stops, turn_of}
use Rattle.local_reduction.specs.flat_machine.Flat.{flat_run, flat_events}
use Rattle.local_reduction.specs.LocalStates.{LocalState, IsAtReference, IsReference, GoesOn, Spins, alone, alone_by, alone_once, consoles_after, turns}
use Rattle.local_reduction.specs.Closing.{MacroState, IsKeptOf, ReachesMacroState, local_state_of}
use Rattle.local_reduction.specs.Results.{IsResultExchanged, result_at}
use Rattle.local_reduction.specs.Laws.{MovesUpToAreTurns, SetsClosedUpToAreNotLeft}
use Rattle.local_reduction.proofs.Lemmas.{as_it_is, beside_all, found_there, found_within, goes_alike, some_inj, spinner_exchanged}
use Rattle.state_graph.specs.Laws.{EachFoundStateIsReached, EachSpinnerIsReached, EachStateIsStoodFor, IsBetweenReferences}
use Rattle.state_graph.proofs.Resulting.{result_exchanged, result_kept}
use Rattle.state_graph.proofs.Scheduling.{none_left}

-- ---- a processor that waits to refer

stays : (x : Turn) (a : LocalState) → IsReference x → alone_by a x ≡ a
stays (Retires after retired) a w = absurd w
stays (Reaches word change after) a w = refl
stays (Stops cause) a w = absurd w

module _ (s : Setting) (code : List ℕ) (a : LocalState)
    (h : is_running a.processor.status ≡ true → IsReference (turn_of s code a.processor)) where
  stays_once : alone_once s code a ≡ a
  stays_once = by (is_running a.processor.status) refl
    where
      by : (b : Bool) → is_running a.processor.status ≡ b → alone_once s code a ≡ a
      by false e = ap (λ b. cond b (alone_by a (turn_of s code a.processor)) a) e
      by true e = ap (λ b. cond b (alone_by a (turn_of s code a.processor)) a) e ∙ stays (turn_of s code a.processor) a (h e)

  -- A processor that has stopped or is about to refer is left as it is by turns alone.
  stays_alone : (n : ℕ) → alone n s code a ≡ a
  stays_alone zero = refl
  stays_alone (suc n) = ap (alone n s code) stays_once ∙ stays_alone n

-- Between references, the state that the flat machine reaches is what is kept of it.
kept_between : (at : ℕ → Setting) (code : List ℕ) (kept : LocalState → LocalState) (n : FlatState) (consoles : ℕ → List ℕ)
    (v : MacroState) → ReachesMacroState at code kept n consoles v → IsBetweenReferences n → IsKeptOf kept n consoles v
kept_between at code kept n consoles v reaches between = record {
  shared = reaches.shared;
  all = reaches.all;
  each = λ k p found.
      let x = reaches.each k p found in
      x.1 ∙ ap (λ a. Some (kept a)) (stays_alone (at k) code (local_state_of p (consoles k))
      (λ runs. subst (λ (z : Setting × List ℕ). IsReference (turn_of z.0 z.1 p)) (λ i. (reaches.settings k i, reaches.code_is i))
      (between k p found runs)) x.0);
}

-- ---- the laws

-- If closed sets are not left, each state between references is stood for.
pub stood_for : SetsClosedUpToAreNotLeft → EachStateIsStoodFor
stood_for law at code kept classes state count moves m order f keeps h reaches none between =
    let n = flat_run m (turns order) in
    let events = flat_events m (turns order) in
    let z = none_left at code kept classes state count moves h m (λ k. []) reaches f law none order in
    let is = kept_between at code kept n (consoles_after (λ k. []) events) z.1 z.4 between in (
      z.0,
      z.2,
      (
        z.3.0,
        subst (IsResultExchanged z.3.0.place (result_at (state z.0))) (sym (result_kept kept keeps n events z.1 is))
            (result_exchanged z.3.0.place (state z.0) z.1 z.3.1),
      ),
    )

-- If ways are turns, each found state is reached.
pub found_reached : MovesUpToAreTurns → EachFoundStateIsReached
found_reached law at code kept classes state count m i f keeps reached reaches l =
    let way = reached i l in
    let z = law at code kept classes m (λ k. []) (state 0) (state 0) way.0 (state i) f (as_it_is classes (state 0)) reaches way.1 in (
      z.0,
      (
        z.2.0,
        subst (IsResultExchanged z.2.0.place (result_at (state i)))
            (sym (result_kept kept keeps (flat_run m (turns z.0)) (flat_events m (turns z.0)) z.1 z.3))
            (result_exchanged z.2.0.place (state i) z.1 z.2.1),
      ),
      λ k p found.
          subst (λ (y : Setting × List ℕ). IsAtReference y.0 y.1 p) (λ j. (sym (z.5.settings k) j, sym z.5.code_is j)) (z.4 k p found),
    )

-- If ways are turns, a processor that spins in a found state does so after some turns.
pub spinner_reached : MovesUpToAreTurns → EachSpinnerIsReached
spinner_reached law at code kept classes state count m i f reached reaches l spinner =
    let way = reached i l in
    let z = law at code kept classes m (λ k. []) (state 0) (state 0) way.0 (state i) f (as_it_is classes (state 0)) reaches way.1 in
    let n = flat_run m (turns z.0) in
    let consoles = consoles_after (λ k. []) (flat_events m (turns z.0)) in
    let spins = spinner_exchanged classes at code kept (beside_all at m reaches.settings) z.2.0 (state i) z.1 z.2.1 spinner in
    let k = spins.processor in
    let here = found_there n.processors k (subst (λ c. k < c) z.3.all (found_within z.1.local_states k spins.local_state spins.there)) in
    let own = local_state_of here.0 (consoles k) in
    let is : kept own ≡ spins.local_state = some_inj (kept own) spins.local_state (sym (z.3.each k here.0 here.1) ∙ spins.there) in
    let on : GoesOn (at k) code here.0 =
    goes_alike at code kept f k spins.local_state own (ap kept (sym is) ∙ f.once own) spins.goes_on in
    let endless : Spins (at k) code here.0 = elim (z.4 k here.0 here.1 on.0) [ inl refers ↦ absurd (on.1 refers) | inr always ↦ always ] in (
      z.0,
      (
        k,
        here.0,
        here.1,
        subst (λ (y : Setting × List ℕ). Spins y.0 y.1 here.0) (λ i. (sym (z.5.settings k) i, sym z.5.code_is i)) endless,
      ),
    )
