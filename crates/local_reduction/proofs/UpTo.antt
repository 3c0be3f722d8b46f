-- What closed sets and ways up to exchanges say of the flat machine.
use Rattle.std.proofs.Common.{◌≡◌, ◌⊎◌, inl, inr, ℕ, true, List, Some, refl, sym, ap, subst, ◌∙◌, arith}
use Rattle.std.specs.Prelude.{slice_get, slice_index}
use Rattle.flat_machine.specs.declared.setting.Setting.{Setting}
use Rattle.flat_machine.specs.State.{FlatState, is_running, setting_of}
use Rattle.flat_machine.specs.Turns.{turn_of}
use Rattle.flat_machine.specs.Flat.{flat_run, flat_events}
use Rattle.local_reduction.specs.LocalStates.{LocalState, retire, alone, consoles_after, turns, IsReference, IsAtReference}
use Rattle.local_reduction.specs.Closing.{IsForgetful, MacroState, gone, HasSpinner, IsIn, IsMove, ReachesMacroState, IsKeptOf}
use Rattle.local_reduction.specs.Exchanging.{IsBeside, IsExchangeOf, IsMoveUpTo, IsClosedUpTo}
use Rattle.local_reduction.specs.Laws.{NumbersAreNotAskedFor, MovesAreOfAny, SetsClosedUpToContainAllFinalStates}
use Rattle.local_reduction.specs.Laws.{SetsClosedUpToAreNotLeft, MovesUpToAreTurns, EachExchangeIsReached}
use Rattle.local_reduction.specs.Laws.{ShortUpToSchedulesEnd}
use Rattle.local_reduction.proofs.Covering.{Ran, covered_run, standing_kept, stopped_stand}
use Rattle.local_reduction.proofs.Moving.{moved}
use Rattle.local_reduction.proofs.Reaching.{moves_are}
use Rattle.local_reduction.proofs.Bounding.{bounded}
use Rattle.local_reduction.proofs.Numbers.{alone_same, reference_same, at_reference_same, never_later}
use Rattle.local_reduction.proofs.Exchanging.{none, back, both, exchanged_back, uniform_stays, led, way_led, spinner_exchanged, short_exchanged}

-- Turns alone that do not ask for the number are the same with each.
pub not_asked : NumbersAreNotAskedFor
not_asked s t code count a b h = alone_same s t b code count a h

-- A move after which the processor never asks for its number can be made by any processor of its class.
pub of_any : MovesAreOfAny
of_any at code kept classes s k i a word change after count f beside there runs turn at_reference asks j alike =
    let same : alone count (at i) code (retire a (after (slice_index s.shared word))) ≡ alone count (at j) code (retire a (after (slice_index s.shared word))) =
    alone_same (at i) (at j) (beside i j) code count (retire a (after (slice_index s.shared word))) (asks count) in
    subst (λ z. IsMove (λ _. at j) code kept s k (gone s k (kept z) word (change (slice_index s.shared word)))) (sym same)
    (moved (λ _. at j) code kept s k a word change after count
    (record { running = f.running; turn = λ _ b running. f.turn j b running; stopped = f.stopped; once = f.once }) there runs
    (sym (reference_same (at i) (at j) (beside i j) code a.processor (subst IsReference (sym turn) tt)) ∙ turn)
    (subst (λ z. IsAtReference (at j) code z.processor) same
    (at_reference_same (at i) (at j) (beside i j) code (alone count (at i) code (retire a (after (slice_index s.shared word))))
    (never_later count (at i) code (retire a (after (slice_index s.shared word))) asks) at_reference)))

-- The settings of a flat machine's processors differ by their numbers alone.
pub beside_all : (at : ℕ → Setting) (m : FlatState) → ((k : ℕ) → setting_of m k ≡ at k) → (j k : ℕ) → IsBeside (at j) (at k)
beside_all at m is j k = record {
  processors = ap (λ (s : Setting). s.processors) (sym (is j)) ∙ ap (λ (s : Setting). s.processors) (is k);
  shared_words = ap (λ (s : Setting). s.shared_words) (sym (is j)) ∙ ap (λ (s : Setting). s.shared_words) (is k);
}

module _ (at : ℕ → Setting) (code : List ℕ) (kept : LocalState → LocalState) (classes : List ℕ) (f : IsForgetful at code kept) where
  module _ (states : List MacroState) (closed : IsClosedUpTo at code kept classes states) (beside : (j k : ℕ) → IsBeside (at j) (at k)) where
    -- The state is an exchange of a state of the set.
    abbrev In : MacroState → Type 0
    In u = (t : MacroState) × IsIn states t × IsExchangeOf classes t u

    all_closed : (u : MacroState) (k : ℕ) (a : LocalState) → In u → slice_get u.local_states k ≡ Some a → is_running a.processor.status ≡ true →
        IsReference (turn_of (at k) code a.processor) → HasSpinner at code u ⊎ ((v : MacroState) × IsMove at code kept u k v × In v)
    all_closed u k a h there runs refers =
        let x = h.2.0 in
        by (closed h.0 (x.place k) a h.1 (sym (h.2.1.each k) ∙ there) runs
        (subst IsReference (reference_same (at k) (at (x.place k)) (beside k (x.place k)) code a.processor refers) refers))
      where
        by : HasSpinner at code h.0
            ⊎ ((t : MacroState) × IsMoveUpTo at code kept classes h.0 (h.2.0.place k) t × IsIn states t) →
            HasSpinner at code u ⊎ ((v : MacroState) × IsMove at code kept u k v × In v)
        by (inl spins) = inl (spinner_exchanged classes at code kept beside h.2.0 h.0 u h.2.1 spins)
        by (inr next) =
            let l = led classes at code kept h.0 next.0 (h.2.0.place k) next.1 in
            let moved = l.1 h.2.0 u k refl h.2.1 in
            inr (moved.0, moved.1, (next.0, next.2, (both classes l.0 h.2.0, moved.2)))

    -- If the flat machine reaches an exchange of a state of the set, it also does so after each order of turns, or a
    -- processor spins.
    not_left_up_to : (m : FlatState) (consoles : ℕ → List ℕ) (u : MacroState) (order : List ℕ) → In u → ReachesMacroState at code kept m consoles u →
        Ran at code kept f In all_closed order m consoles
    not_left_up_to m consoles u order inside h = covered_run at code kept f In all_closed order m consoles u inside h

-- No order of turns leaves a set that is closed up to exchanges, if no processor spins.
pub closed_up_to_not_left : SetsClosedUpToAreNotLeft
closed_up_to_not_left at code kept classes states m consoles s u order f closed none inside x h =
    by (not_left_up_to at code kept classes f states closed (beside_all at m h.settings) m consoles u order (s, inside, x) h)
  where
    by : Ran at code kept f (In at code kept classes f states closed (beside_all at m h.settings))
        (all_closed at code kept classes f states closed (beside_all at m h.settings)) order m consoles →
        (t v : MacroState) × IsIn states t × IsExchangeOf classes t v
        × ReachesMacroState at code kept (flat_run m (turns order)) (consoles_after consoles (flat_events m (turns order))) v
    by (inl c) = (c.1.0, c.0, c.1.1, c.1.2, c.2)
    by (inr caught) =
        let t = caught.1 in
        absurd (none t.0 t.1 (spinner_exchanged classes at code kept (beside_all at m h.settings) (back classes t.2.0) caught.0 t.0
        (exchanged_back classes t.2.0 t.0 caught.0 t.2.1) caught.2))

-- A set that is closed up to exchanges has an exchange of each end.
pub closed_up_to_ends : SetsClosedUpToContainAllFinalStates
closed_up_to_ends at code kept classes states m consoles s u order f closed inside x h stopped =
    by (not_left_up_to at code kept classes f states closed (beside_all at m h.settings) m consoles u order (s, inside, x) h)
  where
    by : Ran at code kept f (In at code kept classes f states closed (beside_all at m h.settings))
        (all_closed at code kept classes f states closed (beside_all at m h.settings)) order m consoles →
        (t v : MacroState) × IsIn states t × IsExchangeOf classes t v
        × IsKeptOf kept (flat_run m (turns order)) (consoles_after consoles (flat_events m (turns order))) v
    by (inl c) = (
      c.1.0,
      c.0,
      c.1.1,
      c.1.2,
      standing_kept at code kept (flat_run m (turns order)) (consoles_after consoles (flat_events m (turns order))) c.0 c.2
          (stopped_stand at code (flat_run m (turns order)) stopped),
    )
    by (inr caught) = absurd (caught.3 stopped)

-- If moves up to exchanges lead to a state, some order of turns leads to an exchange of it.
pub up_to_turns : MovesUpToAreTurns
up_to_turns at code kept classes m consoles s u way t f x h w =
    let l = way_led classes at code kept way s t w in
    let real = l.1 x.0 u x.1 in
    let done = moves_are at code kept m consoles u real.0 real.1 f h real.2 in
    let long = real.4 in
    let many = done.4 in (
      done.0,
      real.1,
      (both classes l.0 x.0, real.3),
      done.1,
      done.2,
      done.3,
      omega (arith, long, many),
    )

-- If processors of one class begin in equal states, some order of turns leads to each exchange of a state that is
-- reached.
pub each_reached : EachExchangeIsReached
each_reached at code kept classes m consoles s way t x f uniform h w =
    let l = way_led classes at code kept way s t w in
    let first = both classes (back classes l.0) x in
    let real = l.1 first s (uniform_stays classes s uniform first) in
    let done = moves_are at code kept m consoles s real.0 real.1 f h real.2 in (
      done.0,
      real.1,
      record { shared = real.3.shared; each = λ k. real.3.each k ∙ ap (slice_get t.local_states) (l.0.taken (x.place k)) },
      done.1,
      done.2,
    )

-- If at most this many moves follow one another up to exchanges, every schedule ends.
pub short_up_to : ShortUpToSchedulesEnd
short_up_to at code kept classes m consoles s most f h short =
    bounded at code kept m consoles s most f h
    (short_exchanged classes at code kept (beside_all at m h.settings) most (none classes) s s (record { shared = refl; each = λ k. refl }) short)
