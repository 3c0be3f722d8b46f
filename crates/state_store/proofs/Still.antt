-- Turns alone, one after another.
use Rattle.std.proofs.Common.{◌≡◌, inl, inr, ℕ, ◌+◌, zero, suc, Bool, true, false, cond, List, [], refl, sym, ap, subst, ◌∙◌, arith, true≢false}
use Rattle.flat_machine.specs.declared.setting.Setting.{Setting}
use Rattle.local_reduction.specs.LocalStates.{LocalState, alone, alone_once, GoesOn, GoesOnFor, Spins}
use Rattle.local_reduction.specs.Closing.{if_running}
use Rattle.local_reduction.specs.Laws.{WhatComesBackSpins, WhatComesBackNeverAsks}
use Rattle.flat_machine.specs.State.{is_running}
use Rattle.local_reduction.specs.Exchanging.{Asks, AskNot}
use Rattle.local_reduction.proofs.Lemmas.{ask_not_more, alone_both, goes_on_more, stands_quiet}
use Rattle.state_store.specs.Placed.{Placed, IsEqual, HasTurned, HasGone, IsStanding, IsGoingOn, IsStill, IsQuiet}

alone_on : (n : ℕ) (s : Setting) (code : List ℕ) (a : LocalState) → alone (suc n) s code a ≡ alone_once s code (alone n s code a)
alone_on zero s code a = refl
alone_on (suc n) s code a = alone_on n s code (alone_once s code a)

-- No turns alone lead from a local state to itself.
pub none_gone : (quietly : Bool) (code : List ℕ) (a : Placed) → HasGone quietly code a a
none_gone quietly code a = record { setting = refl; count = 0; gone = refl; quiet = λ _. tt }

-- Some turns alone and one more are some turns alone.
pub gone_on : (quietly : Bool) (code : List ℕ) (a b c : Placed) → HasGone quietly code a b → HasTurned quietly code b c → HasGone quietly code a c
gone_on quietly code a b c g t = record {
  setting = t.setting ∙ g.setting;
  count = suc g.count;
  gone = t.once ∙ ((λ i. alone_once (g.setting i) code (g.gone i)) ∙ sym (alone_on g.count a.setting code a.local_state));
  quiet = λ off. ask_not_more g.count a.setting code a.local_state (g.quiet off)
      (subst (λ (s : LocalState). is_running s.processor.status ≡ true → Asks code s.processor → ⊥) g.gone (t.quiet off));
}

ask_both : (n j : ℕ) (s : Setting) (code : List ℕ) (a : LocalState) → AskNot n s code a → AskNot j s code (alone n s code a) → AskNot (n + j) s code a
ask_both n j s code a = by n (n + j) a refl
  where
    by : (i m : ℕ) (b : LocalState) → m ≡ i + j → AskNot i s code b → AskNot j s code (alone i s code b) → AskNot m s code b
    by zero m b e h k = let same : j ≡ m = omega (arith, e) in subst (λ x. AskNot x s code b) same k
    by (suc i) zero b e h k = absurd (omega (arith, e))
    by (suc i) (suc m) b e h k = (h.0, by i m (alone_once s code b) (omega (arith, e)) h.1 k)

-- Some turns alone and some more are some turns alone.
pub gone_both : (quietly : Bool) (code : List ℕ) (a b c : Placed) → HasGone quietly code a b → HasGone quietly code b c → HasGone quietly code a c
gone_both quietly code a b c g h = record {
  setting = h.setting ∙ g.setting;
  count = g.count + h.count;
  gone = h.gone
      ∙ ((λ i. alone h.count (g.setting i) code (g.gone i))
      ∙ sym (alone_both a.setting code g.count h.count (g.count + h.count) a.local_state refl));
  quiet = λ on.
      ask_both g.count h.count a.setting code a.local_state (g.quiet on)
      (subst (λ (z : Setting × LocalState). AskNot h.count z.0 code z.1) (λ i. (g.setting i, g.gone i)) (h.quiet on));
}

-- ---- where turns alone end

-- A processor that has stopped or is at a reference is still.
pub standing_still : (code : List ℕ) (a : Placed) → IsStanding code a → IsStill code a
standing_still code a h = λ runs. inl (h runs)

-- A processor that has stopped or is at a reference is quiet.
pub standing_quiet : (quietly : Bool) (code : List ℕ) (a : Placed) → IsStanding code a → IsQuiet quietly code a
standing_quiet quietly code a h = λ on. stands_quiet a.setting code a.local_state h

-- ---- turns that lead back

-- Turns alone lead from old to new, and the processor goes on in each of them.
pub record HasGoneOn (quietly : Bool) (code : List ℕ) (old new : Placed) : Type 0 where
  -- Some turns alone lead from old to new.
  pub gone : HasGone quietly code old new
  -- The processor goes on in each of them.
  pub on : GoesOnFor gone.count old.setting code old.local_state

-- No turns lead from a local state to itself, and the processor goes on in each of them.
pub none_gone_on : (quietly : Bool) (code : List ℕ) (a : Placed) → HasGoneOn quietly code a a
unfolding none_gone
none_gone_on quietly code a = record { gone = none_gone quietly code a; on = tt }

-- If a processor goes on in each of some turns alone, and in one more after them, it goes on in all of them.
pub gone_on_more : (quietly : Bool) (code : List ℕ) (a b c : Placed) → HasGoneOn quietly code a b → HasTurned quietly code b c → IsGoingOn code b →
    HasGoneOn quietly code a c
unfolding gone_on
gone_on_more quietly code a b c g t goes = record {
  gone = gone_on quietly code a b c g.gone t;
  on = goes_on_more a.setting code g.gone.count a.local_state g.on
      (subst (λ (z : Setting × LocalState). GoesOn z.0 code z.1.processor) (λ i. (g.gone.setting i, g.gone.gone i)) goes);
}

-- If two local states are equal and one is running, they are the same.
same_local_state : (a b : Placed) → is_running b.local_state.processor.status ≡ true → IsEqual a b → a.local_state ≡ b.local_state
same_local_state a b runs h = by (is_running a.local_state.processor.status) refl
  where
    empty : LocalState → LocalState
    empty c = record c { processor = record c.processor { registers = []; local = [] } }

    other : if_running b.local_state ≡ b.local_state
    other = ap (λ r. cond r b.local_state (empty b.local_state)) runs

    by : (r : Bool) → is_running a.local_state.processor.status ≡ r → a.local_state ≡ b.local_state
    by true is = sym (ap (λ r. cond r a.local_state (empty a.local_state)) is) ∙ (h.equal ∙ other)
    by false is =
        let one : if_running a.local_state ≡ empty a.local_state = ap (λ r. cond r a.local_state (empty a.local_state)) is in
        let both : empty a.local_state ≡ b.local_state = sym one ∙ (h.equal ∙ other) in
        absurd (true≢false (sym runs ∙ (sym (ap (λ (c : LocalState). is_running c.processor.status) both) ∙ is)))

module _ (quietly : Bool) (code : List ℕ) (a b c : Placed) (g : HasGoneOn quietly code a b) (t : HasTurned quietly code b c) (goes : IsGoingOn code b)
    (same : IsEqual c a) where
  runs_first : (n : ℕ) (s : Setting) (x : LocalState) → GoesOnFor (suc n) s code x → is_running x.processor.status ≡ true
  runs_first n s x h = h.0.0

  is : c.local_state ≡ a.local_state
  is = same_local_state c a (runs_first g.gone.count a.setting a.local_state
      (goes_on_more a.setting code g.gone.count a.local_state g.on
      (subst (λ (z : Setting × LocalState). GoesOn z.0 code z.1.processor) (λ i. (g.gone.setting i, g.gone.gone i)) goes))) same

  back : alone (suc g.gone.count) a.setting code a.local_state ≡ a.local_state
  unfolding gone_on
  back = sym (gone_on quietly code a b c g.gone t).gone ∙ is

  -- A local state that comes back to itself after the turns spins, so it is still.
  pub back_still : WhatComesBackSpins → IsStill code c
  back_still law = λ runs.
      inr (subst (λ (z : Setting × LocalState). Spins z.0 code z.1.processor) (λ i. (sym same.setting i, sym is i))
      (law a.setting code a.local_state g.gone.count
      (goes_on_more a.setting code g.gone.count a.local_state g.on
      (subst (λ (z : Setting × LocalState). GoesOn z.0 code z.1.processor) (λ i. (g.gone.setting i, g.gone.gone i)) goes))
      back))

  -- If it did not ask for its own number in these turns, it never does, so it is quiet.
  pub back_quiet : WhatComesBackNeverAsks → IsQuiet quietly code c
  unfolding gone_on
  back_quiet law = λ on.
      subst (λ (z : Setting × LocalState). (n : ℕ) → AskNot n z.0 code z.1) (λ i. (sym same.setting i, sym is i))
      (law a.setting code a.local_state g.gone.count ((gone_on quietly code a b c g.gone t).quiet on) back)
