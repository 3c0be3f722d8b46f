-- How rounds are counted, and that a thread's rounds come to an end.
use Rattle.std.proofs.Common.{◌≡◌, ℕ, suc, ◌+◌, ◌-◌, ◌*◌, ◌≤◌, ◌<◌, Bool, true, false, List, [], ◌∷◌, ◌++◌, length, refl, subst, arith}
use Rattle.std.specs.Prelude.{◌↔◌, Ok}
use Rattle.steps.specs.declared.step.Step.{Step}
use Rattle.machine_lock.specs.Passes.{MachineLists}
use Rattle.processor_threads.specs.declared.handle.RoundsDone.{RoundsDone}
use Rattle.processor_threads.specs.declared.tally.Tally.{Tally}
use Rattle.processor_threads.specs.Rounds.{AreWithin, GoesOn, HasUsed, HaveGoneOn, ThreadState, idle_counts, is_idle_after, is_used_up, tally_after}

few_counts : (before : Bool) (idle : ℕ) → idle_counts before idle ≤ idle
few_counts true idle = omega arith
few_counts false idle = omega arith

module _ (t : Tally) (done : RoundsDone) (lets_run : Bool) (most : ℕ) (w : AreWithin done most) where
  -- No more rounds count than are done.
  pub few_more : (tally_after t done lets_run).counted ≤ t.counted + done.rounds
  few_more = let few = few_counts t.idle done.idle in let idle = w.idle in omega (arith, few, idle)

  none_lost : t.counted ≤ (tally_after t done lets_run).counted
  none_lost = omega arith

  one_counts : (before : Bool) → before ≡ false → suc t.counted ≤ t.counted + (done.rounds - done.idle + idle_counts before done.idle)
  one_counts true e = absurd (cc)
  one_counts false e = let some = w.some in let idle = w.idle in omega (arith, some, idle)

  -- If no idle round has counted, at least one round counts.
  one_more : t.idle ≡ false → suc t.counted ≤ (tally_after t done lets_run).counted
  one_more e = one_counts t.idle e

  -- All rounds, and those that may follow with the steps that are left, are bounded by those that count.
  pub room_kept : (gone : ℕ) (old new : List Step) → HasUsed done.rounds old new → (old ≡ [] → t.idle ≡ false) → gone + length old ≤ 512 * t.counted →
      gone + done.rounds + length new ≤ 512 * (tally_after t done lets_run).counted
  room_kept gone [] new used fresh room = let more = one_more (fresh refl) in omega (arith, used, room, more)
  room_kept gone (s ∷ later) new used fresh room = let more = none_lost in omega (arith, used, room, more)

  -- The rounds that may follow become fewer.
  pub fewer_left : (budget : ℕ) (old new : List Step) → HasUsed done.rounds old new → (old ≡ [] → t.idle ≡ false) → t.counted ≤ budget →
      (tally_after t done lets_run).counted ≤ budget →
      (budget - (tally_after t done lets_run).counted) * 513 + length new < (budget - t.counted) * 513 + length old
  fewer_left budget [] new used fresh below below' =
      let more = one_more (fresh refl) in let some = w.some in omega (arith, used, more, below, below', some)
  fewer_left budget (s ∷ later) new used fresh below below' =
      let more = none_lost in let some = w.some in omega (arith, used, more, below, below', some)

-- After the thread lets others run, no idle round has counted since.
pub fresh_after : (before lets_run : Bool) (idle : ℕ) (left : List Step) → ((lets_run ≡ true) ↔ (left ≡ [])) → left ≡ [] →
    is_idle_after lets_run before idle ≡ false
fresh_after before true idle left same none = refl
fresh_after before false idle left same none = let no = same.1 none in absurd (cc)

-- A thread that lets others run exactly if no step is left does so exactly if the steps are used up.
pub used_up : (lets_run : Bool) (left : List Step) → ((lets_run ≡ true) ↔ (left ≡ [])) → lets_run ≡ is_used_up left
used_up true [] same = refl
used_up true (s ∷ left) same = let no = same.0 refl in absurd (cc)
used_up false [] same = let no = same.1 refl in absurd (cc)
used_up false (s ∷ left) same = refl

-- One more call that does not stop the processor goes on from the calls before it.
pub one_call_more : (opening : MachineLists) (first : List Step) (budget : ℕ) (old between new : ThreadState) (calls : List RoundsDone) (done : RoundsDone) →
    HaveGoneOn opening first budget old calls between → between.tally.counted < budget → done.stopped ≡ false →
    GoesOn opening first between.holds between.left (budget - between.tally.counted) (Ok done) new.holds new.left →
    new.tally ≡ tally_after between.tally done (is_used_up new.left) → HaveGoneOn opening first budget old (calls ++ done ∷ []) new
one_call_more opening first budget old between new [] done gone below on goes tally =
    let at : (b : ThreadState) → between ≡ b → HaveGoneOn opening first budget b (done ∷ []) new = λ b same.
    subst (λ (x : ThreadState). HaveGoneOn opening first budget x (done ∷ []) new) same (new, below, on, goes, tally, refl) in
    at old gone
one_call_more opening first budget old between new (call ∷ calls) done gone below on goes tally = (
  gone.0,
  gone.1,
  gone.2,
  gone.3,
  gone.4,
  one_call_more opening first budget gone.0 between new calls done gone.5 below on goes tally,
)
