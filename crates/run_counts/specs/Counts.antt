-- All counts of a run.
use Rattle.std.specs.Prelude.{◌≡◌, ℕ, ◌+◌, List, [], ◌∷◌, ◌++◌, length, replicate}
use Rattle.run_counts.specs.Counting.{AreTimes, Noted, bumped}
use Rattle.run_counts.specs.Keys as key

pub record CountsState : Type 0 where
  pub kinds : List ℕ
  pub turns : List ℕ
  pub retired : List ℕ
  pub moved : List ℕ
  pub combined : List ℕ
  pub returned : List ℕ
  pub split : List ℕ
  pub served : List ℕ
  pub groups : List ℕ
  pub observed : ℕ

-- counts of 0 for 5 kinds of step, 6 stages, 64 processors or modules, and groups of 0 to 64 at each module
abbrev pub no_counts : CountsState
no_counts = record {
  kinds = replicate 5 0;
  turns = replicate 64 0;
  retired = replicate 64 0;
  moved = replicate 6 0;
  combined = replicate 6 0;
  returned = replicate 6 0;
  split = replicate 6 0;
  served = replicate 64 0;
  groups = replicate 4160 0;
  observed = 0;
}

-- the counts after one more step
abbrev pub counts_after : CountsState → Noted → CountsState
counts_after t x = record {
  kinds = bumped t.kinds (key.kind x.step);
  turns = bumped t.turns (key.turn x.step);
  retired = bumped t.retired (key.retired x.step x.outcome);
  moved = bumped t.moved (key.moved x.step x.outcome);
  combined = bumped t.combined (key.combined x.step x.outcome);
  returned = bumped t.returned (key.returned x.step x.outcome);
  split = bumped t.split (key.split x.step x.outcome);
  served = bumped t.served (key.service x.step);
  groups = bumped t.groups (key.group x.step x.outcome x.size);
  observed = t.observed + 1;
}

-- These are the counts of the steps: how many there were, and how often each key names each of its places.
pub record AreCounts (observed : List Noted) (t : CountsState) : Type 0 where
  pub all : t.observed ≡ length observed
  pub kinds : AreTimes (λ x. key.kind x.step) 5 observed t.kinds
  pub turns : AreTimes (λ x. key.turn x.step) 64 observed t.turns
  pub retired : AreTimes (λ x. key.retired x.step x.outcome) 64 observed t.retired
  pub moved : AreTimes (λ x. key.moved x.step x.outcome) 6 observed t.moved
  pub combined : AreTimes (λ x. key.combined x.step x.outcome) 6 observed t.combined
  pub returned : AreTimes (λ x. key.returned x.step x.outcome) 6 observed t.returned
  pub split : AreTimes (λ x. key.split x.step x.outcome) 6 observed t.split
  pub served : AreTimes (λ x. key.service x.step) 64 observed t.served
  pub groups : AreTimes (λ x. key.group x.step x.outcome x.size) 4160 observed t.groups

-- ---- a law

-- The counts of no step are 0, and each further step updates them.
pub record CountsGoOn : Type 0 where
  pub none : AreCounts [] no_counts
  pub more : (observed : List Noted) (t : CountsState) (x : Noted) → AreCounts observed t →
      AreCounts (observed ++ x ∷ []) (counts_after t x)
