-- The longest queues, step by step.
use Rattle.std.proofs.Common.{◌≡◌, ℕ, zero, suc, ◌+◌, ◌^◌, ◌<◌, ◌≤◌, max, Bool, true, false, ◌⊎◌, inl, inr}
use Rattle.std.proofs.Common.{nat_lt, List, [], ◌∷◌, ◌++◌, length, take, refl, sym, ap, ◌∙◌, subst, arith}
use Rattle.std.proofs.lemmas.List.{get_or-replicate, get_or-set_other, get_or-set_same, length-append, length-set, take-append-le, take_all}
use Rattle.std.proofs.lemmas.Bool.{cases_eq, cases_lt, lt-ltb}
use Rattle.std.proofs.lemmas.Nat.{pow_pos}
use Rattle.std.proofs.Math.Seq.{take-nil}
use Rattle.std.specs.Prelude.{slice_index, slice_set, if◌then◌else◌}
use Rattle.flat_machine.specs.declared.config.Config.{Config}
use Rattle.machine_steps.specs.messages.Network.{Net, IsEmptyNet}
use Rattle.omega_network.specs.Networks.{net_of}
use Rattle.steps.specs.declared.step.Step.{Step}
use Rattle.steps.specs.declared.step.Step.TheVariants as step
use Rattle.steps.specs.declared.step.Outcome.{Outcome}
use Rattle.machine_steps.specs.machine_theory.Theory as theory
use Rattle.machine_steps.specs.machine_theory.Processors.{ObservedCore}
use Rattle.machine_steps.specs.machine_theory.Steps.{machine_of_parts}
use Rattle.machine_steps.specs.Machines.{MachineLists, IsStep, machine_of}
use Rattle.machine_steps.specs.Runs.{IsRun, all_after}
use Rattle.run_counts.specs.Longest.{at_stage, no_longest, of_held}
use Rattle.run_counts.specs.declared.longest.Held.{Held}
use Rattle.run_counts.specs.declared.longest.Held.TheVariants.{Requests, Records, Replies}
use Rattle.run_counts.specs.declared.longest.Longest.{Longest}
use Rattle.trace_counts.specs.Longest.{AreLongest, IsMet, IsMost, count_of, longest_after, most_of, net_after}
use Rattle.trace_counts.proofs.Growing.{Grows, grows_there}

-- ---- the maximum of numbers

most_kept : (f : ℕ → ℕ) (wires before : ℕ) → before ≤ most_of f wires before
most_kept f zero before = omega arith
most_kept f (suc w) before = (let less = most_kept f w before in omega (arith, less))

most_bound : (f : ℕ → ℕ) (wires before w : ℕ) → w < wires → f w ≤ most_of f wires before
most_bound f zero before w small = absurd (omega (arith, small))
most_bound f (suc n) before w small = by (cases_eq w n) (most_bound f n before w)
  where
    by : (w ≡ n) ⊎ (w ≡ n → ⊥) → (w < n → f w ≤ most_of f n before) → f w ≤ max (most_of f n before) (f n)
    by (inl is) earlier = rw is (omega arith)
    by (inr other) earlier = (let rest = earlier (omega (arith, small, other)) in omega (arith, rest))

most_met : (f : ℕ → ℕ) (wires before : ℕ) → (most_of f wires before ≡ before) ⊎ ((w : ℕ) × (w < wires) × (f w ≡ most_of f wires before))
most_met f zero before = inl refl
most_met f (suc n) before = by (cases_lt (most_of f n before) (f n)) (most_met f n before)
  where
    by : (most_of f n before < f n) ⊎ (f n ≤ most_of f n before) →
        (most_of f n before ≡ before) ⊎ ((w : ℕ) × (w < n) × (f w ≡ most_of f n before)) →
        (max (most_of f n before) (f n) ≡ before) ⊎ ((w : ℕ) × (w < suc n) × (f w ≡ max (most_of f n before) (f n)))
    by (inl more) old = inr (n, omega arith, omega (arith, more))
    by (inr less) (inl is) = inl (omega (arith, less, is))
    by (inr less) (inr (w, small, is)) = inr (w, omega (arith, small), omega (arith, less, is))

-- ---- one more step

-- The network after the steps that a machine has taken is the machine's.
pub stands : (opening mid : MachineLists) (done : List Step) → IsRun opening done mid → net_after opening done ≡ net_of mid.network
unfolding machine_of_parts
stands opening mid done run = sym (ap (λ (M : theory.Machine ObservedCore). M.net) (run.after (λ p. [])))

-- Each kind has a number for each of six stages.
abbrev pub HaveSix : Longest → Type 0
HaveSix t = (held : Held) → length (of_held t held) ≡ 6

module _ (opening mid new : MachineLists) (done : List Step) (s : Step) (o : Outcome) (run : IsRun opening done mid) (is : IsStep mid s o new)
    (next : IsRun opening (done ++ s ∷ []) new) where
  abbrev net : Net
  net = net_of new.network

  abbrev k : ℕ
  k = opening.config.k

  grows_less : (held : Held) (t v : ℕ) → t < k → (Grows mid.config mid.code (machine_of mid (λ p. [])) held t s → ⊥) →
      count_of held net t v ≤ count_of held (net_of mid.network) t v
  unfolding machine_of_parts
  grows_less held t v below away =
      subst (λ (n : Net). count_of held n t v ≤ count_of held (net_of mid.network) t v)
      (sym (ap (λ (M : theory.Machine ObservedCore). M.net) (is.step.after (λ p. []))))
      (grows_there mid.config mid.code (machine_of mid (λ p. [])) t v (subst (λ (c : Config). t < c.k) (sym run.config) below) held s away)

  module _ (held : Held) (t n : ℕ) (old : IsMost opening done held t n) where
    more : (n' : ℕ) → n ≤ n' → ((v : ℕ) → v < 2 ^ k → count_of held net t v ≤ n') →
        (n' ≡ n) ⊎ ((v : ℕ) × (v < 2 ^ k) × (count_of held net t v ≡ n')) → IsMost opening (done ++ s ∷ []) held t n'
    more n' kept seen met = record { bound = λ passed there w small. bound passed w small (cases_lt passed (length (done ++ s ∷ []))); met = by met }
      where
        count : length (done ++ s ∷ []) ≡ length done + 1
        count = length-append done (s ∷ [])

        before : (passed : ℕ) → passed ≤ length done → net_after opening (take passed (done ++ s ∷ [])) ≡ net_after opening (take passed done)
        before passed there = ap (net_after opening) (take-append-le passed done (s ∷ []) there)

        behind : (passed : ℕ) → length (done ++ s ∷ []) ≤ passed → net_after opening (take passed (done ++ s ∷ [])) ≡ net
        behind passed all = ap (net_after opening) (take_all passed (done ++ s ∷ []) all) ∙ stands opening new (done ++ s ∷ []) next

        bound : (passed w : ℕ) → w < 2 ^ k → (passed < length (done ++ s ∷ [])) ⊎ (length (done ++ s ∷ []) ≤ passed) →
            count_of held (net_after opening (take passed (done ++ s ∷ []))) t w ≤ n'
        bound passed w small (inl less) =
            let there : passed ≤ length done = (let all = count in omega (arith, less, all)) in
            let had = old.bound passed there w small in
            subst (λ (m : Net). count_of held m t w ≤ n') (sym (before passed there)) (omega (arith, had, kept))
        bound passed w small (inr all) = subst (λ (m : Net). count_of held m t w ≤ n') (sym (behind passed all)) (seen w small)

        by : (n' ≡ n) ⊎ ((v : ℕ) × (v < 2 ^ k) × (count_of held net t v ≡ n')) → IsMet opening (done ++ s ∷ []) held t n'
        by (inl same) =
            let m = old.met in
            let all = count in
            let there = m.there in
            record {
              passed = m.passed;
              there = omega (arith, there, all);
              wire = m.wire;
              small = m.small;
              is = ap (λ (l : Net). count_of held l t m.wire) (before m.passed m.there) ∙ m.is ∙ sym same;
            }
        by (inr (v, small, here)) = record {
          passed = length (done ++ s ∷ []);
          there = omega arith;
          wire = v;
          small = small;
          is = ap (λ (l : Net). count_of held l t v) (behind (length (done ++ s ∷ [])) (omega arith)) ∙ here;
        }

    seen : IsMost opening (done ++ s ∷ []) held t (most_of (count_of held net t) (2 ^ k) n)
    seen =
        more (most_of (count_of held net t) (2 ^ k) n) (most_kept (count_of held net t) (2 ^ k) n)
        (λ v small. most_bound (count_of held net t) (2 ^ k) n v small) (most_met (count_of held net t) (2 ^ k) n)

    unseen : t < k → (Grows mid.config mid.code (machine_of mid (λ p. [])) held t s → ⊥) → IsMost opening (done ++ s ∷ []) held t n
    unseen below away = more n (omega arith) within (inl refl)
      where
        within : (v : ℕ) → v < 2 ^ k → count_of held net t v ≤ n
        within v small =
            let whole : net_after opening (take (length done) done) ≡ net_of mid.network
            = ap (net_after opening) (take_all (length done) done (omega arith)) ∙ stands opening mid done run in
            let had = subst (λ (m : Net). count_of held m t v ≤ n) whole (old.bound (length done) (omega arith) v small) in
            let less = grows_less held t v below away in
            omega (arith, had, less)

  -- The numbers of one kind, of which a step can raise at most that of one stage.
  module _ (held : Held) (xs : List ℕ) (six : length xs ≡ 6) (few : k ≤ 6)
      (old : (t : ℕ) → t < k → IsMost opening done held t (slice_index xs t)) where
    abbrev looked : (a : ℕ) → Bool → List ℕ
    looked a b = if b then slice_set xs a (most_of (count_of held net a) (2 ^ k) (slice_index xs a)) else xs

    none_grow : ((t : ℕ) → Grows mid.config mid.code (machine_of mid (λ p. [])) held t s → ⊥) → (t : ℕ) → t < k →
        IsMost opening (done ++ s ∷ []) held t (slice_index xs t)
    none_grow away t below = unseen held t (slice_index xs t) (old t below) below (away t)

    one_grows : (a : ℕ) → ((t : ℕ) → Grows mid.config mid.code (machine_of mid (λ p. [])) held t s → t ≡ a) → (t : ℕ) → t < k →
        IsMost opening (done ++ s ∷ []) held t (slice_index (looked a (nat_lt a k)) t)
    one_grows a only t below = by (cases_eq t a)
      where
        set : (b : Bool) → (t ≡ a → ⊥) → slice_index (looked a b) t ≡ slice_index xs t
        set true other = get_or-set_other xs a t _ 0 other
        set false other = refl

        by : (t ≡ a) ⊎ (t ≡ a → ⊥) → IsMost opening (done ++ s ∷ []) held t (slice_index (looked a (nat_lt a k)) t)
        by (inl same) =
            let small : a < k = subst (λ n. n < k) same below in
            let inside : a < length xs = rw six (omega (arith, small, few)) in
            let here : slice_index (looked a (nat_lt a k)) a ≡ most_of (count_of held net a) (2 ^ k) (slice_index xs a)
            = ap (λ b. slice_index (looked a b) a) (lt-ltb a k small) ∙ get_or-set_same xs a _ 0 inside in
            subst (λ n. IsMost opening (done ++ s ∷ []) held n (slice_index (looked a (nat_lt a k)) n)) (sym same)
            (subst (λ n. IsMost opening (done ++ s ∷ []) held a n) (sym here) (seen held a (slice_index xs a) (old a small)))
        by (inr other) =
            subst (λ n. IsMost opening (done ++ s ∷ []) held t n) (sym (set (nat_lt a k) other))
            (unseen held t (slice_index xs t) (old t below) below (λ grows. other (only t grows)))

-- ---- all numbers

module _ (opening mid new : MachineLists) (done : List Step) (o : Outcome) (run : IsRun opening done mid) (few : opening.config.k ≤ 6) (t : Longest)
    (six : HaveSix t) where
  abbrev net' : Net
  net' = net_of new.network

  abbrev k' : ℕ
  k' = opening.config.k

  abbrev raised_numbers : Held → (a : ℕ) → Bool → List ℕ → List ℕ
  raised_numbers held a b xs = if b then slice_set xs a (most_of (count_of held net' a) (2 ^ k') (slice_index xs a)) else xs

  abbrev up_raised : (a : ℕ) → Bool → Longest
  up_raised a b = record { requests = raised_numbers Requests a b t.requests; records = raised_numbers Records a b t.records; replies = t.replies }

  abbrev down_raised : (a : ℕ) → Bool → Longest
  down_raised a b = record { requests = t.requests; records = t.records; replies = raised_numbers Replies a b t.replies }

  up_is : (a w : ℕ) (b : Bool) → nat_lt a k' ≡ b → longest_after k' net' (step.Up a w) t ≡ up_raised a b
  up_is a w true e = rw e refl
  up_is a w false e = rw e refl

  down_is : (a w : ℕ) (b : Bool) → nat_lt a k' ≡ b → longest_after k' net' (step.Down a w) t ≡ down_raised a b
  down_is a w true e = rw e refl
  down_is a w false e = rw e refl

  still_six : (held : Held) (a : ℕ) (b : Bool) (xs : List ℕ) → length xs ≡ 6 → length (raised_numbers held a b xs) ≡ 6
  still_six held a true xs all = length-set xs a _ ∙ all
  still_six held a false xs all = all

  -- After a step, the longest queues of each kind are still six numbers.
  pub sizes_on : (s : Step) → HaveSix (longest_after k' net' s t)
  sizes_on (step.Turn p) = six
  sizes_on (step.Serve m) = six
  sizes_on (step.Poke q) = six
  sizes_on (step.Up a w) = subst HaveSix (sym (up_is a w (nat_lt a k') refl)) by
    where
      by : HaveSix (up_raised a (nat_lt a k'))
      by Requests = still_six Requests a (nat_lt a k') t.requests (six Requests)
      by Records = still_six Records a (nat_lt a k') t.records (six Records)
      by Replies = six Replies
  sizes_on (step.Down a w) = subst HaveSix (sym (down_is a w (nat_lt a k') refl)) by
    where
      by : HaveSix (down_raised a (nat_lt a k'))
      by Requests = six Requests
      by Records = six Records
      by Replies = still_six Replies a (nat_lt a k') t.replies (six Replies)

  module _ (old : AreLongest opening done t) where
    abbrev Goes : Step → Type 0
    Goes s = IsStep mid s o new → IsRun opening (done ++ s ∷ []) new → AreLongest opening (done ++ s ∷ []) (longest_after k' net' s t)

    same : (s : Step) → IsStep mid s o new → IsRun opening (done ++ s ∷ []) new → (held : Held) →
        ((n : ℕ) → Grows mid.config mid.code (machine_of mid (λ p. [])) held n s → ⊥) → (n : ℕ) → n < k' →
        IsMost opening (done ++ s ∷ []) held n (slice_index (of_held t held) n)
    same s is next held away = none_grow opening mid new done s o run is next held (of_held t held) (six held) few (old held) away

    -- After one step more, the longest queues, raised by what the network has now, are those of all steps taken.
    pub longest_on : (s : Step) → Goes s
    longest_on (step.Turn p) is next = elim [
      | Requests ↦ same (step.Turn p) is next Requests (λ n g. g)
      | Records ↦ same (step.Turn p) is next Records (λ n g. g)
      | Replies ↦ same (step.Turn p) is next Replies (λ n g. g)
    ]
    longest_on (step.Serve m) is next = elim [
      | Requests ↦ same (step.Serve m) is next Requests (λ n g. g)
      | Records ↦ same (step.Serve m) is next Records (λ n g. g)
      | Replies ↦ same (step.Serve m) is next Replies (λ n g. g)
    ]
    longest_on (step.Poke q) is next = elim [
      | Requests ↦ same (step.Poke q) is next Requests (λ n g. g)
      | Records ↦ same (step.Poke q) is next Records (λ n g. g)
      | Replies ↦ same (step.Poke q) is next Replies (λ n g. g)
    ]
    longest_on (step.Up a w) is next = subst (AreLongest opening (done ++ step.Up a w ∷ [])) (sym (up_is a w (nat_lt a k') refl)) most
      where
        most : AreLongest opening (done ++ step.Up a w ∷ []) (up_raised a (nat_lt a k'))
        most Requests = one_grows opening mid new done (step.Up a w) o run is next Requests t.requests (six Requests) few (old Requests) a (λ n g. g)
        most Records = one_grows opening mid new done (step.Up a w) o run is next Records t.records (six Records) few (old Records) a (λ n g. g)
        most Replies = same (step.Up a w) is next Replies (λ n g. g)
    longest_on (step.Down a w) is next = subst (AreLongest opening (done ++ step.Down a w ∷ [])) (sym (down_is a w (nat_lt a k') refl)) most
      where
        most : AreLongest opening (done ++ step.Down a w ∷ []) (down_raised a (nat_lt a k'))
        most Requests = same (step.Down a w) is next Requests (λ n g. g)
        most Records = same (step.Down a w) is next Records (λ n g. g)
        most Replies = one_grows opening mid new done (step.Down a w) o run is next Replies t.replies (six Replies) few (old Replies) a (λ n g. g)

-- ---- no step

-- If no step is taken and the network is empty, the longest queues have length 0.
pub none_longest : (m : MachineLists) → m.config.k ≤ 6 → IsEmptyNet (net_of m.network) → AreLongest m [] no_longest
unfolding machine_of_parts all_after
none_longest m few empty held t below = record {
  bound = λ passed there w small. rw (zeros held) (subst (λ n. n ≤ 0) (sym (here passed w)) (omega arith));
  met = record { passed = 0; there = omega arith; wire = 0; small = pow_pos m.config.k; is = here 0 0 ∙ sym (zeros held) };
}
  where
    nothing : (kind : Held) (w : ℕ) → count_of kind (net_of m.network) t w ≡ 0
    nothing Requests w = ap length ((empty (suc t) w).0)
    nothing Records w = ap length ((empty t w).1)
    nothing Replies w = ap length ((empty t w).2)

    zeros : (kind : Held) → at_stage no_longest kind t ≡ 0
    zeros Requests = get_or-replicate 6 t 0 0 (omega (arith, below, few))
    zeros Records = get_or-replicate 6 t 0 0 (omega (arith, below, few))
    zeros Replies = get_or-replicate 6 t 0 0 (omega (arith, below, few))

    here : (passed w : ℕ) → count_of held (net_after m (take passed [])) t w ≡ 0
    here passed w = ap (λ (ss : List Step). count_of held (net_after m ss) t w) (take-nil passed) ∙ nothing held w
