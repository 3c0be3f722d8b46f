-- Which steps can make which lists of a network longer: the move of a request, those of requests and records at its
-- stage; the move of a reply, those of replies at its stage.
use Rattle.std.proofs.Common.{◌≡◌, ℕ, suc, ◌<◌, ◌≤◌, ◌%◌, Bool, true, false, ◌⊎◌, inl, inr, nat_lt, List, []}
use Rattle.std.proofs.Common.{◌∷◌, ◌++◌, length, drop, Option, Some, None, refl, sym, ◌∙◌, subst, arith}
use Rattle.std.specs.Prelude.{◌==◌, if◌then◌else◌, not}
use Rattle.omega_network.specs.omega_wires.Wires.{wire_after, wire_before}
use Rattle.flat_machine.specs.declared.config.Config.{Config}
use Rattle.machine_steps.specs.messages.declared.message.Request.{Request}
use Rattle.machine_steps.specs.messages.declared.message.Reply.{Reply}
use Rattle.machine_steps.specs.messages.declared.message.Record.{Record}
use Rattle.machine_steps.specs.messages.declared.moves.UpMove.{UpMove}
use Rattle.machine_steps.specs.messages.declared.moves.UpMove.TheVariants as up
use Rattle.machine_steps.specs.messages.declared.moves.DownMove.{DownMove}
use Rattle.machine_steps.specs.messages.declared.moves.DownMove.TheVariants as down
use Rattle.machine_steps.specs.messages.Places.{put2}
use Rattle.machine_steps.specs.messages.Queues.{Combination, answers, combination, records_but, records_of}
use Rattle.machine_steps.specs.messages.Network.{Net, Sizes, put_records, put_replies, put_requests, wires}
use Rattle.machine_steps.specs.messages.Moves.{accepted, answer, down_from, has_room, injected, module_replied}
use Rattle.machine_steps.specs.messages.Moves.{module_taken, moved_down, moved_up, port_taken, push_all, up_from}
use Rattle.machine_steps.proofs.Lemmas.messages.{at_put2, put2_other}
use Rattle.omega_network.proofs.Lemmas.{down_requests, up_replies}
use Rattle.machine_steps.specs.serialization.Program.{Kind, Rests, Alone, Refers}
use Rattle.machine_steps.specs.serialization.Machine.{begin, request_of, retire_from, turned}
use Rattle.machine_steps.specs.machine_theory.Theory as theory
use Rattle.machine_steps.specs.machine_theory.Theory.{serve_from, stalled, went_down, went_up}
use Rattle.machine_steps.specs.machine_theory.Processors.{ObservedCore, program, sizes_of}
use Rattle.machine_steps.specs.machine_theory.Steps.{after}
use Rattle.steps.specs.declared.step.Step.{Step}
use Rattle.steps.specs.declared.step.Step.TheVariants as step
use Rattle.run_counts.specs.declared.longest.Held.{Held}
use Rattle.run_counts.specs.declared.longest.Held.TheVariants.{Requests, Records, Replies}
use Rattle.trace_counts.specs.Longest.{count_of}

-- What holds of both values holds of either.
either : {X : Type 0} (P : X → Type 0) (b : Bool) (x y : X) → P x → P y → P (if b then x else y)
either P true x y p q = p
either P false x y p q = q

-- ---- lists at places

at_most : (n : ℕ) → n ≤ n
at_most n = omega arith

-- If a list that is no longer than the old one is put in its place, no list is longer.
shorter : {X : Type 0} (f : ℕ → ℕ → List X) (d w : ℕ) (xs : List X) → length xs ≤ length (f d w) → (d' v : ℕ) →
    length (put2 f d w xs d' v) ≤ length (f d' v)
shorter {X} f d w xs few d' v = by (at_put2 f d w xs d' v)
  where
    by : ((d' ≡ d) × (v ≡ w) × (put2 f d w xs d' v ≡ xs)) ⊎ ((d' ≡ d → v ≡ w → ⊥) × (put2 f d w xs d' v ≡ f d' v)) →
        length (put2 f d w xs d' v) ≤ length (f d' v)
    by (inl (p, q, is)) = rw is (subst (λ e. length xs ≤ length (f e v)) (sym p) (subst (λ u. length xs ≤ length (f d u)) (sym q) few))
    by (inr (away, is)) = rw is (at_most (length (f d' v)))

-- At a depth where nothing is put, no list is longer.
elsewhere : {X : Type 0} (f : ℕ → ℕ → List X) (d w : ℕ) (xs : List X) (d' v : ℕ) → (d' ≡ d → ⊥) → length (put2 f d w xs d' v) ≤ length (f d' v)
elsewhere f d w xs d' v away = rw (put2_other f d w xs d' v (λ at _. away at)) (at_most (length (f d' v)))

few_left : (leader : ℕ) (records : List Record) → length (records_but leader records) ≤ length records
few_left leader [] = at_most 0
few_left leader (e ∷ es) = by (not (e.leader == leader)) (few_left leader es)
  where
    by : (b : Bool) → length (records_but leader es) ≤ length es → length (if b then e ∷ records_but leader es else records_but leader es) ≤ suc (length es)
    by true rest = omega (arith, rest)
    by false rest = omega (arith, rest)

dropped : {X : Type 0} (xs : List X) → length (drop 1 xs) ≤ length xs
dropped [] = at_most 0
dropped (x ∷ xs) = omega arith

-- ---- moves

module _ (z : Sizes) (net : Net) (s w t v : ℕ) where
  -- A request's move makes no list of requests or records of another stage longer.
  module _ (away : t ≡ s → ⊥) where
    abbrev Fewer : UpMove × Net → Type 0
    Fewer r = (length (r.1.requests (suc t) v) ≤ length (net.requests (suc t) v)) × (length (r.1.records t v) ≤ length (net.records t v))

    same_up : Fewer (up.Stalled, net)
    same_up = (at_most (length (net.requests (suc t) v)), at_most (length (net.records t v)))

    apart : suc t ≡ suc s → ⊥
    apart is = away (omega (arith, is))

    module _ (rest : List Request) (few : length rest ≤ length (net.requests s w)) (x : Request) (out : ℕ) where
      abbrev taken : Net
      taken = put_requests net s w rest

      queue_is : (xs : List Request) → length (put2 taken.requests (suc s) out xs (suc t) v) ≤ length (net.requests (suc t) v)
      queue_is xs =
          let put = elsewhere taken.requests (suc s) out xs (suc t) v apart in
          let old = shorter net.requests s w rest few (suc t) v in
          omega (arith, put, old)

      by_partner : (j : Option Combination) → Fewer (accepted z net taken s out x j)
      by_partner None = either Fewer (nat_lt (length (taken.requests (suc s) out)) z.c) _ _ (queue_is _, at_most (length (net.records t v))) same_up
      by_partner (Some j) = (queue_is j.queue, elsewhere net.records s out _ t v away)

    up_from_there : (xs : List Request) → net.requests s w ≡ xs → Fewer (up_from z net s w xs)
    up_from_there [] is = same_up
    up_from_there (x ∷ rest) is =
        let out = wire_after z.k s w (x.word % wires z) in
        let net' : Net = put_requests net s w rest in
        let one_less : length rest ≤ length (net.requests s w) = rw is (omega arith) in
        by_partner rest one_less x out (combination z.b z.r x (net'.requests (suc s) out) (net'.records s out))

    pub up_elsewhere : Fewer (moved_up z net s w)
    unfolding moved_up
    up_elsewhere = either Fewer (nat_lt s z.k) _ _ (up_from_there (net.requests s w) refl) same_up

  -- A reply's move makes no list of records longer, and no list of replies of another stage.
  abbrev FewerRecords : DownMove × Net → Type 0
  FewerRecords r = length (r.1.records t v) ≤ length (net.records t v)

  abbrev FewerReplies : DownMove × Net → Type 0
  FewerReplies r = length (r.1.replies t v) ≤ length (net.replies t v)

  module _ (rest : List Reply) (few : length rest ≤ length (net.replies (suc s) w)) (x : Reply) (records : List Record) where
    abbrev wire : ℕ → ℕ
    wire = wire_before z.k s w

    abbrev taken_back : Net
    taken_back = put_replies net (suc s) w rest

    abbrev ready : Net
    ready = put_records taken_back s w (records_but x.leader (taken_back.records s w))

    abbrev all : Net
    all = push_all wire s (answers records x) ready

    pushed_records : (ys : List Reply) (old : Net) → (push_all wire s ys old).records ≡ old.records
    unfolding push_all
    pushed_records [] old = refl
    pushed_records (y ∷ ys) old = pushed_records ys (put_replies old s (wire y.leader) (old.replies s (wire y.leader) ++ y ∷ []))

    pushed_elsewhere : (t ≡ s → ⊥) → (ys : List Reply) (old : Net) → (push_all wire s ys old).replies t v ≡ old.replies t v
    unfolding push_all
    pushed_elsewhere away [] old = refl
    pushed_elsewhere away (y ∷ ys) old =
        pushed_elsewhere away ys (put_replies old s (wire y.leader) (old.replies s (wire y.leader) ++ y ∷ []))
        ∙ put2_other old.replies s (wire y.leader) (old.replies s (wire y.leader) ++ y ∷ []) t v (λ at _. away at)

    records_are : FewerRecords (answer z net taken_back s w x records)
    records_are =
        either FewerRecords (has_room z.c wire s all (answers records x)) _ _
        (subst (λ (f : ℕ → ℕ → List Record). length (f t v) ≤ length (net.records t v)) (sym (pushed_records (answers records x) ready))
        (shorter net.records s w (records_but x.leader (net.records s w)) (few_left x.leader (net.records s w)) t v)) (at_most (length (net.records t v)))

    replies_are : (t ≡ s → ⊥) → FewerReplies (answer z net taken_back s w x records)
    replies_are away =
        either FewerReplies (has_room z.c wire s all (answers records x)) _ _
        (subst (λ (ys : List Reply). length ys ≤ length (net.replies t v)) (sym (pushed_elsewhere away (answers records x) ready))
        (shorter net.replies (suc s) w rest few t v)) (at_most (length (net.replies t v)))

  down_from_there : (xs : List Reply) → net.replies (suc s) w ≡ xs →
      FewerRecords (down_from z net s w xs) × ((t ≡ s → ⊥) → FewerReplies (down_from z net s w xs))
  down_from_there [] is = (at_most (length (net.records t v)), λ away. at_most (length (net.replies t v)))
  down_from_there (x ∷ rest) is =
      let one_less : length rest ≤ length (net.replies (suc s) w) = rw is (omega arith) in
      let records = records_of x.leader (net.records s w) in
      (records_are rest one_less x records, replies_are rest one_less x records)

  pub down_records : FewerRecords (moved_down z net s w)
  unfolding moved_down
  down_records = either FewerRecords (nat_lt s z.k) _ _ ((down_from_there (net.replies (suc s) w) refl).0) (at_most (length (net.records t v)))

  pub down_elsewhere : (t ≡ s → ⊥) → FewerReplies (moved_down z net s w)
  unfolding moved_down
  down_elsewhere away =
      either FewerReplies (nat_lt s z.k) _ _ ((down_from_there (net.replies (suc s) w) refl).1 away) (at_most (length (net.replies t v)))

-- ---- steps

module _ (c : Config) (code : List ℕ) (M : theory.Machine ObservedCore) where
  abbrev z : Sizes
  z = sizes_of c

  -- What holds of the network, and of each network to which the step can lead, holds after the step.
  module _ (P : Net → Type 0) (same : P M.net) where
    when : (b : Bool) (r : theory.Result ObservedCore) → P r.machine.net → P (if b then r else stalled M).machine.net
    when true r p = p
    when false r p = same

    retired : (p : ℕ) (ys : List Reply) → P (port_taken M.net p) → P (retire_from (program c code) M p ys).machine.net
    retired p [] took = same
    retired p (y ∷ ys) took = took

    begun : (p : ℕ) (kind : Kind) → ((x : Request) → P (injected M.net x)) → P (begin (program c code) M p kind).machine.net
    begun p Rests sent = same
    begun p Alone sent = same
    begun p Refers sent = sent (request_of (program c code) M.core p)

    turned_by : (p : ℕ) (b : Bool) → P (port_taken M.net p) → ((x : Request) → P (injected M.net x)) → P (turned (program c code) M p b).machine.net
    turned_by p true took sent = retired p (M.net.replies 0 p) took
    turned_by p false took sent = begun p ((program c code).kind p (M.core p)) sent

    went : (r : UpMove × Net) → P r.1 → P (went_up M r).machine.net
    went (up.Stalled, net) p = same
    went (up.Moved, net) p = p
    went (up.Combined first second, net) p = p

    came : (r : DownMove × Net) → P r.1 → P (went_down M r).machine.net
    came (down.Stalled, net) p = same
    came (down.Moved, net) p = p
    came (down.Answered to, net) p = p

    served : (m : ℕ) (xs : List Request) (ys : List Reply) → ((y : Reply) → P (module_replied z (module_taken z M.net m) m y)) →
        P (serve_from z M m xs ys).machine.net
    served m [] ys p = same
    served m (x ∷ rest) (y ∷ ys) p = same
    served m (x ∷ rest) [] p = p (record { leader = x.leader; value = M.mem x.word })

    abbrev Makes : Step → Type 0
    Makes (step.Turn p) = P (port_taken M.net p) × ((x : Request) → P (injected M.net x))
    Makes (step.Up s w) = P (moved_up z M.net s w).1
    Makes (step.Serve m) = (y : Reply) → P (module_replied z (module_taken z M.net m) m y)
    Makes (step.Down s w) = P (moved_down z M.net s w).1
    Makes (step.Poke q) = Unit {0}

    stays : (st : Step) → Makes st → P (after c code M st).net
    unfolding after
    stays (step.Turn p) makes = when (nat_lt p (wires z)) (turned (program c code) M p (M.is_open p)) (turned_by p (M.is_open p) makes.0 makes.1)
    stays (step.Up s w) makes = when (nat_lt w (wires z)) (went_up M (moved_up z M.net s w)) (went (moved_up z M.net s w) makes)
    stays (step.Serve m) makes =
        when (nat_lt m (wires z)) (serve_from z M m (M.net.requests z.k m) (M.net.replies z.k m)) (served m (M.net.requests z.k m) (M.net.replies z.k m) makes)
    stays (step.Down s w) makes = when (nat_lt w (wires z)) (went_down M (moved_down z M.net s w)) (came (moved_down z M.net s w) makes)
    stays (step.Poke q) makes = when _ _ same

  -- The step can make lists of this kind at this stage longer.
  abbrev pub Grows : Held → (stage : ℕ) → Step → Type 0
  Grows Requests t (step.Up s w) = t ≡ s
  Grows Records t (step.Up s w) = t ≡ s
  Grows Replies t (step.Down s w) = t ≡ s
  Grows _ t _ = ⊥

  module _ (t v : ℕ) (below : t < c.k) where
    requests_made : (st : Step) → (Grows Requests t st → ⊥) →
        Makes (λ net. length (net.requests (suc t) v) ≤ length (M.net.requests (suc t) v)) (at_most (length (M.net.requests (suc t) v))) st
    unfolding port_taken injected module_taken module_replied
    requests_made (step.Turn p) away =
        (at_most (length (M.net.requests (suc t) v)), λ x. elsewhere M.net.requests 0 x.leader _ (suc t) v (λ is. absurd (omega (arith, is))))
    requests_made (step.Up s w) away = (up_elsewhere z M.net s w t v away).0
    requests_made (step.Serve m) away = λ y. shorter M.net.requests z.k m (drop 1 (M.net.requests z.k m)) (dropped (M.net.requests z.k m)) (suc t) v
    requests_made (step.Down s w) away =
        subst (λ (f : ℕ → ℕ → List Request). length (f (suc t) v) ≤ length (M.net.requests (suc t) v)) (sym (down_requests z M.net s w))
        (at_most (length (M.net.requests (suc t) v)))
    requests_made (step.Poke q) away = tt

    records_made : (st : Step) → (Grows Records t st → ⊥) →
        Makes (λ net. length (net.records t v) ≤ length (M.net.records t v)) (at_most (length (M.net.records t v))) st
    unfolding port_taken injected module_taken module_replied
    records_made (step.Turn p) away = (at_most (length (M.net.records t v)), λ x. at_most (length (M.net.records t v)))
    records_made (step.Up s w) away = (up_elsewhere z M.net s w t v away).1
    records_made (step.Serve m) away = λ y. at_most (length (M.net.records t v))
    records_made (step.Down s w) away = down_records z M.net s w t v
    records_made (step.Poke q) away = tt

    replies_made : (st : Step) → (Grows Replies t st → ⊥) →
        Makes (λ net. length (net.replies t v) ≤ length (M.net.replies t v)) (at_most (length (M.net.replies t v))) st
    unfolding port_taken injected module_taken module_replied
    replies_made (step.Turn p) away =
        (shorter M.net.replies 0 p (drop 1 (M.net.replies 0 p)) (dropped (M.net.replies 0 p)) t v, λ x. at_most (length (M.net.replies t v)))
    replies_made (step.Up s w) away =
        subst (λ (f : ℕ → ℕ → List Reply). length (f t v) ≤ length (M.net.replies t v)) (sym (up_replies z M.net s w)) (at_most (length (M.net.replies t v)))
    replies_made (step.Serve m) away = λ y. elsewhere M.net.replies z.k m _ t v (λ is. absurd (omega (arith, is, below)))
    replies_made (step.Down s w) away = down_elsewhere z M.net s w t v away
    replies_made (step.Poke q) away = tt

    -- Unless a step is one that may lengthen lists of a kind at a stage, none of these lists is longer after it.
    pub grows_there : (held : Held) (st : Step) → (Grows held t st → ⊥) → count_of held (after c code M st).net t v ≤ count_of held M.net t v
    grows_there Requests st away =
        stays (λ net. length (net.requests (suc t) v) ≤ length (M.net.requests (suc t) v)) (at_most (length (M.net.requests (suc t) v))) st
        (requests_made st away)
    grows_there Records st away =
        stays (λ net. length (net.records t v) ≤ length (M.net.records t v)) (at_most (length (M.net.records t v))) st (records_made st away)
    grows_there Replies st away =
        stays (λ net. length (net.replies t v) ≤ length (M.net.replies t v)) (at_most (length (M.net.replies t v))) st (replies_made st away)
