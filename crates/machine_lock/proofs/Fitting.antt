-- The rows fit the steps: at the start, and after each answer.
use Rattle.std.proofs.Common.{◌≡◌, ℕ, zero, suc, ◌+◌, ◌<◌, ◌≤◌, Bool, true, false, not, List, []}
use Rattle.std.proofs.Common.{◌∷◌, ◌++◌, length, drop, refl, sym, ap, ◌∙◌, subst, arith, length-append}
use Rattle.std.proofs.Common.{append_assoc, ◌⊎◌, inl, inr, ⊎_elim}
use Rattle.std.specs.Prelude.{replicate, slice_get, slice_set, slice_index_or as get_or, Some, None, Option, if◌then◌else◌}
use Rattle.std.proofs.lemmas.List.{append-nil, drop-append-le, take-append-le}
use Rattle.std.proofs.Math.Seq.{take-length, drop-length}
use Rattle.std.proofs.lemmas.Option.{slice_get_within, slice_get-get_or}
use Rattle.machine_steps.specs.machine_theory.Theory.{Machine}
use Rattle.machine_steps.specs.machine_theory.Processors.{ObservedCore}
use Rattle.machine_steps.specs.machine_theory.Steps.{outcome_of}
use Rattle.steps.specs.declared.step.Step.{Step}
use Rattle.steps.specs.Kinds.{all_within, is_poke, is_turn_below, is_turn_of, is_within, no_poke, no_turn, turns_below}
use Rattle.steps.proofs.Lemmas.{turns_of_one}
use Rattle.steps.specs.declared.step.Outcome.{Outcome}
use Rattle.steps.specs.declared.step.Outcome.TheVariants.{Retired, Issued, Stopped, Moved, Combined, Served, Answered, Poked, Stalled}
use Rattle.steps.specs.Answers.{is_stalled}
use Rattle.machine_steps.specs.Machines.{MachineLists, machine_of}
use Rattle.machine_steps.specs.Runs.{all_after, answer_after}
use Rattle.machine_log.specs.Logs.{entered}
use Rattle.machine_lock.specs.declared.row.PassEvent.{PassEvent}
use Rattle.machine_lock.specs.declared.row.Answer.{Answer}
use Rattle.machine_lock.specs.declared.row.PassState.{PassState}
use Rattle.machine_lock.specs.Lists.{pass_events_of, given_to, shown_at}
use Rattle.machine_lock.specs.Passes.{Held, held, most_of, rows_of, IsWhole, new_passes}
use Rattle.machine_log.specs.Lendings.{lent_at}
use Rattle.machine_log.proofs.Lemmas.{replicate_none}
use Rattle.machine_lock.specs.Rows.{new_row, with_answer, counted, steps_after, machine_after, pass_events_since, LastFits, RowFits, Fits, Follows, steps_of}
use Rattle.machine_lock.proofs.Lists.{all_after-append, all-push, each-set, get-front, get-last, pass_events_pushed, length-slice_set}

is_off : (b : Bool) → (b ≡ true → ⊥) → b ≡ false
is_off true h = absurd (h refl)
is_off false h = refl

-- ---- sums of steps

pub steps_of-set : (rows : List PassState) (p : ℕ) (r new : PassState) → slice_get rows p ≡ Some r →
    steps_of (slice_set rows p new) + r.steps ≡ steps_of rows + new.steps
steps_of-set [] p r new e = absurd (cc)
steps_of-set (x ∷ xs) zero r new e = let h : x ≡ r = cc in let h' = ap (λ (y : PassState). y.steps) h in omega arith
steps_of-set (x ∷ xs) (suc p) r new e = let h = steps_of-set xs p r new e in omega arith

pub steps_of-get : (rows : List PassState) (p : ℕ) (r : PassState) → slice_get rows p ≡ Some r → r.steps ≤ steps_of rows
steps_of-get [] p r e = absurd (cc)
steps_of-get (x ∷ xs) zero r e = let h : x ≡ r = cc in let h' = ap (λ (y : PassState). y.steps) h in omega arith
steps_of-get (x ∷ xs) (suc p) r e = let h = steps_of-get xs p r e in omega arith

steps_of-append : (xs ys : List PassState) → steps_of (xs ++ ys) ≡ steps_of xs + steps_of ys
steps_of-append [] ys = omega arith
steps_of-append (x ∷ xs) ys = let h = steps_of-append xs ys in omega arith

pub counted_small : (o : Outcome) → counted o ≤ 1
counted_small o = small (is_stalled o)
  where
    small : (b : Bool) → (if b then 0 else 1) ≤ 1
    small true = omega arith
    small false = omega arith

-- ---- what one step gives

-- A step that is no turn of a processor gives it nothing.
pub none_of : (q place : ℕ) (s : Step) (o : Outcome) → is_turn_of q s ≡ false → given_to q place s o ≡ []
none_of q place s o h = ap (λ (b : Bool). if b then shown_at place o else []) h

none_shown : (place : ℕ) (o : Outcome) → is_stalled o ≡ true → shown_at place o ≡ []
none_shown place (Retired retired) h = absurd (cc)
none_shown place (Stopped cause) h = absurd (cc)
none_shown place Issued h = refl
none_shown place Moved h = refl
none_shown place (Combined first second) h = refl
none_shown place (Served leader) h = refl
none_shown place (Answered to) h = refl
none_shown place Poked h = refl
none_shown place Stalled h = refl

none_stalled : (q place : ℕ) (s : Step) (o : Outcome) → is_stalled o ≡ true → given_to q place s o ≡ []
none_stalled q place s o h = ap (λ ns. if is_turn_of q s then ns else []) (none_shown place o h) ∙ same (is_turn_of q s)
  where
    same : (b : Bool) → (let e : List PassEvent = [] in if b then e else e) ≡ []
    same true = refl
    same false = refl

-- ---- one more answer

module _ (opening : MachineLists) (first : List Step) where
  abbrev low : ℕ
  low = length first

  -- If rows fit the steps, the first steps and those after them are together as many as all steps.
  pub long : (count : ℕ) (steps : List Step) (rows : List PassState) → Fits opening first count steps rows →
      (low + length (drop low steps) ≡ length steps) × (low ≤ length steps)
  long count steps rows h = let n = ap length h.begins in let m = length-append first (drop low steps) in (omega arith, omega arith)

  -- The machine after the first steps and then the others is the machine after all steps.
  here_is : (count : ℕ) (steps : List Step) (rows : List PassState) → Fits opening first count steps rows →
      all_after opening.config opening.code (machine_after opening first) (drop low steps) ≡ machine_after opening steps
  here_is count steps rows h =
      sym (all_after-append opening.config opening.code (machine_of opening (λ p. [])) first (drop low steps)) ∙ ap (machine_after opening) (sym h.begins)

  last_more : (steps : List Step) (q : ℕ) (s : Step) (l : Option Answer) → is_turn_of q s ≡ false → LastFits opening low steps q l →
      LastFits opening low (steps ++ s ∷ []) q l
  last_more steps q s None off f = tt
  last_more steps q s (Some a) off f =
      let more = length-append steps (s ∷ []) in
      let high = f.high in
      record {
        low = f.low;
        high = omega arith;
        outcome = f.outcome ∙ ap (λ t. answer_after opening t a.step) (sym (take-append-le a.place steps (s ∷ []) (omega arith)));
        stands = λ n. get-front steps (s ∷ []) a.place a.step (f.stands n);
        final = subst (λ t. no_turn q t ≡ true) (sym (drop-append-le (steps_after a) steps (s ∷ []) high))
            (all-push (λ t. not (is_turn_of q t)) (drop (steps_after a) steps) s f.final (ap not off));
      }

  -- The list of a processor over steps and one more is that over the steps, followed by what the last one gives.
  list_more : (count : ℕ) (steps : List Step) (rows : List PassState) (q : ℕ) (s : Step) → Fits opening first count steps rows →
      pass_events_since opening first q (steps ++ s ∷ []) ≡ pass_events_since opening first q steps
      ++ given_to q (length steps) s (answer_after opening steps s)
  list_more count steps rows q s h =
      let n = long count steps rows h in
      let rest : List Step = drop low steps in
      let M : Machine ObservedCore = machine_after opening first in
      ap (pass_events_of opening.config opening.code q low M) (drop-append-le low steps (s ∷ []) n.1)
      ∙ pass_events_pushed opening.config opening.code q low M rest s
      ∙ (λ i. pass_events_of opening.config opening.code q low M rest
      ++ given_to q (n.0 i) s (outcome_of opening.config opening.code (here_is count steps rows h i) s))

  -- The row of a processor fits after one more step that is not its turn.
  row_more : (count : ℕ) (steps : List Step) (rows : List PassState) (q : ℕ) (s : Step) (r : PassState) → Fits opening first count steps rows →
      is_turn_of q s ≡ false →
      RowFits opening first steps q r → RowFits opening first (steps ++ s ∷ []) q r
  row_more count steps rows q s r h off f =
      record {
        pass_events = f.pass_events ∙ sym (append-nil (pass_events_since opening first q steps))
            ∙ ap (λ ns. pass_events_since opening first q steps ++ ns) (sym (none_of q (length steps) s (answer_after opening steps s) off))
            ∙ sym (list_more count steps rows q s h);
        last = last_more steps q s r.last off f.last;
      }

  answered_at : (count : ℕ) (steps : List Step) (rows : List PassState) (p : ℕ) (r : PassState) (s : Step) (o : Outcome) (b : Bool) → is_stalled o ≡ b
      → Fits opening first count steps rows → slice_get rows p ≡ Some r → is_poke s ≡ false → is_within opening.config.k s ≡ true →
      ((q : ℕ) → is_turn_of q s ≡ true → q ≡ p) →
      o ≡ answer_after opening steps s
      → Fits opening first count (if b then steps else steps ++ s ∷ []) (slice_set rows p (with_answer p r s o (length steps)))
  answered_at count steps rows p r s o true is h at may name own out =
      let n = long count steps rows h in
      let new = with_answer p r s o (length steps) in
      let none : counted o ≡ 0 = ap (λ (b : Bool). if b then 0 else 1) is in
      let old = (h.each p r at) in
      let sum = steps_of-set rows p r new at in
      let sum' = h.total in
      record {
        begins = h.begins;
        no_pokes = h.no_pokes;
        turns = h.turns;
        named = h.named;
        many = length-slice_set rows p new ∙ h.many;
        each = each-set (RowFits opening first steps) rows p new
            (record {
              pass_events = ap (λ ns. r.pass_events ++ ns) (none_stalled p (length steps) s o is) ∙ append-nil r.pass_events ∙ old.pass_events;
              last = record {
                low = n.1;
                high = omega arith;
                outcome = out ∙ ap (λ t. answer_after opening t s) (sym (take-length steps));
                stands = λ no. absurd (cc);
                final = subst (λ t. no_turn p t ≡ true) (sym (ap (λ k. drop (length steps + k) steps) none ∙ ap (λ k. drop k steps) (omega arith)
                    ∙ drop-length steps)) refl;
              };
            })
            (λ q x other e. h.each q x e);
        total = omega arith;
      }
  answered_at count steps rows p r s o false is h at may name own out =
      let n = long count steps rows h in
      let new = with_answer p r s o (length steps) in
      let one : counted o ≡ 1 = ap (λ (b : Bool). if b then 0 else 1) is in
      let old = (h.each p r at) in
      let sum = steps_of-set rows p r new at in
      let sum' = h.total in
      let rest : List Step = drop low steps in
      let now : List Step = steps ++ s ∷ [] in
      let more = length-append steps (s ∷ []) in
      let dr = drop-append-le low steps (s ∷ []) n.1 in
      let within = slice_get_within rows p r at in
      let many = h.many in
      record {
        begins = ap (λ t. t ++ s ∷ []) h.begins ∙ append_assoc first rest (s ∷ []) ∙ ap (λ t. first ++ t) (sym dr);
        no_pokes = subst (λ t. no_poke t ≡ true) (sym dr) (all-push (λ t. not (is_poke t)) rest s h.no_pokes (ap not may));
        turns = subst (λ t. turns_below count t ≡ true) (sym dr) (all-push (is_turn_below count) rest s h.turns (turns_of_one s p count (omega arith) own));
        named = subst (λ t. all_within opening.config.k t ≡ true) (sym dr) (all-push (is_within opening.config.k) rest s h.named name);
        many = length-slice_set rows p new ∙ h.many;
        each = each-set (RowFits opening first now) rows p new
            (record {
              pass_events = ap (λ ns. ns ++ given_to p (length steps) s o) old.pass_events
                  ∙ ap (λ x. pass_events_since opening first p steps ++ given_to p (length steps) s x) out ∙ sym (list_more count steps rows p s h);
              last = record {
                low = n.1;
                high = omega arith;
                outcome = out ∙ ap (λ t. answer_after opening t s) (sym (take-append-le (length steps) steps (s ∷ []) (omega arith) ∙ take-length steps));
                stands = λ _. get-last steps s;
                final = subst (λ t. no_turn p t ≡ true) (sym (ap (λ k. drop k now) (omega arith) ∙ drop-length now)) refl;
              };
            })
            (λ q x other e. row_more count steps rows q s x h (is_off (is_turn_of q s) (λ t. other (own q t))) (h.each q x e));
        total = omega arith;
      }

  -- If a step is answered that is no poke, that the machine has, and that is no turn of a processor other than p,
  -- the rows with p's answer fit the steps in which it is entered.
  pub answered : (count : ℕ) (steps : List Step) (rows : List PassState) (p : ℕ) (r : PassState) (s : Step) (o : Outcome)
      → Fits opening first count steps rows → slice_get rows p ≡ Some r → is_poke s ≡ false → is_within opening.config.k s ≡ true →
      ((q : ℕ) → is_turn_of q s ≡ true → q ≡ p) →
      o ≡ answer_after opening steps s
      → Fits opening first count (entered steps s o) (slice_set rows p (with_answer p r s o (length steps)))
  answered count steps rows p r s o = answered_at count steps rows p r s o (is_stalled o) refl

-- If the last answer of p fits the steps, the next answer can be at the place after all steps.
pub follows_last : (opening : MachineLists) (from : ℕ) (steps : List Step) (p : ℕ) (l : Option Answer) → LastFits opening from steps p l →
    Follows l (length steps)
follows_last opening from steps p None f = tt
follows_last opening from steps p (Some a) f = f.high

-- ---- the passes of all processors

-- If rows are those of passes, place by place, they are the list of the passes' rows.
pub rows_are : (rows : List PassState) (hs : List Held) → length rows ≡ length hs →
    ((k : ℕ) (h : Held) → slice_get hs k ≡ Some h → slice_get rows k ≡ Some h.row) →
    rows ≡ rows_of hs
rows_are [] [] e f = refl
rows_are [] (h ∷ hs) e f = absurd (omega arith)
rows_are (r ∷ rs) [] e f = absurd (omega arith)
rows_are (r ∷ rs) (h ∷ hs) e f =
    let one : r ≡ h.row = cc (f zero h refl) in
    let rest = rows_are rs hs (omega arith) (λ k x g. f (suc k) x g) in
    (λ i. one i ∷ rest i)

length-rows_of : (hs : List Held) → length (rows_of hs) ≡ length hs
length-rows_of [] = refl
length-rows_of (h ∷ hs) = ap suc (length-rows_of hs)

pub rows_of-push : (hs : List Held) (h : Held) → rows_of (hs ++ h ∷ []) ≡ rows_of hs ++ h.row ∷ []
rows_of-push [] h = refl
rows_of-push (x ∷ hs) h = ap (λ rs. x.row ∷ rs) (rows_of-push hs h)

pub length-new_passes : (n : ℕ) → length (new_passes n) ≡ n
length-new_passes zero = refl
length-new_passes (suc n) = let h = length-new_passes n in omega (arith, length-append (new_passes n) (held n new_row ∷ []))

get-end : {A : Type 0} (xs : List A) (a x : A) (k : ℕ) → slice_get (xs ++ a ∷ []) k ≡ Some x → (slice_get xs k ≡ Some x) ⊎ ((k ≡ length xs) × (a ≡ x))
get-end [] a x zero e = inr (refl, cc)
get-end [] a x (suc k) e = absurd (cc)
get-end (y ∷ ys) a x zero e = inl e
get-end (y ∷ ys) a x (suc k) e = ⊎_elim (λ t. inl t) (λ (t : (k ≡ length ys) × (a ≡ x)). inr (ap suc t.0, t.1)) (get-end ys a x k e)

new_at : (n k : ℕ) (h : Held) → slice_get (new_passes n) k ≡ Some h → (h.processor ≡ k) × (h.row ≡ new_row)
new_at zero k h e = absurd (cc)
new_at (suc n) k h e = ⊎_elim
    (λ (t : slice_get (new_passes n) k ≡ Some h). new_at n k h t)
    (λ (t : (k ≡ length (new_passes n)) × (held n new_row ≡ h)). let l = length-new_passes n in let p = ap (λ (x : Held). x.processor) t.1 in
    (omega arith, sym (ap (λ (x : Held). x.row) t.1)))
    (get-end (new_passes n) (held n new_row) h k e)

get-rows_of : (hs : List Held) (k : ℕ) (r : PassState) → slice_get (rows_of hs) k ≡ Some r → (h : Held) × (slice_get hs k ≡ Some h) × (h.row ≡ r)
get-rows_of [] k r e = absurd (cc)
get-rows_of (h ∷ hs) zero r e = (h, refl, cc)
get-rows_of (h ∷ hs) (suc k) r e = get-rows_of hs k r e

pub whole-new : (n : ℕ) → IsWhole n (new_passes n)
whole-new n = record { many = length-new_passes n; own = λ k h e. (new_at n k h e).0 }

steps_of-new : (n : ℕ) → steps_of (rows_of (new_passes n)) ≡ 0
steps_of-new zero = refl
steps_of-new (suc n) = let h =
    steps_of-new n in ap steps_of (rows_of-push (new_passes n) (held n new_row)) ∙ steps_of-append (rows_of (new_passes n)) (new_row ∷ []) ∙ omega arith

-- At the start of a run, the rows of new passes fit the steps before it.
pub starts : (opening : MachineLists) (first : List Step) (count : ℕ) → Fits opening first count first (rows_of (new_passes count))
starts opening first count =
    let none = drop-length first in record {
      begins = sym (append-nil first) ∙ ap (λ t. first ++ t) (sym none);
      no_pokes = ap no_poke none;
      turns = ap (turns_below count) none;
      named = ap (all_within opening.config.k) none;
      many = length-rows_of (new_passes count) ∙ length-new_passes count;
      each = λ p r e.
          let g = get-rows_of (new_passes count) p r e in
          let is : r ≡ new_row = sym g.2 ∙ (new_at count p g.0 g.1).1 in
          subst (λ (x : PassState). RowFits opening first first p x)
          (sym is) record {
            pass_events = sym (ap (pass_events_of opening.config opening.code p (length first) (machine_after opening first)) none);
            last = tt;
          };
      total = let z = steps_of-new count in omega arith;
    }

-- No new pass has a lent core.
pub new_loans : (count n p : ℕ) (r : PassState) → slice_get (rows_of (new_passes count)) p ≡ Some r → r.lent ≡ most_of (lent_at (replicate n None) p)
new_loans count n p r e =
    let g = get-rows_of (new_passes count) p r e in
    ap (λ (x : PassState). x.lent) (sym g.2 ∙ (new_at count p g.0 g.1).1) ∙ ap most_of (sym (replicate_none n p))

-- A list stays the same if what is at a place is put there again.
pub set_back : {A : Type 0} (xs : List A) (i : ℕ) (d v : A) → i < length xs → v ≡ get_or xs i d → slice_set xs i v ≡ xs
set_back [] i d v h e = refl
set_back (x ∷ xs) zero d v h e = ap (λ y. y ∷ xs) e
set_back (x ∷ xs) (suc i) d v h e = ap (λ ys. x ∷ ys) (set_back xs i d v (omega arith) e)

-- If something is found at a place of a list, reading there with a default gives it.
pub get_is : {A : Type 0} (xs : List A) (i : ℕ) (d v : A) → slice_get xs i ≡ Some v → v ≡ get_or xs i d
get_is [] i d v e = absurd (cc)
get_is (x ∷ xs) zero d v e = cc
get_is (x ∷ xs) (suc i) d v e = get_is xs i d v e

-- Passes stay those of all processors, in order, if one is replaced by another one of the same processor.
pub whole_set : (n : ℕ) (hs : List Held) (k : ℕ) (h d : Held) → k < length hs → h.processor ≡ (get_or hs k d).processor → IsWhole n hs →
    IsWhole n (slice_set hs k h)
whole_set n hs k h d less same whole =
    record {
      many = length-slice_set hs k h ∙ whole.many;
      own = each-set (λ j x. x.processor ≡ j) hs k h (same ∙ whole.own k (get_or hs k d) (slice_get-get_or hs k d less)) (λ j x other e. whole.own j x e);
    }
