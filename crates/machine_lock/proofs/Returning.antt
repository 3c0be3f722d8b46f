-- The rows fit the steps after a core is lent or comes back.
use Rattle.std.proofs.Common.{◌≡◌, ℕ, zero, suc, ◌<◌, true, false, List, [], ◌∷◌, ◌++◌, length, Option, Some, None}
use Rattle.std.proofs.Common.{refl, sym, ap, ◌∙◌, subst, arith, length-append, append_assoc, eqb-true, ne_eqb}
use Rattle.std.specs.Prelude.{slice_get, slice_set}
use Rattle.std.proofs.lemmas.List.{append-nil, set-get_or, set-set}
use Rattle.std.proofs.lemmas.Option.{slice_get_within}
use Rattle.flat_machine.specs.declared.event.Retired.{Retired}
use Rattle.steps.specs.declared.step.Step.{Step}
use Rattle.steps.specs.declared.step.Step.TheVariants as step
use Rattle.steps.specs.declared.step.Outcome.TheVariants as outcome
use Rattle.machine_steps.specs.Machines.{MachineLists}
use Rattle.machine_log.specs.Lendings.{AreAnswered, LendingLog, OfOthers, lent_at}
use Rattle.machine_log.specs.declared.lent.Lent.{Lent}
use Rattle.steps.specs.Kinds.{is_network, is_turn_of, is_within}
use Rattle.steps.proofs.Lemmas.{network_no_poke, network_no_turn}
use Rattle.machine_lock.specs.Passes.{most_of}
use Rattle.machine_steps.specs.machine_theory.Loans.{turns_of}
use Rattle.machine_lock.specs.declared.row.PassState.{PassState}
use Rattle.machine_lock.specs.Rows.{Fits, RowFits, with_answer, with_retirements, with_loan}
use Rattle.machine_lock.proofs.Fitting.{answered, steps_of-set}
use Rattle.machine_lock.proofs.Lists.{each-set, length-slice_set, set-same}

get_set_here : (rows : List PassState) (p : ℕ) (x : PassState) → p < length rows → slice_get (slice_set rows p x) p ≡ Some x
get_set_here [] p x inside = absurd (omega arith)
get_set_here (y ∷ ys) zero x inside = refl
get_set_here (y ∷ ys) (suc p) x inside = get_set_here ys p x (omega arith)

module _ (opening : MachineLists) (first : List Step) (count : ℕ) where
  -- The rows fit after what one of them says of its loan has changed.
  pub loan_fits : (steps : List Step) (rows : List PassState) (p : ℕ) (r : PassState) (lent : Option ℕ) → Fits opening first count steps rows →
      slice_get rows p ≡ Some r →
      Fits opening first count steps (slice_set rows p (with_loan r lent))
  loan_fits steps rows p r lent h at =
      let sum = steps_of-set rows p r (with_loan r lent) at in
      let total = h.total in
      record {
        begins = h.begins;
        no_pokes = h.no_pokes;
        turns = h.turns;
        named = h.named;
        many = length-slice_set rows p (with_loan r lent) ∙ h.many;
        each = each-set (RowFits opening first steps) rows p (with_loan r lent)
            (let old = h.each p r at in record { pass_events = old.pass_events; last = old.last }) (λ q x other e. h.each q x e);
        total = omega (arith, sum, total);
      }

  -- The rows fit after turns of p have retired these instructions, one after another.
  pub answer_fits : (steps : List Step) (rows : List PassState) (p : ℕ) (r : PassState) (taken : List Retired) → Fits opening first count steps rows →
      slice_get rows p ≡ Some r → is_within opening.config.k (step.Turn p) ≡ true → AreAnswered opening steps p taken →
      Fits opening first count (steps ++ turns_of p (length taken)) (slice_set rows p (with_retirements p r (length steps) taken))
  answer_fits steps rows p r [] h at named answers =
      subst (λ (x : List Step × List PassState). Fits opening first count x.0 x.1) (λ i. (sym (append-nil steps) i, sym (set-same rows p r at) i)) h
  answer_fits steps rows p r (retired ∷ later) h at named answers =
      let once = with_answer p r (step.Turn p) (outcome.Retired retired) (length steps) in
      let one = answered opening first count steps rows p r (step.Turn p) (outcome.Retired retired) h at refl named (λ q own. sym (eqb-true p q own))
      (sym answers.0) in
      let inside = slice_get_within rows p r at in
      let more = answer_fits (steps ++ step.Turn p ∷ []) (slice_set rows p once) p once later one (get_set_here rows p once inside) named answers.1 in
      let place : length (steps ++ step.Turn p ∷ []) ≡ suc (length steps) = length-append steps (step.Turn p ∷ []) ∙ omega arith in
      subst (λ (x : List Step × List PassState). Fits opening first count x.0 x.1)
      (λ i. (
        append_assoc steps (step.Turn p ∷ []) (turns_of p (length later)) i,
        (set-set rows p once (with_retirements p once (length (steps ++ step.Turn p ∷ [])) later)
            ∙ ap (λ n. slice_set rows p (with_retirements p once n later)) place) i,
      )) more

  -- The rows fit after a core has come back, and turns of p have retired its instructions.
  pub back_fits : (steps : List Step) (rows : List PassState) (p : ℕ) (r : PassState) (taken : List Retired) → Fits opening first count steps rows →
      slice_get rows p ≡ Some r → is_within opening.config.k (step.Turn p) ≡ true → AreAnswered opening steps p taken →
      Fits opening first count (steps ++ turns_of p (length taken)) (slice_set rows p (with_loan (with_retirements p r (length steps) taken) None))
  back_fits steps rows p r taken h at named answers =
      let t = with_retirements p r (length steps) taken in
      let inside = slice_get_within rows p r at in
      subst (λ rows. Fits opening first count (steps ++ turns_of p (length taken)) rows) (set-set rows p t (with_loan t None))
      (loan_fits (steps ++ turns_of p (length taken)) (slice_set rows p t) p t None (answer_fits steps rows p r taken h at named answers)
      (get_set_here rows p t inside))

-- ---- loans

-- What the rows say of loans is what is known of them.
abbrev pub SayLoans : List PassState → List (Option Lent) → Type 0
SayLoans rows lent = (p : ℕ) (r : PassState) → slice_get rows p ≡ Some r → r.lent ≡ most_of (lent_at lent p)

-- If the row of p and what is known of its loan are replaced, and these agree, the rows say what is known of all loans.
pub say_set : (rows : List PassState) (lent lent' : List (Option Lent)) (p : ℕ) (new : PassState) → SayLoans rows lent → (
    (q : ℕ) → (q ≡ p → ⊥) → lent_at lent' q ≡ lent_at lent q) → new.lent ≡ most_of (lent_at lent' p) → SayLoans (slice_set rows p new) lent'
say_set rows lent lent' p new say others here = each-set (λ q r. r.lent ≡ most_of (lent_at lent' q)) rows p new here
    (λ q r other e. say q r e ∙ ap most_of (sym (others q other)))

-- A turn of a processor whose core is not lent is not of a processor whose core is lent.
pub turn_others : (lent : List (Option Lent)) (p : ℕ) → None ≡ most_of (lent_at lent p) → OfOthers lent (step.Turn p)
turn_others lent p none q l e = (ne_eqb p q (λ same. no (lent_at lent p) (ap (lent_at lent) same ∙ e) none), refl)
  where
    no : (k : Option Lent) → k ≡ Some l → None ≡ most_of k → ⊥
    no None f g = cc
    no (Some k) f g = cc

-- Nor is a step of the network.
pub net_others : (lent : List (Option Lent)) (s : Step) → is_network s ≡ true → OfOthers lent s
net_others lent s net q l e = (network_no_turn q s net, network_no_poke s net)

-- A row with further answers says the same of its loan.
pub with_retirements_lent : (p : ℕ) (r : PassState) (place : ℕ) (taken : List Retired) → (with_retirements p r place taken).lent ≡ r.lent
with_retirements_lent p r place [] = refl
with_retirements_lent p r place (retired ∷ later) = with_retirements_lent p (with_answer p r (step.Turn p) (outcome.Retired retired) place) (suc place) later

-- A step of others is no turn of a processor whose core is lent.
pub lent_quiet : (lent : List (Option Lent)) (s : Step) (p most : ℕ) → OfOthers lent s → Some most ≡ most_of (lent_at lent p) → is_turn_of p s ≡ false
lent_quiet lent s p most others e = at (lent_at lent p) refl e
  where
    at : (l : Option Lent) → lent_at lent p ≡ l → Some most ≡ most_of l → is_turn_of p s ≡ false
    at None f g = absurd (cc)
    at (Some l) f g = (others p l f).0

-- ---- what is known of loans after one is made or comes back

-- After what is known of the core of p is removed, p has no loan.
pub none_here : (lent : List (Option Lent)) (p : ℕ) → lent_at (slice_set lent p None) p ≡ None
none_here [] zero = refl
none_here [] (suc p) = refl
none_here (l ∷ lent) zero = refl
none_here (l ∷ lent) (suc p) = none_here lent p

-- If a core is lent and brought back at once, all is as it was.
pub brought_back : (old lent back : LendingLog) (p : ℕ) (l : Lent) → lent ≡ record old { lent = slice_set old.lent p (Some l) } → lent_at old.lent p ≡ None →
    back ≡ record lent { lent = slice_set lent.lent p None } → back ≡ old
brought_back old lent back p l one none two =
    let put = λ (x : LendingLog) (ls : List (Option Lent)). let y : LendingLog = record x { lent = ls } in y in
    two ∙ ap (λ x. put x (slice_set x.lent p None)) one
    ∙ ap (put old) (set-set old.lent p (Some l) None ∙ ap (slice_set old.lent p) (sym none) ∙ set-get_or old.lent p None)
