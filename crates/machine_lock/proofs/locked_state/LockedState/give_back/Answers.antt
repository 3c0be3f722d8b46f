use Rattle.std.proofs.Common.{◌≡◌, ◌^◌, List, Option, length, length-append, None, Some, slice_get}
use Rattle.std.proofs.Common.{slice_set, get_or-set_other, lt-ltb, sym, ◌∙◌, ap, subst, arith}
use lib.ListN.{length-replicate}
use Rattle.std.proofs.lemmas.Option.{slice_get_within}
use Rattle.steps.specs.declared.step.Step.{Step}
use Rattle.steps.specs.declared.step.Step.TheVariants.{Turn}
use Rattle.machine_steps.specs.machine_theory.Loans.{turns_of}
use Rattle.machine_log.specs.Lendings.{AreAnswered}
use Rattle.machine_log.specs.declared.lent.Lent.{Lent}
use Rattle.machine_lock.specs.declared.row.PassState.{PassState}
use Rattle.machine_lock.specs.Rows.{Fits, with_retirements, with_loan}
use Rattle.flat_machine.specs.declared.event.Retired.{Retired}
use Rattle.machine_lock.specs.Passes.{Held, IsReturned, LoanState, LockedStateModel, held, moment, most_of, row_of}
use Rattle.machine_lock.proofs.Fitting.{follows_last, steps_of-get}
use Rattle.machine_lock.proofs.Returning.{SayLoans, back_fits, none_here, say_set}
use Rattle.machine_lock.proofs.locked_state.LockedState.give_back.Goals as goal

pub store_retirements-requires-clause-steps : goal.store_retirements-requires-clause-steps
store_retirements-requires-clause-steps g c =
    let p = c.pass.inside.processor in
    let r = row_of c.pass.inside.stored in
    let same = c.sync_row.ensures.same in
    let met : slice_get c.self.inside.authority p ≡ Some r =
    subst (λ (x : LockedStateModel × Held). slice_get x.0.rows x.1.processor ≡ Some x.1.row)
    (λ i. (sym (c.self.view_is ∙ same.1) i, sym (c.pass.view_is ∙ same.0) i)) c.sync_row.ensures.agrees in
    let less = steps_of-get c.self.inside.authority p r met in
    let total = c.self.invariant.fits.total in
    let room = c.lending_is_well_formed.ensures.room in
    let taken = c.as_slice.result.now in
    let here = ap length (c.as_slice-2.ensures ∙ sym c.as_slice.ensures) in
    let steps = c.self.inside.lending.log.steps in
    let more = ap length c.in_default.ensures.back.steps ∙ length-append steps (turns_of p (length taken)) in
    let turns = length-replicate (length taken) (Turn p) in
    let behind = c.lending_is_well_formed-2.ensures.room in
    omega (arith, less, total, room, here, more, turns, behind)

pub invariant_of-self-2 : goal.invariant_of-self-2
invariant_of-self-2 g c =
    let p = c.pass.inside.processor in
    let r = row_of c.pass.inside.stored in
    let w = c.write_row.ensures p r c.pass.invariant.0 in
    let i = c.self.invariant in
    let b = c.in_default.ensures.back in
    let old = c.self.inside.lending in
    let steps = old.log.steps in
    let rows = c.self.inside.authority in
    let taken = c.as_slice.result.now in
    let there = with_loan (with_retirements p r (length steps) taken) None in
    let row = ap (λ x. with_loan x None) c.store_retirements.ensures
    ∙ (λ n. with_loan (with_retirements p r (length (c.steps-place.ensures n)) ((c.as_slice-2.ensures ∙ sym c.as_slice.ensures) n)) None) in
    let authority = w.authority ∙ ap (slice_set rows p) row in
    let within = slice_get_within rows p r w.agreed in
    let many = i.fits.many ∙ i.count in
    let named = lt-ltb p (2 ^ g.N.Run.opening.config.k) (omega (arith, within, many)) in
    let answered = subst (λ m. AreAnswered m steps p taken) i.opening b.answered in
    record {
      opening = b.opening ∙ i.opening;
      config = ap (λ m. m.config) b.machine ∙ i.config;
      count = i.count;
      loans = subst (λ (x : List PassState × List (Option Lent)). SayLoans x.0 x.1) (λ k. (sym authority k, sym b.lent k))
          (say_set rows old.lent (slice_set old.lent p None) p there i.loans (λ q other. get_or-set_other old.lent p q None None other)
          (ap most_of (sym (none_here old.lent p))));
      fits = subst (λ (x : List Step × List PassState). Fits g.N.Run.opening g.N.Run.first g.N.Run.count x.0 x.1) (λ k. (sym b.steps k, sym authority k))
          (back_fits g.N.Run.opening g.N.Run.first g.N.Run.count steps rows p r taken i.fits w.agreed named answered);
    }

pub returns-clause-back : goal.returns-clause-back
returns-clause-back g c =
    let p = c.pass.inside.processor in
    let r = row_of c.pass.inside.stored in
    let w = c.write_row.ensures p r c.pass.invariant.0 in
    let i = c.self.invariant in
    let b = c.in_default.ensures.back in
    let steps = c.self.inside.lending.log.steps in
    let taken = c.as_slice.result.now in
    let view = c.pass.view_is ∙ c.sync_row.ensures.same.0 in
    let locked_state = c.self.view_is ∙ c.sync_row.ensures.same.1 in
    let loan = c.as_slice.ensures ∙ ap (λ (l : LoanState). l.retired) c.loan.view_is in
    let same = c.as_slice-2.ensures ∙ sym c.as_slice.ensures in
    let far = follows_last g.N.Run.opening (length g.N.Run.first) steps p r.last (i.fits.each p r w.agreed).last in
    let new = held p (with_loan (row_of c.store_retirements.new.self) None) in
    let here : IsReturned g.N.Run.opening (moment steps (held p r)) taken (moment c.give_back.new.self.log.steps new) = record {
      answered = subst (λ m. AreAnswered m steps p taken) i.opening b.answered;
      log = b.steps;
      follows = far;
      pass = ap (λ x. held p (with_loan x None)) c.store_retirements.ensures
          ∙ (λ n. held p (with_loan (with_retirements p r (length (c.steps-place.ensures n)) (same n)) None));
    } in
    subst (λ (x : LockedStateModel × Held × List Retired). IsReturned g.N.Run.opening (moment x.0.log.steps x.1) x.2
    (moment c.give_back.new.self.log.steps new))
    (λ n. (locked_state n, view n, loan n)) here
