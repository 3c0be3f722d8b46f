use Rattle.std.proofs.Common.{◌≡◌, ◌++◌, List, Option, length, refl, Some, slice_get, slice_set, sym, ◌∙◌, ap, subst, true, arith}
use Rattle.steps.specs.declared.step.Step.{Step}
use Rattle.flat_machine.specs.declared.config.Config.{Config}
use Rattle.steps.specs.Kinds.{is_within}
use Rattle.machine_log.specs.Logs.{entered}
use Rattle.machine_steps.specs.Runs.{answer_after}
use Rattle.machine_lock.specs.declared.row.PassState.{PassState}
use Rattle.machine_lock.specs.Rows.{answer, with_answer, Fits}
use Rattle.machine_lock.specs.Passes.{LockedStateModel, Held, held, moment, row_of, HasAnswered}
use Rattle.machine_log.specs.declared.lent.Lent.{Lent}
use Rattle.std.proofs.lemmas.List.{append-nil}
use Rattle.machine_log.specs.Lendings.{OfOthers}
use Rattle.machine_lock.proofs.Returning.{SayLoans, lent_quiet, say_set}
use Rattle.machine_lock.proofs.Fitting.{answered, follows_last, none_of, long, steps_of-get}
use Rattle.machine_lock.proofs.locked_state.LockedState.answer.Goals as goal

pub invariant_of-self-2 : goal.invariant_of-self-2
invariant_of-self-2 g c =
    let p = c.pass.inside in
    let r = row_of p.stored in
    let a = c.in_ok-take.ensures.answered in
    let w = c.write_row.ensures p.processor r c.pass.invariant.0 in
    let i = c.self.invariant in
    let l = c.self.inside.lending.log in
    let new = a.row ∙ ap (λ steps. with_answer p.processor r c.args.step a.outcome (length steps)) c.steps-place.ensures in
    let authority = w.authority ∙ ap (slice_set c.self.inside.authority p.processor) new in
    let out = a.answer ∙ ap (λ m. answer_after m l.steps c.args.step) i.opening in
    let all =
    answered g.N.Run.opening g.N.Run.first g.N.Run.count l.steps c.self.inside.authority p.processor r c.args.step a.outcome i.fits
    w.agreed c.requires.poke c.requires.named
    (λ q h. c.requires.turn q h ∙ sym (ap (λ h. h.processor) c.pass.view_is)) out in
    record {
      opening = a.opening ∙ i.opening;
      config = a.config ∙ i.config;
      count = i.count;
      loans = subst (λ (x : List PassState × List (Option Lent)). SayLoans x.0 x.1) (λ k. (sym authority k, sym c.in_ok-take.ensures.lent k))
          (say_set c.self.inside.authority c.self.inside.lending.lent c.self.inside.lending.lent
          p.processor (with_answer p.processor r c.args.step a.outcome (length l.steps))
          i.loans (λ q other. refl) (i.loans p.processor r w.agreed));
      fits = subst (λ (x : List Step × List PassState). Fits g.N.Run.opening g.N.Run.first g.N.Run.count x.0 x.1) (λ k. (sym a.steps k, sym authority k)) all;
    }

pub invariant_of-pass-2 : goal.invariant_of-pass-2
invariant_of-pass-2 g c =
    let p = c.pass.inside in
    let r = row_of p.stored in
    let a = c.in_ok-take.ensures.answered in
    let w = c.write_row.ensures p.processor r c.pass.invariant.0 in
    let lent = c.self.inside.lending.lent in
    let others = subst (λ (x : LockedStateModel). OfOthers x.lent c.args.step) (sym c.self.view_is) c.requires.others in (
      w.fragment,
      λ most e.
          let same = sym (ap (λ (x : PassState). x.lent) a.row) ∙ e in
          let skipped = lent_quiet lent c.args.step p.processor most others (sym same ∙ c.self.invariant.loans p.processor r w.agreed) in
          let count = ap length (ap (λ (x : PassState). x.pass_events) a.row
          ∙ ap (λ ns. r.pass_events ++ ns) (none_of p.processor _ c.args.step a.outcome skipped) ∙ append-nil r.pass_events) in
          let before = p.stored.pass_events.ok.0 in
          let behind = c.take.new.stored.pass_events.ok.0 in
          let room = c.pass.invariant.1 most same in
          let capacity = c.in_ok-take.ensures.capacity in
          omega (arith, count, before, behind, room, capacity),
    )

pub take-requires-clause-named : goal.take-requires-clause-named
take-requires-clause-named g c = subst (λ (size : Config). is_within size.k c.args.step ≡ true) (sym c.self.invariant.config) c.requires.named

pub take-requires-clause-others : goal.take-requires-clause-others
take-requires-clause-others g c = subst (λ (x : LockedStateModel). OfOthers x.lent c.args.step) (sym c.self.view_is) c.requires.others

pub take-requires-clause-steps : goal.take-requires-clause-steps
take-requires-clause-steps g c =
    let p = c.pass.inside in
    let met : slice_get c.self.inside.authority p.processor ≡ Some (row_of p.stored) =
    subst (λ (x : LockedStateModel × Held). slice_get x.0.rows x.1.processor ≡ Some x.1.row)
    (λ i. (sym c.self.view_is i, sym c.pass.view_is i)) c.requires.met in
    let less = steps_of-get c.self.inside.authority p.processor (row_of p.stored) met in
    let total = c.self.invariant.fits.total in
    let room = c.lending_is_well_formed.ensures.room in
    let same = ap length c.steps-place.ensures in
    omega arith

pub returns-clause-answered : goal.returns-clause-answered
returns-clause-answered g c =
    let p = c.pass.inside in
    let r = row_of p.stored in
    let a = c.in_ok-take.ensures.answered in
    let l = c.self.inside.lending.log in
    let met : slice_get c.self.inside.authority p.processor ≡ Some r =
    subst (λ (x : LockedStateModel × Held). slice_get x.0.rows x.1.processor ≡ Some x.1.row)
    (λ i. (sym c.self.view_is i, sym c.pass.view_is i)) c.requires.met in
    let f = c.self.invariant.fits.each p.processor r met in
    let far = follows_last g.N.Run.opening (length g.N.Run.first) l.steps p.processor p.stored.last f.last in
    let new = a.row ∙ ap (λ steps. with_answer p.processor r c.args.step a.outcome (length steps)) c.steps-place.ensures in
    let same = c.outcome.ensures (answer c.args.step a.outcome (length l.steps)) (ap (λ (r : PassState). r.last) new) in
    let row = new ∙ ap (λ o. with_answer p.processor r c.args.step o (length l.steps)) (sym same) in
    let here : HasAnswered g.N.Run.opening (moment l.steps (held p.processor r)) c.args.step c.outcome.result
    (moment c.take.new.lending.log.steps (held p.processor (row_of c.take.new.stored))) = record {
      answer = same ∙ a.answer ∙ ap (λ m. answer_after m l.steps c.args.step) c.self.invariant.opening;
      log = a.steps ∙ ap (λ o. entered l.steps c.args.step o) (sym same);
      follows = far;
      pass = ap (held p.processor) row;
    } in
    subst (λ (x : LockedStateModel × Held). HasAnswered g.N.Run.opening (moment x.0.log.steps x.1) c.args.step c.outcome.result
    (moment c.take.new.lending.log.steps (held p.processor (row_of c.take.new.stored)))) (λ i. (c.self.view_is i, c.pass.view_is i)) here
