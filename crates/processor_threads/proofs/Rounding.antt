-- What a call does depends on what was held, and on whether the processor waited.
use Rattle.std.proofs.Common.{◌≡◌, ℕ, ◌≤◌, ◌⊎◌, Bool, true, false, List, [], ◌∷◌, length, take, drop, get_or, refl, sym, subst, arith, inl, inr}
use Rattle.std.specs.Prelude.{Option, Some, None, Result, Err, IfOk, IfSome, is_some, slice_get}
use Rattle.std.proofs.lemmas.Option.{slice_get-get_or}
use Rattle.steps.specs.declared.step.Step.{Step}
use Rattle.machine_log.specs.declared.refusal.LockRefusal.{LockRefusal}
use Rattle.machine_lock.specs.declared.locked_state.Rounds.{Rounds}
use Rattle.machine_lock.specs.Passes.{MachineLists, Held, HasEnded, HasGoneOn, IsReturned, LoanState, UnderLock}
use Rattle.hart.specs.declared.run.LocalEnd.{LocalEnd}
use Rattle.hart.specs.declared.run.LocalEnd.TheVariants.{Out, Most, Other}
use Rattle.processor_threads.specs.declared.fault.RunFault.{RunFault}
use Rattle.processor_threads.specs.declared.handle.RoundsDone.{RoundsDone}
use Rattle.processor_threads.specs.declared.fault.RunFault.TheVariants as run_fault
use Rattle.processor_threads.specs.Rounds.{EndsLoan, HasUsed, IsApplied, IsFilled, RunsAlone}
use Rattle.processor_threads.proofs.Buffering.{has_used}
use Rattle.processor_threads.specs.Rounds.{AsksNet, GoesThrough, GoesWith, IsLent, IsTried, TakesTurns, Thread}
use Rattle.processor_threads.specs.Rounds.{one_round}

-- Some steps have a first one.
pub first_there : (steps : List Step) (other : Step) → 1 ≤ length steps → slice_get steps 0 ≡ Some (get_or steps 0 other)
first_there steps other some = slice_get-get_or steps 0 other (omega (arith, some))

-- The first of the first step alone is the first of all.
pub first_alone : (steps : List Step) (s : Step) → slice_get (take 1 steps) 0 ≡ Some s → slice_get steps 0 ≡ Some s
first_alone [] s e = e
first_alone (x ∷ steps) s e = e

-- If one round is the result, and the first named step is dropped, as many steps are dropped as rounds were done.
pub used_one : (fault : Option RunFault) (named left : List Step) (result : Result RoundsDone RunFault) → result ≡ one_round fault → left ≡ drop 1 named →
    IfOk result (λ done. left ≡ drop done.rounds named)
used_one fault named left result e same = subst (λ r. IfOk r (λ done. left ≡ drop done.rounds named)) (sym e) (one fault)
  where
    one : (fault : Option RunFault) → IfOk (one_round fault) (λ done. left ≡ drop done.rounds named)
    one None = same
    one (Some fault) = tt

-- If one round is the result, and the first of the filled steps is dropped, as many are used as rounds were done.
pub left_one : (fault : Option RunFault) (count : ℕ) (old named left : List Step) (result : Result RoundsDone RunFault) → result ≡ one_round fault →
    left ≡ drop 1 named → IsFilled count old named → 1 ≤ length named → IfOk result (λ done. HasUsed done.rounds old left)
left_one fault count old named left result e same filled some = subst (λ r. IfOk r (λ done. HasUsed done.rounds old left)) (sym e) (one fault)
  where
    one : (fault : Option RunFault) → IfOk (one_round fault) (λ done. HasUsed done.rounds old left)
    one None = subst (λ l. HasUsed 1 old l) (sym same) (has_used count 1 old named filled some)
    one (Some fault) = tt

-- An option that is not some byte is `None`.
pub no_byte : (held : Option ℕ) → is_some held ≡ false → held ≡ None
no_byte None e = refl
no_byte (Some byte) e = absurd (cc)

module _ (opening : MachineLists) (first : List Step) where
  -- If no byte is held, a thread goes on with rounds that take the first named steps.
  pub goes_without_byte : (held : Option ℕ) (old new : Thread) (named : List Step) (most : ℕ) (result : Result RoundsDone RunFault) → held ≡ None →
      GoesThrough opening first old.waits old (take most named) result new → GoesWith opening first held old named most result new
  goes_without_byte held old new named most result none goes = subst (λ h. GoesWith opening first h old named most result new) (sym none) goes

  -- If a byte is held, a thread goes on by trying it and asking for the first named step of the network.
  pub goes_with_byte : (held : Option ℕ) (old new : Thread) (named : List Step) (most : ℕ) (result : Result RoundsDone RunFault) (s : Step)
      (fault : Option RunFault) → is_some held ≡ true → IfSome held (λ byte. IsTried byte old.end new.end) → slice_get named 0 ≡ Some s →
      AsksNet opening first old.pass s fault new.pass → new.waits ≡ old.waits → result ≡ one_round fault →
      GoesWith opening first held old named most result new
  goes_with_byte None old new named most result s fault some tried at net waits e = absurd (cc)
  goes_with_byte (Some byte) old new named most result s fault some tried at net waits e =
      record { s = s; first_is = at; tried = tried; fault = fault; net = net; waits = waits; result_is = e }

  pub goes_waiting : (waits : Bool) (old new : Thread) (steps : List Step) (result : Result RoundsDone RunFault) → waits ≡ true →
      TakesTurns opening first old steps result new → GoesThrough opening first waits old steps result new
  goes_waiting true old new steps result e goes = goes
  goes_waiting false old new steps result e goes = absurd (cc)

  pub goes_lending : (waits : Bool) (old new : Thread) (steps : List Step) (result : Result RoundsDone RunFault) (answer : Result LoanState LockRefusal) →
      waits ≡ false → IsLent opening first answer old steps result new → GoesThrough opening first waits old steps result new
  goes_lending false old new steps result answer e lent = (answer, lent)
  goes_lending true old new steps result answer e lent = absurd (cc)

  -- A core that ran on loan and gave a byte was taken back, and the byte is held.
  pub alone_with_byte : (loan run : LoanState) (old new : Thread) (steps : List Step) (result : Result RoundsDone RunFault) (ended : LocalEnd) (byte : ℕ)
      (s : Step) (between : Held) (fault : Option RunFault) → ended ≡ Out byte → HasGoneOn opening.code loan run ended → slice_get steps 0 ≡ Some s →
      UnderLock first old.pass between (λ from to. IsReturned opening from run.retired to) → AsksNet opening first between s fault new.pass →
      new.end ≡ record old.end { held = Some byte } → new.waits ≡ old.waits → result ≡ one_round fault →
      RunsAlone opening first loan old steps result new
  alone_with_byte loan run old new steps result ended byte s between fault out runs at back net end waits e = record {
    run = run;
    ended = ended;
    runs = runs;
    ends = inr (subst (λ x. EndsLoan opening first x run.retired old steps result new) (sym out) (record {
      s = s;
      first_is = at;
      between = between;
      back = back;
      fault = fault;
      net = net;
      end = end;
      waits = waits;
      result_is = e;
    }));
  }

  -- A core that ran on loan and gave no byte was taken back, and rounds followed.
  pub alone_with_rounds : (loan run : LoanState) (old new : Thread) (steps : List Step) (result : Result RoundsDone RunFault) (ended : LocalEnd)
      (rounds : Rounds) → (ended ≡ Most) ⊎ (ended ≡ Other) → HasGoneOn opening.code loan run ended →
      UnderLock first old.pass new.pass (λ from to. HasEnded opening from run.retired steps rounds to) →
      IsApplied rounds old.end old.waits result new.end new.waits → RunsAlone opening first loan old steps result new
  alone_with_rounds loan run old new steps result ended rounds (inl most) runs gone applied = record {
    run = run;
    ended = ended;
    runs = runs;
    ends = inr (subst (λ x. EndsLoan opening first x run.retired old steps result new) (sym most)
        (record { rounds = rounds; gone = gone; applied = applied }));
  }
  alone_with_rounds loan run old new steps result ended rounds (inr other) runs gone applied = record {
    run = run;
    ended = ended;
    runs = runs;
    ends = inr (subst (λ x. EndsLoan opening first x run.retired old steps result new) (sym other)
        (record { rounds = rounds; gone = gone; applied = applied }));
  }

  -- A core that ran on loan was handed back.
  pub alone_in_vain : (loan run : LoanState) (old new : Thread) (steps : List Step) (result : Result RoundsDone RunFault) (ended : LocalEnd) →
      HasGoneOn opening.code loan run ended → result ≡ Err run_fault.Loan → new ≡ old → RunsAlone opening first loan old steps result new
  alone_in_vain loan run old new steps result ended runs e same = record { run = run; ended = ended; runs = runs; ends = inl (e, same) }
