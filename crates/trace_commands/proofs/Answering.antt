-- The outcome of an entry, and the machine after it: a step of the flat machine.
use Rattle.std.proofs.Common.{◌≡◌, ℕ, ◌^◌, ◌<◌, Bool, true, false, Option, Some, None, nat_lt, lt-ltb, refl, sym, ap, ◌∙◌, subst}
use Rattle.std.specs.Prelude.{◌&&◌, if◌then◌else◌}
use Rattle.flat_machine.specs.declared.config.Config.{Config}
use Rattle.flat_machine.specs.declared.event.Event.{Event}
use Rattle.flat_machine.specs.declared.event.Event.TheVariants as event
use Rattle.flat_machine.specs.declared.poke.Poke.{Poke}
use Rattle.flat_machine.specs.declared.poke.Poke.TheVariants as poke
use Rattle.flat_machine.specs.declared.poke.Entry.TheVariants as entry
use Rattle.flat_machine.specs.Flat.{flat_event, flat_step, is_lawful, is_lawful_register, written}
use Rattle.flat_machine.specs.Laws.{WritesWords}
use Rattle.flat_machine.specs.Memory.{in_local, in_shared}
use Rattle.flat_machine.specs.State.{FlatState}
use Rattle.steps.specs.declared.step.Step.TheVariants as step
use Rattle.steps.specs.declared.step.Outcome.{Outcome}
use Rattle.steps.specs.declared.step.Outcome.TheVariants.{Retired, Issued, Stopped, Moved, Combined, Served, Answered, Poked, Stalled}
use Rattle.machine_steps.specs.machine_theory.Processors.{is_lawful_poke}
use Rattle.machine_steps.specs.Laws.{FlatProcessorsAreRead, FlatWordsAreRead}
use Rattle.machine_steps.specs.Machines.{MachineLists, AreHome, IsMachine, IsStep}
use Rattle.machine_steps.specs.Runs.{flat_state}
use Rattle.machine_steps.specs.Whole.{IsOne, IsPoked, event_of, one_steps}
use Rattle.machine_steps.proofs.Lemmas.{run_home}
use Rattle.trace_commands.specs.Taking.{HasTaken, answer_of}

-- ---- outcomes and events

-- An event is read back from its outcome.
event_is_kept : (e : Option Event) → event_of (answer_of e) ≡ e
event_is_kept None = refl
event_is_kept (Some (event.Retired r)) = refl
event_is_kept (Some (event.Stopped cause)) = refl

-- If an outcome is that of an event, the event is read back from it.
pub event_is : (o : Outcome) (e : Option Event) → o ≡ answer_of e → e ≡ event_of o
event_is o e is = sym (event_is_kept e) ∙ ap event_of (sym is)

-- If this is the outcome's event, and the outcome is a stall if there is none, it is the event's outcome.
answer_is : (o : Outcome) (e : Option Event) → event_of o ≡ e → (e ≡ None → o ≡ Stalled) → o ≡ answer_of e
answer_is (Retired r) e is none = ap answer_of is
answer_is (Stopped cause) e is none = ap answer_of is
answer_is Issued e is none = none (sym is) ∙ ap answer_of is
answer_is Moved e is none = none (sym is) ∙ ap answer_of is
answer_is (Combined first second) e is none = none (sym is) ∙ ap answer_of is
answer_is (Served leader) e is none = none (sym is) ∙ ap answer_of is
answer_is (Answered to) e is none = none (sym is) ∙ ap answer_of is
answer_is Poked e is none = none (sym is) ∙ ap answer_of is
answer_is Stalled e is none = ap answer_of is

-- A whole instruction is a step of the flat machine.
pub one_taken : (old : MachineLists) (p : ℕ) (o : Outcome) (new : MachineLists) → AreHome old → IsOne old p o new → HasTaken old (entry.Processor p) o new
one_taken old p o new home one = record {
  answer = answer_is o (flat_event (flat_state old) (entry.Processor p)) one.event (λ none. (one.stalled none).0);
  idle = one.idle;
  home = run_home old new (one_steps old p) one.replay.run home;
  config = one.replay.run.config;
  flat = one.flat;
}

-- ---- pokes

module _ (m : MachineLists) (is : IsMachine m) (processors : FlatProcessorsAreRead) (words : FlatWordsAreRead) where
  -- A poke of words and bytes is lawful for a machine exactly if it is for the flat machine.
  pub lawful_alike : (q : Poke) → WritesWords (entry.Poke q) → is_lawful_poke m.config q ≡ is_lawful (flat_state m) q
  lawful_alike (poke.Register p register value) small =
      ap (λ b. b && (nat_lt p (2 ^ m.config.k) && is_lawful_register register value)) (lt-ltb value (2 ^ 32) small)
      ∙ ap (λ n. nat_lt p n && is_lawful_register register value) (sym (processors m is).0)
  lawful_alike (poke.Local p address value) small =
      ap (λ b. b && (nat_lt p (2 ^ m.config.k) && in_local address)) (lt-ltb value 256 small)
      ∙ ap (λ n. nat_lt p n && in_local address) (sym (processors m is).0)
  lawful_alike (poke.Shared address value) small =
      ap (λ b. b && in_shared m.config.shared_words address) (lt-ltb value 256 small) ∙ ap (λ n. in_shared n address) (sym (words m is).0)

-- A poke that is not lawful is a step of the flat machine that changes nothing.
poke_step : (m : FlatState) (q : Poke) (b : Bool) → is_lawful m q ≡ b → (if b then flat_step m (entry.Poke q) else m) ≡ flat_step m (entry.Poke q)
unfolding flat_step
poke_step m q true e = refl
poke_step m q false e = sym (ap (λ b. if b then written m q else m) e)

-- A poke is a step of the flat machine.
pub poke_taken : (old : MachineLists) (q : Poke) (o : Outcome) (new : MachineLists) → is_lawful_poke old.config q ≡ is_lawful (flat_state old) q →
    AreHome old → IsStep old (step.Poke q) o new → IsPoked old q o new → HasTaken old (entry.Poke q) o new
poke_taken old q o new alike home st is = record {
  answer = is.answer ∙ ap (λ b. if b then Poked else Stalled) alike;
  idle = is.idle;
  home = λ p within. st.cores p ∙ home p (subst (λ (c : Config). p < 2 ^ c.k) st.config within);
  config = st.config;
  flat = is.flat ∙ ap (λ b. if b then flat_step (flat_state old) (entry.Poke q) else flat_state old) alike
      ∙ poke_step (flat_state old) q (is_lawful (flat_state old) q) refl;
}
