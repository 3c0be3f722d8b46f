-- A trace has a record of each step of a sweep and of its drain.
use Rattle.std.proofs.Common.{◌≡◌, ℕ, true, List, [], ◌∷◌, ◌++◌, take, refl, sym, ap, ◌∙◌, subst, append_assoc}
use Rattle.std.proofs.lemmas.Bool.{and_from}
use Rattle.std.proofs.lemmas.List.Elements.{All-append}
use Rattle.flat_machine.specs.declared.config.Config.{Config}
use Rattle.machine_steps.specs.machine_theory.Theory as theory
use Rattle.steps.specs.declared.step.Step.{Step}
use Rattle.steps.specs.Kinds.{all_within, is_within, no_poke}
use Rattle.steps.proofs.Lemmas.{no_poke_both, no_poke_parts}
use Rattle.trace_file.specs.Records.{HasRecord}
use Rattle.trace_file.specs.Traces.{HaveRecords}
use Rattle.trace_file.proofs.Lemmas.{have_records}
use Rattle.machine_steps.specs.machine_theory.Processors.{ObservedCore}
use Rattle.machine_steps.specs.machine_theory.Steps.{after}
use Rattle.machine_steps.specs.Draining.{drain_steps}
use Rattle.machine_steps.specs.Machines.{machine_of}
use Rattle.machine_steps.specs.Runs.{IsReplay, NoneStalls, all_after}
use Rattle.machine_log.specs.Logs.{Log}
use Rattle.schedules.specs.Rounds.{round}
use Rattle.schedules.specs.Sweeps.{IsSwept, entered_of, rounds}
use Rattle.schedules.specs.declared.sweeping.SweepEnd.{SweepEnd}
use Rattle.schedules.proofs.NoPoke.{no_poke_asked, no_poke_drain, no_poke_entered}
use Rattle.schedules.proofs.Progress.{moves_within}

-- Steps that write nothing from outside, and do something, name places of the machine.
all_are_within : (c : Config) (code : List ℕ) (M : theory.Machine ObservedCore) (steps : List Step) → no_poke steps ≡ true → NoneStalls c code M steps →
    all_within c.k steps ≡ true
all_are_within c code M [] own moves = refl
all_are_within c code M (s ∷ ss) own moves =
    let parts = no_poke_parts s ss own in
    and_from (is_within c.k s) (all_within c.k ss) (moves_within c code M s parts.0 moves.0) (all_are_within c code (after c code M s) ss parts.1 moves.1)

-- A trace has a record of each of these steps, all of which do something and write nothing from outside.
pub moves_have_records : (c : Config) (code : List ℕ) (M : theory.Machine ObservedCore) (steps : List Step) → no_poke steps ≡ true → NoneStalls c code M steps →
    HaveRecords c.k steps
moves_have_records c code M steps own moves = have_records c.k steps own (all_are_within c code M steps own moves)

pub later_moves : (c : Config) (code : List ℕ) (M : theory.Machine ObservedCore) (xs ys : List Step) → NoneStalls c code M (xs ++ ys) →
    NoneStalls c code (all_after c code M xs) ys
unfolding all_after
later_moves c code M [] ys moves = moves
later_moves c code M (x ∷ xs) ys moves = later_moves c code (after c code M x) xs ys moves.1

-- a log that was asked for steps that write nothing from outside, and then drained
module _ (old middle new : Log) (asked : List Step) (none_pokes : no_poke asked ≡ true) (entered : middle.steps ≡ entered_of old.opening old.steps asked)
    (opening : new.opening ≡ old.opening) (drained : new.steps ≡ middle.steps ++ drain_steps middle.machine)
    (replay : IsReplay new.opening new.steps new.machine) (size : old.machine.config ≡ old.opening.config) where
  -- the steps that the log has in addition
  more : (rest : List Step) × (no_poke rest ≡ true) × (new.steps ≡ old.steps ++ rest)
  more =
      let e = no_poke_entered old.opening old.steps asked none_pokes in (
        e.0 ++ drain_steps middle.machine,
        no_poke_both e.0 (drain_steps middle.machine) e.1 (no_poke_drain middle.machine),
        drained ∙ ap (λ xs. xs ++ drain_steps middle.machine) (entered ∙ e.2) ∙ append_assoc old.steps e.0 (drain_steps middle.machine),
      )

  config_is : new.machine.config ≡ old.machine.config
  config_is = replay.run.config ∙ ap (λ m. m.config) opening ∙ sym size

  -- If a trace has a record of each step before, it has one of each step that was entered and of the drain.
  pub drained_has_records : HaveRecords old.machine.config.k old.steps → HaveRecords new.machine.config.k new.steps
  drained_has_records before =
      let moves = subst (NoneStalls new.opening.config new.opening.code (machine_of new.opening (λ p. []))) more.2 replay.moved in
      let later = moves_have_records new.opening.config new.opening.code
      (all_after new.opening.config new.opening.code (machine_of new.opening (λ p. [])) old.steps) more.0 more.1
      (later_moves new.opening.config new.opening.code (machine_of new.opening (λ p. [])) old.steps more.0 moves) in
      let here = subst (λ (c : Config). HaveRecords c.k more.0) (ap (λ m. m.config) opening ∙ sym size) later in
      subst (λ (c : Config). HaveRecords c.k new.steps) (sym config_is)
      (subst (HaveRecords old.machine.config.k) (sym more.2) (All-append (HasRecord old.machine.config.k) old.steps more.0 before here))

-- If a trace has a record of each step before a sweep, it has one of each step after the sweep and its drain.
pub swept_has_records : (most : ℕ) (old : Log) (end : SweepEnd) (new : Log) → IsSwept most old end new → IsReplay new.opening new.steps new.machine →
    old.machine.config ≡ old.opening.config → HaveRecords old.machine.config.k old.steps → HaveRecords new.machine.config.k new.steps
swept_has_records most old end new swept replay size =
    let k = old.machine.config.k in
    let followed = swept.followed in
    drained_has_records old swept.middle new (rounds k followed.whole ++ take followed.part (round k)) (no_poke_asked k followed.whole followed.part)
    followed.steps swept.opening swept.steps replay size
