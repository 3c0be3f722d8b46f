-- A log that has followed the sweep from a machine's opening on is that of a whole run.
use Rattle.std.proofs.Common.{◌≡◌, ℕ, ◌∙◌, Result, Ok, Err, IfOk, ap, sym, subst}
use Rattle.flat_machine.specs.declared.config.Config.{Config}
use Rattle.elf_image.specs.Images.{ImageContents}
use Rattle.machine_steps.specs.Machines.{MachineLists}
use Rattle.machine_steps.specs.Runs.{IsOpening}
use Rattle.machine_log.specs.Logs.{Log, IsWellFormed}
use Rattle.schedules.specs.Sweeps.{IsSwept, IsWholeRun, most_of, opened}
use Rattle.schedules.specs.declared.sweeping.SweepEnd.{SweepEnd}
use Rattle.study_rows.specs.declared.row.Row.{Row}

module _ (c : Config) (budget : ℕ) (image : ImageContents) (m : MachineLists) (opens : IsOpening c image m) (old log : Log)
    (starts : old ≡ opened m) (kept : IsWellFormed log) (end : SweepEnd) (swept : IsSwept (most_of budget) old end log) where
  opening_is : log.opening ≡ m
  opening_is = swept.opening ∙ ap (λ (l : Log). l.opening) starts

  -- The log is that of a whole run of the image.
  pub whole_run : IsWholeRun c image (most_of budget) end log
  whole_run = record {
    opens = subst (IsOpening c image) (sym opening_is) opens;
    replay = kept.replay;
    swept = subst (λ (l : Log). IsSwept (most_of budget) l end log) (starts ∙ ap opened (sym opening_is)) swept;
  }

-- After a whole run the machine has the size with which it opened.
pub size_is : (c : Config) (most : ℕ) (image : ImageContents) (log : Log) (end : SweepEnd) → IsWholeRun c image most end log →
    log.machine.config ≡ c
size_is c most image log end run = run.replay.run.config ∙ run.opens.config

-- What follows of a row from two facts of it.
pub both_ok : {E : Type 0} (r : Result Row E) (P Q R : Row → Type 0) → ((row : Row) → P row → Q row → R row) → IfOk r P → IfOk r Q →
    IfOk r R
both_ok (Ok row) P Q R with_both p q = with_both row p q
both_ok (Err e) P Q R with_both p q = q
