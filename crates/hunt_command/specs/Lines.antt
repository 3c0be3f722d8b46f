-- The lines of a run's result.
use Rattle.std.specs.Prelude.{ℕ, zero, suc, ◌^◌, Bool, true, false, List, [], ◌++◌, Option, Some, None, codes}
use Rattle.std.specs.Prelude.{slice_index_or}
use Rattle.std.specs.Fmt.{decimal}
use Rattle.flat_machine.specs.declared.event.Status.{Status}
use Rattle.machine_steps.specs.Machines.{MachineLists}
use Rattle.machine_steps.specs.machine_theory.Processors.{word_at}
use Rattle.machine_steps.specs.Standing.{processor_of}
use Rattle.schedules.specs.declared.sweeping.SweepEnd.{SweepEnd}
use Rattle.schedules.specs.declared.sweeping.SweepEnd.TheVariants.{Over, Budget}
use Rattle.command_io.specs.Digits.{hex_of_word, line_feed, status_text}
use Rattle.command_io.specs.Lines.{console_text}
use Rattle.command_io.specs.Tallies.{ShownBy, nothing_shown}
use Rattle.run_reports.specs.Reports.{shared_lines}
use Rattle.observed_results.specs.Lines.{observed_line}

-- how a run ended
abbrev pub end_line : SweepEnd → List ℕ
end_line Over = codes "over" ++ line_feed
end_line Budget = codes "budget" ++ line_feed

-- `pc VVVVVVVV `, or nothing in a text that has no pc
abbrev pub pc_text : (has_pc : Bool) → (pc : ℕ) → List ℕ
pc_text false pc = []
pc_text true pc = codes "pc " ++ hex_of_word pc ++ codes " "

-- `processor P pc VVVVVVVV STATUS console HEX`, with the pc or without
unfoldable pub outcome_line : (has_pc : Bool) → (number pc : ℕ) → Status → ShownBy → List ℕ
outcome_line has_pc number pc status shown =
    codes "processor " ++ decimal number ++ codes " " ++ pc_text has_pc pc ++ status_text status
    ++ codes " console " ++ console_text shown.console ++ line_feed

-- the lines of the first processors, given what they have shown
abbrev pub outcome_lines : (has_pc : Bool) → MachineLists → List ShownBy → (count : ℕ) → List ℕ
outcome_lines has_pc m shown zero = []
outcome_lines has_pc m shown (suc p) = outcome_lines has_pc m shown p
    ++ outcome_line has_pc p (processor_of m p).pc (processor_of m p).status (slice_index_or shown p nothing_shown)

-- the lines of those of the first shared words that are observed: of all, or, if words are chosen, of these
abbrev pub observed_lines : (observed : Option (List Bool)) → MachineLists → (count : ℕ) → List ℕ
observed_lines None m count = shared_lines m count
observed_lines (Some marks) m zero = []
observed_lines (Some marks) m (suc i) =
    observed_lines (Some marks) m i ++ observed_line marks i (word_at m.config.k m.modules i)

-- the result of a run: how it ended, the status and the console bytes of each processor, and the observed shared words
-- that are not zero; not a processor's retired instructions, since it may wait in a loop for ever. Results are printed
-- with each pc, and compared without.
abbrev pub result_of : (observed : Option (List Bool)) → (has_pc : Bool) → SweepEnd → MachineLists → List ShownBy →
    List ℕ
result_of observed has_pc end m shown =
    end_line end ++ outcome_lines has_pc m shown (2 ^ m.config.k) ++ observed_lines observed m m.config.shared_words
