-- What the command prints, and why it prints nothing.
use Rattle.std.specs.Prelude.{◌≡◌, ◌⊎◌, ◌↔◌, ℕ, List, Bool, length}
use Rattle.flat_machine.specs.declared.config.Config.{Config}
use Rattle.command_io.specs.declared.fault.Fault.{Fault}
use Rattle.command_io.specs.declared.fault.Fault.TheVariants as fault
use Rattle.command_io.specs.Links.{Input, Output}
use Rattle.command_io.specs.Printing.{PrintsPrefix}
use Rattle.exploration.specs.local_reduction.Results.{FinalResult}
use Rattle.observed_results.specs.Lines.{observed_parts}
use Rattle.observed_results.specs.Outcomes.{comparison_lines, missing_in}
use Rattle.refinement_command.specs.Refinements.{HasResults, IsNotFound, Refines}

-- ---- two lists of results

-- These are the lines for results that are compared with others, and this is the exit status: 0 if no part is missing,
-- else 1.
pub record AreCompared (marks : List Bool) (others results : List FinalResult) (status : ℕ) (text : List ℕ) : Type 0
  where
    pub lines : text ≡ comparison_lines marks others results
    pub none : length (observed_parts marks (missing_in marks others results)) ≡ 0 → status ≡ 0
    pub some : (length (observed_parts marks (missing_in marks others results)) ≡ 0 → ⊥) → status ≡ 1

-- Why the lines are not printed: there is no memory, or only a beginning of them is printed.
abbrev pub IsNotCompared : (marks : List Bool) → (others results : List FinalResult) → Output → Fault → Type 0
IsNotCompared marks others results out f = (f ≡ fault.Memory) ⊎ ((f ≡ fault.Link)
    × PrintsPrefix (λ text. (status : ℕ) × AreCompared marks others results status text) out.old out.new)

-- ---- two programs

-- What is compared: the results of machines of this size that open on the image of a program and on that of its
-- specification, by the words that are marked. A search gives up at so many states.
pub record Comparison : Type 0 where
  pub config : Config
  pub limit : ℕ
  pub marks : List Bool
  pub program : Input
  pub specification : Input

abbrev pub comparison_of : Config → (limit : ℕ) → (marks : List Bool) → (program specification : Input) → Comparison
comparison_of c limit marks program specification = record {
  config = c;
  limit = limit;
  marks = marks;
  program = program;
  specification = specification;
}

-- These are the lines for the results of the program that are compared with those of its specification. The exit status
-- is 0 exactly if the program refines its specification.
pub record PrintsComparison (c : Comparison) (status : ℕ) (text : List ℕ) : Type 0 where
  pub results : List FinalResult
  pub others : List FinalResult
  pub has : HasResults c.config c.program.bytes results
  pub has_others : HasResults c.config c.specification.bytes others
  pub compared : AreCompared c.marks others results status text
  pub exit : (status ≡ 0) ↔ Refines c.marks has.opening has_others.opening

-- These are the lines, with some exit status.
abbrev pub PrintsSomeComparison : Comparison → (text : List ℕ) → Type 0
PrintsSomeComparison c text = (status : ℕ) × PrintsComparison c status text

-- Why the lines are not printed, unless it is for the specification: the results of the program are not found, there is
-- no memory, or only a beginning of the lines is printed.
abbrev pub IsNotPrinted : Comparison → Output → Fault → Type 0
IsNotPrinted c out f = IsNotFound c.config c.limit c.program.bytes f
    ⊎ ((f ≡ fault.Memory) ⊎ ((f ≡ fault.Link) × PrintsPrefix (PrintsSomeComparison c) out.old out.new))
