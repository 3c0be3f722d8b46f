-- What is printed of two programs whose results are found.
use Rattle.std.proofs.Common.{◌≡◌, ◌↔◌, inl, inr, ℕ, zero, suc, Bool, List, Option, length, refl, arith}
use Rattle.std.specs.Prelude.{Contains}
use Rattle.machine_steps.specs.Machines.{MachineLists}
use Rattle.command_io.specs.declared.fault.Fault.{Fault}
use Rattle.command_io.specs.Links.{Output}
use Rattle.command_io.specs.Printing.{Prints}
use Rattle.exploration.specs.local_reduction.Results.{FinalResult}
use Rattle.observed_results.specs.Lines.{observed_parts}
use Rattle.observed_results.specs.Outcomes.{IsMatched, missing_in}
use Rattle.refinement_command.specs.Comparisons.{AreCompared, Comparison, IsNotCompared, IsNotPrinted, PrintsComparison}
use Rattle.refinement_command.specs.Refinements.{AreResults, HasResults, Refines}

-- ---- the exit status

-- There is an exit status for so many missing parts.
pub a_status : (missing : ℕ) → (status : ℕ) × (missing ≡ 0 → status ≡ 0) × ((missing ≡ 0 → ⊥) → status ≡ 1)
a_status zero = (0, λ e. refl, λ n. absurd (n refl))
a_status (suc k) = (1, λ e. absurd (omega (arith, e)), λ n. refl)

none_by_status : (missing status : ℕ) → ((missing ≡ 0 → ⊥) → status ≡ 1) → status ≡ 0 → missing ≡ 0
none_by_status zero status some e = refl
none_by_status (suc k) status some e = let one = some (λ n. omega (arith, n)) in absurd (omega (arith, one, e))

module _ (marks : List Bool) (others results : List FinalResult) where
  -- No part is missing exactly if each result is matched.
  abbrev pub MatchedIfNoneMissing : Type 0
  MatchedIfNoneMissing = (length (observed_parts marks (missing_in marks others results)) ≡ 0)
      ↔ ((r : FinalResult) → Contains results r → IsMatched marks others r)

  module _ (m other : MachineLists) (has : AreResults m results) (has_others : AreResults other others) where
    refines : ((r : FinalResult) → Contains results r → IsMatched marks others r) → Refines marks m other
    refines all r one = let x = all r (has.complete r one) in (x.0, has_others.sound x.0 x.1, x.2)

    matched : Refines marks m other → (r : FinalResult) → Contains results r → IsMatched marks others r
    matched all r inside = let x = all r (has.sound r inside) in (x.0, has_others.complete x.0 x.1, x.2)

    exits : MatchedIfNoneMissing → (status : ℕ) (text : List ℕ) → AreCompared marks others results status text →
        (status ≡ 0) ↔ Refines marks m other
    exits law status text compared = (
      λ e. refines (law.0 (none_by_status (length (observed_parts marks (missing_in marks others results))) status compared.some e)),
      λ all. compared.none (law.1 (matched all)),
    )

-- ---- what is printed

module _ (c : Comparison) (others results : List FinalResult) (has : HasResults c.config c.program.bytes results)
    (has_others : HasResults c.config c.specification.bytes others) (law : MatchedIfNoneMissing c.marks others results) where
  printed_by : (status : ℕ) (text : List ℕ) → AreCompared c.marks others results status text → PrintsComparison c status text
  printed_by status text compared = record {
    results = results;
    others = others;
    has = has;
    has_others = has_others;
    compared = compared;
    exit = exits c.marks others results has.opening has_others.opening has.all has_others.all law status text compared;
  }

  -- If the lines for the results are printed, those for the programs are.
  pub prints : (status : ℕ) (old new : Option (List ℕ)) → Prints (AreCompared c.marks others results status) old new →
      Prints (PrintsComparison c status) old new
  prints status old new p = record { text = p.text; meant = printed_by status p.text p.meant; printed = p.printed }

  -- If they are not printed, the cause is the same.
  pub not_printed : (out : Output) (f : Fault) → IsNotCompared c.marks others results out f → IsNotPrinted c out f
  not_printed out f (inl memory) = inr (inl memory)
  not_printed out f (inr (is, p)) =
      inr (inr (is, record { text = p.text; meant = (p.meant.0, printed_by p.meant.0 p.text p.meant.1); part = p.part }))
