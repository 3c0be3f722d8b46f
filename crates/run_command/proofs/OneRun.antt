-- The machine's size and the bytes of the image's file determine a run by the sweep that is over.
use Rattle.std.proofs.Common.{◌≡◌, ℕ, ◌+◌, ◌≤◌, List, Some, sym, ◌∙◌, subst, arith}
use Rattle.flat_machine.specs.declared.config.Config.{Config}
use Rattle.elf_image.specs.declared.layout.Layout.{Layout}
use Rattle.elf_image.specs.Images.{ImageContents, IsMeant}
use Rattle.machine_steps.specs.steps.declared.step.Step.{Step}
use Rattle.machine_log.specs.Logs.{Log}
use Rattle.schedules.specs.Sweeps.{IsWholeRun, most_of}
use Rattle.schedules.specs.declared.sweeping.SweepEnd.{SweepEnd}
use Rattle.schedules.specs.declared.sweeping.SweepEnd.TheVariants.{Over}
use Rattle.elf_image.specs.Files.{IsImageOf}
use Rattle.run_reports.specs.RunReports.{IsReportOf, IsReportedRun}
use Rattle.command_io.specs.Links.{known_input}
use Rattle.run_command.specs.SweepRuns.{IsRunWithin, SweepRun, by_sweep, most_unlogged, sweep_run, without_log}

abbrev OneLayout : Type 0
OneLayout = (shared_words : ℕ) (file : List ℕ) (one other : Layout) → IsMeant shared_words file one → IsMeant shared_words file other → one ≡ other

abbrev OneLog : Type 0
OneLog = (c : Config) (image : ImageContents) (most : ℕ) (end other : SweepEnd) (first second : Log) → IsWholeRun c image most end first →
    IsWholeRun c image most other second → first.steps ≡ second.steps

abbrev OneReport : Type 0
OneReport = (c : Config) (image : ImageContents) (steps : List Step) (text other : List ℕ) (status another : ℕ) → IsReportOf c image steps text status →
    IsReportOf c image steps other another → (text ≡ other) × (status ≡ another)

one_image : OneLayout → (shared_words : ℕ) (file : List ℕ) (one other : ImageContents) → IsImageOf shared_words (Some file) one →
    IsImageOf shared_words (Some file) other → other ≡ one
one_image one_layout shared_words file one other a b =
    let layout = one_layout shared_words file other.layout one.layout (subst (λ f. IsMeant shared_words f other.layout) b.whole b.meant)
    (subst (λ f. IsMeant shared_words f one.layout) a.whole a.meant) in
    let words = b.words ∙ sym a.words in
    (λ i. record { layout = layout i; shared_words = words i })

-- A run that is over within some steps is over within more.
over_within : (most more : ℕ) (run : SweepRun) (image : ImageContents) (log : Log) → most ≤ more → IsRunWithin most run Over image log →
    IsRunWithin more run Over image log
over_within most more run image log less r =
    let swept = r.whole.swept in
    let followed = swept.followed in
    let few = followed.few in
    record {
      meant = r.meant;
      whole = record {
        opens = r.whole.opens;
        replay = r.whole.replay;
        swept = record {
          middle = swept.middle;
          followed = record {
            opening = followed.opening;
            replay = followed.replay;
            whole = followed.whole;
            part = followed.part;
            steps = followed.steps;
            few = omega (arith, few, less);
            first = followed.first;
            ends = followed.ends;
          };
          opening = swept.opening;
          steps = swept.steps;
          idle = swept.idle;
        };
      };
    }

module _ (one_layout : OneLayout) (one_log : OneLog) (one_report : OneReport) (c : Config) (file : List ℕ) (most : ℕ) where
  -- A run of the file that is over within these steps, and its report.
  record IsOverRun (steps : List Step) (text : List ℕ) (status : ℕ) : Type 0 where
    budget : ℕ
    image : ImageContents
    log : Log
    is : IsRunWithin most (sweep_run c budget (known_input file)) Over image log
    entered : log.steps ≡ steps
    report : IsReportOf c image steps text status

  module _ (steps others : List Step) (text other : List ℕ) (status another : ℕ) (a : IsOverRun steps text status) (b : IsOverRun others other another) where
    abbrev image : ImageContents
    image = a.image

    image_is : b.image ≡ image
    image_is = one_image one_layout c.shared_words file image b.image a.is.meant b.is.meant

    steps_are : steps ≡ others
    steps_are =
        sym a.entered
        ∙ one_log c image most Over Over a.log b.log a.is.whole
        (subst (λ i. IsWholeRun c i most Over b.log) image_is b.is.whole)
        ∙ b.entered

    report_is : IsReportOf c image steps other another
    report_is = subst (λ ss. IsReportOf c image ss other another) (sym steps_are) (subst (λ i. IsReportOf c i others other another) image_is b.report)

    over_alike : (steps ≡ others) × (text ≡ other) × (status ≡ another)
    over_alike =
        let report = one_report c image steps text other status another a.report report_is in
        (steps_are, report.0, report.1)

module _ (one_layout : OneLayout) (one_log : OneLog) (one_report : OneReport) (c : Config) (file : List ℕ) (steps others : List Step) (text other : List ℕ)
    (status another : ℕ) where
  -- Two finished runs of one size, budget and file have the same steps, the same report and the same exit status.
  pub one_run : (budget : ℕ) → IsReportedRun (by_sweep (sweep_run c budget (known_input file))) steps text status →
      IsReportedRun (by_sweep (sweep_run c budget (known_input file))) others other another → (steps ≡ others) × (text ≡ other) × (status ≡ another)
  one_run budget a b =
      over_alike one_layout one_log one_report c file (most_of budget) steps others text other status another
      (record { budget = budget; image = a.image; log = a.log; is = a.is.ended; entered = a.entered; report = a.report })
      (record { budget = budget; image = b.image; log = b.log; is = b.is.ended; entered = b.entered; report = b.report })

  -- So have a run whose log is kept and one whose log is not, whatever their budgets.
  pub same_run : (budget larger : ℕ) → IsReportedRun (by_sweep (sweep_run c budget (known_input file))) steps text status →
      IsReportedRun (without_log (sweep_run c larger (known_input file))) others other another → (steps ≡ others) × (text ≡ other) × (status ≡ another)
  same_run budget larger a b =
      let most = most_of budget + most_unlogged larger in
      over_alike one_layout one_log one_report c file most steps others text other status another
      (record {
        budget = budget;
        image = a.image;
        log = a.log;
        is = over_within (most_of budget) most (sweep_run c budget (known_input file)) a.image a.log (omega arith) a.is.ended;
        entered = a.entered;
        report = a.report;
      })
      (record {
        budget = larger;
        image = b.image;
        log = b.log;
        is = over_within (most_unlogged larger) most (sweep_run c larger (known_input file)) b.image b.log (omega arith) b.is;
        entered = b.entered;
        report = b.report;
      })
