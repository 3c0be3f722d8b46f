-- The console bytes that were received are those in the tally.
use Rattle.std.proofs.Common.{◌≡◌, ℕ, ◌^◌, ◌<◌, List, [], length, map, Vec, Global, sym, ap, ◌∙◌, subst}
use Rattle.std.specs.Prelude.{Some, Option, slice_get, slice_index_or}
use Rattle.std.specs.Option.{option_map}
use Rattle.std.proofs.lemmas.List.{ext_get_or, get_or-map, length-map}
use Rattle.std.proofs.lemmas.Option.{get_or_from_slice_get, slice_get-map, slice_get_within}
use Rattle.flat_machine.specs.declared.config.Config.{Config}
use Rattle.machine_steps.specs.elf_image.Images.{ImageContents}
use Rattle.machine_steps.specs.machine_theory.Theory as theory
use Rattle.machine_steps.specs.machine_theory.Processors.{ObservedCore}
use Rattle.steps.specs.declared.step.Step.{Step}
use Rattle.machine_steps.specs.Machines.{MachineLists}
use Rattle.machine_steps.specs.Runs.{IsOpening, events_of}
use Rattle.machine_steps.proofs.Lemmas.{alike}
use Rattle.command_io.specs.Events.{shown_by}
use Rattle.command_io.specs.Tallies.{ShownBy, TallyState, nothing_shown}
use Rattle.run_reports.specs.Reports.{AreHeard}
use Rattle.run_reports.specs.CountedReplays.{AreConsoles, IsReplayCounted}

abbrev Bytes : Type 0
Bytes = Vec ℕ Global

abbrev bytes_of : Bytes → List ℕ
bytes_of v = v.items

abbrev console : ShownBy → List ℕ
console s = s.console

-- The bytes received from one processor are those in the tally.
pub heard_at : (shown : List ShownBy) (consoles : List Bytes) (p : ℕ) (s : ShownBy) → AreHeard shown consoles → slice_get shown p ≡ Some s →
    slice_get (map bytes_of consoles) p ≡ Some s.console
heard_at shown consoles p s heard at =
    ap (λ (cs : List (List ℕ)). slice_get cs p) heard
    ∙ slice_get-map console shown p
    ∙ ap (λ (o : Option ShownBy). option_map console o) at

pub inside : (consoles : List Bytes) (p : ℕ) (bytes : List ℕ) → slice_get (map bytes_of consoles) p ≡ Some bytes → p < length consoles
inside consoles p bytes at = subst (λ n. p < n) (length-map consoles bytes_of) (slice_get_within (map bytes_of consoles) p bytes at)

pub console_at : (consoles : List Bytes) (p : ℕ) (v : Bytes) (bytes : List ℕ) → slice_get (map bytes_of consoles) p ≡ Some bytes →
    v ≡ slice_index_or consoles p v → v.items ≡ bytes
console_at consoles p v bytes at is =
    ap bytes_of is
    ∙ sym (get_or-map bytes_of consoles p v [] (inside consoles p bytes at))
    ∙ get_or_from_slice_get (map bytes_of consoles) p bytes [] at

-- The bytes received from all processors are those in the tally.
pub heard_in : (opening : MachineLists) (steps : List Step) (m : MachineLists) (t : TallyState) (consoles : List Bytes) → IsReplayCounted opening steps m t →
    AreConsoles opening steps (map bytes_of consoles) → AreHeard t.shown consoles
heard_in opening steps m t consoles taken are =
    ext_get_or [] (map bytes_of consoles) (map console t.shown)
    (are.all ∙ sym (length-map t.shown console ∙ taken.tally.all))
    (λ p within.
    let below : p < 2 ^ opening.config.k = subst (λ n. p < n) are.all within in
    are.each p below
    ∙ sym (ap console (taken.tally.each p below))
    ∙ sym (get_or-map console t.shown p nothing_shown [] (subst (λ n. p < n) (sym taken.tally.all) below)))

-- Two machines that open on one image write the same bytes to the consoles in the same steps.
pub consoles_alike : (c : Config) (image : ImageContents) (first second : MachineLists) → IsOpening c image first → IsOpening c image second →
    (steps : List Step) (consoles : List (List ℕ)) → AreConsoles first steps consoles → AreConsoles second steps consoles
consoles_alike c image first second one two steps consoles are = record {
  all = are.all ∙ ap (λ (d : Config). 2 ^ d.k) (one.config ∙ sym two.config);
  each = λ p within.
      are.each p (subst (λ (d : Config). p < 2 ^ d.k) (two.config ∙ sym one.config) within)
      ∙ ap (λ (N : theory.Machine ObservedCore). (shown_by (events_of N p)).console) (alike c image first second one two steps (λ q. []));
}
