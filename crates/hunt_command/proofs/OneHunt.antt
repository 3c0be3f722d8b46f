-- The machine's size, the runs and the bytes of the image's file determine what a hunt finds.
use Rattle.std.proofs.Common.{◌≡◌, ℕ, suc, ◌+◌, Bool, Option, Some, List, [], ◌∷◌, length, refl, sym, ap, ap₂, ◌∙◌, subst, arith}
use Rattle.std.specs.Prelude.{slice_get}
use Rattle.flat_machine.specs.declared.config.Config.{Config}
use Rattle.elf_image.specs.declared.layout.Layout.{Layout}
use Rattle.elf_image.specs.Files.{IsImageOf}
use Rattle.elf_image.specs.Images.{ImageContents, IsMeant}
use Rattle.command_io.specs.Links.{known_input}
use Rattle.hunt_command.specs.declared.policy.Policy.{Policy}
use Rattle.hunt_command.specs.declared.command.Hunt.{Hunt}
use Rattle.hunt_command.specs.Findings.{FindingState}
use Rattle.hunt_command.specs.Hunts.{AreFound, HasFound, IsResultOf, ResultState, asked_hunt, found_from, greatest_from}
use Rattle.hunt_command.specs.Hunts.{marks_of, number_at, unfinished_from}
use Rattle.hunt_command.proofs.OneResult.{one_result}

module _ (observed : Option (List Bool)) (c : Config) (image : ImageContents) (policy : Policy) (start : ℕ) where
  -- These are the results of the runs from this place on.
  abbrev AreFrom : ℕ → List ResultState → Type 0
  AreFrom place rs = (i : ℕ) (r : ResultState) → slice_get rs i ≡ Some r → IsResultOf observed c image policy (number_at start (place + i)) r

  after_first : (place : ℕ) (r : ResultState) (rs : List ResultState) → AreFrom place (r ∷ rs) → AreFrom (place + 1) rs
  after_first place r rs each i x there =
      subst (λ n. IsResultOf observed c image policy (number_at start n) x) (let same : place + suc i ≡ place + 1 + i = omega arith in same)
      (each (suc i) x there)

  -- Two lists of as many results of the same runs are the same.
  same_results : (place : ℕ) (rs ss : List ResultState) → length rs ≡ length ss → AreFrom place rs → AreFrom place ss → rs ≡ ss
  same_results place [] [] count one two = refl
  same_results place [] (s ∷ ss) count one two = absurd (omega (arith, count))
  same_results place (r ∷ rs) [] count one two = absurd (omega (arith, count))
  same_results place (r ∷ rs) (s ∷ ss) count one two =
      ap₂ (λ (x : ResultState) (xs : List ResultState). x ∷ xs)
      (one_result observed c image policy (number_at start (place + 0)) r s (one 0 r refl) (two 0 s refl))
      (same_results (place + 1) rs ss (omega (arith, count)) (after_first place r rs one) (after_first place s ss two))

  from_start : (rs : List ResultState) → ((i : ℕ) (r : ResultState) → slice_get rs i ≡ Some r → IsResultOf observed c image policy (number_at start i) r) →
      AreFrom 0 rs
  from_start rs each i r there =
      subst (λ n. IsResultOf observed c image policy (number_at start n) r) (let same : i ≡ 0 + i = omega arith in same) (each i r there)

  -- As many runs find the same.
  found_alike : (runs : ℕ) (found other : List FindingState) (unfinished others : List ℕ) (greatest another : ℕ) →
      AreFound observed c image policy start runs found unfinished greatest →
      AreFound observed c image policy start runs other others another → (found ≡ other) × (unfinished ≡ others) × (greatest ≡ another)
  found_alike runs found other unfinished others greatest another one two =
      let same = same_results 0 one.results two.results (one.all ∙ sym two.all) (from_start one.results one.each) (from_start two.results two.each) in (
        one.are ∙ ap (found_from start 0 []) same ∙ sym two.are,
        one.those ∙ ap (unfinished_from start 0) same ∙ sym two.those,
        one.exit ∙ ap (greatest_from 0) same ∙ sym two.exit,
      )

-- Input means at most one layout.
abbrev OneLayout : Type 0
OneLayout = (shared_words : ℕ) (file : List ℕ) (one other : Layout) → IsMeant shared_words file one → IsMeant shared_words file other → one ≡ other

one_image : OneLayout → (shared_words : ℕ) (file : List ℕ) (one other : ImageContents) → IsImageOf shared_words (Some file) one →
    IsImageOf shared_words (Some file) other → other ≡ one
one_image one_layout shared_words file one other a b =
    let layout = one_layout shared_words file other.layout one.layout (subst (λ f. IsMeant shared_words f other.layout) b.whole b.meant)
    (subst (λ f. IsMeant shared_words f one.layout) a.whole a.meant) in
    let words = b.words ∙ sym a.words in
    (λ i. record { layout = layout i; shared_words = words i })

-- Hunts of one size, with the same runs, on the same file find the same.
pub one_hunt : OneLayout → (c : Config) (hunt : Hunt) (file : List ℕ) (image second : ImageContents) (found other : List FindingState)
    (unfinished others : List ℕ) (greatest another : ℕ) → HasFound (asked_hunt c hunt (known_input file)) image found unfinished greatest →
    HasFound (asked_hunt c hunt (known_input file)) second other others another → (found ≡ other) × (unfinished ≡ others) × (greatest ≡ another)
one_hunt one_layout c hunt file image second found other unfinished others greatest another one two =
    found_alike (marks_of hunt) c image hunt.policy hunt.start hunt.runs found other unfinished others greatest another one.are
    (subst (λ i. AreFound (marks_of hunt) c i hunt.policy hunt.start hunt.runs other others another)
    (one_image one_layout c.shared_words file image second one.meant two.meant) two.are)
