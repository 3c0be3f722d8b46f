-- Traces written one after another.
use Rattle.std.proofs.Common.{◌≡◌, ℕ, ◌+◌, ◌≤◌, Bool, false, List, [], ◌∷◌, ◌++◌, Option, Some, length, take, refl, sym, ap, ◌∙◌, subst}
use Rattle.std.specs.Prelude.{slice_get}
use Rattle.std.proofs.lemmas.List.{take_all, take_more}
use Rattle.std.proofs.lemmas.List.Elements.{All-append, All-cons, All-nil}
use Rattle.std.proofs.lemmas.Option.{get_or_from_slice_get, slice_get_within}
use Rattle.flat_machine.specs.declared.config.Config.{Config}
use Rattle.elf_image.specs.Images.{ImageContents}
use Rattle.flat_machine.specs.Limits.{IsWithinLimits}
use Rattle.command_io.specs.declared.fault.Fault.{Fault}
use Rattle.command_io.specs.declared.fault.Fault.TheVariants as fault
use Rattle.command_io.specs.Files.{IsFaultOfSize}
use Rattle.hunt_command.specs.declared.policy.Policy.{Policy}
use Rattle.hunt_command.specs.Traces.{AreFree, AreNotWritten, AreWritten, IsNotWhole, IsWhole}

pub taken_more : {X : Type 0} → (xs : List X) (i : ℕ) (x : X) → slice_get xs i ≡ Some x → take (i + 1) xs ≡ take i xs ++ x ∷ []
taken_more xs i x there =
    take_more xs i x (slice_get_within xs i x there) ∙ ap (λ y. take i xs ++ y ∷ []) (get_or_from_slice_get xs i x x there)

module _ {T W : Type 0} (opens : T → (number : ℕ) → W → T → Type 0) (closes : T → W → T → Type 0) (has_failed : W → Bool)
    (contents : W → Option (List ℕ)) (c : Config) (image : ImageContents) (policy : Policy) where
  abbrev Written : List ℕ → T → T → Type 0
  Written ns old new = AreWritten opens closes has_failed contents c image policy ns old new

  one_after : (ns : List ℕ) (n : ℕ) (old middle new : T) → Written ns old middle → IsWhole opens closes has_failed contents c image policy n middle new →
      Written (ns ++ n ∷ []) old new
  one_after [] n old middle new all one =
      (new, subst (λ t. IsWhole opens closes has_failed contents c image policy n t new) all one, refl)
  one_after (m ∷ ns) n old middle new all one = (all.0, all.1, one_after ns n all.0 middle new all.2 one)

  -- If the traces of the first numbers are written, and then the next, one more is written.
  pub written_more : (ns : List ℕ) (i n : ℕ) (old middle new : T) → slice_get ns i ≡ Some n → Written (take i ns) old middle →
      IsWhole opens closes has_failed contents c image policy n middle new → Written (take (i + 1) ns) old new
  written_more ns i n old middle new there all one =
      subst (λ xs. Written xs old new) (sym (taken_more ns i n there)) (one_after (take i ns) n old middle new all one)

  -- If no number is left to write, the traces of all numbers are written.
  pub written_whole : (ns : List ℕ) (i : ℕ) (old new : T) → length ns ≤ i → Written (take i ns) old new → Written ns old new
  written_whole ns i old new past all = subst (λ xs. Written xs old new) (take_all i ns past) all

  -- If the next trace is not written, not all are, for the same fault.
  pub not_written : (ns : List ℕ) (i n : ℕ) (old middle new : T) (f : Fault) → slice_get ns i ≡ Some n → Written (take i ns) old middle →
      IsNotWhole opens closes has_failed contents c image policy n middle new f → AreNotWritten opens closes has_failed contents c image policy ns old new f
  not_written ns i n old middle new (fault.Trace e) there all why =
      (why.0, record { count = i; middle = middle; whole = all; number = n; next = there; part = why.1 })
  not_written ns i n old middle new fault.Memory there all why = record { count = i; whole = subst (Written (take i ns) old) (sym why) all }
  not_written ns i n old middle new other there all why = absurd why

  -- If the size is within limits, a machine that does not open leaves its trace unwritten for a lack of memory.
  pub not_begun : (n : ℕ) (old new : T) (f : Fault) → IsWithinLimits c → new ≡ old → IsFaultOfSize c f →
      IsNotWhole opens closes has_failed contents c image policy n old new f
  not_begun n old new fault.Size within same why = absurd (why within)
  not_begun n old new fault.Memory within same why = same
  not_begun n old new other within same why = absurd why

-- If no trace exists under the first numbers, or under the next, none exists under one more.
pub free_more : {T : Type 0} → (finds : T → (number : ℕ) → (is_there : Bool) → Type 0) (t : T) (ns : List ℕ) (i n : ℕ) → slice_get ns i ≡ Some n →
    AreFree finds (take i ns) t → finds t n false → AreFree finds (take (i + 1) ns) t
free_more finds t ns i n there all one =
    subst (λ xs. AreFree finds xs t) (sym (taken_more ns i n there))
    (All-append (λ m. finds t m false) (take i ns) (n ∷ []) all (All-cons (λ m. finds t m false) n [] one (All-nil (λ m. finds t m false))))

-- If no number is left to look up, none of the numbers has a trace already.
pub free_whole : {T : Type 0} → (finds : T → (number : ℕ) → (is_there : Bool) → Type 0) (t : T) (ns : List ℕ) (i : ℕ) → length ns ≤ i →
    AreFree finds (take i ns) t → AreFree finds ns t
free_whole finds t ns i past all = subst (λ xs. AreFree finds xs t) (take_all i ns past) all
