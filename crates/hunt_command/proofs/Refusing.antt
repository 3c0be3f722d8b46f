-- Why a hunt prints nothing.
use Rattle.std.proofs.Common.{◌≡◌, ◌⊎◌, inl, inr, ℕ, List, Option, Some, None}
use Rattle.elf_image.specs.declared.error.ImageError.TheVariants as image_error
use Rattle.elf_image.specs.Files.{IsImageOf}
use Rattle.elf_image.specs.Images.{ImageContents}
use Rattle.command_io.specs.declared.fault.Fault.{Fault}
use Rattle.command_io.specs.declared.fault.Fault.TheVariants as fault
use Rattle.command_io.specs.Files.{IsFaultOfImage, IsFaultOfSize}
use Rattle.command_io.specs.Links.{Output}
use Rattle.hunt_command.specs.declared.policy.Policy.{Policy}
use Rattle.hunt_command.specs.declared.refused.Refused.{Refused}
use Rattle.hunt_command.specs.declared.refused.Refused.TheVariants as refused
use Rattle.hunt_command.specs.Findings.{firsts}
use Rattle.hunt_command.specs.Hunts.{AskedHunt, HasNotSaved, HuntTraces, IsRefused}
use Rattle.hunt_command.specs.Traces.{AreAsked, AreFree, AreNotSaved, AreNotWritten}

asked_of : {T : Type 0} → (P : T → T → Type 0) (Q : Type 0) → ((t t' : T) → P t t' → Q) → (old new : Option T) → AreAsked P old new → Q
asked_of P Q f (Some old) (Some new) h = f old new h
asked_of P Q f (Some old) None h = absurd h
asked_of P Q f None new h = absurd h

module _ {T W : Type 0} (h : AskedHunt) (t : HuntTraces T W) (out : Output) where
  -- If reading the image fails with this fault, and the traces are as before, the hunt fails with it.
  pub of_image : (f : Fault) → t.new ≡ t.old → IsFaultOfImage h.config.shared_words h.file.bytes f → IsRefused h t out (refused.Fault f)
  of_image (fault.Image e) same why = (same, why)
  of_image fault.Memory same why = inl same
  of_image other same why = absurd why

  -- If opening a machine of this size fails with this fault, and the traces are as before, the hunt fails with it.
  pub of_size : (image : ImageContents) → IsImageOf h.config.shared_words h.file.bytes image → (f : Fault) → t.new ≡ t.old →
      IsFaultOfSize h.config f → IsRefused h t out (refused.Fault f)
  of_size image meant fault.Size same why = (same, (image, meant), why)
  of_size image meant fault.Memory same why = inl same
  of_size image meant other same why = absurd why

  neither : (image : ImageContents) (policy : Policy) (numbers : List ℕ) (f : Fault) → (f ≡ fault.Memory → ⊥) →
      ((old new : T) → AreNotWritten t.store.opens t.store.closes t.store.has_failed t.store.contents h.config image policy numbers old new f → ⊥) →
      AreNotSaved t.store.finds t.store.opens t.store.closes t.store.has_failed t.store.contents h.config image policy numbers t.old t.new
      (refused.Fault f) → ⊥
  neither image policy numbers f not_memory not_so = asked_of _ ⊥ by t.old t.new
    where
      by : (old new : T) → ((new ≡ old) × (f ≡ fault.Memory))
          ⊎ (AreFree t.store.finds numbers old
          × AreNotWritten t.store.opens t.store.closes t.store.has_failed t.store.contents h.config image policy numbers old new f) → ⊥
      by old new (inl p) = not_memory p.1
      by old new (inr p) = not_so old new p.1

  -- If the traces of the results are not saved, the hunt fails for the same reason.
  pub of_traces : (r : Refused) → HasNotSaved h t r → IsRefused h t out r
  of_traces (refused.There n) why = why
  of_traces (refused.Fault (fault.Trace e)) why = why
  of_traces (refused.Fault fault.Memory) why = inr why
  of_traces (refused.Fault other) why =
      absurd (neither why.image h.hunt.policy (firsts why.found) other (λ e. let bad : other ≡ fault.Memory = e in cc) (λ old new no. no)
      why.unsaved)

  -- None of these reasons is a failed read of the image.
  pub not_unread : (image : ImageContents) (policy : Policy) (numbers : List ℕ) (r : Refused) →
      AreNotSaved t.store.finds t.store.opens t.store.closes t.store.has_failed t.store.contents h.config image policy numbers t.old t.new r →
      r ≡ refused.Fault (fault.Image image_error.Link) → ⊥
  not_unread image policy numbers (refused.There n) why same = absurd (cc)
  not_unread image policy numbers (refused.Fault (fault.Trace e)) why same = absurd (cc)
  not_unread image policy numbers (refused.Fault fault.Memory) why same = absurd (cc)
  not_unread image policy numbers (refused.Fault other) why same =
      neither image policy numbers other (λ e. let bad : other ≡ fault.Memory = e in cc) (λ old new no. no) why
