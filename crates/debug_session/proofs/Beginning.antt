-- A session that was begun, and one that was not.
use Rattle.std.proofs.Common.{◌≡◌, ◌∙◌, ℕ, Bool, List, Option, ap, subst}
use Rattle.flat_machine.specs.declared.config.Config.{Config}
use Rattle.elf_image.specs.Files.{IsImageOf}
use Rattle.elf_image.specs.Images.{ImageContents}
use Rattle.machine_steps.specs.Machines.{MachineLists}
use Rattle.machine_steps.specs.Runs.{IsOpening, IsReplay}
use Rattle.machine_log.specs.Logs.{Log}
use Rattle.command_io.specs.declared.fault.Fault.{Fault}
use Rattle.command_io.specs.declared.fault.Fault.TheVariants as fault
use Rattle.command_io.specs.Files.{IsFaultOfSize}
use Rattle.debug_session.specs.Conversations.{HasServed, IsServed}
use Rattle.debug_session.specs.declared.session_end.SessionEnd.{SessionEnd}
use Rattle.debug_session.specs.declared.session_end.SessionEnd.TheVariants.{Quit, EndOfInput, ReadFailed, WriteFailed, Memory, TraceFull}
use Rattle.debug_session.specs.Sessions.{AskedSession, IsNoSession, IsSession, asked_session, link_spec, opened}
use Rattle.debug_session.specs.Sweeps.{sweep_spec}
use Rattle.debug_session.proofs.Opened.{opens_alike}

whichever : (end : SessionEnd) (A B C : Type 0) → IsServed end A (Unit {0}) → IsServed end (Unit {0}) B → (B → C) → IsServed end A C
whichever Quit A B C a b f = a
whichever EndOfInput A B C a b f = a
whichever ReadFailed A B C a b f = a
whichever WriteFailed A B C a b f = a
whichever Memory A B C a b f = f b
whichever TraceFull A B C a b f = f b

whoever : (end : SessionEnd) (A B C : Type 0) → IsServed end A (Unit {0}) → IsServed end (Unit {0}) B → (A → C) → (B → C) → C
whoever Quit A B C a b f g = f a
whoever EndOfInput A B C a b f g = f a
whoever ReadFailed A B C a b f g = f a
whoever WriteFailed A B C a b f g = f a
whoever Memory A B C a b f g = g b
whoever TraceFull A B C a b f g = g b

-- a session on a log that was just begun
module _ {R W : Type 0} (gives : R × W → Type 0) (remaining : R → Option (List ℕ)) (contents : W → Option (List ℕ)) (c : Config)
    (budget : ℕ) (known : Option (List ℕ)) (failed : Bool) (image : ImageContents) (opening : MachineLists) (old new : Log) (link : R × W)
    (reader : R) (writer : W) (end : SessionEnd) where
  abbrev Served : Log → Type 0
  Served old = HasServed (sweep_spec budget) (remaining link.0) (remaining reader) (contents link.1) (contents writer) old new end

  abbrev Refused : Type 0
  Refused = new ≡ old

  -- A session on a log that was just opened, begun or refused, is a session of the command.
  pub session : IsImageOf c.shared_words known image → IsOpening c image opening → old ≡ opened opening → gives link →
      IsServed end (Served old) (Unit {0}) → IsServed end (Unit {0}) Refused → IsReplay new.opening new.steps new.machine →
      IsSession (link_spec gives remaining contents) (asked_session c budget (record { bytes = known; has_failed = failed })) end new
  session meant opens begun given served refused replay = record {
    image = image;
    meant = meant;
    opening = opening;
    opens = opens;
    link = link;
    given = given;
    opening_is = opening_is;
    replay = subst (λ (m : MachineLists). IsReplay m new.steps new.machine) opening_is replay;
    reader = reader;
    writer = writer;
    served =
        whichever end (Served (opened opening)) Refused (new ≡ opened opening)
        (subst (λ (l : Log). IsServed end (Served l) (Unit {0})) begun served) refused (λ same. same ∙ begun);
  }
    where
      opening_is : new.opening ≡ opening
      opening_is =
          whoever end (Served old) Refused (new.opening ≡ old.opening) served refused
          (opens_alike (sweep_spec budget) (remaining link.0) (remaining reader) (contents link.1) (contents writer) old new end)
          (λ same. ap (λ (l : Log). l.opening) same)
          ∙ ap (λ (l : Log). l.opening) begun

-- the size is out of its limits
pub no_machine : (d : AskedSession) (image : ImageContents) (f : Fault) → IsImageOf d.config.shared_words d.file.bytes image →
    IsFaultOfSize d.config f → IsNoSession d f
no_machine d image fault.Size meant p = ((image, meant), p)
no_machine d image fault.Memory meant p = tt
no_machine d image (fault.Image e) meant p = absurd p
no_machine d image (fault.Line n) meant p = absurd p
no_machine d image (fault.Text e) meant p = absurd p
no_machine d image fault.NotUtf8 meant p = absurd p
no_machine d image (fault.Trace e) meant p = absurd p
no_machine d image (fault.Stalled n) meant p = absurd p
no_machine d image fault.Budget meant p = absurd p
no_machine d image fault.Full meant p = absurd p
no_machine d image fault.Loan meant p = absurd p
no_machine d image fault.Start meant p = absurd p
no_machine d image fault.States meant p = absurd p
no_machine d image fault.Alone meant p = absurd p
no_machine d image fault.Link meant p = absurd p
