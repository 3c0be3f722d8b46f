-- The log that a session leaves has the opening of the log with which it began.
use Rattle.std.proofs.Common.{◌≡◌, ◌∙◌, ◌+◌, ◌*◌, ℕ, zero, suc, Bool, true, false, List, [], ◌∷◌, length, Option, Some, None, Ok, Err, ap}
use Rattle.flat_machine.specs.declared.poke.Poke.{Poke}
use Rattle.flat_machine.specs.declared.poke.Poke.TheVariants as poke
use Rattle.machine_log.specs.Logs.{HasPoked, Log}
use Rattle.debug_lines.specs.declared.command.Command.{Command}
use Rattle.debug_lines.specs.declared.command.Command.TheVariants.{State, Registers, Register, Set, Memory, Write}
use Rattle.debug_lines.specs.declared.command.Command.TheVariants.{Break, Clear, Step, Continue, Quit, Malformed}
use Rattle.debug_lines.specs.declared.reader.Event.{Event}
use Rattle.debug_replies.specs.declared.error.Error.{Error}
use Rattle.debug_replies.specs.declared.error.Error.TheVariants as error
use Rattle.debug_replies.specs.Errors.{error_of}
use Rattle.debug_replies.specs.Stops.{is_running_at}
use Rattle.machine_steps.specs.Runs.{flat_state}
use Rattle.debug_session.specs.Answers.{Acts, ActsUnless, Continues, Ending, HasStepped, IsTried, Session, Sets, StepsWhere, pokes_of, session}
use Rattle.debug_session.specs.Conversations.{HasServed}
use Rattle.debug_session.specs.Dialogues.{command_of_event, Dialogue}
use Rattle.debug_session.specs.Runs.{RunSpec}
use Rattle.debug_session.specs.declared.session_end.SessionEnd.{SessionEnd}

abbrev OpensAlike : (old new : Log) → Type 0
OpensAlike old new = new.opening ≡ old.opening

same_log : (old new : Log) → new ≡ old → OpensAlike old new
same_log old new same = ap (λ (l : Log). l.opening) same

tried : (count : ℕ) (done : Type 0) (old new : Log) (ending : Ending) → (done → OpensAlike old new) → IsTried count done old new ending → OpensAlike old new
tried count done old new (Ok nothing) opens h = opens h.1
tried count done old new (Err error.Room) opens h = same_log old new h.1
tried count done old new (Err error.Memory) opens h = same_log old new h.1
tried count done old new (Err error.Form) opens h = absurd h
tried count done old new (Err error.Address) opens h = absurd h
tried count done old new (Err error.Processor) opens h = absurd h
tried count done old new (Err error.Register) opens h = absurd h

poked : (old new : Log) (pokes : List Poke) → HasPoked old pokes new → OpensAlike old new
poked old new pokes done = done.opening

set : (old : Log) (p register value : ℕ) (ending : Ending) (new : Log) → Sets old p register value ending new → OpensAlike old new
set old p zero value ending new h = same_log old new h.1
set old p (suc r) value ending new h =
    let pokes : List Poke = poke.Register p (suc r) value ∷ [] in
    tried 1 (HasPoked old pokes new) old new ending (poked old new pokes) h

one_step : (old : Log) (p : ℕ) (new : Log) → HasStepped old p new → OpensAlike old new
one_step old p new done = done.opening

stepped : (runs : Bool) (old : Log) (p : ℕ) (ending : Ending) (new : Log) → StepsWhere runs old p ending new → OpensAlike old new
stepped false old p ending new h = same_log old new h.1
stepped true old p ending new h = tried (2 * old.machine.config.k + 3) (HasStepped old p new) old new ending (one_step old p new) h

continued : (run : RunSpec) (breaks : List Bool) (old : Log) (ending : Ending) (new : Log) → Continues run breaks old ending new → OpensAlike old new
continued run breaks old (Ok nothing) new h = h.2.run.opening
continued run breaks old (Err error.Room) new h = same_log old new h.1
continued run breaks old (Err error.Memory) new h = same_log old new h.1
continued run breaks old (Err error.Form) new h = absurd h
continued run breaks old (Err error.Address) new h = absurd h
continued run breaks old (Err error.Processor) new h = absurd h
continued run breaks old (Err error.Register) new h = absurd h

same_session : (old new : Session) → new ≡ old → OpensAlike old.log new.log
same_session old new same = ap (λ (s : Session). s.log.opening) same

acted : (run : RunSpec) (old : Session) (c : Command) (ending : Ending) (new : Session) → Acts run old c ending new → OpensAlike old.log new.log
acted run old (State p) ending new h = same_session old new h.1
acted run old (Registers p) ending new h = same_session old new h.1
acted run old (Register p r) ending new h = same_session old new h.1
acted run old (Set p r value) ending new h = set old.log p r value ending new.log h.0
acted run old (Memory p address n) ending new h = same_session old new h.1
acted run old (Write p address bytes) ending new h =
    let pokes : List Poke = pokes_of p address bytes in
    tried (length bytes) (HasPoked old.log pokes new.log) old.log new.log ending (poked old.log new.log pokes) h.0
acted run old (Break address) ending new h = ap (λ (s : Session). s.log.opening) h.1
acted run old (Clear address) ending new h = ap (λ (s : Session). s.log.opening) h.1
acted run old (Step p) ending new h = stepped (is_running_at (flat_state old.log.machine) p) old.log p ending new.log h.0
acted run old Continue ending new h = continued run old.breaks old.log ending new.log h.0
acted run old Quit ending new h = same_session old new h.1
acted run old Malformed ending new h = same_session old new h.1

acted_unless : (run : RunSpec) (e : Option Error) (old : Session) (c : Command) (ending : Ending) (new : Session) → ActsUnless run e old c ending new →
    OpensAlike old.log new.log
acted_unless run None old c ending new h = acted run old c ending new h
acted_unless run (Some e) old c ending new h = same_session old new h.1

talked : (run : RunSpec) (old : Session) (events : List Event) (replies : List (List ℕ)) (new : Session) → Dialogue run old events replies new →
    OpensAlike old.log new.log
talked run old [] [] new h = same_session old new h
talked run old (event ∷ events) (reply ∷ replies) new h =
    talked run h.0 events replies new h.2
    ∙ acted_unless run (error_of (flat_state old.log.machine) (command_of_event event)) old (command_of_event event) h.1.ending h.0 h.1.acts
talked run old [] (reply ∷ replies) new h = absurd h
talked run old (event ∷ events) [] new h = absurd h

-- The log that a session leaves has the opening of the log with which it began.
pub opens_alike : (run : RunSpec) (r0 r1 w0 w1 : Option (List ℕ)) (old new : Log) (end : SessionEnd) → HasServed run r0 r1 w0 w1 old new end →
    new.opening ≡ old.opening
opens_alike run r0 r1 w0 w1 old new end served =
    let c = served.conversation in
    talked run (session served.drained served.breaks) c.events c.replies (session new served.breaks') c.dialogue
    ∙ served.drain.opening
