-- A whole session: its reader, its writer and its log.
use Rattle.std.specs.Prelude.{◌≡◌, ℕ, ◌<◌, Bool, true, false, List, [], ◌∷◌, ◌++◌, length, Option}
use Rattle.std.specs.Io.KnownBytes.{Appends, Consumes, IsAtEnd}
use Rattle.link.specs.Transfer.{AppendsPart}
use Rattle.debug_lines.specs.declared.reader.Event.{Event}
use Rattle.debug_lines.specs.Lines.{Held, IsAfter, joined}
use Rattle.debug_replies.specs.Breaking.{is_break}
use Rattle.machine_steps.specs.Draining.{drain_steps, IsDrained}
use Rattle.machine_steps.specs.Machines.{IsIdle}
use Rattle.machine_log.specs.Logs.{Log}
use Rattle.debug_session.specs.Answers.{Answers, Session, session}
use Rattle.debug_session.specs.Dialogues.{Dialogue, NoneQuits, command_of_event, is_quit}
use Rattle.debug_session.specs.Runs.{RunSpec}
use Rattle.debug_session.specs.declared.session_end.SessionEnd.{SessionEnd}
use Rattle.debug_session.specs.declared.session_end.SessionEnd.TheVariants.{Quit, EndOfInput, ReadFailed, WriteFailed}
use Rattle.debug_session.specs.declared.session_end.SessionEnd.TheVariants.{Memory, TraceFull}

-- The events have a last one with this property, and none before it ends the session.
pub record EndsWith (events : List Event) (ends : Event → Type 0) : Type 0 where
  pub before : List Event
  pub last : Event
  pub all : events ≡ before ++ last ∷ []
  pub none : NoneQuits before
  pub end : ends last

-- The missing bytes are the end of the last reply's line, and not empty.
pub record IsCutShort (replies : List (List ℕ)) (missing : List ℕ) : Type 0 where
  pub before : List (List ℕ)
  pub last : List ℕ
  pub all : replies ≡ before ++ last ∷ []
  pub part : List ℕ
  pub cut : last ++ 10 ∷ [] ≡ part ++ missing
  pub some : 0 < length missing

-- What each end of a session says about the events and replies, the bytes taken but not read, the bytes not written,
-- and what is left in the reader.
abbrev pub IsEnd : SessionEnd → List Event → (replies : List (List ℕ)) → (unread missing : List ℕ) →
    (left : Option (List ℕ)) → Type 0
IsEnd Quit events replies unread missing left = (missing ≡ []) × EndsWith events (λ event. is_quit event ≡ true)
IsEnd EndOfInput events replies unread missing left = (missing ≡ []) × NoneQuits events × (unread ≡ []) × IsAtEnd left
IsEnd ReadFailed events replies unread missing left = (missing ≡ []) × NoneQuits events × (unread ≡ [])
IsEnd WriteFailed events replies unread missing left = IsCutShort replies missing × EndsWith events (λ _. Unit {0})
IsEnd Memory events replies unread missing left = ⊥
IsEnd TraceFull events replies unread missing left = ⊥

-- What a session that begins with no byte held takes from its reader, writes and leaves.
pub record Conversation (run : RunSpec) (reader reader' writer writer' : Option (List ℕ)) (old new : Session)
    (end : SessionEnd) : Type 0 where
  -- The bytes read, and those of the last piece that were not read.
  pub input : List ℕ
  pub unread : List ℕ
  pub took : Consumes reader reader' (input ++ unread)
  -- The events of the bytes read, and the incomplete line that is held after them.
  pub events : List Event
  pub held : Held
  pub lines : IsAfter input events held
  -- The replies, each with its line feed, and how much of them was written.
  pub replies : List (List ℕ)
  pub dialogue : Dialogue run old events replies new
  pub written : List ℕ
  pub missing : List ℕ
  pub cut : joined replies ≡ written ++ missing
  pub wrote : Appends writer writer' written
  pub ending : IsEnd end events replies unread missing reader'

-- The log has taken the steps of a drain.
pub record HasDrained (old new : Log) : Type 0 where
  pub opening : new.opening ≡ old.opening
  pub steps : new.steps ≡ old.steps ++ drain_steps old.machine
  pub count : ℕ
  pub drained : IsDrained old.machine count new.machine

-- The session drains its machine, and then holds a conversation that begins with no break. No reference is open after
-- it.
pub record HasServed (run : RunSpec) (reader reader' writer writer' : Option (List ℕ)) (old new : Log)
    (end : SessionEnd) : Type 0 where
  pub drained : Log
  pub drain : HasDrained old drained
  pub breaks : List Bool
  pub no_break : (a : ℕ) → is_break breaks a ≡ false
  pub breaks' : List Bool
  pub conversation : Conversation run reader reader' writer writer' (session drained breaks)
      (session new breaks') end
  pub idle : IsIdle new.machine

-- ---- on the way

-- A reader of lines that holds this part of a line reads the input, which ends these events, and then holds this part.
abbrev pub Reads : (held : Held) → (input : List ℕ) → List Event → (kept : Held) → Type 0
Reads held input events kept =
    (bytes : List ℕ) (before : List Event) → IsAfter bytes before held →
    IsAfter (bytes ++ input) (before ++ events) kept

-- The command of an event is executed, and its reply is written with its line feed.
pub record AnswersEvent (run : RunSpec) (old : Session) (writer : Option (List ℕ)) (event : Event)
    (new : Session) (writer' : Option (List ℕ)) : Type 0 where
  pub reply : List ℕ
  pub answers : Answers run old (command_of_event event) reply new
  pub wrote : Appends writer writer' (reply ++ 10 ∷ [])

-- The command of an event is executed, and a beginning of its reply's line, and not all of it, is written.
pub record AnswersEventInPart (run : RunSpec) (old : Session) (writer : Option (List ℕ)) (event : Event)
    (new : Session) (writer' : Option (List ℕ)) : Type 0 where
  pub reply : List ℕ
  pub answers : Answers run old (command_of_event event) reply new
  pub wrote : AppendsPart writer writer' (reply ++ 10 ∷ [])

-- The input ends events, none of which ends the session, and each reply is written whole.
pub record Goes (run : RunSpec) (held : Held) (old : Session) (writer : Option (List ℕ)) (input : List ℕ)
    (kept : Held) (new : Session) (writer' : Option (List ℕ)) : Type 0 where
  pub events : List Event
  pub replies : List (List ℕ)
  pub lines : Reads held input events kept
  pub dialogue : Dialogue run old events replies new
  pub wrote : Appends writer writer' (joined replies)
  pub none : NoneQuits events

-- How a session may end while it answers events.
abbrev pub IsStop : SessionEnd → List Event → (replies : List (List ℕ)) → (missing : List ℕ) → Type 0
IsStop Quit events replies missing = (missing ≡ []) × EndsWith events (λ event. is_quit event ≡ true)
IsStop WriteFailed events replies missing = IsCutShort replies missing × EndsWith events (λ _. Unit {0})
IsStop EndOfInput events replies missing = ⊥
IsStop ReadFailed events replies missing = ⊥
IsStop Memory events replies missing = ⊥
IsStop TraceFull events replies missing = ⊥

-- The same, up to an event that ends the session, or whose reply cannot be written whole.
pub record Stops (run : RunSpec) (held : Held) (old : Session) (writer : Option (List ℕ)) (input : List ℕ)
    (kept : Held) (new : Session) (writer' : Option (List ℕ)) (end : SessionEnd) : Type 0 where
  pub events : List Event
  pub replies : List (List ℕ)
  pub lines : Reads held input events kept
  pub dialogue : Dialogue run old events replies new
  pub written : List ℕ
  pub missing : List ℕ
  pub cut : joined replies ≡ written ++ missing
  pub wrote : Appends writer writer' written
  pub stop : IsStop end events replies missing

-- The session stops in this way after some bytes of a piece; those after them are not read.
pub record StopsWithin (run : RunSpec) (held : Held) (old : Session) (writer : Option (List ℕ)) (piece : List ℕ)
    (kept : Held) (new : Session) (writer' : Option (List ℕ)) (end : SessionEnd) : Type 0 where
  pub input : List ℕ
  pub unread : List ℕ
  pub all : piece ≡ input ++ unread
  pub stops : Stops run held old writer input kept new writer' end

-- The first fact holds if the session began, and the second if its first drain was refused.
abbrev pub IsServed : SessionEnd → (served refused : Type 0) → Type 0
IsServed Quit served refused = served
IsServed EndOfInput served refused = served
IsServed ReadFailed served refused = served
IsServed WriteFailed served refused = served
IsServed Memory served refused = refused
IsServed TraceFull served refused = refused

-- The fact holds if the session began.
abbrev pub IfBegun : SessionEnd → (fact : Type 0) → Type 0
IfBegun end fact = IsServed end fact (Unit {0})

-- The fact holds if the first drain was refused.
abbrev pub IfRefused : SessionEnd → (fact : Type 0) → Type 0
IfRefused end fact = IsServed end (Unit {0}) fact
