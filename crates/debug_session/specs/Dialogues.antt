-- The dialogue of a session: the events of a stream, with their replies.
use Rattle.std.specs.Prelude.{◌≡◌, ℕ, Bool, true, false, List, [], ◌∷◌, ◌++◌}
use Rattle.debug_lines.specs.declared.command.Command.{Command}
use Rattle.debug_lines.specs.declared.command.Command.TheVariants.{State, Registers, Register, Set, Memory, Write}
use Rattle.debug_lines.specs.declared.command.Command.TheVariants.{Break, Clear, Step, Continue, Quit, Malformed}
use Rattle.debug_lines.specs.declared.reader.Event.{Event}
use Rattle.debug_lines.specs.declared.reader.Event.TheVariants.{Line, TooLong}
use Rattle.debug_lines.specs.Commands.{command_of}
use Rattle.debug_session.specs.Answers.{Session, Answers}
use Rattle.debug_session.specs.Runs.{RunSpec}

-- the command that an event asks for; a line that is too long is malformed
abbrev pub command_of_event : Event → Command
command_of_event (Line line) = command_of line
command_of_event TooLong = Malformed

-- From the old session on, each event in turn is answered by the reply at its place, and the last leaves the new
-- session.
abbrev pub Dialogue : RunSpec → (old : Session) → List Event → (replies : List (List ℕ)) → (new : Session) → Type 0
Dialogue run old [] [] new = new ≡ old
Dialogue run old (event ∷ events) (reply ∷ replies) new =
    (mid : Session) × Answers run old (command_of_event event) reply mid × Dialogue run mid events replies new
Dialogue run old [] (reply ∷ replies) new = ⊥
Dialogue run old (event ∷ events) [] new = ⊥

abbrev pub is_quit_command : Command → Bool
is_quit_command (State p) = false
is_quit_command (Registers p) = false
is_quit_command (Register p r) = false
is_quit_command (Set p r value) = false
is_quit_command (Memory p address n) = false
is_quit_command (Write p address bytes) = false
is_quit_command (Break address) = false
is_quit_command (Clear address) = false
is_quit_command (Step p) = false
is_quit_command Continue = false
is_quit_command Quit = true
is_quit_command Malformed = false

-- whether an event ends a session
abbrev pub is_quit : Event → Bool
is_quit event = is_quit_command (command_of_event event)

-- No event ends the session.
abbrev pub NoneQuits : List Event → Type 0
NoneQuits [] = Unit {0}
NoneQuits (event ∷ events) = (is_quit event ≡ false) × NoneQuits events
