-- The events that a stream of bytes stands for.
use Rattle.std.specs.Prelude.{◌≡◌, ◌≢◌, ℕ, List, [], ◌∷◌, ◌++◌, Option, Some, None, length, map, nat_le, if◌then◌else◌}
use Rattle.debug_lines.specs.declared.reader.Event.{Event}
use Rattle.debug_lines.specs.declared.reader.Event.TheVariants.{Line, TooLong}

-- the bytes after the last line feed, or None if they are over 1,024
abbrev pub Held : Type 0
Held = Option (List ℕ)

-- what is kept of a rest
abbrev pub held_of : List ℕ → Held
held_of rest = if nat_le (length rest) 1024 then Some rest else None

-- what is kept after more bytes, none of them a line feed
abbrev pub held_more : Held → List ℕ → Held
held_more None more = None
held_more (Some rest) more = held_of (rest ++ more)

-- the event at a line feed, by what was kept
abbrev pub event_of_held : Held → Event
event_of_held None = TooLong
event_of_held (Some line) = Line line

-- the event of the bytes before a line feed
abbrev pub event_of : List ℕ → Event
event_of line = event_of_held (held_of line)

-- No byte is a line feed.
abbrev pub IsUnbroken : List ℕ → Type 0
IsUnbroken [] = Unit {0}
IsUnbroken (b ∷ bytes) = (b ≢ 10) × IsUnbroken bytes

abbrev pub AreUnbroken : List (List ℕ) → Type 0
AreUnbroken [] = Unit {0}
AreUnbroken (line ∷ lines) = IsUnbroken line × AreUnbroken lines

-- the lines, each with its line feed
abbrev pub joined : List (List ℕ) → List ℕ
joined [] = []
joined (line ∷ lines) = line ++ 10 ∷ joined lines

-- The bytes are lines, each with its line feed, and this rest without one, and the events are those of the lines.
pub record StandsFor (bytes : List ℕ) (events : List Event) (rest : List ℕ) : Type 0 where
  pub lines : List (List ℕ)
  pub whole : bytes ≡ joined lines ++ rest
  pub unbroken : AreUnbroken lines
  pub open_rest : IsUnbroken rest
  pub each : events ≡ map event_of lines

-- The bytes stand for these events, and this is kept of their rest.
pub record IsAfter (bytes : List ℕ) (events : List Event) (held : Held) : Type 0 where
  pub rest : List ℕ
  pub stands : StandsFor bytes events rest
  pub kept : held ≡ held_of rest
