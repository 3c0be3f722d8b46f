-- The outcome of a move, by the switch's answer.
use Rattle.std.specs.Prelude.{ℕ}
use Rattle.messages.specs.declared.moves.UpMove.{UpMove}
use Rattle.messages.specs.declared.moves.UpMove.TheVariants as up
use Rattle.messages.specs.declared.moves.DownMove.{DownMove}
use Rattle.messages.specs.declared.moves.DownMove.TheVariants as down
use Rattle.combining_switch.specs.declared.answers.Accepted.{Accepted}
use Rattle.combining_switch.specs.declared.answers.Accepted.TheVariants.{Queued, Combined, Full}
use Rattle.combining_switch.specs.declared.answers.Answered.{Answered}
use Rattle.combining_switch.specs.declared.answers.Answered.TheVariants.{One, Many, NoRoom}

-- for a request with this leader
abbrev pub up_of : Accepted → (second : ℕ) → UpMove
up_of Queued p = up.Moved
up_of (Combined first) p = up.Combined first p
up_of Full p = up.Stalled

abbrev pub down_of : Answered → DownMove
down_of One = down.Moved
down_of (Many seconds) = down.Answered seconds
down_of NoRoom = down.Stalled
