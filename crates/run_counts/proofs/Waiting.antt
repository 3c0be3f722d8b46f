-- The lines of lengths, and the rounds that messages waited, one length after another.
use Rattle.std.proofs.Common.{◌≡◌, ℕ, ◌+◌, List, [], ◌∷◌, ◌++◌, ap, ◌∙◌, arith}
use Rattle.run_counts.specs.declared.longest.Held.{Held}
use Rattle.run_counts.specs.declared.queue_lengths.StageLengths.{StageLengths}
use Rattle.run_counts.specs.QueueLengths.{number_at, rounds_waited}

-- One length more adds the number that it has at the stage.
pub waited_more : (held : Held) (s : ℕ) (lengths : List StageLengths) (l : StageLengths) →
    rounds_waited held s (lengths ++ l ∷ []) ≡ rounds_waited held s lengths + number_at held s l
unfolding rounds_waited
waited_more held s [] l = omega arith
waited_more held s (x ∷ lengths) l = let rest = waited_more held s lengths l in omega (arith, rest)
