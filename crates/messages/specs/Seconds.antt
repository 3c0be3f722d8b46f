-- The seconds that are answered along with a leader.
use Rattle.std.specs.Prelude.{ℕ, List, [], ◌∷◌}
use Rattle.messages.specs.declared.message.Record.{Record}
use Rattle.messages.specs.declared.seconds.Seconds.{Seconds}
use Rattle.messages.specs.declared.seconds.Seconds.TheVariants.{One, Two, Three}

-- the processors that it names, in order
abbrev pub seconds_of : Seconds → List ℕ
seconds_of (One p) = p ∷ []
seconds_of (Two p q) = p ∷ q ∷ []
seconds_of (Three p q v) = p ∷ q ∷ v ∷ []

-- The seconds of a leader with these records, up to three. A leader has no more in a buffer, as an entry is combined at
-- most three times.
abbrev pub answered_seconds : Record → List Record → Seconds
answered_seconds e [] = One e.second
answered_seconds e (f ∷ []) = Two e.second f.second
answered_seconds e (f ∷ g ∷ rest) = Three e.second f.second g.second
