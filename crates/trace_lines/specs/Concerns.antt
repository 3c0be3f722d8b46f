-- Which steps of a run concern a processor: its own turns and pokes, and what becomes of the message that stands for
-- it.
use Rattle.std.specs.Prelude.{ℕ, Bool, false, ◌==◌, ◌||◌, List, [], ◌∷◌, Option, Some, None, if◌then◌else◌}
use Rattle.std.specs.List.{list_any}
use Rattle.std.specs.Option.{option_or}
use Rattle.messages.specs.Seconds.{seconds_of}
use Rattle.steps.specs.declared.step.Step.{Step}
use Rattle.steps.specs.declared.step.Step.TheVariants as step
use Rattle.steps.specs.declared.step.Outcome.{Outcome}
use Rattle.steps.specs.declared.step.Outcome.TheVariants.{Retired, Issued, Combined, Answered}
use Rattle.steps.specs.Groups.{group_in}
use Rattle.steps.specs.Kinds.{is_turn_of}
use Rattle.trace_lines.specs.References.{processor_of_poke}

-- whether there are two processors, and they are one
abbrev pub are_one : (one other : Option ℕ) → Bool
are_one None other = false
are_one (Some p) None = false
are_one (Some p) (Some q) = p == q

-- ---- the message that stands for a processor

-- the leader, if its group has processor p, else the other
abbrev pub leader_or : (p : ℕ) → (groups : List (List ℕ)) → (leader : ℕ) → (other : Option ℕ) → Option ℕ
leader_or p groups q other = if list_any (λ member. member == p) (group_in groups q) then Some q else other

-- the first of these leaders whose group has processor p
abbrev pub leader_among : (p : ℕ) → (groups : List (List ℕ)) → (leaders : List ℕ) → Option ℕ
leader_among p groups [] = None
leader_among p groups (q ∷ qs) = leader_or p groups q (leader_among p groups qs)

-- The leader of the message that stands for processor p, after a step, by the groups before it. It is p itself when p
-- sends a request, and none once p has taken the reply. If the message is combined as the second, the first leads it;
-- if it is split, the second does in whose group p is.
abbrev pub leader_after : (p : ℕ) → (groups : List (List ℕ)) → (leader : Option ℕ) → Step → Outcome → Option ℕ
leader_after p groups leader s Issued = if is_turn_of p s then Some p else leader
leader_after p groups leader s (Retired retired) = if is_turn_of p s then None else leader
leader_after p groups leader s (Combined first second) = if are_one leader (Some second) then Some first else leader
leader_after p groups leader s (Answered to) = option_or (leader_among p groups (seconds_of to)) leader
leader_after p groups leader s _ = leader

-- ---- steps

-- whether a message of this leader is the one with which another is combined
abbrev pub is_joined : (leader : Option ℕ) → Outcome → Bool
is_joined leader (Combined first second) = are_one leader (Some first)
is_joined leader _ = false

-- Whether a step concerns processor p. The message that stands for p has this leader, and the step moves or serves one
-- of the leader `moved`.
abbrev pub concerns : (p : ℕ) → (leader moved : Option ℕ) → Step → Outcome → Bool
concerns p leader moved (step.Turn q) o = q == p
concerns p leader moved (step.Poke q) o = are_one (processor_of_poke q) (Some p)
concerns p leader moved _ o = are_one leader moved || is_joined leader o
