-- The values that a step's line tells: those of the messages that stand in the network after the step, and of the word
-- that a module has changed.
use Rattle.std.specs.Prelude.{ℕ, suc, ◌%◌, ◌^◌, ◌==◌, List, Option, Some, None, option_and_then, find, slice_get}
use Rattle.std.specs.Prelude.{if◌then◌else◌}
use Rattle.std.specs.Option.{option_map}
use Rattle.flat_machine.specs.declared.config.Config.{Config}
use Rattle.omega_wires.specs.Wires.{wire_after, wire_before}
use Rattle.messages.specs.declared.message.Request.{Request}
use Rattle.messages.specs.declared.message.Reply.{Reply}
use Rattle.messages.specs.declared.message.Record.{Record}
use Rattle.messages.specs.declared.seconds.Seconds.{Seconds}
use Rattle.messages.specs.declared.seconds.Seconds.TheVariants.{One, Two, Three}
use Rattle.messages.specs.Network.{Net}
use Rattle.steps.specs.declared.step.Step.{Step}
use Rattle.steps.specs.declared.step.Step.TheVariants as step
use Rattle.steps.specs.declared.step.Outcome.{Outcome}
use Rattle.steps.specs.declared.step.Outcome.TheVariants as outcome
use Rattle.steps.specs.Kinds.{is_within}
use Rattle.trace_lines.specs.declared.values.Values.{Values}
use Rattle.trace_lines.specs.declared.values.Values.TheVariants.{Nothing, Sent, Joined, Served, Answered}

-- ---- messages by their leaders

abbrev pub request_of : (leader : ℕ) → List Request → Option Request
request_of leader requests = find (λ x. x.leader == leader) requests

abbrev pub reply_of : (leader : ℕ) → List Reply → Option Reply
reply_of leader replies = find (λ y. y.leader == leader) replies

-- the record by which the reply of a second is split off
abbrev pub record_of : (second : ℕ) → List Record → Option Record
record_of second records = find (λ e. e.second == second) records

-- ---- the values of each kind of step

-- a turn has sent the request that stands in the processor's slot
abbrev pub sent : Option Request → Values
sent None = Nothing
sent (Some x) = Sent x.phi x.word

-- a request was combined into this one, of which the record keeps a function
abbrev pub joined : Option Request → Option Record → Values
joined (Some x) (Some e) = Joined x.phi e.phi
joined _ _ = Nothing

-- A request for this word was combined with that of the first leader, at the output of the stage through which it goes.
abbrev pub joined_at : (k : ℕ) → Net → (stage wire first second : ℕ) → (word : Option ℕ) → Values
joined_at k net s w first second None = Nothing
joined_at k net s w first second (Some word) =
    let out = wire_after k s w (word % 2 ^ k) in
    joined (request_of first (net.requests (suc s) out)) (record_of second (net.records s out))

-- A module has executed a request for this word. Its reply has the value before, and the memory the value after.
abbrev pub served : (memory : ℕ → ℕ) → (word : Option ℕ) → Option Reply → Values
served memory (Some word) (Some y) = Served (record { word = word; before = y.value; after = memory word })
served memory _ _ = Nothing

-- the value of the reply to a second that was split off on a wire after a stage
abbrev pub value_of : (k : ℕ) → Net → (stage wire second : ℕ) → Option ℕ
value_of k net s w second =
    option_map (λ (y : Reply). y.value) (reply_of second (net.replies s (wire_before k s w second)))

abbrev pub answered_at : (k : ℕ) → Net → (stage wire : ℕ) → Seconds → Values
answered_at k net s w (One a) = Answered (value_of k net s w a) None None
answered_at k net s w (Two a b) = Answered (value_of k net s w a) (value_of k net s w b) None
answered_at k net s w (Three a b c) = Answered (value_of k net s w a) (value_of k net s w b) (value_of k net s w c)

-- ---- the values of a step

-- the values of a step whose numbers the machine has, by the network and the memory after it
abbrev pub values_within : (k : ℕ) → Net → (memory : ℕ → ℕ) → (word : Option ℕ) → Step → Outcome → Values
values_within k net memory word (step.Turn p) outcome.Issued = sent (slice_get (net.requests 0 p) 0)
values_within k net memory word (step.Up s w) (outcome.Combined first second) = joined_at k net s w first second word
values_within k net memory word (step.Serve m) (outcome.Served leader) =
    served memory word (slice_get (net.replies k m) 0)
values_within k net memory word (step.Down s w) (outcome.Answered to) = answered_at k net s w to
values_within k net memory word s o = Nothing

-- The values of a step about this word, from the size, the network and the memory of the machine after it. There are
-- none if the machine lacks a number that the step names.
abbrev pub values_of : Config → Net → (memory : ℕ → ℕ) → (word : Option ℕ) → Step → Outcome → Values
values_of c net memory word s o = if is_within c.k s then values_within c.k net memory word s o else Nothing
