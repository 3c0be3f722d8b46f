-- A `Switch` as contracts see it, and what it does with a request and with a reply.
use Rattle.std.specs.Prelude.{◌≡◌, ℕ, Bool, true, ◌&&◌, nat_le, List, [], ◌∷◌, ◌++◌, length, slice_index_or, slice_set}
use Rattle.std.specs.Prelude.{if◌then◌else◌}
use Rattle.omega_wires.specs.Wires.{bit}
use Rattle.messages.specs.declared.message.Request.{Request}
use Rattle.messages.specs.declared.message.Reply.{Reply}
use Rattle.messages.specs.declared.message.Record.{Record}
use Rattle.messages.specs.Queues.{answers, records_of, records_but}
use Rattle.combining_switch.specs.declared.answers.Answered.{Answered}
use Rattle.combining_switch.specs.declared.answers.Answered.TheVariants.{NoRoom}
use Rattle.combining_switch.specs.Outputs.{OutputLists}
use Rattle.combining_switch.specs.Switches.{answered_for}
use Rattle.ring_network.specs.Outputs.{IsEmptyOutput, empty_output}

-- two outputs, and two inputs with a queue of up to c replies each; a reply goes to the input that a bit of its
-- leader's number names
pub record SwitchLists : Type 0 where
  pub c : ℕ
  pub its_bit : ℕ
  pub outputs : List OutputLists
  pub inputs : List (List Reply)

abbrev pub empty_switch : (c b r its_bit : ℕ) → SwitchLists
empty_switch c b r i = record {
  c = c;
  its_bit = i;
  outputs = empty_output c b r ∷ empty_output c b r ∷ [];
  inputs = [] ∷ [] ∷ [];
}

-- ---- outputs

abbrev pub output_of : SwitchLists → (out : ℕ) → OutputLists
output_of s out = slice_index_or s.outputs out (empty_output 0 0 0)

abbrev pub with_output : SwitchLists → (out : ℕ) → OutputLists → SwitchLists
with_output s out o = record { c = s.c; its_bit = s.its_bit; outputs = slice_set s.outputs out o; inputs = s.inputs }

abbrev pub requests_at : SwitchLists → (out : ℕ) → List Request
requests_at s out = (output_of s out).requests

abbrev pub records_at : SwitchLists → (out : ℕ) → List Record
records_at s out = (output_of s out).records

abbrev pub with_requests : SwitchLists → (out : ℕ) → List Request → SwitchLists
with_requests s out xs =
    let o = output_of s out in
    with_output s out (record { c = o.c; b = o.b; r = o.r; requests = xs; records = o.records })

abbrev pub with_records : SwitchLists → (out : ℕ) → List Record → SwitchLists
with_records s out es =
    let o = output_of s out in
    with_output s out (record { c = o.c; b = o.b; r = o.r; requests = o.requests; records = es })

-- ---- inputs

abbrev pub replies_at : List (List Reply) → (inp : ℕ) → List Reply
replies_at inputs inp = slice_index_or inputs inp []

abbrev pub with_inputs : SwitchLists → List (List Reply) → SwitchLists
with_inputs s inputs = record { c = s.c; its_bit = s.its_bit; outputs = s.outputs; inputs = inputs }

-- the inputs after a reply is appended at its leader's input
abbrev pub put_reply : (its_bit : ℕ) → List (List Reply) → Reply → List (List Reply)
put_reply i inputs y = slice_set inputs (bit i y.leader) (replies_at inputs (bit i y.leader) ++ y ∷ [])

-- the inputs after these replies are put, one after another
unfoldable pub put_replies : (its_bit : ℕ) → List Reply → List (List Reply) → List (List Reply)
put_replies i [] inputs = inputs
put_replies i (y ∷ ys) inputs = put_replies i ys (put_reply i inputs y)

-- whether each of these replies, once put, has its place within c
unfoldable pub has_room : (c its_bit : ℕ) → List (List Reply) → List Reply → Bool
has_room c i inputs [] = true
has_room c i inputs (y ∷ ys) = nat_le (length (replies_at inputs (bit i y.leader))) c && has_room c i inputs ys

-- The switch has no request, no record and no reply.
abbrev pub IsEmptySwitch : SwitchLists → Type 0
IsEmptySwitch s =
    IsEmptyOutput (output_of s 0) × IsEmptyOutput (output_of s 1) × (replies_at s.inputs 0 ≡ [])
    × (replies_at s.inputs 1 ≡ [])

-- ---- a reply comes back

-- The leader's reply and those of its seconds are put, in the order of the combinations, and its records are dropped;
-- or there is no room for all of them, and nothing changes.
abbrev pub answered_from : SwitchLists → (out : ℕ) → Reply → List Record → Answered × SwitchLists
answered_from s out x records =
    let all = put_replies s.its_bit (answers records x) s.inputs in
    if has_room s.c s.its_bit all (answers records x)
    then (answered_for records, with_inputs (with_records s out (records_but x.leader (records_at s out))) all)
    else (NoRoom, s)

-- what a switch answers to a reply that comes back to an output, and the switch then
unfoldable pub answered : SwitchLists → (out : ℕ) → Reply → Answered × SwitchLists
answered s out x = answered_from s out x (records_of x.leader (records_at s out))
