-- A `Switch` as contracts see it, and what it does with a reply.
use Rattle.std.specs.Prelude.{◌≡◌, ◌==◌, ◌<◌, ℕ, Bool, true, ◌&&◌, filter, nat_le, List, [], ◌∷◌, ◌++◌, length}
use Rattle.std.specs.Prelude.{slice_index_or, slice_set, if◌then◌else◌}
use Rattle.omega_wires.specs.Wires.{bit}
use Rattle.messages.specs.declared.message.Reply.{Reply}
use Rattle.messages.specs.declared.message.Record.{Record}
use Rattle.messages.specs.Places.{ApartBy, In}
use Rattle.messages.specs.Queues.{answers, records_of, records_but}
use Rattle.messages.specs.Seconds.{answered_seconds}
use Rattle.combining_switch.specs.Pools.{IsFree, PoolLists, leader_of_reply, replies_at, with_replies}
use Rattle.combining_switch.specs.Outputs.{OutputState, output_with}
use Rattle.combining_switch.specs.declared.answers.Answered.{Answered}
use Rattle.combining_switch.specs.declared.answers.Answered.TheVariants.{One, Many, NoRoom}

-- two outputs, and two inputs, each with the number of its queue among a pool's queues of replies, which hold up to c
-- each; a reply goes to the input that a bit of its leader's number names
pub record SwitchState : Type 0 where
  pub c : ℕ
  pub its_bit : ℕ
  pub outputs : List OutputState
  pub inputs : List ℕ

-- a switch without records, by the numbers of its outputs' and inputs' queues
abbrev pub new_switch : (c b r its_bit out_zero out_one in_zero in_one : ℕ) → SwitchState
new_switch c b r i x y v w = record {
  c = c;
  its_bit = i;
  outputs = record { c = c; b = b; r = r; queue = x; records = [] } ∷ record {
    c = c;
    b = b;
    r = r;
    queue = y;
    records = [];
  } ∷ [];
  inputs = v ∷ w ∷ [];
}

abbrev pub no_output : OutputState
no_output = record { c = 0; b = 0; r = 0; queue = 0; records = [] }

abbrev pub output_of : SwitchState → (out : ℕ) → OutputState
output_of s out = slice_index_or s.outputs out no_output

abbrev pub records_at : SwitchState → (out : ℕ) → List Record
records_at s out = (output_of s out).records

abbrev pub with_records : SwitchState → (out : ℕ) → List Record → SwitchState
with_records s out es =
    record {
      c = s.c;
      its_bit = s.its_bit;
      outputs = slice_set s.outputs out (output_with (output_of s out) es);
      inputs = s.inputs;
    }

-- the number of an input's queue
abbrev pub input_of : List ℕ → (inp : ℕ) → ℕ
input_of inputs inp = slice_index_or inputs inp 0

-- The switch's queues are in the pool, and those of its inputs are different.
pub record StandsIn (s : SwitchState) (pool : PoolLists) : Type 0 where
  pub outputs : (out : ℕ) → out < 2 → (output_of s out).queue < length pool.requests
  pub inputs : (inp : ℕ) → inp < 2 → input_of s.inputs inp < length pool.replies
  pub apart : input_of s.inputs 0 ≡ input_of s.inputs 1 → ⊥

-- ---- replies are put at inputs

-- the number of the queue for a leader's replies
abbrev pub input_for : (its_bit : ℕ) → List ℕ → (leader : ℕ) → ℕ
input_for i inputs p = input_of inputs (bit i p)

-- the pool after a reply is appended at its leader's input
abbrev pub put_reply : (its_bit : ℕ) → List ℕ → PoolLists → Reply → PoolLists
put_reply i inputs pool y =
    with_replies pool (input_for i inputs y.leader) (replies_at pool (input_for i inputs y.leader) ++ y ∷ [])

-- the replies for an input
abbrev pub replies_for : (its_bit inp : ℕ) → List Reply → List Reply
replies_for i inp ys = filter (λ (y : Reply). bit i y.leader == inp) ys

-- the records of a leader whose second gets its reply at an input
abbrev pub records_for : (its_bit inp leader : ℕ) → List Record → List Record
records_for i inp p es = filter (λ (e : Record). e.leader == p && bit i e.second == inp) es

-- the pool after these replies are put, one after another
unfoldable pub put_replies : (its_bit : ℕ) → List ℕ → List Reply → PoolLists → PoolLists
put_replies i inputs [] pool = pool
put_replies i inputs (y ∷ ys) pool = put_replies i inputs ys (put_reply i inputs pool y)

-- whether each of these replies, once put, has its place within c
unfoldable pub has_room : (c its_bit : ℕ) → List ℕ → PoolLists → List Reply → Bool
has_room c i inputs pool [] = true
has_room c i inputs pool (y ∷ ys) = nat_le (length (replies_at pool (input_for i inputs y.leader))) c
    && has_room c i inputs pool ys

-- These replies have different leaders, whose cells are free.
pub record CanBeQueued (pool : PoolLists) (ys : List Reply) : Type 0 where
  pub cells : (y : Reply) → In y ys → y.leader < pool.cells
  pub free : (y : Reply) → In y ys → IsFree pool y.leader
  pub apart : ApartBy leader_of_reply ys

-- ---- a reply comes back

abbrev pub answered_for : List Record → Answered
answered_for [] = One
answered_for (e ∷ es) = Many (answered_seconds e es)

-- The leader's reply and those of its seconds are put, in the order of the combinations, and its records are dropped;
-- or there is no room for all of them, and nothing changes.
abbrev pub answered_from : SwitchState → PoolLists → (out : ℕ) → Reply → List Record →
    Answered × SwitchState × PoolLists
answered_from s pool out x records =
    let all = put_replies s.its_bit s.inputs (answers records x) pool in
    if has_room s.c s.its_bit s.inputs all (answers records x)
    then (answered_for records, with_records s out (records_but x.leader (records_at s out)), all)
    else (NoRoom, s, pool)

-- what a switch answers to a reply that comes back to an output, and the switch and the pool then
unfoldable pub answered : SwitchState → PoolLists → (out : ℕ) → Reply → Answered × SwitchState × PoolLists
answered s pool out x = answered_from s pool out x (records_of x.leader (records_at s out))
