-- A `Network` as contracts see it, and how its lists are read as a network of places.
use Rattle.std.specs.Prelude.{◌≡◌, ◌≤◌, ◌<◌, ◌==◌, ℕ, zero, suc, ◌+◌, ◌*◌, ◌/◌, ◌%◌, ◌^◌, List, [], length, nat_lt}
use Rattle.std.specs.Prelude.{Option, None, slice_index_or, if◌then◌else◌}
use Rattle.std.specs.Option.{option_to_list}
use Rattle.omega_wires.specs.Wires.{bit_of_stage, input_port, switch_of}
use Rattle.messages.specs.declared.message.Request.{Request}
use Rattle.messages.specs.declared.message.Reply.{Reply}
use Rattle.messages.specs.declared.message.Record.{Record}
use Rattle.messages.specs.Network.{Net, Sizes}
use Rattle.combining_switch.specs.Outputs.{OutputLists}
use Rattle.omega_network.specs.Networks.{half}
use Rattle.ring_network.specs.Switches.{SwitchLists, empty_switch, records_at, replies_at, requests_at}

-- k stages of switches, each with queues of c messages and wait buffers of b records; an entry of a queue is combined
-- up to r times, and the switches are in order, stage by stage
pub record NetworkLists : Type 0 where
  pub k : ℕ
  pub c : ℕ
  pub b : ℕ
  pub r : ℕ
  pub slots : List (Option Request)
  pub switches : List SwitchLists
  pub module_slots : List (Option Reply)

abbrev pub sizes_of : NetworkLists → Sizes
sizes_of n = record { k = n.k; c = n.c; b = n.b; r = n.r }

abbrev pub switch_at : NetworkLists → (stage number : ℕ) → SwitchLists
switch_at n s i = slice_index_or n.switches (s * half n.k + i) (empty_switch 0 0 0 0)

-- ---- the messages and records at each place

abbrev pub slot_of : {X : Type 0} → List (Option X) → (place : ℕ) → List X
slot_of slots w = option_to_list (slice_index_or slots w None)

-- a list of a switch's output, by the wire that goes out there
abbrev pub at_output : {X : Type 0} → (SwitchLists → ℕ → List X) → NetworkLists → (stage wire : ℕ) → List X
at_output f n s w = if nat_lt w (2 ^ n.k) then f (switch_at n s (w / 2)) (w % 2) else []

-- the requests before a stage on a wire: the processor's slot, or the queue at the wire's output of the stage before
unfoldable pub requests_before : NetworkLists → (depth wire : ℕ) → List Request
requests_before n zero w = slot_of n.slots w
requests_before n (suc s) w = at_output requests_at n s w

unfoldable pub records_after : NetworkLists → (stage wire : ℕ) → List Record
records_after n s w = at_output records_at n s w

-- the replies before a stage on a wire: the queue at the input that the wire goes to, or after the last stage the
-- module's slot
unfoldable pub replies_before : NetworkLists → (depth wire : ℕ) → List Reply
replies_before n d w =
    if d == n.k then slot_of n.module_slots w else
    if nat_lt w (2 ^ n.k) then replies_at (switch_at n d (switch_of n.k w)).inputs (input_port n.k w) else
    []

abbrev pub net_of : NetworkLists → Net
net_of n = record { requests = requests_before n; records = records_after n; replies = replies_before n }

-- ---- the invariant of a network

-- The switch has these sizes and this bit.
pub record IsSwitchOf (c b r its_bit : ℕ) (s : SwitchLists) : Type 0 where
  pub c_is : s.c ≡ c
  pub bit_is : s.its_bit ≡ its_bit
  pub two_outputs : length s.outputs ≡ 2
  pub two_inputs : length s.inputs ≡ 2
  pub outputs : (out : ℕ) → out < 2 → (d : OutputLists) →
      ((slice_index_or s.outputs out d).c ≡ c) × ((slice_index_or s.outputs out d).b ≡ b)
      × ((slice_index_or s.outputs out d).r ≡ r)

-- There are up to 64 processors and modules, each with a slot, and the switches of each stage, with that stage's bit.
pub record IsNetwork (n : NetworkLists) : Type 0 where
  pub few : n.k ≤ 6
  pub all_slots : length n.slots ≡ 2 ^ n.k
  pub all_module_slots : length n.module_slots ≡ 2 ^ n.k
  pub all_switches : length n.switches ≡ n.k * half n.k
  pub each_switch : (s i : ℕ) → s < n.k → i < half n.k → IsSwitchOf n.c n.b n.r (bit_of_stage n.k s) (switch_at n s i)
