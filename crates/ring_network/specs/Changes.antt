-- Networks after a change of one slot or one switch.
use Rattle.std.specs.Prelude.{◌≡◌, ◌<◌, ℕ, ◌+◌, ◌*◌, ◌/◌, List, length, Option, Some, slice_get, slice_set}
use Rattle.omega_wires.specs.Wires.{bit_of_stage}
use Rattle.messages.specs.declared.message.Request.{Request}
use Rattle.messages.specs.declared.message.Reply.{Reply}
use Rattle.ring_network.specs.Switches.{SwitchLists, empty_switch}
use Rattle.omega_network.specs.Networks.{half}
use Rattle.ring_network.specs.Networks.{NetworkLists}

abbrev pub with_slot : NetworkLists → (processor : ℕ) → Option Request → NetworkLists
with_slot n p x = record {
  k = n.k;
  c = n.c;
  b = n.b;
  r = n.r;
  slots = slice_set n.slots p x;
  switches = n.switches;
  module_slots = n.module_slots;
}

abbrev pub with_module_slot : NetworkLists → (at_module : ℕ) → Option Reply → NetworkLists
with_module_slot n m y =
    record {
      k = n.k;
      c = n.c;
      b = n.b;
      r = n.r;
      slots = n.slots;
      switches = n.switches;
      module_slots = slice_set n.module_slots m y;
    }

abbrev pub with_switch : NetworkLists → (stage number : ℕ) → SwitchLists → NetworkLists
with_switch n s i t = record {
  k = n.k;
  c = n.c;
  b = n.b;
  r = n.r;
  slots = n.slots;
  switches = slice_set n.switches (s * half n.k + i) t;
  module_slots = n.module_slots;
}

-- The switches are those of a new network: all are empty, each with the bit of its stage.
pub record AreNew (k c b r : ℕ) (switches : List SwitchLists) : Type 0 where
  pub all : length switches ≡ k * half k
  pub each : (place : ℕ) → place < length switches →
      slice_get switches place ≡ Some (empty_switch c b r (bit_of_stage k (place / half k)))
