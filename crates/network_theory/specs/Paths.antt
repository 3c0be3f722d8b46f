-- Messages keep to their paths.
--
-- `goes p m` says whether processor p has a reference to module m on its way, there or back. If each processor has one
-- reference at a time, there is at most one such m.
use Rattle.std.specs.Prelude.{◌≡◌, ℕ, suc, ◌<◌, ◌≤◌, ◌%◌, ◌^◌, Bool, true}
use Rattle.omega_wires.specs.Wires.{path}
use Rattle.messages.specs.declared.message.Request.{Request}
use Rattle.messages.specs.declared.message.Reply.{Reply}
use Rattle.messages.specs.declared.message.Record.{Record}
use Rattle.messages.specs.Places.{In}
use Rattle.messages.specs.Network.{IsEmptyNet, Net, Sizes, wires}
use Rattle.messages.specs.Naming.{Names}
use Rattle.messages.specs.Moves.{injected, module_replied, module_taken, moved_down, moved_up, port_taken}

-- A request at depth d on wire w is on its leader's path to the module that has its word.
pub record RequestOnPath (k : ℕ) (goes : ℕ → ℕ → Bool) (d w : ℕ) (x : Request) : Type 0 where
  pub goes_there : goes x.leader (x.word % 2 ^ k) ≡ true
  pub wire : path k x.leader (x.word % 2 ^ k) d ≡ w
  pub deep : d ≤ k
  pub processor : x.leader < 2 ^ k

-- A record at output w of stage s is where the paths of its two processors to one module meet.
pub record RecordOnPath (k : ℕ) (goes : ℕ → ℕ → Bool) (s w : ℕ) (x : Record) : Type 0 where
  pub to_module : ℕ
  pub a_module : to_module < 2 ^ k
  pub leader_goes : goes x.leader to_module ≡ true
  pub second_goes : goes x.second to_module ≡ true
  pub wire : path k x.leader to_module (suc s) ≡ w
  pub wire_second : path k x.second to_module (suc s) ≡ w
  pub deep : s < k
  pub processor : x.leader < 2 ^ k
  pub processor_second : x.second < 2 ^ k

-- A reply at depth d on wire w is on its leader's path to a module to which the leader's reference goes.
pub record ReplyOnPath (k : ℕ) (goes : ℕ → ℕ → Bool) (d w : ℕ) (x : Reply) : Type 0 where
  pub from_module : ℕ
  pub a_module : from_module < 2 ^ k
  pub goes_there : goes x.leader from_module ≡ true
  pub wire : path k x.leader from_module d ≡ w
  pub deep : d ≤ k
  pub processor : x.leader < 2 ^ k

pub record KeepToPaths (z : Sizes) (goes : ℕ → ℕ → Bool) (net : Net) : Type 0 where
  pub requests : (d w : ℕ) (x : Request) → In x (net.requests d w) → RequestOnPath z.k goes d w x
  pub records : (s w : ℕ) (x : Record) → In x (net.records s w) → RecordOnPath z.k goes s w x
  pub replies : (d w : ℕ) (x : Reply) → In x (net.replies d w) → ReplyOnPath z.k goes d w x

-- ---- what the calls of a network keep

abbrev pub EmptyNetworksKeepToPaths : Type 0
EmptyNetworksKeepToPaths = (z : Sizes) (goes : ℕ → ℕ → Bool) (net : Net) → IsEmptyNet net → KeepToPaths z goes net

-- Only processors that something in the network names count. So a reference may begin or end if nothing names its
-- processor.
abbrev pub OthersDoNotCount : Type 0
OthersDoNotCount = (z : Sizes) (goes goes' : ℕ → ℕ → Bool) (net : Net) → KeepToPaths z goes net →
    ((p m : ℕ) → Names net p → goes p m ≡ true → goes' p m ≡ true) → KeepToPaths z goes' net

-- A processor's request is for a module to which its reference goes.
abbrev pub InjectingKeepsToPaths : Type 0
InjectingKeepsToPaths = (z : Sizes) (goes : ℕ → ℕ → Bool) (net : Net) (x : Request) → KeepToPaths z goes net →
    x.leader < wires z → goes x.leader (x.word % wires z) ≡ true → KeepToPaths z goes (injected net x)

abbrev pub MovingUpKeepsToPaths : Type 0
MovingUpKeepsToPaths = (z : Sizes) (goes : ℕ → ℕ → Bool) (net : Net) (s w : ℕ) → KeepToPaths z goes net →
    KeepToPaths z goes (moved_up z net s w).1

abbrev pub MovingDownKeepsToPaths : Type 0
MovingDownKeepsToPaths = (z : Sizes) (goes : ℕ → ℕ → Bool) (net : Net) (s w : ℕ) → KeepToPaths z goes net →
    KeepToPaths z goes (moved_down z net s w).1

-- A module takes its request, and replies to a processor whose reference goes there.
abbrev pub ServingKeepsToPaths : Type 0
ServingKeepsToPaths = (z : Sizes) (goes : ℕ → ℕ → Bool) (net : Net) (m : ℕ) → KeepToPaths z goes net →
    KeepToPaths z goes (module_taken z net m)
    × ((x : Reply) → m < wires z → x.leader < wires z → goes x.leader m ≡ true →
    KeepToPaths z goes (module_replied z net m x))

abbrev pub TakingKeepsToPaths : Type 0
TakingKeepsToPaths = (z : Sizes) (goes : ℕ → ℕ → Bool) (net : Net) (p : ℕ) → KeepToPaths z goes net →
    KeepToPaths z goes (port_taken net p)

-- ---- where messages arrive

-- A request at a module is for a word of that module, and its leader's reference goes there. So the module may reply.
abbrev pub RequestsArrive : Type 0
RequestsArrive = (z : Sizes) (goes : ℕ → ℕ → Bool) (net : Net) (m : ℕ) (x : Request) → KeepToPaths z goes net →
    In x (net.requests z.k m) →
    (x.word % wires z ≡ m) × (m < wires z) × (x.leader < wires z) × (goes x.leader m ≡ true)

-- A reply on a processor's wire at depth 0 is that processor's.
abbrev pub RepliesArrive : Type 0
RepliesArrive = (z : Sizes) (goes : ℕ → ℕ → Bool) (net : Net) (p : ℕ) (x : Reply) → KeepToPaths z goes net →
    In x (net.replies 0 p) → x.leader ≡ p
