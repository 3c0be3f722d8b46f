-- A `Network` as contracts see it, and how its lists are read as a network of places.
use Rattle.std.specs.Prelude.{◌≡◌, ◌==◌, ◌||◌, ◌≤◌, ◌<◌, Bool, Some, slice_get, ℕ, suc, ◌+◌, ◌-◌, ◌*◌, ◌/◌}
use Rattle.std.specs.Prelude.{◌%◌, ◌^◌, List, [], ◌∷◌, length, nat_lt, slice_index_or, if◌then◌else◌}
use Rattle.omega_wires.specs.Wires.{bit_of_stage}
use Rattle.messages.specs.declared.message.Request.{Request}
use Rattle.messages.specs.declared.message.Reply.{Reply}
use Rattle.messages.specs.declared.message.Record.{Record}
use Rattle.messages.specs.Places.{ApartBy, In}
use Rattle.messages.specs.Network.{Net, Sizes}
use Rattle.combining_switch.specs.Pools.{IsFree, PoolLists, replies_at, requests_at}
use Rattle.std.specs.List.{list_any}
use Rattle.combining_switch.specs.Switches.{SwitchState, records_at}

-- k stages of switches, each with queues of c messages and wait buffers of b records, all queues in one pool; an entry
-- of a queue is combined up to r times, and the switches are in order, stage by stage
pub record NetworkLists : Type 0 where
  pub k : ℕ
  pub c : ℕ
  pub b : ℕ
  pub r : ℕ
  pub pool : PoolLists
  pub switches : List SwitchState

abbrev pub sizes_of : NetworkLists → Sizes
sizes_of n = record { k = n.k; c = n.c; b = n.b; r = n.r }

-- the number of switches in a stage
abbrev pub half : (k : ℕ) → ℕ
half k = 2 ^ (k - 1)

abbrev pub no_switch : SwitchState
no_switch = record { c = 0; its_bit = 0; outputs = []; inputs = [] }

abbrev pub switch_at : NetworkLists → (stage number : ℕ) → SwitchState
switch_at n s i = slice_index_or n.switches (s * half n.k + i) no_switch

-- the number of the queues at a depth on a wire
abbrev pub place : (k depth wire : ℕ) → ℕ
place k d w = d * 2 ^ k + w

-- ---- the messages and records at each place

-- the messages on a wire, if the network has the wire
abbrev pub on_wire : {X : Type 0} → (k wire : ℕ) → List X → List X
on_wire k w xs = if nat_lt w (2 ^ k) then xs else []

unfoldable pub requests_before : NetworkLists → (depth wire : ℕ) → List Request
requests_before n d w = on_wire n.k w (requests_at n.pool (place n.k d w))

unfoldable pub records_after : NetworkLists → (stage wire : ℕ) → List Record
records_after n s w = on_wire n.k w (records_at (switch_at n s (w / 2)) (w % 2))

unfoldable pub replies_before : NetworkLists → (depth wire : ℕ) → List Reply
replies_before n d w = on_wire n.k w (replies_at n.pool (place n.k d w))

abbrev pub net_of : NetworkLists → Net
net_of n = record { requests = requests_before n; records = records_after n; replies = replies_before n }

-- ---- the invariant of a network

-- the switch with number i in stage s, with these records at its outputs; the outputs are the wires 2 i and 2 i + 1
-- after it, and its inputs are the wires that the shuffle brings there
abbrev pub the_switch : (k c b r s i : ℕ) → (zero one : List Record) → SwitchState
the_switch k c b r s i es fs = record {
  c = c;
  its_bit = bit_of_stage k s;
  outputs = record { c = c; b = b; r = r; queue = place k (suc s) (2 * i); records = es }
      ∷ record { c = c; b = b; r = r; queue = place k (suc s) (2 * i + 1); records = fs } ∷ [];
  inputs = place k s i ∷ place k s (i + half k) ∷ [];
}

abbrev pub second_of : Record → ℕ
second_of e = e.second

-- The second of each record has a free cell, and is the second of no other record.
pub record AreSeconds (pool : PoolLists) (records : ℕ → ℕ → List Record) : Type 0 where
  pub cells : (s w : ℕ) (e : Record) → In e (records s w) → e.second < pool.cells
  pub free : (s w : ℕ) (e : Record) → In e (records s w) → IsFree pool e.second
  pub apart : (s w : ℕ) → ApartBy second_of (records s w)
  pub once : (s w s' w' : ℕ) (e e' : Record) → In e (records s w) → In e' (records s' w') → e.second ≡ e'.second →
      (s ≡ s') × (w ≡ w')

-- There are up to 64 processors and modules, a queue of each kind for each depth and wire, and the switches of each
-- stage.
pub record IsNetwork (n : NetworkLists) : Type 0 where
  pub few : n.k ≤ 6
  pub all_cells : n.pool.cells ≡ 2 ^ n.k
  pub all_requests : length n.pool.requests ≡ suc n.k * 2 ^ n.k
  pub all_replies : length n.pool.replies ≡ suc n.k * 2 ^ n.k
  pub all_switches : length n.switches ≡ n.k * half n.k
  pub each_switch : (s i : ℕ) → s < n.k → i < half n.k →
      switch_at n s i ≡ the_switch n.k n.c n.b n.r s i (records_at (switch_at n s i) 0) (records_at (switch_at n s i) 1)
  pub seconds : AreSeconds n.pool (records_after n)

-- The processor may lead a message that is put in: it leads none, and is the second of no record.
pub record MayLead (n : NetworkLists) (p : ℕ) : Type 0 where
  pub below : p < n.pool.cells
  pub free : IsFree n.pool p
  pub no_second : (s w : ℕ) (e : Record) → In e (records_after n s w) → e.second ≡ p → ⊥

-- ---- looks through the whole network

abbrev pub HasNoMessage : PoolLists → Type 0
HasNoMessage pool = (q : ℕ) → (requests_at pool q ≡ []) × (replies_at pool q ≡ [])

abbrev pub HasNoRecord : SwitchState → Type 0
HasNoRecord t = (records_at t 0 ≡ []) × (records_at t 1 ≡ [])

-- whether one of the records names p as its leader or second, and whether one has p as its second
abbrev pub is_named : (p : ℕ) → List Record → Bool
is_named p es = list_any (λ e. e.leader == p || e.second == p) es

abbrev pub is_second : (p : ℕ) → List Record → Bool
is_second p es = list_any (λ e. e.second == p) es

-- The switches are those of a new network, all without records.
pub record AreNew (k c b r : ℕ) (switches : List SwitchState) : Type 0 where
  pub all : length switches ≡ k * half k
  pub each : (i : ℕ) → i < length switches →
      slice_get switches i ≡ Some (the_switch k c b r (i / half k) (i % half k) [] [])
