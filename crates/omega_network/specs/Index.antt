-- The wires that have messages: a set of wires for each depth of a network.
use Rattle.std.specs.Prelude.{◌≡◌, ℕ, ◌^◌, ◌<◌, ◌≤◌, false, List, is_some, slice_get, slice_index_or}
use Rattle.omega_wires.specs.Members.{members}
use Rattle.omega_network.specs.Networks.{NetworkLists, net_of}

-- The set of this depth has the wire exactly if a message is there.
abbrev pub IsKnown : {X : Type 0} → (messages : ℕ → ℕ → List X) → (sets : List ℕ) → (d w : ℕ) → Type 0
IsKnown messages sets d w = members (slice_index_or sets d 0) w ≡ is_some (slice_get (messages d w) 0)

-- For a network of k stages, the sets have exactly the wires that have messages.
pub record Knows {X : Type 0} (k : ℕ) (messages : ℕ → ℕ → List X) (sets : List ℕ) : Type 0 where
  pub there : (d w : ℕ) → d ≤ k → w < 2 ^ k → IsKnown messages sets d w
  pub few : (d w : ℕ) → 2 ^ k ≤ w → members (slice_index_or sets d 0) w ≡ false

-- The sets of requests and of replies are those of the network.
pub record IsIndexed (n : NetworkLists) (requests replies : List ℕ) : Type 0 where
  pub stages : n.k ≤ 6
  pub of_requests : Knows n.k (net_of n).requests requests
  pub of_replies : Knows n.k (net_of n).replies replies

-- One wire of one depth was looked at: there the sets are right, and elsewhere they are right if they were.
pub record IsLookedAt {X : Type 0} (k : ℕ) (messages : ℕ → ℕ →
    List X) (depth wire : ℕ) (old new : List ℕ) : Type 0 where
  pub seen : IsKnown messages new depth wire
  pub kept : (d w : ℕ) → IsKnown messages old d w → IsKnown messages new d w
  pub few : (d w : ℕ) → 2 ^ k ≤ w → members (slice_index_or old d 0) w ≡ false →
      members (slice_index_or new d 0) w ≡ false
