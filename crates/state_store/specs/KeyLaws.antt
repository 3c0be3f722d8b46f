-- Why local states can be compared and hashed by their keys.
use Rattle.std.specs.Prelude.{◌≡◌, true, List, ◌++◌, ℕ, [], slice_index, slice_index_or}
use Rattle.std.specs.Bool.{Decides}
use Rattle.std.specs.Cmp.{IsEquivalence}
use Rattle.std.specs.Cmp.Lexicographic.{lists_equiv, nat_list_eq_equiv, pointwise_decides, bytes_decides}
use Rattle.std.specs.Hash.{HashWrites, slice, u32, u8}
use Rattle.std.proofs.Common.{ap}
use Rattle.state_store.specs.Placed.{Placed}
use Rattle.state_store.specs.Keys.{key_of, same_keys, same_key}

pub keys_equiv : IsEquivalence same_keys
keys_equiv = lists_equiv nat_list_eq_equiv

pub keys_decide : (x y : List (List ℕ)) → Decides (same_keys x y) (x ≡ y)
keys_decide = pointwise_decides bytes_decides

-- what is hashed of a local state's key: its pc, what it has printed, and its registers
abbrev pub hashed : List (List ℕ) → HashWrites
hashed keys =
    u32 (slice_index (slice_index_or keys 0 []) 3) ++ slice u8 (slice_index_or keys 2 [])
    ++ slice u32 (slice_index_or keys 3 [])

pub hashed_alike : (a b : Placed) → same_key a b ≡ true → hashed (key_of a) ≡ hashed (key_of b)
hashed_alike a b h = ap hashed ((keys_decide (key_of a) (key_of b)).0 h)
