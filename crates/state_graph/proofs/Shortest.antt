-- If states are in breadth-first order, no path is shorter than the one on which each state is the first that leads to
-- the next.
use Rattle.std.proofs.Common.{◌≡◌, ◌⊎◌, inl, inr, ℕ, ◌-◌, ◌<◌, ◌≤◌, zero, suc, List, [], ◌∷◌, ◌++◌, length, refl, sym, subst, arith, length-append}
use Rattle.std.specs.Prelude.{Contains}
use Rattle.std.proofs.lemmas.Bool.{cases_lt}
use Rattle.state_graph.specs.Paths.{IsPath, IsBreadthFirst, IsFirstFrom}
use Rattle.state_graph.specs.Ranks.{successors_at}

module _ (moves : List (List ℕ)) where
  -- A path of at most this many states leads to this place.
  abbrev pub IsNear : (place most : ℕ) → Type 0
  IsNear place most = (path : List ℕ) × IsPath moves 0 path place × (length path ≤ most)

  -- A path followed by one more state is a path.
  path_on : (path : List ℕ) (from mid to : ℕ) → IsPath moves from path mid → Contains (successors_at moves mid) to →
      IsPath moves from (path ++ to ∷ []) to
  path_on [] from mid to h leads = (subst (λ i. Contains (successors_at moves i) to) (sym h) leads, refl)
  path_on (next ∷ path) from mid to h leads = (h.0, path_on path next mid to h.1 leads)

  near_on : (mid to most : ℕ) → IsNear mid most → Contains (successors_at moves mid) to → IsNear to (suc most)
  near_on mid to most h leads =
      let short = h.2 in
      (h.0 ++ to ∷ [], path_on h.0 0 mid to h.1 leads, omega (arith, length-append h.0 (to ∷ []), short))

  -- A path ends with a last move, from the state `mid`.
  record HasLast (from to count : ℕ) : Type 0 where
    mid : ℕ
    path : List ℕ
    is : IsPath moves from path mid
    leads : Contains (successors_at moves mid) to
    shorter : length path ≡ count

  last_of : (path : List ℕ) (from next to : ℕ) → IsPath moves from (next ∷ path) to → HasLast from to (length path)
  last_of [] from next to h = record {
    mid = from;
    path = [];
    is = refl;
    leads = subst (Contains (successors_at moves from)) h.1 h.0;
    shorter = refl;
  }
  last_of (then ∷ path) from next to h =
      let k = last_of path next then to h.1 in
      let same = k.shorter in
      record { mid = k.mid; path = next ∷ k.path; is = (h.0, k.is); leads = k.leads; shorter = omega (arith, same) }

  -- A state before another one is as near as that one.
  pub near_before : IsBreadthFirst moves → (most u w : ℕ) → u ≤ w → IsNear w most → IsNear u most
  near_before breadth zero u w low h = by h.0 h.1 h.2
    where
      by : (path : List ℕ) → IsPath moves 0 path w → length path ≤ 0 → IsNear u zero
      by [] is short = let here : u ≡ 0 = omega (arith, low, is) in ([], sym here, omega arith)
      by (next ∷ path) is short = absurd (omega (arith, short))
  near_before breadth (suc most) u w low h = by (λ k v. near_before breadth most k v) h.0 h.1 h.2 (cases_lt u w) (cases_lt 0 u)
    where
      by : ((k v : ℕ) → k ≤ v → IsNear v most → IsNear k most) → (path : List ℕ) → IsPath moves 0 path w →
          length path ≤ suc most → (u < w) ⊎ (w ≤ u) → (0 < u) ⊎ (u ≤ 0) →
          IsNear u (suc most)
      by before path is short less (inr none) = let here : u ≡ 0 = omega (arith, none) in ([], sym here, omega arith)
      by before path is short (inr past) (inl some) =
          let same : w ≡ u = omega (arith, low, past) in
          (path, subst (IsPath moves 0 path) same is, short)
      by before [] is short (inl less) (inl some) = absurd (omega (arith, less, is))
      by before (next ∷ path) is short (inl less) (inl some) =
          let k = last_of path 0 next w is in
          let long = k.shorter in
          let found = breadth k.mid w u k.leads some less in
          near_on found.0 u most
          (before found.0 k.mid found.1 (k.path, k.is, omega (arith, long, short))) found.2

  -- The first state that leads to this one is not after any other that does.
  least : (from place mid : ℕ) → IsFirstFrom moves from place → Contains (successors_at moves mid) place → from ≤ mid
  least from place mid first leads = by (cases_lt mid from)
    where
      by : (mid < from) ⊎ (from ≤ mid) → from ≤ mid
      by (inl below) = absurd (first.first mid below leads)
      by (inr past) = past

  -- The first state that leads to this one is nearer than it.
  pub first_nearer : IsBreadthFirst moves → (from place most : ℕ) → IsFirstFrom moves from place → IsNear place most →
      (less : ℕ) × (most ≡ suc less) × IsNear from less
  first_nearer breadth from place most first h = by h.0 h.1 h.2
    where
      by : (path : List ℕ) → IsPath moves 0 path place → length path ≤ most → (less : ℕ) × (most ≡ suc less) × IsNear from less
      by [] is short = let low = first.before in absurd (omega (arith, low, is))
      by (next ∷ path) is short =
          let k = last_of path 0 next place is in
          let long = k.shorter in (
            most - 1,
            omega (arith, short),
            near_before breadth (most - 1) from k.mid (least from place k.mid first k.leads)
                (k.path, k.is, omega (arith, long, short)),
          )
