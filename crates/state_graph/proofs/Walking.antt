-- Where moves lead, one after another.
use Rattle.std.proofs.Common.{◌≡◌, ℕ, ◌+◌, ◌<◌, ◌≤◌, List, length, drop, sym, ap, ◌∙◌}
use Rattle.std.specs.Prelude.{slice_index_or}
use Rattle.std.proofs.lemmas.List.{drop_all, drop_more}
use Rattle.state_graph.specs.Fairness.{target_at}
use Rattle.state_graph.specs.Lassos.{place_after}

-- The moves that are left after one more lead from its target to where they led before it.
pub place_more : (targets : List (List ℕ)) (movers : List ℕ) (i d here next whole : ℕ) → i < length movers →
    next ≡ target_at targets here (slice_index_or movers i d) → place_after targets here (drop i movers) ≡ whole →
    place_after targets next (drop (i + 1) movers) ≡ whole
place_more targets movers i d here next whole less leads before =
    ap (λ p. place_after targets p (drop (i + 1) movers)) leads ∙ (ap (place_after targets here) (sym (drop_more movers i d less)) ∙ before)

-- If no moves are left, they lead to where it is.
pub place_last : (targets : List (List ℕ)) (movers : List ℕ) (i here whole : ℕ) → length movers ≤ i →
    place_after targets here (drop i movers) ≡ whole → here ≡ whole
place_last targets movers i here whole past h = ap (place_after targets here) (sym (drop_all i movers past)) ∙ h
