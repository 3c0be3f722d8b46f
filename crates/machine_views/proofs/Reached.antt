-- The processors that replies reach, stage by stage.
use Rattle.std.proofs.Common.{◌≡◌, ℕ, zero, suc, ◌-◌, ◌<◌, List, sym, ap, ◌∙◌, arith}
use Rattle.messages.specs.Network.{Net}
use Rattle.machine_views.specs.Groups.{reached, split_at}

-- Replies that have passed the last of the stages still reach the same processors.
pub reached_one : (net : Net) (wires s : ℕ) (leaders : List ℕ) → 0 < s →
    reached net wires (s - 1) (split_at net wires (s - 1) leaders) ≡ reached net wires s leaders
unfolding reached
reached_one net wires zero leaders some = absurd (omega arith)
reached_one net wires (suc n) leaders some =
    let is : suc n - 1 ≡ n = omega arith in
    ap (λ i. reached net wires i (split_at net wires i leaders)) is

-- Replies that go down no stage reach their leaders alone.
pub reached_none : (net : Net) (wires s : ℕ) (leaders : List ℕ) → s ≡ 0 → reached net wires s leaders ≡ leaders
unfolding reached
reached_none net wires s leaders none = ap (λ i. reached net wires i leaders) none
