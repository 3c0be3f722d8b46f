use Rattle.std.proofs.Common.{◌≡◌, ◌∙◌, ◌≤◌, ◌<◌, ◌++◌, ℕ, length, sym, ap, ap₂, subst, arith}
use Rattle.std.specs.Prelude.{slice_set}
use Rattle.machine_theory.specs.network_theory.Meaning.{joined}
use Rattle.machine_theory.specs.Theory as theory
use Rattle.machine_steps.specs.Ordering.{group_in, IsEntered}
use Rattle.machine_steps.proofs.Grouping.{group_at, enters_combined}
use Rattle.machine_steps.proofs.entering.SerialOrder.join.Goals as goal

pub returns-clause-entered : goal.returns-clause-entered
returns-clause-entered c =
    let groups = c.args.self.now.groups.items in
    let entries = c.args.self.now.entries.items in
    let i = c.from-first.result in
    let j = c.from-second.result in
    let there_i : i < length groups = omega (arith, c.from-first.ensures, c.ranges.first.fits, c.requires.leaders) in
    let there_j : j < length groups = omega (arith, c.from-second.ensures, c.ranges.second.fits, c.requires.leaders) in
    let front : c.as_slice-front.result.now ≡ group_in groups i =
    c.as_slice-front.ensures.value ∙ group_at groups i c.index.result.now there_i c.index.ensures in
    let back : c.as_slice-back.result.now ≡ group_in groups j =
    c.as_slice-back.ensures.value ∙ group_at groups j c.index-2.result.now there_j c.index-2.ensures in
    let front_length : length c.as_slice-front.result.now ≡ length (group_in groups i) = ap length front in
    let back_length : length c.as_slice-back.result.now ≡ length (group_in groups j) = ap length back in
    let few =
    subst (λ a. (p : ℕ) → length (joined (group_in groups) a j p) ≤ 64) (sym c.from-first.ensures)
    (subst (λ b. (p : ℕ) → length (joined (group_in groups) c.args.first b p) ≤ 64) (sym c.from-second.ensures) c.requires.few) in
    subst (λ a. IsEntered groups entries (theory.Combined a c.args.second) (slice_set (slice_set groups i c.join_groups-both.result) j c.new.result) entries)
    c.from-first.ensures
    (subst (λ b. IsEntered groups entries (theory.Combined i b) (slice_set (slice_set groups i c.join_groups-both.result) j c.new.result) entries)
    c.from-second.ensures
    (enters_combined groups entries i j c.join_groups-both.result c.new.result there_i there_j
    (λ fits. c.join_groups-both.ensures (omega (arith, front_length, back_length, fits)) ∙ ap₂ (λ xs ys. xs ++ ys) front back) c.new.ensures few))
