use Rattle.std.proofs.Common.{◌≡◌, ◌+◌, ◌*◌, ◌^◌, ◌≤◌, ◌∙◌, length, sym, ap, subst, arith}
use Rattle.schedules.specs.Rounds.{Sweeping, round}
use Rattle.schedules.proofs.Places.{round_length}
use Rattle.schedules.proofs.Rows.{past_rows}
use Rattle.schedules.proofs.round.Round.next.Goals as goal

pub returns-clause-over : goal.returns-clause-over
returns-clause-over c =
    let i = c.loop-self.invariant in
    let r = c.loop-self.self-inside in
    let size : r.k ≡ c.args.self.now.k = i.size ∙ ap (λ (s : Sweeping). s.k) c.self.view_is in
    let few : r.k ≤ 6 = subst (λ k. k ≤ 6) (sym i.size) c.self.invariant.0 in
    let past : 2 ^ r.k * (2 * r.k + 2) ≤ r.row * 2 ^ r.k + r.wire = past_rows (2 ^ r.k) (2 * r.k + 2) r.row r.wire c.loop-self-test.false in
    let end : length (round c.args.self.now.k) ≡ 2 ^ r.k * (2 * r.k + 2) = ap (λ k. length (round k)) (sym size) ∙ round_length r.k few in
    λ none place from before. i.quiet place from (omega (arith, before, end, past))
