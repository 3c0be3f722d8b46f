use Rattle.std.proofs.Common.{◌≡◌, ℕ, ◌+◌, ◌-◌, ◌*◌, ◌^◌, ◌<◌, ◌∙◌, false, sym}
use Rattle.omega_wires.specs.Members.{members}
use Rattle.machine_steps.proofs.Lemmas.{count_small}
use Rattle.schedules.specs.Skips.{IsQuiet}
use Rattle.schedules.proofs.OfKinds.{ups_quiet}
use Rattle.schedules.proofs.Rows.{first_found, found_ahead, found_inside, none_found, row_ends}
use Rattle.schedules.proofs.row.UpsRow.first.Goals as goal

pub returns : goal.returns
returns c =
    let m = c.args.machine.now in
    let k = m.config.k in
    let few = c.machine_is_well_formed.ensures.limits.stages in
    let quiet : (w : ℕ) → w < 2 ^ k → members c.request_wires.result w ≡ false → IsQuiet m ((k - c.args.self.now.stage) * 2 ^ k + w) =
    λ w within none. ups_quiet m few c.args.self.now.stage c.requires.there w within (sym (c.request_wires.ensures.exact w within) ∙ none) in
    record {
      ahead = found_ahead (members c.request_wires.result) c.args.wire c.first_from.result c.first_from.ensures.first;
      wire = found_inside m ((k - c.args.self.now.stage) * 2 ^ k) (2 ^ k) c.args.wire (members c.request_wires.result) c.request_wires.ensures.few quiet
          c.first_from.result c.first_from.ensures.first;
      first = first_found m ((k - c.args.self.now.stage) * 2 ^ k) (2 ^ k) c.args.wire (members c.request_wires.result) c.request_wires.ensures.few quiet
          c.first_from.result c.first_from.ensures.first;
      none = λ none. none_found m ((k - c.args.self.now.stage) * 2 ^ k) (2 ^ k) c.args.wire (members c.request_wires.result) c.request_wires.ensures.few quiet
          ((k - c.args.self.now.stage + 1) * 2 ^ k) (row_ends (k - c.args.self.now.stage) (2 ^ k)) (count_small k few) (c.first_from.ensures.none none);
    }
