use Rattle.std.proofs.Common.{◌≡◌, ℕ, ◌+◌, ◌*◌, ◌^◌, ◌<◌, ◌≤◌, ◌∙◌, false, refl, sym, ap, subst}
use Rattle.std.specs.Prelude.{is_some, slice_get}
use Rattle.flat_machine.specs.declared.config.Config.{Config}
use Rattle.omega_wires.specs.Members.{members}
use Rattle.machine_steps.specs.omega_network.Networks.{net_of}
use Rattle.machine_steps.proofs.Lemmas.{count_small}
use Rattle.schedules.specs.Skips.{IsQuiet}
use Rattle.schedules.proofs.Quiet.{serve_quiet}
use Rattle.schedules.proofs.Rows.{first_found, found_ahead, found_inside, none_found, row_ends}
use Rattle.schedules.proofs.row.ServicesRow.first.Goals as goal

pub returns : goal.returns
returns c =
    let m = c.args.machine.now in
    let k = m.config.k in
    let size = ap (λ (d : Config). d.k) c.config.ensures.config in
    let few = subst (λ (d : Config). d.k ≤ 6) c.config.ensures.config c.config.ensures.limits.stages in
    let quiet : (w : ℕ) → w < 2 ^ k → members c.request_wires.result w ≡ false → IsQuiet m ((k + 1) * 2 ^ k + w) =
    λ w within none. serve_quiet m few (k + 1) w refl within
    (subst (λ n. is_some (slice_get ((net_of m.network).requests n w) 0) ≡ false) size (sym (c.request_wires.ensures.exact w within) ∙ none)) in
    record {
      ahead = found_ahead (members c.request_wires.result) c.args.wire c.first_from.result c.first_from.ensures.first;
      wire = found_inside m ((k + 1) * 2 ^ k) (2 ^ k) c.args.wire (members c.request_wires.result) c.request_wires.ensures.few quiet c.first_from.result
          c.first_from.ensures.first;
      first = first_found m ((k + 1) * 2 ^ k) (2 ^ k) c.args.wire (members c.request_wires.result) c.request_wires.ensures.few quiet c.first_from.result
          c.first_from.ensures.first;
      none = λ none. none_found m ((k + 1) * 2 ^ k) (2 ^ k) c.args.wire (members c.request_wires.result) c.request_wires.ensures.few quiet
          ((k + 1 + 1) * 2 ^ k) (row_ends (k + 1) (2 ^ k)) (count_small k few) (c.first_from.ensures.none none);
    }
