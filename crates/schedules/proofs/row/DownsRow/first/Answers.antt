use Rattle.std.proofs.Common.{◌≡◌, ℕ, ◌+◌, ◌*◌, ◌^◌, ◌<◌, ◌∙◌, false, sym, arith}
use Rattle.omega_wires.specs.Members.{members}
use Rattle.machine_steps.proofs.Lemmas.{count_small}
use Rattle.schedules.specs.Skips.{IsQuiet}
use Rattle.schedules.proofs.OfKinds.{downs_quiet}
use Rattle.schedules.proofs.Rows.{first_found, found_ahead, found_inside, none_found, row_ends}
use Rattle.schedules.proofs.row.DownsRow.first.Goals as goal

pub overflow_add-self : goal.overflow_add-self
overflow_add-self c = let few = c.machine_is_well_formed.ensures.limits.stages in let less = c.requires.there in omega (arith, few, less)

pub returns : goal.returns
returns c =
    let m = c.args.machine.now in
    let k = m.config.k in
    let few = c.machine_is_well_formed.ensures.limits.stages in
    let quiet : (w : ℕ) → w < 2 ^ k → members c.reply_wires.result w ≡ false → IsQuiet m ((k + 2 + c.args.self.now.stage) * 2 ^ k + w) =
    λ w within none. downs_quiet m few c.args.self.now.stage c.requires.there w within (sym (c.reply_wires.ensures.exact w within) ∙ none) in
    record {
      ahead = found_ahead (members c.reply_wires.result) c.args.wire c.first_from.result c.first_from.ensures.first;
      wire = found_inside m ((k + 2 + c.args.self.now.stage) * 2 ^ k) (2 ^ k) c.args.wire (members c.reply_wires.result) c.reply_wires.ensures.few quiet
          c.first_from.result c.first_from.ensures.first;
      first = first_found m ((k + 2 + c.args.self.now.stage) * 2 ^ k) (2 ^ k) c.args.wire (members c.reply_wires.result) c.reply_wires.ensures.few quiet
          c.first_from.result c.first_from.ensures.first;
      none = λ none. none_found m ((k + 2 + c.args.self.now.stage) * 2 ^ k) (2 ^ k) c.args.wire (members c.reply_wires.result) c.reply_wires.ensures.few quiet
          ((k + 2 + c.args.self.now.stage + 1) * 2 ^ k) (row_ends (k + 2 + c.args.self.now.stage) (2 ^ k)) (count_small k few) (c.first_from.ensures.none none);
    }
