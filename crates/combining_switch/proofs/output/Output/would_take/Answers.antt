use Rattle.std.proofs.Common.{◌≡◌}
use Rattle.std.specs.Prelude.{is_some}
use Rattle.combining_switch.specs.Outputs.{output_in}
use Rattle.combining_switch.proofs.Taking.{by_partner, no_place, with_room_is_taken}
use Rattle.combining_switch.proofs.output.Output.would_take.Goals as goal

pub returns-then-has_place : goal.returns-then-has_place
returns-then-has_place c = (
  (λ t. with_room_is_taken (output_in c.args.pool.now c.args.self.now) c.args.request.now (c.has_place.ensures.0 t)),
  (λ n. c.if-has_place.true),
)

pub returns-else-has_place : goal.returns-else-has_place
returns-else-has_place c =
    let fact : is_some c.partner.result ≡ c.is_some.result = cc in
    by_partner (output_in c.args.pool.now c.args.self.now) c.args.request.now c.partner.result c.is_some.result fact c.partner.ensures.first
    (no_place (output_in c.args.pool.now c.args.self.now) c.has_place.result c.has_place.ensures.1 c.if-has_place.false)
