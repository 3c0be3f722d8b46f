use Rattle.std.proofs.Common.{◌≡◌, ℤ, Some, ap, ◌∙◌}
use Rattle.std.specs.Int.{w64}
use Rattle.std.specs.Map.{update}
use Rattle.std.specs.Str.{bytes_eq}
use Rattle.std.proofs.lemmas.Int.{to_z-of_z}
use Rattle.std.proofs.lemmas.Map.Text.{btree_map_updates_str}
use Rattle.course_text.specs.Constants.{constant_values}
use Rattle.course_text.proofs.definitions.add_constant.Goals as goal

pub returns : goal.returns
returns c =
    let updated : constant_values c.insert.new.self ≡ update bytes_eq (constant_values c.args.constants.now) c.args.name.now (Some _) =
    (λ i q. btree_map_updates_str c.args.name.now c.args.constants.now c.insert.new.self _ c.in_ok-insert.ensures.updates q i) in
    updated
    ∙ ap (λ (z : ℤ). update bytes_eq (constant_values c.args.constants.now) c.args.name.now (Some z)) (to_z-of_z w64 c.args.number c.ranges.number)
