use Rattle.std.proofs.Common.{◌≡◌, ◌<◌, ◌≤◌, ◌+◌, ◌-◌, ◌*◌, ◌/◌, ◌%◌, ◌^◌, arith}
use Rattle.omega_wires.proofs.Paths.{path_below, path_by_shifts, sixty_four}
use Rattle.omega_wires.proofs.wires.path.Goals as goal

pub overflow_add-result : goal.overflow_add-result
overflow_add-result c =
    let bits : c.low_bits.result ≡ c.args.processor % 2 ^ (c.args.k - c.args.stage) = c.low_bits.ensures in
    let below : (c.args.processor % 2 ^ (c.args.k - c.args.stage)) * 2 ^ c.args.stage % 256 + c.args.to_module / 2 ^ (c.args.k - c.args.stage) < 2 ^ c.args.k
    = path_below c.args.k c.args.processor c.args.to_module c.args.stage c.requires.stages c.requires.by_a_stage c.requires.a_processor c.requires.a_module in
    let all : 2 ^ c.args.k ≤ 64 = sixty_four c.args.k c.requires.stages in
    rw bits (record { fits = omega arith })

pub returns-clause-exact : goal.returns-clause-exact
returns-clause-exact c =
    rw c.low_bits.ensures (path_by_shifts c.args.k c.args.processor c.args.to_module c.args.stage c.requires.stages c.requires.by_a_stage
    c.requires.a_processor c.requires.a_module)

pub returns-clause-small : goal.returns-clause-small
returns-clause-small c =
    rw c.low_bits.ensures (path_below c.args.k c.args.processor c.args.to_module c.args.stage c.requires.stages c.requires.by_a_stage c.requires.a_processor
    c.requires.a_module)
