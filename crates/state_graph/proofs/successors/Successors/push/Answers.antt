use Rattle.std.proofs.Common.{◌≡◌, ◌≤◌, [], ◌∷◌, ◌++◌, length, ap, ◌∙◌, arith, length-append}
use Rattle.state_graph.proofs.Cutting.{ends_push, cut_push}
use Rattle.state_graph.proofs.successors.Successors.push.Goals as goal

pub invariant_of-self-2 : goal.invariant_of-self-2
invariant_of-self-2 c =
    let targets : c.extend_from_slice.new.self.items ≡ c.self.inside.targets.items ++ c.args.successors.now =
    c.in_ok-extend_from_slice.ensures.items in
    let last : c.len.result ≡ length c.extend_from_slice.new.self.items = omega arith in
    let ends : c.push.new.self.items ≡ c.self.inside.ends.items ++ length c.extend_from_slice.new.self.items ∷ [] =
    rw (c.reserve.ensures.items, last) at c.in_ok-push.ensures.items in
    let longer : length c.self.inside.targets.items ≤ length c.extend_from_slice.new.self.items =
    omega (arith, ap length targets, length-append c.self.inside.targets.items c.args.successors.now) in
    rw ends (ends_push 0 c.self.inside.ends.items (length c.self.inside.targets.items)
    (length c.extend_from_slice.new.self.items) c.self.invariant longer)

pub returns-clause-added : goal.returns-clause-added
returns-clause-added c =
    let targets : c.extend_from_slice.new.self.items ≡ c.self.inside.targets.items ++ c.args.successors.now =
    c.in_ok-extend_from_slice.ensures.items in
    let last : c.len.result ≡ length c.extend_from_slice.new.self.items = omega arith in
    let ends : c.push.new.self.items ≡ c.self.inside.ends.items ++ length c.extend_from_slice.new.self.items ∷ [] =
    rw (c.reserve.ensures.items, last) at c.in_ok-push.ensures.items in
    let view = c.self.view_is in
    rw (ends, targets) (cut_push 0 c.self.inside.ends.items c.self.inside.targets.items c.args.successors.now
    c.self.invariant ∙ ap (λ lists. lists ++ c.args.successors.now ∷ []) view)
