use Rattle.std.proofs.Common.{rules, arith, ap, sym, ◌∙◌, ◌≡◌, ◌≤◌, [], ◌∷◌, length, ◌<◌}
use Rattle.std.specs.Prelude.{slice_index, slice_index_or}
use Rattle.state_graph.proofs.Cutting.{begins_within, ends_within, cut_at, cut_past}
use Rattle.state_graph.proofs.successors.Successors.of.Goals as goal

pub returns-in_default : goal.returns-in_default
returns-in_default c =
    let past : length c.self.inside.ends.items ≤ c.args.state = search rules in
    sym (cut_past 0 c.self.inside.ends.items c.self.inside.targets.items c.args.state past)
    ∙ ap (λ lists. slice_index_or lists c.args.state []) c.self.view_is

pub offset_bounds-deref-start : goal.offset_bounds-deref-start
offset_bounds-deref-start c =
    let there : c.args.state < length c.self.inside.ends.items = search rules in
    let begins = begins_within 0 c.self.inside.ends.items (length c.self.inside.targets.items) c.args.state
    c.self.invariant there in
    let ends = ends_within 0 c.self.inside.ends.items (length c.self.inside.targets.items) c.args.state
    c.self.invariant there in
    let start : c.start_of-start.result ≡ slice_index (0 ∷ c.self.inside.ends.items) c.args.state = cc in
    omega (arith, begins, ends, start, c.deref-2.ensures.len)

pub slice_bounds-result-count : goal.slice_bounds-result-count
slice_bounds-result-count c =
    let there : c.args.state < length c.self.inside.ends.items = search rules in
    let begins = begins_within 0 c.self.inside.ends.items (length c.self.inside.targets.items) c.args.state
    c.self.invariant there in
    let start : c.start_of-start.result ≡ slice_index (0 ∷ c.self.inside.ends.items) c.args.state = cc in
    let end : c.in-Some.end.now ≡ slice_index c.self.inside.ends.items c.args.state = search rules in
    omega (arith, begins, start, end)

pub slice_bounds-result-start : goal.slice_bounds-result-start
slice_bounds-result-start c =
    let there : c.args.state < length c.self.inside.ends.items = search rules in
    let begins = begins_within 0 c.self.inside.ends.items (length c.self.inside.targets.items) c.args.state
    c.self.invariant there in
    let start : c.start_of-start.result ≡ slice_index (0 ∷ c.self.inside.ends.items) c.args.state = cc in
    let end : c.in-Some.end.now ≡ slice_index c.self.inside.ends.items c.args.state = search rules in
    omega (arith, begins, start, end)

pub slice_bounds-result-end-2 : goal.slice_bounds-result-end-2
slice_bounds-result-end-2 c =
    let there : c.args.state < length c.self.inside.ends.items = search rules in
    let ends = ends_within 0 c.self.inside.ends.items (length c.self.inside.targets.items) c.args.state
    c.self.invariant there in
    let end : c.in-Some.end.now ≡ slice_index c.self.inside.ends.items c.args.state = search rules in
    omega (arith, ends, end, c.deref-2.ensures.len)

pub returns : goal.returns
returns c =
    let there : c.args.state < length c.self.inside.ends.items = search rules in
    let start : c.start_of-start.result ≡ slice_index (0 ∷ c.self.inside.ends.items) c.args.state = cc in
    let end : c.in-Some.end.now ≡ slice_index c.self.inside.ends.items c.args.state = search rules in
    let list = cut_at 0 c.self.inside.ends.items c.self.inside.targets.items c.args.state there in
    let lists = ap (λ lists. slice_index_or lists c.args.state []) c.self.view_is in
    rw (start, end, c.deref-2.ensures.value) (sym list ∙ lists)
