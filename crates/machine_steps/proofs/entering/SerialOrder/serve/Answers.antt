use Rattle.std.proofs.Common.{◌≡◌, ◌∙◌, ◌<◌, ◌+◌, ◌++◌, length, map, take, refl, sym, ap, subst, arith}
use Rattle.std.specs.Prelude.{slice_set}
use Rattle.std.proofs.lemmas.List.{append-nil, length-append, length-map, length-take-le, take_all}
use Rattle.flat_machine.specs.declared.poke.Entry.TheVariants as entry
use Rattle.machine_theory.specs.Theory as theory
use Rattle.machine_steps.specs.Ordering.{group_in, IsEntered}
use Rattle.machine_steps.proofs.Grouping.{group_at, group_counts, enters_served}
use Rattle.machine_steps.proofs.entering.SerialOrder.serve.Goals as goal

pub loop-p-init : goal.loop-p-init
loop-p-init c = record { groups = refl; entries = sym (append-nil c.args.self.now.entries.items); capacity = refl }

pub push_reserved-requires : goal.push_reserved-requires
push_reserved-requires c =
    let groups = c.args.self.now.groups.items in
    let old = c.args.self.now.entries.items in
    let there : c.from.result < length groups = omega (arith, c.from.ensures, c.ranges.leader.fits, c.requires.leaders) in
    let members = c.as_slice-p-items.result.now in
    let i = c.loop-p.p-index in
    let group : members ≡ group_in groups c.from.result =
    c.as_slice-p-items.ensures.value ∙ ap (λ v. v.items) c.replace-group.ensures.value
    ∙ group_at groups c.from.result c.index_mut.result.now there c.index_mut.ensures.value in
    let all : length members ≡ length (group_in groups c.from.result) = ap length group in
    let waiting = group_counts groups c.from.result in
    let inside = c.loop-p-test.true in
    let taken : length (take i members) ≡ i = length-take-le i members (omega (arith, inside)) in
    let so_far : length c.loop-p.self.entries.items ≡ length old + length (take i members) =
    ap length c.loop-p.invariant.entries ∙ length-append old (map entry.Processor (take i members))
    ∙ ap (λ n. length old + n) (length-map (take i members) entry.Processor) in
    let entries = c.loop-p.self.entries in
    let count : entries.len ≡ length entries.items = entries.ok.0 in
    let capacity = c.loop-p.invariant.capacity in
    let room = c.requires.room in
    omega (arith, all, waiting, inside, taken, so_far, count, capacity, room)

pub returns-clause-entered : goal.returns-clause-entered
returns-clause-entered c =
    let groups = c.args.self.now.groups.items in
    let old = c.args.self.now.entries.items in
    let there : c.from.result < length groups = omega (arith, c.from.ensures, c.ranges.leader.fits, c.requires.leaders) in
    let members = c.as_slice-p-items.result.now in
    let group : members ≡ group_in groups c.from.result =
    c.as_slice-p-items.ensures.value ∙ ap (λ v. v.items) c.replace-group.ensures.value
    ∙ group_at groups c.from.result c.index_mut.result.now there c.index_mut.ensures.value in
    let none = ap (λ v. v.items) c.replace-group.ensures.after ∙ c.new.ensures in
    let entries = c.loop-p.self.entries.items in
    let order : entries ≡ old ++ map entry.Processor (group_in groups c.from.result) =
    c.loop-p.invariant.entries ∙ ap (λ js. old ++ map entry.Processor js) (take_all c.loop-p.p-index members c.loop-p-test.false ∙ group) in
    subst (λ v. IsEntered groups old (theory.Served c.args.leader) v.items entries) (sym c.loop-p.invariant.groups)
    (subst (λ a. IsEntered groups old (theory.Served a) (slice_set groups c.from.result c.replace-group.new.dest) entries) c.from.ensures
    (enters_served groups old c.from.result c.replace-group.new.dest entries there none order))
