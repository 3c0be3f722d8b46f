use Rattle.std.proofs.Common.{◌≡◌, ℕ, ◌+◌, Option, Some, None, length, true, rules, sym, subst, ◌∙◌}
use Rattle.std.specs.Prelude.{IfSome, is_some}
use Rattle.state_search.specs.Search.{Expanded, IsLike}
use Rattle.state_store.specs.Moves.{IsNext}
use Rattle.state_store.specs.StateTables.{means}
use Rattle.state_store.proofs.Lemmas.{kept_all}
use Rattle.state_search.proofs.RowExchanges.{next_ordered}
use Rattle.state_search.proofs.Searching.{stood, copied_on, went}
use Rattle.state_search.proofs.finding.add_successor.Goals as goal

-- An option that is not None has a value with the property.
some_there : (P : ℕ → Type 0) (o : Option ℕ) → is_some o ≡ true → IfSome o P → (q : ℕ) × P q
some_there P None there h = absurd (cc)
some_there P (Some q) there h = (q, h)

pub returns-then-is_some-clause-expanded : goal.returns-then-is_some-clause-expanded
returns-then-is_some-clause-expanded g c =
    let t = c.args.state_tables.now in
    let like = some_there (IsLike c.args.row.now c.args.classes.now c.args.p) c.like_it.result
    (sym c.is_some.ensures ∙ c.if-is_some.true) c.like_it.ensures in
    λ first moves at is h.
    copied_on c.args.extent c.args.code.now c.args.classes.now t t (kept_all t) c.args.rows.now.keys moves first
    c.args.successors.now.items at c.args.p c.args.row.now h is like.0 like.1.before like.1.alike like.1.same c.requires.there

pub returns-in_default-clause-expanded : goal.returns-in_default-clause-expanded
returns-in_default-clause-expanded g c =
    let none = subst (IsNext c.args.extent c.args.code.now c.args.classes.now c.next.new.self
    (means c.args.extent c.args.state_tables.now c.args.row.now) c.args.p) c.in_default.is c.in_ok-next.ensures.next in
    λ first moves at is h.
    stood c.args.extent c.args.code.now c.args.classes.now c.args.state_tables.now c.next.new.self c.in_ok-next.ensures.kept
    c.args.rows.now.keys moves first c.args.successors.now.items at c.args.p c.args.row.now h is none

pub returns-clause-expanded : goal.returns-clause-expanded
returns-clause-expanded g c =
    let u = c.next.new.self in
    let s = means c.args.extent c.args.state_tables.now c.args.row.now in
    let moved = subst (IsNext c.args.extent c.args.code.now c.args.classes.now u s c.args.p) c.in-Some.is c.in_ok-next.ensures.next in
    λ first moves at is h.
    subst (λ vs. Expanded c.args.extent c.args.code.now c.args.classes.now u c.place_of.new.rows.keys moves first vs at (c.args.p + 1))
    (sym c.in-Ok.ensures.items)
    (went c.args.extent c.args.code.now c.args.classes.now c.args.state_tables.now u c.in_ok-next.ensures.kept
    c.args.rows.now.keys moves first c.args.successors.now.items at c.args.p c.args.row.now h is
    c.ordered_from.result c.place_of.new.rows.keys c.in_ok-place.place
    (next_ordered c.args.extent c.args.code.now c.args.classes.now u s c.args.p c.requires.classes c.in-Some.next
    c.ordered_from.result moved c.ordered_from.ensures)
    c.in_ok-place.ensures
    (let one : length c.ordered_from.result ≡ g.row.N = search rules in
    let other : length c.args.row.now ≡ g.row.N = search rules in one ∙ sym other))
