use Rattle.std.proofs.Common.{◌≡◌, true, nat_eq, refl, sym, ap, ◌∙◌}
use Rattle.std.specs.Prelude.{slice_get}
use Rattle.std.specs.Cmp.Lexicographic.{pointwise}
use Rattle.std.proofs.lemmas.Bool.Decides.{Decides-eqb}
use Rattle.std.proofs.lemmas.Slice.Eq.{slice_eq-Decides}
use Rattle.state_search.proofs.Searching.{placed}
use Rattle.state_search.proofs.finding.place_of.Goals as goal

pub returns-in-Ok-try_from : goal.returns-in-Ok-try_from
returns-in-Ok-try_from g c =
    let same : c.in-Ok-try_from.place ≡ c.in-Ok.place = c.in-Ok-try_from.ensures.1 in
    let stored = c.in-Ok.ensures.stored in
    placed _ (λ x y h. (slice_eq-Decides {E = nat_eq} Decides-eqb x y true (sym h)).0 refl) c.args.rows.now.keys c.args.row
    c.insert_full.new.self.keys c.in-Ok-try_from.place c.in-Ok.ensures.keys
    (stored.0, ap (slice_get c.insert_full.new.self.keys) same ∙ stored.1, stored.2) c.in-Ok.ensures.unique
    (λ x. (slice_eq-Decides {E = nat_eq} Decides-eqb x x (pointwise nat_eq x x) refl).1 refl)
