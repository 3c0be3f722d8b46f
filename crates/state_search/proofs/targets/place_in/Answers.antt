use Rattle.std.proofs.Common.{◌≡◌, Bool, true, false, not, nat_eq, Some, [], refl, sym, ap, ◌∙◌}
use Rattle.std.specs.Prelude.{slice_get, slice_index_or}
use Rattle.std.proofs.lemmas.Bool.Decides.{Decides-eqb}
use Rattle.std.proofs.lemmas.Slice.Eq.{slice_eq-Decides}
use Rattle.state_store.proofs.Lemmas.{found_at}
use Rattle.state_search.proofs.targets.place_in.Goals as goal

is_true : (b : Bool) → not b ≡ false → b ≡ true
is_true true e = refl
is_true false e = absurd (cc)

pub returns-in-Ok-clause-is : goal.returns-in-Ok-clause-is
returns-in-Ok-clause-is g c =
    let keys = c.args.rows.now.keys in
    let found = c.in_ok-found.found.now in
    let equal = is_true _ (sym c.ne.ensures ∙ c.if-ne.false) in
    let same : found ≡ c.args.row.now = (slice_eq-Decides {E = nat_eq} Decides-eqb found c.args.row.now true (sym equal)).0 refl in
    let there : slice_get keys c.in_ok-place.place ≡ Some found = sym c.in_ok-found.ensures.key in
    ap (λ i. slice_index_or keys i []) c.in-Ok.ensures.1 ∙ ((found_at keys c.in_ok-place.place found [] there).1 ∙ same)
