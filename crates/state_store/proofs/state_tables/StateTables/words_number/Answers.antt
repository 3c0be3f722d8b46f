use Rattle.std.proofs.Common.{◌≡◌, true, nat_eq, [], refl, ap, ◌∙◌, sym}
use Rattle.std.specs.Prelude.{slice_index_or}
use Rattle.std.proofs.lemmas.Bool.Decides.{Decides-eqb}
use Rattle.std.proofs.lemmas.Slice.Eq.{slice_eq-Decides}
use Rattle.state_store.proofs.Listed.{found_at}
use Rattle.state_store.proofs.state_tables.StateTables.words_number.Goals as goal
use Rattle.state_store.proofs.state_tables.StateTables.words_number.Goals.{in-Ok-try_from, in-Err}

pub returns-clause-same : goal.returns-clause-same
returns-clause-same c =
    let stored = c.in-Ok.ensures.stored in
    let exact : c.args.words ≡ stored.0 = (slice_eq-Decides {E = nat_eq} Decides-eqb c.args.words stored.0 true (sym stored.2)).0 refl in
    let is = (found_at c.insert_full.new.self.keys c.in-Ok.number stored.0 [] stored.1).1 ∙ sym exact in
    elim c.match-try_from.branch [
      | in-Ok-try_from w ↦ rw w.result-is (ap (λ i. slice_index_or c.insert_full.new.self.keys i []) w.in-Ok-try_from.ensures.1 ∙ is)
      | in-Err w ↦ rw w.result-is tt
    ]
