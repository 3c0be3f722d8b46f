use Rattle.std.proofs.Common.{ltb, arith, rules}
use Rattle.std.proofs.lemmas.Bool.{ltb-true, ltb-false}
use Rattle.std.proofs.lemmas.List.Sorted.{IsPartitionPoint-from_clause, IsPartitionedBy-ltb}
use Rattle.state_store.specs.declared.sparse_words.NonzeroWord.{NonzeroWord}
use Rattle.state_store.proofs.WordLists.{dropped_within, places_rise, taken_within}
use Rattle.state_store.proofs.sparse_words.first_from.Goals as goal

pub returns-clause-before : goal.returns-clause-before
returns-clause-before c = λ to l h.
    let parted = IsPartitionedBy-ltb (λ (w : NonzeroWord). w.place) c.args.nonzero.now c.args.place (places_rise 0 to c.args.nonzero.now h) in
    let point = IsPartitionPoint-from_clause (λ (w : NonzeroWord). ltb w.place c.args.place) _ _ c.partition_point.ensures.partitioned parted
    (λ a r q k. search rules) in
    taken_within 0 to c.args.place c.partition_point.result c.args.nonzero.now h (omega arith)
    (λ k d low there. ltb-true _ _ (point.0 k d (omega arith) low))

pub returns-clause-rest : goal.returns-clause-rest
returns-clause-rest c = λ to l h.
    let parted = IsPartitionedBy-ltb (λ (w : NonzeroWord). w.place) c.args.nonzero.now c.args.place (places_rise 0 to c.args.nonzero.now h) in
    let point = IsPartitionPoint-from_clause (λ (w : NonzeroWord). ltb w.place c.args.place) _ _ c.partition_point.ensures.partitioned parted
    (λ a r q k. search rules) in
    dropped_within 0 to c.args.place c.partition_point.result c.args.nonzero.now h l
    (λ k d past there. ltb-false _ _ (point.1 k d past there))
