use Rattle.std.proofs.Common.{rules}
use Rattle.std.proofs.lemmas.List.Sorted.{IsNonDecreasingBy-from_sort_by_key, answers_always}
use Rattle.symbol_table.specs.declared.row.Symbol.{Symbol}
use Rattle.symbol_table.proofs.Sorting.{sorted_rows}
use Rattle.symbol_table.proofs.table.by_address.Goals as goal

pub returns-clause-order : goal.returns-clause-order
returns-clause-order c =
    IsNonDecreasingBy-from_sort_by_key (λ (s : Symbol). s.address) _ c.in_ok-sort_by_key.ensures.sorted (λ a r q k. search rules)

pub returns-clause-rows : goal.returns-clause-rows
returns-clause-rows c =
    sorted_rows c.args.symbols.items c.sort_by_key.new.self.items (returns-clause-order c)
    (c.sort_by_key.ensures.stable (λ (s : Symbol). s.address) (answers_always _ _ _ (λ f a r g h. search rules)))
