use Rattle.std.proofs.Common.{rules}
use Rattle.std.proofs.lemmas.List.Sorted.{IsNonDecreasingBy-from_sort_by_key, answers_always}
use Rattle.asm_commands.specs.declared.text_label.TextLabel.{TextLabel}
use Rattle.asm_commands.proofs.SymbolMaps.{stable_at}
use Rattle.asm_commands.proofs.symbols.by_address.Goals as goal

pub returns-clause-order : goal.returns-clause-order
returns-clause-order c =
    IsNonDecreasingBy-from_sort_by_key (λ (l : TextLabel). l.address) _ c.in_ok-sort_by_key.ensures.sorted (λ a r q k. search rules)

pub returns-clause-same : goal.returns-clause-same
returns-clause-same c =
    stable_at c.args.labels.items c.sort_by_key.new.self.items
    (c.sort_by_key.ensures.stable (λ (l : TextLabel). l.address) (answers_always _ _ _ (λ f a r g h. search rules)))
