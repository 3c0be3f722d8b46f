use Rattle.std.proofs.Common.{leb, rules}
use Rattle.std.proofs.lemmas.List.Sorted.{IsPartitionPoint-from_clause, IsPartitionedBy-leb}
use Rattle.symbol_table.specs.declared.row.Symbol.{Symbol}
use Rattle.symbol_table.proofs.Nearest.{found_below, nearest_found}
use Rattle.symbol_table.proofs.table.nearest.Goals as goal

pub returns : goal.returns
returns c =
    let symbols = c.args.symbols.now in
    let address = c.args.address in
    let count = c.partition_point-count.result in
    let point = IsPartitionPoint-from_clause (λ (s : Symbol). leb s.address address) symbols count c.partition_point-count.ensures.partitioned
    (IsPartitionedBy-leb (λ (s : Symbol). s.address) symbols address c.requires) (λ a r q k. search rules) in record {
      row = nearest_found symbols address count point c.copied.result (search rules);
      below = found_below symbols address count point c.copied.result (search rules);
    }
