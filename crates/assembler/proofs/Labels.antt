-- One more label.
use Rattle.std.proofs.Common.{◌≡◌, ℕ, List, Option, Some, BTreeMap, Bor, ap, ◌∙◌}
use Rattle.std.specs.BTreeMap.{UpdatesBy}
use Rattle.std.specs.Map.{update}
use Rattle.std.specs.Str.{bytes_eq}
use Rattle.std.specs.Cmp.Lexicographic.{slice_cmp}
use Rattle.std.specs.Ordering.{nat_cmp}
use Rattle.std.proofs.lemmas.Map.Text.{btree_map_updates_str}
use Rattle.asm_lines.specs.declared.statement.Section.{Section}
use Rattle.assembler.specs.declared.symbol.Symbol.{Symbol}
use Rattle.assembler.specs.Meaning.{Labels, Place, labelled, address}
use Rattle.assembler.specs.Passes.{label_values}

-- The labels of a map updated at a name are those of the old map, updated at that name.
pub one_more : (name : List ℕ) (m n : BTreeMap (Bor (List ℕ)) Symbol) (w : Option Symbol) →
    UpdatesBy (λ (x y : Bor (List ℕ)). slice_cmp nat_cmp x.now y.now) (λ (k : Bor (List ℕ)). slice_cmp nat_cmp name k.now) m n w
    → label_values n ≡ update bytes_eq (label_values m) name w
one_more name m n w updates = λ i q. btree_map_updates_str name m n w updates q i

-- Adding a name with the place's own section and address to the map gives the place after this label.
pub label_added : (s : Section) (code local shared v : ℕ) (name : List ℕ) (m n : BTreeMap (Bor (List ℕ)) Symbol)
    → UpdatesBy (λ (x y : Bor (List ℕ)). slice_cmp nat_cmp x.now y.now) (λ (k : Bor (List ℕ)). slice_cmp nat_cmp name k.now) m n
    (Some (record { section = s; address = v }))
    → v ≡ address (record { section = s; code = code; local = local; shared = shared; labels = label_values m })
    → ◌≡◌ {A = Place} (record { section = s; code = code; local = local; shared = shared; labels = label_values n })
    (labelled (Some name) (record { section = s; code = code; local = local; shared = shared; labels = label_values m }))
label_added s code local shared v name m n updates is_v =
    let other = λ (ls : Labels). let p : Place = record { section = s; code = code; local = local; shared = shared; labels = ls } in p in
    ap other (one_more name m n (Some (record { section = s; address = v })) updates)
    ∙ ap (λ (w : ℕ). other (update bytes_eq (label_values m) name (Some (record { section = s; address = w })))) is_v
