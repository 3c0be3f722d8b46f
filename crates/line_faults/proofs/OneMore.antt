-- One more label, even if the name was there before.
use Rattle.std.proofs.Common.{◌≡◌, ℕ, List, Option, Some, None, BTreeMap, Bor, ap, refl, ◌∙◌, cond}
use Rattle.std.specs.BTreeMap.{UpdatesBy, get_by}
use Rattle.std.specs.Map.{update}
use Rattle.std.specs.Option.{option_map, option_or}
use Rattle.std.specs.Str.{bytes_eq}
use Rattle.std.specs.Cmp.Lexicographic.{slice_cmp}
use Rattle.std.specs.Ordering.{nat_cmp}
use Rattle.std.proofs.lemmas.Map.Text.{btree_map_updates_str}
use Rattle.std.proofs.lemmas.Slice.Eq.{bytes_eq-Decides}
use Rattle.std.specs.Prelude.{Bool, true, false, unwrap_or}
use Rattle.asm_lines.specs.declared.statement.Section.{Section}
use Rattle.assembler.specs.Meaning.{Labels, Place, labelled, address}
use Rattle.line_faults.specs.declared.labels.Label.{Label}
use Rattle.line_faults.specs.Places.{first_lines_in, label_values, lines_after, symbol_of}

pub one_more : (name : List ℕ) (m n : BTreeMap (Bor (List ℕ)) Label) (l : Label) →
    UpdatesBy (λ (x y : Bor (List ℕ)). slice_cmp nat_cmp x.now y.now) (λ (k : Bor (List ℕ)). slice_cmp nat_cmp name k.now) m n (Some l)
    → label_values n ≡ update bytes_eq (label_values m) name (Some (symbol_of l))
one_more name m n l updates = λ i q.
    (ap (option_map symbol_of) (btree_map_updates_str name m n (Some l) updates q)
    ∙ mapped (get_by (λ (k : Bor (List ℕ)). slice_cmp nat_cmp q k.now) m) (bytes_eq name q)) i
  where
    mapped : (old : Option Label) (b : Bool) → option_map symbol_of (cond b (Some l) old) ≡ cond b (Some (symbol_of l)) (option_map symbol_of old)
    mapped old true = refl
    mapped old false = refl

-- After a label is put into the map with the next address of its section, the place is the one after the label.
pub label_added : (s : Section) (code local shared v line : ℕ) (name : List ℕ) (m n : BTreeMap (Bor (List ℕ)) Label)
    → UpdatesBy (λ (x y : Bor (List ℕ)). slice_cmp nat_cmp x.now y.now) (λ (k : Bor (List ℕ)). slice_cmp nat_cmp name k.now) m n
    (Some (record { section = s; address = v; line = line }))
    → v ≡ address (record { section = s; code = code; local = local; shared = shared; labels = label_values m })
    → ◌≡◌ {A = Place} (record { section = s; code = code; local = local; shared = shared; labels = label_values n })
    (labelled (Some name) (record { section = s; code = code; local = local; shared = shared; labels = label_values m }))
label_added s code local shared v line name m n updates is_v =
    let other = λ (ls : Labels). let p : Place = record { section = s; code = code; local = local; shared = shared; labels = ls } in p in
    ap other (one_more name m n (record { section = s; address = v; line = line }) updates)
    ∙ ap (λ (w : ℕ). other (update bytes_eq (label_values m) name (Some (record { section = s; address = w })))) is_v

-- After a label is put into the map with the line that it has there already, or else this one, the first lines are those after a line with the label.
pub line_added : (name : List ℕ) (number : ℕ) (m n : BTreeMap (Bor (List ℕ)) Label) (l : Label) →
    UpdatesBy (λ (x y : Bor (List ℕ)). slice_cmp nat_cmp x.now y.now) (λ (k : Bor (List ℕ)). slice_cmp nat_cmp name k.now) m n (Some l)
    → l.line ≡ unwrap_or (first_lines_in m name) number → first_lines_in n ≡ lines_after (first_lines_in m) (Some name) number
line_added name number m n l updates line = λ i q.
    (ap (option_map (λ (x : Label). x.line)) (btree_map_updates_str name m n (Some l) updates q)
    ∙ mapped (get_by (λ (k : Bor (List ℕ)). slice_cmp nat_cmp q k.now) m) (bytes_eq name q)
    ∙ either q (bytes_eq name q) (bytes_eq-Decides name q).0) i
  where
    mapped : (old : Option Label) (b : Bool)
        → option_map (λ (x : Label). x.line) (cond b (Some l) old) ≡ cond b (Some l.line) (option_map (λ (x : Label). x.line) old)
    mapped old true = refl
    mapped old false = refl

    kept : (old : Option ℕ) → Some (unwrap_or old number) ≡ option_or old (Some number)
    kept None = refl
    kept (Some first) = refl

    same : (old : Option ℕ) → old ≡ option_or old None
    same None = refl
    same (Some first) = refl

    either : (q : List ℕ) (b : Bool) → (b ≡ true → name ≡ q)
        → cond b (Some l.line) (first_lines_in m q) ≡ option_or (first_lines_in m q) (cond b (Some number) None)
    either q true is = ap Some (line ∙ ap (λ x. unwrap_or (first_lines_in m x) number) (is refl)) ∙ kept (first_lines_in m q)
    either q false is = same (first_lines_in m q)
