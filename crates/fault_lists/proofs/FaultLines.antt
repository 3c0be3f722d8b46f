-- The lines of the faults before one, followed by its own, are those of all faults up to it.
use Rattle.std.proofs.Common.{◌≡◌, ℕ, ◌+◌, ◌<◌, ◌≤◌, List, [], ◌∷◌, ◌++◌, length, get_or, take, sym, ap, ◌∙◌, append-nil}
use Rattle.std.specs.List.{flat_map}
use Rattle.std.proofs.lemmas.List.{take_all, take_more}
use Rattle.std.proofs.lemmas.Grind.{flat_map-append}
use Rattle.fault_lists.specs.declared.text_fault.TextFault.{TextFault}
use Rattle.fault_lists.specs.Lines.{IsList, count_line, fault_line}

-- If the line of the next fault follows those of the first i faults, these are the lines of the first i + 1.
pub more_printed : (faults : List TextFault) (i : ℕ) (d : TextFault) (old new : List ℕ) → i < length faults
    → old ≡ flat_map fault_line (take i faults) → new ≡ old ++ fault_line (get_or faults i d) → new ≡ flat_map fault_line (take (i + 1) faults)
more_printed faults i d old new lt before is_new =
    let line = fault_line (get_or faults i d) in
    is_new ∙ ap (λ xs. xs ++ line) before
    ∙ sym (
    ap (flat_map fault_line) (take_more faults i d lt) ∙ flat_map-append fault_line (take i faults) (get_or faults i d ∷ [])
    ∙ ap (λ xs. flat_map fault_line (take i faults) ++ xs) (append-nil line)
    )

-- If the lines of all faults are there, followed by the line that counts them, the text is their list.
pub all_printed : (faults : List TextFault) (i : ℕ) (before text : List ℕ) → length faults ≤ i → before ≡ flat_map fault_line (take i faults)
    → text ≡ before ++ count_line (length faults) → IsList faults text
all_printed faults i before text le so_far behind =
    behind ∙ ap (λ xs. xs ++ count_line (length faults)) (so_far ∙ ap (flat_map fault_line) (take_all i faults le))
