-- Reading one more program header.
use Rattle.std.proofs.Common.{◌≡◌, ℕ, ◌+◌, Bool, true, false, cond, List, [], ◌∷◌, ◌++◌, map, sym, ap, ◌∙◌, arith, append-nil}
use Rattle.std.specs.List.{range_with_len, filter}
use Rattle.std.proofs.lemmas.List.FromFn.{filter_of_map_range_with_len_more}
use Rattle.elf_image.specs.declared.segment.ProgramHeader.{ProgramHeader}
use Rattle.elf_image.specs.Headers.{is_load}

module _ (f : ℕ → ProgramHeader) (n : ℕ) (old new : List ProgramHeader) (entry : ProgramHeader) (before : old ≡ filter is_load (map f (range_with_len 0 n)))
    (is : entry ≡ f n) where
  more : (b : Bool) → is_load entry ≡ b → filter is_load (map f (range_with_len 0 (n + 1))) ≡ old ++ cond b (entry ∷ []) []
  more b e =
      filter_of_map_range_with_len_more is_load f 0 n n (omega arith)
      ∙ ap (λ x. filter is_load (map f (range_with_len 0 n)) ++ cond (is_load x) (x ∷ []) []) (sym is)
      ∙ ap (λ t. filter is_load (map f (range_with_len 0 n)) ++ cond t (entry ∷ []) []) e
      ∙ ap (λ xs. xs ++ cond b (entry ∷ []) []) (sym before)

  -- If the header is that of a segment, it is added to the segments.
  pub load_more : is_load entry ≡ true → new ≡ old ++ entry ∷ [] → new ≡ filter is_load (map f (range_with_len 0 (n + 1)))
  load_more test grown = grown ∙ sym (more true test)

  -- If the header is not that of a segment, the segments stay the same.
  pub load_same : is_load entry ≡ false → new ≡ old → new ≡ filter is_load (map f (range_with_len 0 (n + 1)))
  load_same test same = same ∙ sym (append-nil old) ∙ sym (more false test)
