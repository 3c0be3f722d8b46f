-- The part that a text spells, by its words one after another.
use Rattle.std.proofs.Common.{◌≡◌, ℕ, List, [], ◌∷◌, Option, None, sym, ap, ◌∙◌}
use Rattle.symbol_table.specs.Rows.{SymbolRow}
use Rattle.state_conditions.specs.Texts.{any_part, comparison_of, part_in, status_subject, subject_of, words_of}

module _ (names : Option (List SymbolRow)) (n : ℕ) (text : List ℕ) where
  -- A text of no word spells no part.
  pub of_none : words_of text ≡ [] → None ≡ part_in names n (words_of text)
  of_none e = sym (ap (part_in names n) e)

  module _ (first rest : List ℕ) (one : words_of text ≡ first ∷ words_of rest) where
    -- Nor does one of one word.
    pub of_one : words_of rest ≡ [] → None ≡ part_in names n (words_of text)
    of_one e = sym (ap (part_in names n) (one ∙ ap (λ (ws : List (List ℕ)). first ∷ ws) e))

    module _ (second more : List ℕ) (two : words_of rest ≡ second ∷ words_of more) where
      so_far : words_of text ≡ first ∷ second ∷ words_of more
      so_far = one ∙ ap (λ (ws : List (List ℕ)). first ∷ ws) two

      -- A text of two words spells what these do.
      pub of_two : words_of more ≡ [] → any_part first second ≡ part_in names n (words_of text)
      of_two e = sym (ap (part_in names n) (so_far ∙ ap (λ (ws : List (List ℕ)). first ∷ second ∷ ws) e))

      module _ (third last : List ℕ) (three : words_of more ≡ third ∷ words_of last) where
        three_so_far : words_of text ≡ first ∷ second ∷ third ∷ words_of last
        three_so_far = so_far ∙ ap (λ (ws : List (List ℕ)). first ∷ second ∷ ws) three

        -- So does one of three words.
        pub of_three : words_of last ≡ [] → comparison_of (status_subject first) second third ≡ part_in names n (words_of text)
        of_three e = sym (ap (part_in names n) (three_so_far ∙ ap (λ (ws : List (List ℕ)). first ∷ second ∷ third ∷ ws) e))

        module _ (fourth end : List ℕ) (four : words_of last ≡ fourth ∷ words_of end) where
          four_so_far : words_of text ≡ first ∷ second ∷ third ∷ fourth ∷ words_of end
          four_so_far = three_so_far ∙ ap (λ (ws : List (List ℕ)). first ∷ second ∷ third ∷ ws) four

          -- So does one of four words.
          pub of_four : words_of end ≡ [] → comparison_of (subject_of names n first second) third fourth ≡ part_in names n (words_of text)
          of_four e = sym (ap (part_in names n) (four_so_far ∙ ap (λ (ws : List (List ℕ)). first ∷ second ∷ third ∷ fourth ∷ ws) e))

          -- One of more words spells no part.
          pub of_more : (fifth others : List ℕ) → words_of end ≡ fifth ∷ words_of others → None ≡ part_in names n (words_of text)
          of_more fifth others e =
              sym (ap (part_in names n) (four_so_far ∙ ap (λ (ws : List (List ℕ)). first ∷ second ∷ third ∷ fourth ∷ ws) e))
