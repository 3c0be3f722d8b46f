-- The sizes of the groups at a module, and the powers of 2 of latencies, one after another.
use Rattle.std.proofs.Common.{◌≡◌, ℕ, suc, ◌+◌, ◌*◌, List, ◌++◌, ap, ◌∙◌, append_assoc, arith}
use Rattle.std.specs.Prelude.{count_by, slice_index, ◌^◌}
use Rattle.run_counts.specs.LatencyLines.{is_of_power, powers_text}
use Rattle.run_counts.specs.Lines.{size_text, sizes_text}

-- The text of the smaller sizes, followed by that of one size, is the text of all sizes up to this one.
pub sizes_more : (old groups : List ℕ) (m size count : ℕ) (text text2 : List ℕ) → text ≡ old ++ sizes_text groups m size →
    text2 ≡ text ++ size_text size count → count ≡ slice_index groups (m * 65 + size) → text2 ≡ old ++ sizes_text groups m (size + 1)
unfolding sizes_text
sizes_more old groups m size count text text2 before after is =
    let next : suc size ≡ size + 1 = omega arith in
    after
    ∙ ap (λ xs. xs ++ size_text size count) before
    ∙ append_assoc old (sizes_text groups m size) (size_text size count)
    ∙ ap (λ n. old ++ (sizes_text groups m size ++ size_text size n)) is
    ∙ ap (λ n. old ++ sizes_text groups m n) next

-- The text of the smaller powers, followed by that of one power, is the text of all powers up to this one.
pub powers_more : (old xs : List ℕ) (p count : ℕ) (text text2 : List ℕ) → text ≡ old ++ powers_text xs p →
    text2 ≡ text ++ size_text (2 ^ p) count → count ≡ count_by (is_of_power p) xs → text2 ≡ old ++ powers_text xs (p + 1)
unfolding powers_text
powers_more old xs p count text text2 before after is =
    let next : suc p ≡ p + 1 = omega arith in
    after
    ∙ ap (λ ys. ys ++ size_text (2 ^ p) count) before
    ∙ append_assoc old (powers_text xs p) (size_text (2 ^ p) count)
    ∙ ap (λ n. old ++ (powers_text xs p ++ size_text (2 ^ p) n)) is
    ∙ ap (λ n. old ++ powers_text xs n) next
