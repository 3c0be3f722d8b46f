-- What words say by their number.
use Rattle.std.proofs.Common.{◌≡◌, ◌∙◌, ℕ, ◌<◌, ◌≤◌, Bor, List, [], ◌∷◌, length, get_or, map, None, Some, Err, Result, true, refl, sym, arith}
use Rattle.std.specs.Prelude.{codes}
use Rattle.std.specs.Str.{bytes_eq}
use Rattle.flat_machine.specs.declared.config.Config.{Config}
use Rattle.trace_file.specs.Traces.{TraceContents}
use Rattle.trace_text.specs.declared.fault.TextFault.{TextFault}
use Rattle.trace_text.specs.declared.fault.TextFault.TheVariants as fault
use Rattle.trace_text.specs.Steps.{said_after, sizes_in, sizes_of}

-- More than nine words are no sizes.
pub no_sizes : (words : List (List ℕ)) → 9 < length words → said_after None words ≡ Err fault.Sizes
no_sizes [] h = absurd (omega arith)
no_sizes (a ∷ []) h = absurd (omega arith)
no_sizes (a ∷ b ∷ []) h = absurd (omega arith)
no_sizes (a ∷ b ∷ c ∷ []) h = absurd (omega arith)
no_sizes (a ∷ b ∷ c ∷ d ∷ []) h = absurd (omega arith)
no_sizes (a ∷ b ∷ c ∷ d ∷ e ∷ []) h = absurd (omega arith)
no_sizes (a ∷ b ∷ c ∷ d ∷ e ∷ f ∷ []) h = absurd (omega arith)
no_sizes (a ∷ b ∷ c ∷ d ∷ e ∷ f ∷ g ∷ []) h = absurd (omega arith)
no_sizes (a ∷ b ∷ c ∷ d ∷ e ∷ f ∷ g ∷ i ∷ []) h = absurd (omega arith)
no_sizes (a ∷ b ∷ c ∷ d ∷ e ∷ f ∷ g ∷ i ∷ j ∷ []) h = absurd (omega arith)
no_sizes (a ∷ b ∷ c ∷ d ∷ e ∷ f ∷ g ∷ i ∷ j ∷ k ∷ words) h = refl

-- More than nine words are no step.
pub no_step : (t : TraceContents) (words : List (List ℕ)) → 9 < length words → said_after (Some t) words ≡ Err fault.Form
no_step t [] h = absurd (omega arith)
no_step t (a ∷ []) h = absurd (omega arith)
no_step t (a ∷ b ∷ []) h = absurd (omega arith)
no_step t (a ∷ b ∷ c ∷ []) h = absurd (omega arith)
no_step t (a ∷ b ∷ c ∷ d ∷ []) h = absurd (omega arith)
no_step t (a ∷ b ∷ c ∷ d ∷ e ∷ words) h = refl

-- Nine words of which the first is `machine` say the sizes that the others say.
pub nine_words : (words : List (Bor (List ℕ))) (d : Bor (List ℕ)) (r : Result Config TextFault)
    → r ≡ sizes_in (get_or words 1 d).now (get_or words 2 d).now (get_or words 3 d).now (get_or words 4 d).now (get_or words 5 d).now
    (get_or words 6 d).now (get_or words 7 d).now (get_or words 8 d).now
    → 9 ≤ length words → length words < 10 → bytes_eq (get_or words 0 d).now (codes "machine") ≡ true
    → r ≡ sizes_of (map (λ (word : Bor (List ℕ)). word.now) words)
nine_words [] d r is low high named = absurd (omega arith)
nine_words (a ∷ []) d r is low high named = absurd (omega arith)
nine_words (a ∷ b ∷ []) d r is low high named = absurd (omega arith)
nine_words (a ∷ b ∷ c ∷ []) d r is low high named = absurd (omega arith)
nine_words (a ∷ b ∷ c ∷ e ∷ []) d r is low high named = absurd (omega arith)
nine_words (a ∷ b ∷ c ∷ e ∷ f ∷ []) d r is low high named = absurd (omega arith)
nine_words (a ∷ b ∷ c ∷ e ∷ f ∷ g ∷ []) d r is low high named = absurd (omega arith)
nine_words (a ∷ b ∷ c ∷ e ∷ f ∷ g ∷ i ∷ []) d r is low high named = absurd (omega arith)
nine_words (a ∷ b ∷ c ∷ e ∷ f ∷ g ∷ i ∷ j ∷ []) d r is low high named = absurd (omega arith)
nine_words (a ∷ b ∷ c ∷ e ∷ f ∷ g ∷ i ∷ j ∷ k ∷ []) d r is low high named = is ∙ sym (rw named refl)
nine_words (a ∷ b ∷ c ∷ e ∷ f ∷ g ∷ i ∷ j ∷ k ∷ l ∷ words) d r is low high named = absurd (omega arith)
