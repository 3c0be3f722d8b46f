-- A text is read line by line.
use Rattle.std.proofs.Common.{◌≡◌, ℕ, ◌+◌, List, ◌∷◌, Ok, Err, Result, refl, ap, subst, ◌∙◌, sym}
use Rattle.std.specs.Prelude.{Option, IfErr, IsErrAnd}
use Rattle.asm_lines.specs.Text.{parts_at}
use Rattle.trace_file.specs.Traces.{TraceContents}
use Rattle.trace_text.specs.declared.fault.Mistake.{Mistake}
use Rattle.trace_text.specs.declared.fault.TextError.{TextError}
use Rattle.trace_text.specs.declared.fault.TextError.TheVariants.{Mistake as WithMistake, Memory}
use Rattle.trace_text.specs.Lines.{IsMistakeOrMemory}
use Rattle.trace_text.specs.Words.{words_of, ◌>>=◌}
use Rattle.trace_text.specs.Steps.{at_line, said_after, said_from}

-- If a line is read, the lines after it are read after what is said then.
pub next_said : (count : ℕ) (said next : Option TraceContents) (text line : List ℕ) (lines : List (List ℕ)) → parts_at 10 text ≡ line ∷ lines
    → at_line (count + 1) (said_after said (words_of line)) ≡ Ok next → said_from count said (parts_at 10 text) ≡ said_from (count + 1) next lines
next_said count said next text line lines cut e = ap (said_from count said) cut ∙ rw e refl

refused : {A : Type 0} (r : Result A Mistake) (f : A → Result TraceContents Mistake) (e : TextError) → IsMistakeOrMemory r e → IsMistakeOrMemory (r >>= f) e
refused r f (WithMistake m) h = rw h refl
refused r f Memory h = tt

-- If a line is refused, so are the lines from it on.
pub line_refused : (count : ℕ) (said : Option TraceContents) (text line : List ℕ) (lines : List (List ℕ)) (all : Result TraceContents Mistake)
    (e : TextError) → parts_at 10 text ≡ line ∷ lines → all ≡ said_from count said (parts_at 10 text)
    → IsMistakeOrMemory (at_line (count + 1) (said_after said (words_of line))) e → IsMistakeOrMemory all e
line_refused count said text line lines all e cut is h =
    rw (is, cut) (refused (at_line (count + 1) (said_after said (words_of line))) (λ next. said_from (count + 1) next lines) e h)

-- If a result is an error, what holds of that error holds of its error.
pub if_err : {T E : Type 0} (r : Result T E) (e : E) (P : E → Type 0) → IsErrAnd r (λ x. x ≡ e) → P e → IfErr r P
if_err (Ok x) e P h p = tt
if_err (Err x) e P h p = subst P (sym h) p
