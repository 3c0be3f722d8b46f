use Rattle.std.proofs.Common.{◌≡◌, None, ◌∷◌, List, ℕ, ap, ◌∙◌, refl}
use Rattle.std.proofs.lemmas.Result.{IfOk-weaker}
use Rattle.asm_lines.specs.Names.{mnemonic_of}
use Rattle.course_text.specs.Course.{statement_text}
use Rattle.course_text.specs.Forms.{form_text}
use Rattle.course_text.specs.Parts.{given}
use Rattle.course_text.specs.Table.{course_word}
use Rattle.course_text.specs.Views.{nows}
use Rattle.course_text.proofs.rewriting.statement_text.Goals as goal

no_word : (count : ℕ) (word rest : List ℕ) → None ≡ course_word word → form_text (mnemonic_of word) (word ∷ given rest) ≡ statement_text count word rest
unfolding statement_text
no_word count word rest none = rw (← none) refl

pub returns-in-None : goal.returns-in-None
returns-in-None c =
    let word = c.args.word.now in
    let words = ap nows c.deref.ensures.value ∙ c.in_ok-words.ensures in
    IfOk-weaker c.form_text.result _ _
    (λ text is. is ∙ ap (form_text (mnemonic_of word)) words ∙ no_word c.args.count word c.args.rest.now c.in-None.ensures) c.form_text.ensures
