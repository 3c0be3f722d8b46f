-- Faults of plain texts, as those of course texts.
use Rattle.std.proofs.Common.{◌≡◌, ◌≢◌, ℕ, ◌+◌, ◌<◌, ◌≤◌, false, List, [], ◌∷◌, ◌++◌, length, get_or, drop, map}
use Rattle.std.proofs.Common.{refl, sym, ap, ◌∙◌, append_assoc, append-nil}
use Rattle.std.proofs.Common.{add-one, drop-cons, eq-eqb}
use Rattle.std.specs.Prelude.{◌==◌}
use Rattle.std.proofs.lemmas.Bool.{ne_eqb}
use Rattle.std.proofs.lemmas.List.{map-append}
use Rattle.std.proofs.Math.ListN.{drop_of_length-le}
use Rattle.assembler.specs.declared.fault.AsmFault.{AsmFault}
use Rattle.assembler.specs.declared.fault.AsmFault.TheVariants.{UnknownWord, Form, Range, LabelTwice, LabelMissing, SectionFull, Memory}
use Rattle.assembler.specs.Meaning.{IsPresent}
use Rattle.asm_lines.specs.Text.{parts_at}
use Rattle.course_text.specs.Course.{plain_text, origins}
use Rattle.fault_lists.specs.declared.text_fault.TextFault.{TextFault}
use Rattle.asm_commands.specs.Courses.{Lines, lines_of, view_of, origin_in, course_fault, course_faults, fault_on, IsCourseRefusal}

-- ---- asm

-- A text is refused for a fault of its plain text, on the line of the course text.
pub refused : (text numbers : List ℕ) (line : ℕ) (f : AsmFault) → numbers ≡ origins text
    → (f ≢ Memory → IsPresent (plain_text text) (record { line = line; fault = f }))
    → IsCourseRefusal text (fault_on numbers (record { line = line; fault = f }))
refused text numbers line Memory same present = tt
refused text numbers line UnknownWord same present = (record { line = line; fault = UnknownWord }, present (λ e. cc), (λ e. cc), rw same refl)
refused text numbers line Form same present = (record { line = line; fault = Form }, present (λ e. cc), (λ e. cc), rw same refl)
refused text numbers line Range same present = (record { line = line; fault = Range }, present (λ e. cc), (λ e. cc), rw same refl)
refused text numbers line LabelTwice same present = (record { line = line; fault = LabelTwice }, present (λ e. cc), (λ e. cc), rw same refl)
refused text numbers line LabelMissing same present = (record { line = line; fault = LabelMissing }, present (λ e. cc), (λ e. cc), rw same refl)
refused text numbers line SectionFull same present = (record { line = line; fault = SectionFull }, present (λ e. cc), (λ e. cc), rw same refl)

-- ---- check

next_fault : (faults : List TextFault) (i : ℕ) (d : TextFault) → i < length faults → drop i faults ≡ get_or faults i d ∷ drop (i + 1) faults
next_fault faults i d lt = rw (add-one) (drop-cons faults i d lt)

-- The faults listed so far and those of the plain faults that are left are all, also after a fault of the line listed last.
pub skipped : (ls : Lines) (faults : List TextFault) (i : ℕ) (d : TextFault) (number last : ℕ) (listed : List TextFault) → i < length faults
    → number ≡ origin_in ls.origins (get_or faults i d).line → number ≡ last
    → map view_of listed ++ course_faults ls last (drop i faults) ≡ course_faults ls 0 faults
    → map view_of listed ++ course_faults ls last (drop (i + 1) faults) ≡ course_faults ls 0 faults
skipped ls faults i d number last listed lt is same so_far =
    let t = get_or faults i d in
    let again : course_faults ls last (t ∷ drop (i + 1) faults) ≡ course_faults ls last (drop (i + 1) faults) =
    rw (eq-eqb (origin_in ls.origins t.line) last (sym is ∙ same)) refl in
    ap (λ xs. map view_of listed ++ xs) (sym again ∙ sym (ap (course_faults ls last) (next_fault faults i d lt))) ∙ so_far

listed : (ls : Lines) (t : TextFault) (last : ℕ) (ts : List TextFault) → (origin_in ls.origins t.line == last) ≡ false
    → course_faults ls last (t ∷ ts) ≡ course_fault ls t ∷ course_faults ls (origin_in ls.origins t.line) ts
listed ls t last ts other = rw other refl

-- The same after a fault of another line, which is listed.
pub listed_more : (ls : Lines) (faults : List TextFault) (i : ℕ) (d : TextFault) (number last : ℕ) (t : TextFault) (before new : List TextFault) →
    i < length faults
    → number ≡ origin_in ls.origins (get_or faults i d).line → number ≢ last → view_of t ≡ course_fault ls (get_or faults i d) → new ≡ before ++ t ∷ []
    → map view_of before ++ course_faults ls last (drop i faults) ≡ course_faults ls 0 faults
    → map view_of new ++ course_faults ls number (drop (i + 1) faults) ≡ course_faults ls 0 faults
listed_more ls faults i d number last t before new lt is other view is_new so_far =
    let u = get_or faults i d in
    let rest = course_faults ls number (drop (i + 1) faults) in
    let here : course_faults ls last (u ∷ drop (i + 1) faults) ≡ view_of t ∷ rest =
    listed ls u last (drop (i + 1) faults) (ne_eqb (origin_in ls.origins u.line) last (λ e. other (is ∙ e)))
    ∙ ap (λ v. v ∷ course_faults ls (origin_in ls.origins u.line) (drop (i + 1) faults)) (sym view)
    ∙ ap (λ (n : ℕ). view_of t ∷ course_faults ls n (drop (i + 1) faults)) (sym is) in
    ap (λ xs. map view_of xs ++ rest) is_new ∙ ap (λ xs. xs ++ rest) (map-append view_of before (t ∷ []))
    ∙ append_assoc (map view_of before) (view_of t ∷ []) rest
    ∙ ap (λ xs. map view_of before ++ xs) (sym here ∙ sym (ap (course_faults ls last) (next_fault faults i d lt))) ∙ so_far

-- At the end all are listed.
pub listed_all : (ls : Lines) (faults : List TextFault) (i : ℕ) (last : ℕ) (listed : List TextFault) → length faults ≤ i
    → map view_of listed ++ course_faults ls last (drop i faults) ≡ course_faults ls 0 faults → map view_of listed ≡ course_faults ls 0 faults
listed_all ls faults i last listed le so_far =
    sym (append-nil (map view_of listed)) ∙ sym (ap (λ xs. map view_of listed ++ course_faults ls last xs) (drop_of_length-le faults le)) ∙ so_far

-- The faults of the lines of a course text and of its plain text.
pub listed_of : (text : List ℕ) (ls : Lines) (faults : List TextFault) → ls.course ≡ parts_at 10 text → ls.plain ≡ parts_at 10 (plain_text text)
    → ls.origins ≡ origins text → course_faults ls 0 faults ≡ course_faults (lines_of text) 0 faults
listed_of text ls faults course plain numbers =
    let make = λ (c p : List (List ℕ)) (n : List ℕ). let made : Lines = record { course = c; plain = p; origins = n } in course_faults made 0 faults in
    ap (λ (c : List (List ℕ)). make c ls.plain ls.origins) course
    ∙ ap (λ (p : List (List ℕ)). make (parts_at 10 text) p ls.origins) plain
    ∙ ap (make (parts_at 10 text) (parts_at 10 (plain_text text))) numbers
