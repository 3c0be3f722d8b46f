use Rattle.std.proofs.Common.{◌+◌, ◌∙◌, refl, sym, ap, subst, arith, string_bytes}
use Rattle.std.specs.Prelude.{string_eq}
use Rattle.indexmap.proofs.CallerLemmas.{insert_entry-new}
use Rattle.hunt_command.specs.Findings.{FindingsState, found_in, noted}
use Rattle.hunt_command.proofs.Noting.{NoneOver, entry_in, few_here, few_new, few_there, first_of, new_in, none_of, printed_in}
use Rattle.hunt_command.proofs.Noting.{noted_absent, noted_present, runs_in, set_in, text_in}
use Rattle.hunt_command.proofs.findings.Findings.add.Goals as goal

pub invariant_of-self-in_default : goal.invariant_of-self-in_default
invariant_of-self-in_default c =
    let es = c.self.inside.found.entries in
    let more = c.in_ok-insert.ensures.entries ∙ insert_entry-new _ c.self.inside.found c.args.text _ (none_of _ c.in_default.ensures.found) in
    subst (NoneOver (c.self.inside.noted + 1))
    (sym (ap (found_in text_in printed_in runs_in first_of) more ∙ new_in text_in printed_in runs_in first_of es c.args.text _))
    (few_new (found_in text_in printed_in runs_in first_of es) c.self.inside.noted c.args.number (string_bytes c.args.text)
    (string_bytes c.args.printed) c.self.invariant)

pub returns-in_default : goal.returns-in_default
returns-in_default c =
    let es = c.self.inside.found.entries in
    let more = c.in_ok-insert.ensures.entries ∙ insert_entry-new _ c.self.inside.found c.args.text _ (none_of _ c.in_default.ensures.found) in
    let found =
    noted_absent text_in printed_in runs_in first_of (string_bytes c.args.text) (string_eq c.args.text) (λ k. refl) es _ c.args.text _ refl refl
    (sym c.in_default.ensures.index) more
    ∙ ap (λ (s : FindingsState). noted s.found (string_bytes c.args.text) (string_bytes c.args.printed) c.args.number) c.self.view_is in
    let count = ap (λ (s : FindingsState). s.noted) c.self.view_is in
    let ended = ap (λ (s : FindingsState). s.unfinished) c.self.view_is in
    λ j. record { found = found j; noted = count j + 1; unfinished = ended j }

pub overflow_add-runs : goal.overflow_add-runs
overflow_add-runs c =
    let es = c.self.inside.found.entries in
    let f = few_here (found_in text_in printed_in runs_in first_of es) c.self.inside.noted c.in-Some.place _
    (entry_in text_in printed_in runs_in first_of es c.in-Some.place _ c.in-Some-get_index.before.now
    (sym c.in-Some-get_index.ensures.entry)) c.self.invariant in
    let count = ap (λ (s : FindingsState). s.noted) c.self.view_is in
    let small = c.requires in omega (arith, f, count, small)

pub invariant_of-self-2 : goal.invariant_of-self-2
invariant_of-self-2 c =
    let es = c.self.inside.found.entries in
    let there = sym c.in-Some-get_index.ensures.entry in
    subst (NoneOver (c.self.inside.noted + 1))
    (sym (ap (found_in text_in printed_in runs_in first_of) (c.put_at.ensures _ _ there)
    ∙ set_in text_in printed_in runs_in first_of es c.in-Some.place _ c.in-Some-get_index.before.now _ there))
    (few_there (found_in text_in printed_in runs_in first_of es) c.self.inside.noted c.in-Some.place _
    (entry_in text_in printed_in runs_in first_of es c.in-Some.place _ c.in-Some-get_index.before.now there) c.self.invariant)

pub returns : goal.returns
returns c =
    let es = c.self.inside.found.entries in
    let found =
    noted_present text_in printed_in runs_in first_of (string_bytes c.args.text) (string_eq c.args.text) (λ k. refl) es _ c.in-Some.place _
    c.in-Some-get_index.before.now _ (string_bytes c.args.printed) c.args.number (sym c.in-Some.ensures.index)
    (sym c.in-Some-get_index.ensures.entry) refl (c.put_at.ensures _ _ (sym c.in-Some-get_index.ensures.entry))
    ∙ ap (λ (s : FindingsState). noted s.found (string_bytes c.args.text) (string_bytes c.args.printed) c.args.number) c.self.view_is in
    let count = ap (λ (s : FindingsState). s.noted) c.self.view_is in
    let ended = ap (λ (s : FindingsState). s.unfinished) c.self.view_is in
    λ j. record { found = found j; noted = count j + 1; unfinished = ended j }
