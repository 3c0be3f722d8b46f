use Rattle.std.proofs.Common.{ℕ, ◌++◌, ◌-◌, ◌/◌, ◌^◌, List, sym, ap, ◌∙◌}
use Rattle.std.specs.Prelude.{string_bytes}
use Rattle.flat_machine.specs.declared.poke.Poke.{Poke}
use Rattle.steps.specs.declared.step.Step.TheVariants as step
use Rattle.machine_steps.specs.Machines.{MachineLists}
use Rattle.machine_views.specs.Subjects.{processors_of}
use Rattle.page_command.specs.Changes.{change_text, change_to}
use Rattle.page_command.specs.Steps.{actor_of, parts_of_poke, registers_changed}
use Rattle.page_command.specs.Views.{Core, Word, view_at}
use Rattle.page_command.proofs.Lists.{first_then, only_one, text_to}
use Rattle.page_command.proofs.Registers.{changed_alike}
use Rattle.page_command.proofs.step_changes.push_poke.Goals as goal

-- the text after a write, if it was this before
abbrev written_text : (m n : MachineLists) → (old : List ℕ) → Poke → List ℕ
written_text m n old q = old ++ text_to (view_at n) (parts_of_poke q (processors_of m (actor_of (step.Poke q))).registers
    (processors_of n (actor_of (step.Poke q))).registers)

pub returns-in_ok-push_registers-in-Register-clause-shown : goal.returns-in_ok-push_registers-in-Register-clause-shown
returns-in_ok-push_registers-in-Register-clause-shown c =
    let p = c.in-Register.processor in
    let m = c.args.machine.now in
    let n = c.apply.new.self in
    let V = view_at n in
    let old = string_bytes c.args.text.now in
    let one = string_bytes c.push_core.new.text in
    let two = string_bytes c.push_registers.new.text in
    let after = (processors_of n p).registers in
    first_then V (Core p) (registers_changed p (processors_of m p).registers after 32) old one two c.in_ok-push_core-in-Register.ensures
    (c.in_ok-push_registers-in-Register.ensures ∙ ap (λ parts. one ++ text_to V parts)
    (changed_alike p c.registers_of-before.result (processors_of m p).registers after 32 c.registers_of-before.ensures))
    ∙ ap (written_text m n old) (sym c.in-Register.is)

pub returns-in_ok-push_core-in-Local-clause-shown : goal.returns-in_ok-push_core-in-Local-clause-shown
returns-in_ok-push_core-in-Local-clause-shown c =
    let n = c.apply-in-Local.new.self in
    let old = string_bytes c.args.text.now in
    only_one (view_at n) (Core c.in-Local.processor) old (string_bytes c.push_core-in-Local.new.text) c.in_ok-push_core-in-Local.ensures
    ∙ ap (written_text c.args.machine.now n old) (sym c.in-Local.is)

pub returns-in_ok-push_shared_word-in-Shared-clause-shown : goal.returns-in_ok-push_shared_word-in-Shared-clause-shown
returns-in_ok-push_shared_word-in-Shared-clause-shown c =
    let n = c.apply-in-Shared.new.self in
    let V = view_at n in
    let old = string_bytes c.args.text.now in
    only_one V (Word ((c.in-Shared.address - 2 ^ 31) / 4)) old (string_bytes c.push_shared_word.new.text)
    (c.in_ok-push_shared_word-in-Shared.ensures ∙ ap (λ offset. old ++ change_text (change_to V (Word (offset / 4)))) c.saturating_sub.ensures)
    ∙ ap (written_text c.args.machine.now n old) (sym c.in-Shared.is)
