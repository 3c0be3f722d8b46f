-- The program with the commands of a list of forms, added one after another.
use Rattle.std.proofs.Common.{◌≡◌, ◌∙◌, ◌<◌, ◌+◌, ℕ, ap, sym, List, length, drop, get_or}
use Rattle.std.proofs.lemmas.List.{at_drop_more}
use Rattle.clap.specs.Words.{App, with_subcommand}
use Rattle.command_forms.specs.Forms.{app_of_form, with_forms}
use Rattle.command_forms.specs.declared.forms.CommandForm.{CommandForm}

-- Adding the command of the next form, and then those of the forms after it, adds those from that form on.
pub one_more : (fs : List CommandForm) (i : ℕ) (d : CommandForm) (a command new : App) → i < length fs → command ≡ app_of_form (get_or fs i d)
    → new ≡ with_subcommand a command.top → with_forms (drop i fs) a ≡ with_forms (drop (i + 1) fs) new
one_more fs i d a command new there is more =
    at_drop_more (λ gs. with_forms gs a) fs i d there
    ∙ ap (λ (c : App). with_forms (drop (i + 1) fs) (with_subcommand a c.top)) (sym is)
    ∙ ap (with_forms (drop (i + 1) fs)) (sym more)
