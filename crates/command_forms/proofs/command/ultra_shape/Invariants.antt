use Rattle.std.proofs.Common.{◌≡◌, drop, false}
use Rattle.clap.specs.Words.{app_of}
use Rattle.clap.specs.declared.builder.command.Command.TheViews.{out-Command}
use Rattle.command_forms.specs.Forms.{with_forms}
use Rattle.command_forms.specs.Commands.{ultra_command}
use Rattle.command_forms.proofs.command.ultra_shape.Given as goal

abbrev pub invariant-loop-form : goal.invariant-loop-form
invariant-loop-form l =
    (ultra_command ≡ with_forms (drop l.form-index l.form-items) (app_of l.command)) × ((out-Command l.command).has_globals ≡ false)
