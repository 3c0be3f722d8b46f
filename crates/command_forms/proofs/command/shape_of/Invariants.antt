use Rattle.std.proofs.Common.{◌≡◌, drop, false}
use Rattle.clap.specs.Words.{app_of}
use Rattle.clap.specs.declared.builder.command.Command.TheViews.{out-Command}
use Rattle.command_forms.specs.Forms.{with_arguments}
use Rattle.command_forms.proofs.command.shape_of.Given as goal

abbrev pub invariant-loop-argument : goal.invariant-loop-argument
invariant-loop-argument l =
    (with_arguments l.form.arguments.now (app_of l.initial.command) ≡ with_arguments (drop l.argument-index l.form.arguments.now) (app_of l.command))
    × ((out-Command l.command).has_globals ≡ false)
