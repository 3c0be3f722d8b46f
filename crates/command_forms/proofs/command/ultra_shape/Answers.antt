use Rattle.std.proofs.Common.{◌∙◌, ◌<◌, length, rules}
use Rattle.clap.specs.Words.{app_of}
use Rattle.command_forms.proofs.Adding.{one_more}
use Rattle.command_forms.proofs.command.ultra_shape.Goals as goal

pub loop-form-preserved : goal.loop-form-preserved
loop-form-preserved c =
    let there : c.loop-form.form-index < length c.commands.result = search rules in (
      c.loop-form.invariant.0
          ∙ one_more c.commands.result c.loop-form.form-index _ (app_of c.loop-form.command) (app_of c.in_ok-shape_of.field-0) (app_of c.in_ok-command.command)
          there c.in_ok-shape_of.ensures.shape c.in_ok-command.ensures.shape,
      c.in_ok-command.ensures.globals,
    )
