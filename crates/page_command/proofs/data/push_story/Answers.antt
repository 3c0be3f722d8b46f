use Rattle.std.proofs.Common.{◌≡◌, ◌++◌, List, [], ap, ◌∙◌, false}
use Rattle.std.specs.Prelude.{string_bytes}
use Rattle.flat_machine.specs.declared.config.Config.{Config}
use Rattle.elf_image.specs.Images.{ImageContents}
use Rattle.steps.specs.declared.step.Step.{Step}
use Rattle.machine_steps.specs.Machines.{MachineLists}
use Rattle.machine_steps.specs.Runs.{IsOpening}
use Rattle.machine_steps.proofs.Lemmas.{same_code, same_config, same_machine}
use Rattle.run_counts.specs.Rounds.{none_begun}
use Rattle.trace_lines.specs.StoryLines.{story_of}
use Rattle.trace_commands.specs.Stories.{story_steps_from, story_steps_of}
use Rattle.page_command.specs.declared.window.Window.{Window}
use Rattle.page_command.specs.Pages.{window_story}
use Rattle.page_command.specs.Windows.{story_choice}
use Rattle.page_command.proofs.data.push_story.Goals as goal

-- Machines that open on one image have the same story.
story_alike : (w : Window) (c : Config) (image : ImageContents) (first second : MachineLists) → IsOpening c image first →
    IsOpening c image second → (steps : List Step) → window_story w first steps ≡ window_story w second steps
unfolding story_steps_of
story_alike w c image first second one other steps =
    ap (story_of (story_choice w)) (λ i. story_steps_from false (same_config c image first second one other i)
    (same_code c image first second one other i) none_begun (same_machine c image first second one other (λ p. []) i) steps)

pub returns-clause-are : goal.returns-clause-are
returns-clause-are c = λ opening opens.
    c.in_ok-push_str.ensures.bytes ∙ ap (λ text. string_bytes c.args.text.now ++ text) (c.as_str.ensures.value ∙ c.in_ok-story.ensures.lines
    ∙ ap (λ choice. story_of choice (story_steps_of false c.in_ok-machine.machine c.args.all.now)) c.story_choice.ensures
    ∙ story_alike c.args.window c.args.config c.args.image.now c.in_ok-machine.machine opening c.in_ok-machine.ensures.opening opens c.args.all.now)
