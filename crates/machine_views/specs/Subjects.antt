-- What a step is about: the message that it moves or serves, and a shared word.
use Rattle.std.specs.Prelude.{ℕ, suc, Option, Some, None, List, slice_get, if◌then◌else◌}
use Rattle.flat_machine.specs.declared.config.Config.{Config}
use Rattle.flat_machine.specs.State.{Processor}
use Rattle.flat_machine.specs.Turns.{turn_of}
use Rattle.messages.specs.declared.message.Request.{Request}
use Rattle.messages.specs.declared.message.Reply.{Reply}
use Rattle.messages.specs.Network.{Net}
use Rattle.steps.specs.declared.step.Step.{Step}
use Rattle.steps.specs.declared.step.Step.TheVariants as step
use Rattle.steps.specs.Kinds.{is_within}
use Rattle.machine_steps.specs.Machines.{MachineLists}
use Rattle.machine_steps.specs.machine_theory.Processors.{port_at, setting_of}
use Rattle.trace_lines.specs.declared.subject.Subject.{Subject}
use Rattle.trace_lines.specs.References.{word_of_poke, word_of_turn}

-- the processors of a machine, by number
abbrev pub processors_of : MachineLists → (processor : ℕ) → Processor
processors_of m p = (port_at m.ports p).core.state

abbrev pub no_subject : Subject
no_subject = record { leader = None; word = None }

-- the subject of a step that takes this request
abbrev pub subject_of_request : Option Request → Subject
subject_of_request None = no_subject
subject_of_request (Some x) = record { leader = Some x.leader; word = Some x.word }

-- That of a step that takes this reply. Its leader waits, so its next turn acts on the word of its reference.
abbrev pub subject_of_reply : (word : ℕ → Option ℕ) → Option Reply → Subject
subject_of_reply word None = no_subject
subject_of_reply word (Some y) = record { leader = Some y.leader; word = word y.leader }

-- the subject of a step whose numbers the machine has, if these are the words on which the processors' next turns act
abbrev pub subject_within : (k : ℕ) → Net → (word : ℕ → Option ℕ) → Step → Subject
subject_within k net word (step.Turn p) = record { leader = None; word = word p }
subject_within k net word (step.Up s w) = subject_of_request (slice_get (net.requests s w) 0)
subject_within k net word (step.Serve m) = subject_of_request (slice_get (net.requests k m) 0)
subject_within k net word (step.Down s w) = subject_of_reply word (slice_get (net.replies (suc s) w) 0)
subject_within k net word (step.Poke q) = record { leader = None; word = word_of_poke q }

-- The subject of a step, from the size, the code, the network and the processors of the machine before it. There is
-- none if the machine lacks a number that the step names.
abbrev pub subject_of : Config → (code : List ℕ) → Net → (processors : ℕ → Processor) → Step → Subject
subject_of c code net processors s =
    if is_within c.k s
    then subject_within c.k net (λ p. word_of_turn (turn_of (setting_of c p) code (processors p))) s
    else no_subject
