-- What `ultra explain` prints.
use Rattle.std.specs.Prelude.{◌≡◌, ℕ, List, [], ◌∷◌, ◌++◌, Option, Some, None, codes}
use Rattle.std.specs.List.{join_by}
use Rattle.command_io.specs.declared.fault.Fault.{Fault}
use Rattle.command_io.specs.declared.fault.Fault.TheVariants as fault
use Rattle.command_io.specs.FaultTexts.{AppendsOrPart}
use Rattle.command_io.specs.Printing.{PrintsPrefix}
use Rattle.explain_command.specs.declared.topic.Topic.{Topic}
use Rattle.explain_command.specs.declared.topic.Topics.{Topics}
use Rattle.explain_command.specs.Topics.{list_of, text_of, topic_asked}

-- the text that the words of a command line ask for, if there are any: the words with a blank between them
abbrev pub text_asked : (words : List (List ℕ)) → Option (List ℕ)
text_asked [] = None
text_asked (word ∷ words) = Some (join_by (λ w. w) (codes " ") (word ∷ words))

-- The bytes are the text of the topic that is asked for, or the list if none is.
abbrev pub IsExplanation : Topics → (asked : Option (List ℕ)) → (bytes : List ℕ) → Type 0
IsExplanation topics None bytes = bytes ≡ list_of topics
IsExplanation topics (Some text) bytes = (topic : Topic) × (topic_asked topics text ≡ Some topic)
    × (bytes ≡ text_of topic)

-- Something is asked for, and it is no topic.
abbrev pub IsUnknown : Topics → (asked : Option (List ℕ)) → Type 0
IsUnknown topics None = ⊥
IsUnknown topics (Some text) = topic_asked topics text ≡ None

-- the text that reports that there is no such topic
unfoldable pub unknown_text : (asked : List ℕ) → List ℕ
unknown_text asked = codes "error: unrecognized code '" ++ asked
    ++ codes "'\n\n`ultra explain` lists what there is.\n"

-- Something is asked for, and standard error got the text that reports it as unknown, or, if a write failed, a
-- beginning of that text.
abbrev pub IsUnknownReported : (asked : Option (List ℕ)) → (old new : Option (List ℕ)) → Type 0
IsUnknownReported None old new = ⊥
IsUnknownReported (Some text) old new = AppendsOrPart old new (unknown_text text)

-- Why the explanation is not printed, and what is printed then.
abbrev pub IsNoExplanation : Topics → (asked : Option (List ℕ)) → (old new : Option (List ℕ)) → Fault → Type 0
IsNoExplanation topics asked old new fault.Link = PrintsPrefix (IsExplanation topics asked) old new
IsNoExplanation topics asked old new fault.Memory = Unit {0}
IsNoExplanation topics asked old new other = ⊥
