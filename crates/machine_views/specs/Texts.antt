-- The texts of a picture: of processors, words, requests, records and replies.
use Rattle.std.specs.Prelude.{ℕ, ◌+◌, List, [], ◌∷◌, ◌++◌, codes, length, take, Option, Some, None, nat_lt}
use Rattle.std.specs.Prelude.{if◌then◌else◌}
use Rattle.std.specs.Fmt.{decimal}
use Rattle.std.specs.List.{flat_map}
use Rattle.command_io.specs.Digits.{hex_of_word, status_text}
use Rattle.messages.specs.declared.message.Record.{Record}
use Rattle.phi_algebra.specs.declared.phi.Phi.{Phi}
use Rattle.phi_algebra.specs.Functions.{is_identity}
use Rattle.trace_lines.specs.Functions.{function_text}
use Rattle.machine_views.specs.Names.{Naming, pc_text, shared_word_text}
use Rattle.machine_views.specs.declared.view.ProcessorView.{ProcessorView}
use Rattle.machine_views.specs.declared.view.ReplyView.{ReplyView}
use Rattle.machine_views.specs.declared.view.RequestView.{RequestView}
use Rattle.machine_views.specs.declared.view.SharedWord.{SharedWord}

-- ---- groups

-- ` P` for each processor
abbrev pub members_text : List ℕ → List ℕ
members_text ps = flat_map (λ p. codes " " ++ decimal p) ps

-- the first three of the members after the leader, and the number of all members: as in `{0 32 16 48 .. 64}`
unfoldable pub cut_text : (members : ℕ) → (others : List ℕ) → List ℕ
cut_text members others = members_text (take 3 others) ++ codes " .. " ++ decimal members

-- the members of a group after its leader: all, unless the group has more than 8
unfoldable pub others_text : (members : ℕ) → (others : List ℕ) → List ℕ
others_text members others = if nat_lt 8 members then cut_text members others else members_text others

-- ` {P Q ..}`: the members of a group that has this leader
unfoldable pub led_text : (leader : ℕ) → (others : List ℕ) → List ℕ
led_text p ps = codes " {" ++ decimal p ++ others_text (length ps + 1) ps ++ codes "}"

-- the members of a group, in the order in which they are served: the leader first
unfoldable pub group_text : List ℕ → List ℕ
group_text [] = codes " {}"
group_text (p ∷ ps) = led_text p ps

-- ---- messages

-- what leads from a function to its word
abbrev pub link_text : Phi → List ℕ
link_text f = if is_identity f then codes " " else codes " to "

-- `add V to word N {P P ..}`, or `load word N {P P ..}`; a word that has a name has it in place of `word N`
unfoldable pub request_text : Naming → RequestView → List ℕ
request_text n x =
    function_text x.request.phi ++ link_text x.request.phi ++ shared_word_text n x.request.word ++ group_text x.group

-- `Q waits for P: add V`: processor Q finds what this function makes of the value that P finds
unfoldable pub record_text : Record → List ℕ
record_text e = decimal e.second ++ codes " waits for " ++ decimal e.leader ++ codes ": " ++ function_text e.phi

-- `reply V {P P ..}`
unfoldable pub reply_text : ReplyView → List ℕ
reply_text y = codes "reply " ++ hex_of_word y.reply.value ++ group_text y.group

-- ---- processors and words

-- ` word N`: the word of an open reference
abbrev pub referred_text : Naming → Option SharedWord → List ℕ
referred_text n None = []
referred_text n (Some w) = codes " " ++ shared_word_text n w.number

-- `P STATUS AAAAAAAA word N`, with the names of the `pc` and of the word in their places
unfoldable pub processor_text : Naming → (processor : ℕ) → ProcessorView → List ℕ
processor_text n p v =
    decimal p ++ codes " " ++ status_text v.status ++ codes " " ++ pc_text n v.pc ++ referred_text n v.word

-- `word N = V`, or `NAME = V`
unfoldable pub word_text : Naming → SharedWord → List ℕ
word_text n w = shared_word_text n w.number ++ codes " = " ++ hex_of_word w.value
