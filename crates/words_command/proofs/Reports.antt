-- What the bytes that the command reads spell.
use Rattle.std.proofs.Common.{◌≡◌, ℕ, List, take, Option, Some, None, IfSome, ap, ◌∙◌}
use Rattle.std.specs.Option.{option_map}
use Rattle.words_command.specs.HexText.{words_of_text}
use Rattle.words_command.proofs.Prefixes.{bytes_read_tell}
use Rattle.words_command.specs.Command.{IsRead}

-- If a file's bytes are known, the first 147,457 of them spell what the file does.
pub read_known : (known : Option (List ℕ)) (items : List ℕ) → IfSome (option_map (take 147457) known) (λ xs. items ≡ xs) → IsRead known items
read_known None items h = tt
read_known (Some bytes) items h = ap words_of_text h ∙ bytes_read_tell bytes
