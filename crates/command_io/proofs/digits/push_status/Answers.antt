use Rattle.std.proofs.Common.{◌++◌, codes, ap, ◌∙◌, append_assoc}
use Rattle.std.specs.Prelude.{string_bytes}
use Rattle.command_io.specs.Digits.{hex_of_byte}
use Rattle.command_io.proofs.digits.push_status.Goals as goal

pub returns-in_ok-push_bytes-in-Halted : goal.returns-in_ok-push_bytes-in-Halted
returns-in_ok-push_bytes-in-Halted c =
    let text = c.in_ok-push_str-in-Halted.ensures.bytes in
    let byte = hex_of_byte c.in-Halted.byte in
    rw c.in-Halted.is (c.in_ok-push_bytes-in-Halted.ensures ∙ ap (λ t. t ++ byte) text ∙ append_assoc (string_bytes c.args.text.now) (codes "halt ") byte)
