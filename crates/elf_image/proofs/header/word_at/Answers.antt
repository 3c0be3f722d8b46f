use Rattle.std.proofs.Common.{◌≡◌, ◌+◌, ap, ◌∙◌, arith}
use Rattle.std.proofs.lemmas.List.{take_rest}
use Rattle.byteorder.specs.Endian.{little_from}
use Rattle.flat_machine.specs.Memory.{number_at}
use Rattle.elf_image.proofs.Numbers.{little_from-drop}
use Rattle.elf_image.proofs.header.word_at.Goals as goal

pub returns : goal.returns
returns c =
    let file = c.args.file.now in
    let place = c.args.place in
    let same : place + 0 ≡ place = omega arith in
    c.read_u32.ensures ∙ ap (little_from 0 4) (take_rest file place) ∙ little_from-drop file place 0 4 ∙ ap (λ q. number_at file q 4) same
