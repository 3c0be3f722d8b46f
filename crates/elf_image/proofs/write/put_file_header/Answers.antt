use Rattle.std.proofs.Common.{append_assoc}
use Rattle.elf_image.specs.Spellings.{file_header_bytes}
use Rattle.elf_image.proofs.write.put_file_header.Goals as goal

pub returns-clause-items : goal.returns-clause-items
unfolding file_header_bytes
returns-clause-items c =
    simp (c.put_halves-2.ensures.items, c.put_words.ensures.items, c.put_halves.ensures.items, c.put-2.ensures.items, c.put.ensures.items, append_assoc)
