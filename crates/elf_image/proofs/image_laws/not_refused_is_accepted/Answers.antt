use Rattle.elf_image.proofs.Acceptance.{accepted_is_not_refused}
use Rattle.elf_image.proofs.image_laws.not_refused_is_accepted.Goals as goal

pub returns : goal.returns
returns c = λ w file. (c.loading_gives_the_meaning.ensures.accepted w file, accepted_is_not_refused w file)
