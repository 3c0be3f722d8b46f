use Rattle.elf_image.proofs.SpelledMeant.{spelling_means}
use Rattle.elf_image.proofs.image_laws.spelling_means_its_layout.Goals as goal

pub returns : goal.returns
returns c = spelling_means c.loading_gives_the_meaning.ensures.accepted c.loading_gives_the_meaning.ensures.meant
