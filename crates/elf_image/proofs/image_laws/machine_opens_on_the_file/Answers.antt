use Rattle.elf_image.proofs.Opened.{opens_on_the_file}
use Rattle.elf_image.proofs.image_laws.machine_opens_on_the_file.Goals as goal

pub returns : goal.returns
returns c = opens_on_the_file
