use Rattle.elf_image.proofs.Uniqueness.{meant_once}
use Rattle.elf_image.proofs.image_laws.input_means_one_layout.Goals as goal

pub returns : goal.returns
returns c = meant_once
