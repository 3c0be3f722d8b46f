use Rattle.elf_image.proofs.Refused.{refused_for}
use Rattle.elf_image.proofs.image_laws.refusals_have_their_causes.Goals as goal

pub returns : goal.returns
returns c = refused_for
