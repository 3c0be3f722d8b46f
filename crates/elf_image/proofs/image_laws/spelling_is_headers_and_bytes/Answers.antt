use Rattle.elf_image.proofs.Spelled.{short_headers}
use Rattle.elf_image.proofs.image_laws.spelling_is_headers_and_bytes.Goals as goal

pub returns : goal.returns
returns c = short_headers
