-- The image error for each error of reading.
use Rattle.link.specs.declared.transfer.ReadError.{ReadError}
use Rattle.link.specs.declared.transfer.ReadError.TheVariants as read
use Rattle.elf_image.specs.declared.error.ImageError.{ImageError}
use Rattle.elf_image.specs.declared.error.ImageError.TheVariants as image

abbrev pub error_of : ReadError → ImageError
error_of read.Link = image.Link
error_of read.Memory = image.Memory
error_of read.TooLong = image.TooLong
