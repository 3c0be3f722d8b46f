use Rattle.std.proofs.Common.{◌≡◌, ◌%◌, ◌≤◌, length, sym, subst, arith}
use Rattle.std.specs.Prelude.{codes}
use Rattle.elf_image.specs.declared.layout.Layout.{Layout}
use Rattle.elf_image.specs.Images.{IsPlaced, IsMeant}
use Rattle.elf_image.specs.Openings.{opening}
use Rattle.elf_image.specs.Spellings.{spelling}
use Rattle.assembler.specs.Meaning.{lines_of, labels_of}
use Rattle.assembler.specs.Openings.{IsTextOpening}
use Rattle.assembler.proofs.Fits.{meaning_fits}
use Rattle.assembler.proofs.Opened.{entry_aligned, opens_on_the_text}
use Rattle.assembler.proofs.Reading.{all_read, refused_by_link_or_memory}
use Rattle.assembler.proofs.laws.image_opens_on_the_text.Goals as goal

pub returns : goal.returns
returns c = λ config text layout m in_code fits_words.
    let fits = meaning_fits text layout m in
    let placed : IsPlaced layout config.shared_words = record {
      entry_in_code = in_code;
      entry_aligned = subst (λ e. e % 4 ≡ 0) (sym m.entry) (entry_aligned (labels_of (lines_of text) (codes "start")));
      code = fits.code;
      local = fits.local;
      shared = fits_words;
    } in
    let short : length (spelling layout) ≤ 1048576 = omega (arith, c.spelling_is_headers_and_bytes.ensures layout, fits.code, fits.local, fits.shared) in
    let spelled = c.spelling_means_its_layout.ensures config.shared_words layout placed short in
    let opens : (other : Layout) → IsMeant config.shared_words (spelling layout) other → IsTextOpening text config (opening config other) =
    λ other n. subst (λ x. IsTextOpening text config (opening config x))
    (c.input_means_one_layout.ensures config.shared_words (spelling layout) layout other spelled.1 n)
    (opens_on_the_text c.machine_opens_on_the_layout.ensures config text layout m fits) in
    record {
      accepted = spelled.0;
      meant = (layout, spelled.1);
      opens = opens;
      given = λ rest image h. opens image.layout (subst (λ file. IsMeant config.shared_words file image.layout)
          (sym (all_read (spelling layout) rest h.0 h.1)) h.3);
      refused = λ rest e h. refused_by_link_or_memory config.shared_words (spelling layout) rest e short
          ((c.not_refused_is_accepted.ensures config.shared_words (spelling layout)).1 spelled.0) h;
    }
