use Rattle.std.proofs.Common.{◌≡◌, ◌∙◌, [], ◌++◌, Some, ap}
use Rattle.std.proofs.lemmas.Result.{IfOk-weaker, IfErr-weaker}
use Rattle.elf_image.specs.Spellings.{spelling}
use Rattle.words_command.proofs.Loading.{read_back, none_refused}
use Rattle.words_command.proofs.load.image_of.Goals as goal

pub returns-clause-ok : goal.returns-clause-ok
returns-clause-ok c =
    let layout = c.args.layout.now in
    let spelled = c.spelling_means_its_layout.ensures 1024 layout c.requires.placed c.requires.short in
    let empty : c.new-file.result.device.items ≡ [] = rw c.new-file.ensures.device c.new.ensures.items in
    let written : c.as_slice.result.now ≡ spelling layout =
    c.as_slice.ensures.value ∙ c.in_ok-write_image.ensures.ok ∙ ap (λ xs. xs ++ spelling layout) empty in
    let given = rw (c.new-reader.ensures.device, written) at c.read_image.ensures.ok in
    IfOk-weaker c.read_image.result _ _ (λ image is. read_back layout (Some c.read_image.new.reader.device.now) image
    (c.input_means_one_layout.ensures 1024 (spelling layout)) spelled.1 is) given

pub returns-clause-memory : goal.returns-clause-memory
returns-clause-memory c =
    let layout = c.args.layout.now in
    let spelled = c.spelling_means_its_layout.ensures 1024 layout c.requires.placed c.requires.short in
    let empty : c.new-file.result.device.items ≡ [] = rw c.new-file.ensures.device c.new.ensures.items in
    let written : c.as_slice.result.now ≡ spelling layout =
    c.as_slice.ensures.value ∙ c.in_ok-write_image.ensures.ok ∙ ap (λ xs. xs ++ spelling layout) empty in
    let none = (c.not_refused_is_accepted.ensures 1024 (spelling layout)).1 spelled.0 in
    let refused = rw (c.new-reader.ensures.device, written) at c.read_image.ensures.refused in
    IfErr-weaker c.read_image.result _ _ (λ error is. none_refused (spelling layout) (Some c.read_image.new.reader.device.now) error c.requires.short none is)
    refused
