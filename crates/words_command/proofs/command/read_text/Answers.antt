use Rattle.words_command.proofs.Reports.{read_known}
use Rattle.words_command.proofs.command.read_text.Goals as goal

pub returns-in-Ok-clause-read : goal.returns-in-Ok-clause-read
returns-in-Ok-clause-read g c =
    let bytes = c.in-Ok.ensures.bytes in
    read_known (g.R.Read.remaining c.args.file) c.read_to_end.new.buf.items
    (rw (c.take.ensures.limit, c.take.ensures.inner, c.new-reader.ensures.device, c.new-text.ensures.items) at bytes)
