use Rattle.std.proofs.Common.{rules, ◌∙◌, ap, ◌≡◌}
use Rattle.std.specs.Prelude.{not, ◌==◌}
use Rattle.arrayvec.proofs.ArrayVecLemmas.{filter-from_retain}
use Rattle.messages.specs.declared.message.Record.{Record}
use Rattle.messages.specs.Queues.{records_but}
use Rattle.wait_buffers.specs.Waiting.{Waiting, waiting}
use Rattle.wait_buffers.proofs.wait_buffer.WaitBuffer.forget.Goals as goal

pub returns : goal.returns
returns c =
    let left : c.retain.new.self.items ≡ records_but c.args.leader c.self.inside.records.items =
    filter-from_retain _ (λ (e : Record). not (e.leader == c.args.leader)) _ (λ x b f' y called. search rules) _ _ c.retain.ensures.filtered in
    ap (waiting c.self.inside.limit) left ∙ ap (λ (w : Waiting). waiting w.limit (records_but c.args.leader w.records)) c.self.view_is
