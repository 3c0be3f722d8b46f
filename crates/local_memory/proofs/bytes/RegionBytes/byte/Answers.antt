use Rattle.std.proofs.Common.{◌≤◌, ◌∙◌, length, sym, ap, slice_index, arith}
use Rattle.std.proofs.lemmas.List.{get_or_past}
use Rattle.local_memory.proofs.Padded.{byte_of_padded}
use Rattle.local_memory.proofs.bytes.RegionBytes.byte.Goals as goal

pub returns-in-Some-clause-value : goal.returns-in-Some-clause-value
returns-in-Some-clause-value c =
    c.from.ensures
    ∙ c.in-Some.ensures.lookup.3.1 0
    ∙ ap (λ xs. slice_index xs c.args.place) c.deref.ensures.value
    ∙ sym (byte_of_padded 65536 c.self.inside.written.items c.args.place)
    ∙ ap (λ xs. slice_index xs c.args.place) c.self.view_is

pub returns-in-None-clause-value : goal.returns-in-None-clause-value
returns-in-None-clause-value c =
    let none = c.in-None.ensures.lookup in
    let count = ap length c.deref.ensures.value in
    let past : length c.self.inside.written.items ≤ c.args.place = omega (arith, none, count) in
    sym (get_or_past c.self.inside.written.items c.args.place 0 past)
    ∙ sym (byte_of_padded 65536 c.self.inside.written.items c.args.place)
    ∙ ap (λ xs. slice_index xs c.args.place) c.self.view_is
