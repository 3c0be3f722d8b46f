use Rattle.std.proofs.Common.{◌≡◌, ◌≤◌, ◌<◌, ◌&&◌, List, length, sym, ap, ◌∙◌, subst}
use Rattle.std.specs.Prelude.{nat_le}
use Rattle.std.proofs.lemmas.Bool.{le-leb, lt-leb}
use Rattle.std.proofs.lemmas.List.{length-map}
use Rattle.messages.specs.declared.message.Reply.{Reply}
use Rattle.combining_switch.specs.Switches.{replies_for}
use Rattle.ring_network.specs.Switches.{SwitchLists}
use Rattle.ring_network.proofs.Rooms.{no_room, room_is}
use Rattle.ring_network.proofs.switch.Switch.has_room.Goals as goal

pub returns-then-count_for-room_at-clause-room : goal.returns-then-count_for-room_at-clause-room
returns-then-count_for-room_at-clause-room c =
    let s : SwitchLists = c.args.self.now in
    let ys : List Reply = c.args.replies.now in
    let its_bit : c.self.inside.its_bit ≡ s.its_bit = ap (λ (t : SwitchLists). t.its_bit) c.self.view_is in
    let two : length s.inputs ≡ 2 = ap (λ (t : SwitchLists). length t.inputs) (sym c.self.view_is) ∙ length-map c.self.inside.inputs _ ∙ c.self.invariant.1 in
    let upper : c.count_for.result ≡ length (replies_for s.its_bit 0 ys) = c.count_for.ensures ∙ ap (λ i. length (replies_for i 0 ys)) its_bit in
    let lower : c.count_for-then-count_for-room_at.result ≡ length (replies_for s.its_bit 1 ys) =
    c.count_for-then-count_for-room_at.ensures ∙ ap (λ i. length (replies_for i 1 ys)) its_bit in
    let few : length (replies_for s.its_bit 0 ys) ≤ c.room_at.result = subst (λ n. n ≤ c.room_at.result) upper c.if-count_for-room_at.true in
    ap (λ n. nat_le n c.room_at-then-count_for-room_at.result) lower
    ∙ ap (λ b. b && nat_le (length (replies_for s.its_bit 1 ys)) c.room_at-then-count_for-room_at.result)
    (sym (le-leb (length (replies_for s.its_bit 0 ys)) c.room_at.result few))
    ∙ room_is s.c s.its_bit s.inputs ys c.room_at.result c.room_at-then-count_for-room_at.result two c.room_at.ensures c.room_at-then-count_for-room_at.ensures

pub returns-else-count_for-room_at-clause-room : goal.returns-else-count_for-room_at-clause-room
returns-else-count_for-room_at-clause-room c =
    let s : SwitchLists = c.args.self.now in
    let ys : List Reply = c.args.replies.now in
    let its_bit : c.self.inside.its_bit ≡ s.its_bit = ap (λ (t : SwitchLists). t.its_bit) c.self.view_is in
    let two : length s.inputs ≡ 2 = ap (λ (t : SwitchLists). length t.inputs) (sym c.self.view_is) ∙ length-map c.self.inside.inputs _ ∙ c.self.invariant.1 in
    let upper : c.count_for.result ≡ length (replies_for s.its_bit 0 ys) = c.count_for.ensures ∙ ap (λ i. length (replies_for i 0 ys)) its_bit in
    let many : c.room_at.result < length (replies_for s.its_bit 0 ys) = subst (λ n. c.room_at.result < n) upper c.if-count_for-room_at.false in
    lt-leb c.count_for.result c.room_at.result c.if-count_for-room_at.false
    ∙ sym (no_room s.c s.its_bit s.inputs ys 0 c.room_at.result two c.room_at.ensures many)
