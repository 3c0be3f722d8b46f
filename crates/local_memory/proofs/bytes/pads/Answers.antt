use Rattle.std.proofs.Common.{◌≡◌, ◌++◌, ◌≤◌, length, sym, ap, ◌∙◌, subst}
use Rattle.local_memory.specs.Accesses.{region_of_bytes}
use Rattle.local_memory.proofs.Padded.{padded_on, front_is, back_is}
use Rattle.local_memory.proofs.bytes.pads.Goals as goal

pub returns-then-are_same : goal.returns-then-are_same
returns-then-are_same c =
    let parts = c.split_at.ensures.by_index.0 in
    let short = c.args.short.now in
    let front = c.split_at.result.0.now in
    let back = c.split_at.result.1.now in
    let same : front ≡ short = c.are_same.ensures.0 c.if-are_same.true in
    let few : length (front ++ back) ≤ 65536 = subst (λ xs. length xs ≤ 65536) parts c.requires.few in (
      λ yes.
          sym (ap region_of_bytes parts ∙ padded_on 65536 front back few (c.are_zero.ensures.0 yes) ∙ ap region_of_bytes same),
      λ e. c.are_zero.ensures.1 (back_is 65536 short front back c.split_at.ensures.front_len (e ∙ ap region_of_bytes parts)),
    )

pub returns-else-are_same : goal.returns-else-are_same
returns-else-are_same c =
    let parts = c.split_at.ensures.by_index.0 in
    let short = c.args.short.now in
    let front = c.split_at.result.0.now in
    let back = c.split_at.result.1.now in (
      λ yes. absurd (cc),
      λ e. c.are_same.ensures.1 (front_is 65536 short front back c.split_at.ensures.front_len (e ∙ ap region_of_bytes parts)),
    )
