use Rattle.std.proofs.Common.{◌<◌, length, arith, rules}
use Rattle.state_store.proofs.WordLists.{cut_first, cut_none}
use Rattle.state_store.proofs.sparse_words.around.Goals as goal
use Rattle.state_store.proofs.sparse_words.around.Goals.{in_default-via-then-rest-lt1, in_default-via-in-len1-up+else-word-place}

pub returns-in-len1-up : goal.returns-in-len1-up
returns-in-len1-up c = λ to low h.
    cut_first c.args.place to c.first_from.result c.args.nonzero.now c.split_at.result.0.now c.split_at.result.1.now
    (record { place = 0; value = 0 }) c.split_at.ensures.front c.split_at.ensures.back (c.first_from.ensures.before to (omega (arith, low)) h)
    (c.first_from.ensures.rest to (omega (arith, low)) h) c.in-len1-up.len_at_least c.if-word-place.true

pub returns-in_default : goal.returns-in_default
returns-in_default c = λ to low h.
    cut_none c.args.place to c.first_from.result c.args.nonzero.now c.split_at.result.0.now c.split_at.result.1.now
    (record { place = 0; value = 0 }) c.split_at.ensures.front c.split_at.ensures.back (c.first_from.ensures.before to (omega (arith, low)) h)
    (c.first_from.ensures.rest to (omega (arith, low)) h) low
    (elim c.in_default.branch [
      | in_default-via-then-rest-lt1 w ↦ λ some here. let few : length c.split_at.result.1.now < 1 = search rules in omega (arith, some, few)
      | in_default-via-in-len1-up+else-word-place w ↦ λ some here. w.if-word-place.false here
    ])
