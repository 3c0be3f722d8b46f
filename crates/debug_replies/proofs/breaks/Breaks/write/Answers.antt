use Rattle.std.proofs.Common.{◌∙◌, sym, Some, None, refl, ap, length}
use Rattle.debug_replies.proofs.Flags.{written_at}
use Rattle.debug_replies.proofs.breaks.Breaks.write.Goals as goal

pub returns-in-Some-clause-breaks : goal.returns-in-Some-clause-breaks
returns-in-Some-clause-breaks c a =
    written_at c.self.inside.flags c.args.self.now a c.args.address c.args.flag (Some c.in-Some.place) c.self.view_is
    (sym c.word_place.ensures.there ∙ c.in-Some.is) c.self.told

pub returns-in-None-clause-breaks : goal.returns-in-None-clause-breaks
returns-in-None-clause-breaks c a =
    written_at c.args.self.now c.args.self.now a c.args.address c.args.flag None refl
    (sym c.word_place.ensures.there ∙ c.in-None.is) (ap length (sym c.self.view_is) ∙ c.self.told)
