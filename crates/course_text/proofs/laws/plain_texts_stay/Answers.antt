use Rattle.course_text.proofs.Staying.{text_stays}
use Rattle.course_text.proofs.laws.plain_texts_stay.Goals as goal

pub returns : goal.returns
returns c = text_stays
