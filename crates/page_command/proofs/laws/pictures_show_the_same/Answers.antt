use Rattle.page_command.proofs.Pictures.{places_shown, processors_shown, words_shown}
use Rattle.page_command.proofs.laws.pictures_show_the_same.Goals as goal

pub returns-clause-processors : goal.returns-clause-processors
returns-clause-processors c = processors_shown

pub returns-clause-places : goal.returns-clause-places
returns-clause-places c = places_shown

pub returns-clause-words : goal.returns-clause-words
returns-clause-words c = words_shown
