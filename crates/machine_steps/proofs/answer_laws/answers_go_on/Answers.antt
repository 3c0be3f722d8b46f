use Rattle.machine_steps.proofs.Answering.{answers_begin, answers_counted, answers_more}
use Rattle.machine_steps.proofs.answer_laws.answers_go_on.Goals as goal

pub returns-clause-begin : goal.returns-clause-begin
returns-clause-begin c = answers_begin

pub returns-clause-go_on : goal.returns-clause-go_on
returns-clause-go_on c = answers_more

pub returns-clause-count : goal.returns-clause-count
returns-clause-count c = answers_counted
