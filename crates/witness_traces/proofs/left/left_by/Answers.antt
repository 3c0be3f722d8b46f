use Rattle.witness_traces.proofs.left.left_by.Goals as goal

pub returns : goal.returns
returns c = λ i. record { processors = c.in_ok-processors.ensures i; words = c.in_ok-words.ensures i }
