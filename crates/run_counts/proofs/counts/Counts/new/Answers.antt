use Rattle.run_counts.proofs.counts.Counts.new.Goals as goal

pub returns : goal.returns
returns c = λ i. record {
  kinds = (c.in_ok-new.ensures i).counts;
  turns = (c.in_ok-new-2.ensures i).counts;
  retired = (c.in_ok-new-3.ensures i).counts;
  moved = (c.in_ok-new-4.ensures i).counts;
  combined = (c.in_ok-new-5.ensures i).counts;
  returned = (c.in_ok-new-6.ensures i).counts;
  split = (c.in_ok-new-7.ensures i).counts;
  served = (c.in_ok-new-8.ensures i).counts;
  groups = (c.in_ok-new-9.ensures i).counts;
  observed = (c.in_ok-new.ensures i).observed;
}
