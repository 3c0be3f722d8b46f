use Rattle.std.proofs.Common.{◌≡◌, map, vec_len}
use Rattle.processor_threads.specs.Consoles.{bytes_of}
use Rattle.processor_threads.proofs.Lists.{part}
use Rattle.processor_threads.proofs.listener.append_each.Given as goal

abbrev pub invariant-loop-p : goal.invariant-loop-p
invariant-loop-p l = record {
  lists : map bytes_of l.lists.items ≡ part l.p (map bytes_of l.initial.lists.items) (map bytes_of l.rests);
  many : vec_len l.lists ≡ vec_len l.initial.lists;
}
