use Rattle.std.proofs.Common.{◌≡◌, ◌++◌, take}
use Rattle.std.specs.List.{AllByRecursion}
use Rattle.fort_certificate_theory.specs.OpenText.{nodes_text, CanNodeBeWritten}
use Rattle.fort_certificate.proofs.open_write.push_nodes.Given as goal

abbrev pub invariant-loop-node : goal.invariant-loop-node
invariant-loop-node l = record {
  text : l.out.items ≡ l.fn.out.items ++ nodes_text (take l.node l.dag);
  small : AllByRecursion CanNodeBeWritten (take l.node l.dag);
}
