use Rattle.std.proofs.Common.{◌≡◌, List, map, take}
use Rattle.std.specs.List.{AllZip}
use Rattle.dx_node_spec.specs.Node.{Node}
use Rattle.dx_node.specs.Standing.{StandsFor}
use Rattle.dx_cluster.specs.Acts.{height_of}
use Rattle.dx_cluster.proofs.cluster.Cluster.heights.Given as goal

-- the heights so far, of whichever nodes the others stand for
abbrev pub invariant-nodes : goal.invariant-nodes
invariant-nodes l = (ps : List Node) → AllZip StandsFor l.node-items ps → l.numbers.items ≡ map height_of (take l.node-index ps)
