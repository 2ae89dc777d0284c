use Rattle.std.proofs.Common.{◌≡◌, map, take, drop}
use Rattle.engine.specs.Places.{absolute}
use Rattle.engine.proofs.places.move_nodes.Given as goal

abbrev pub invariant-loop-node : goal.invariant-loop-node
invariant-loop-node l = (take l.node-index l.nodes ≡ map (absolute l.left) (take l.node-index l.initial.nodes)) × (drop l.node-index l.nodes ≡ drop l.node-index l.initial.nodes)
