use Rattle.std.proofs.Common.{get_or, arith}
use Rattle.engine.specs.Places.{absolute}
use Rattle.engine.proofs.Moved.{fits_now, absolute_is, map_next, rest_next}
use Rattle.engine.proofs.places.move_nodes.Goals as goal

pub place-requires : goal.place-requires
place-requires c = (fits_now c.loop-node.nodes c.args.nodes.now c.loop-node.node-index c.args.left _ c.loop-node.invariant.1 (omega arith) (c.requires c.loop-node.node-index (omega arith))).0

pub place-requires-in-loop-node : goal.place-requires-in-loop-node
place-requires-in-loop-node c = (fits_now c.loop-node.nodes c.args.nodes.now c.loop-node.node-index c.args.left _ c.loop-node.invariant.1 (omega arith) (c.requires c.loop-node.node-index (omega arith))).1

pub loop-node-preserved : goal.loop-node-preserved
loop-node-preserved c =
    let xs = c.loop-node.nodes in
    let es = c.args.nodes.now in
    let i = c.loop-node.node-index in
    let f = absolute c.args.left in (
      map_next f xs es i c.loop-node.invariant.0 c.loop-node.invariant.1 _ _ (omega arith) (omega arith) (absolute_is (get_or xs i _) c.args.left _ _ c.place.ensures c.place-in-loop-node.ensures),
      rest_next f xs es i c.loop-node.invariant.0 c.loop-node.invariant.1 _,
    )
