use Rattle.std.proofs.Common.{rules, ◌≡◌, ◌<◌, length, get_or, ap, ◌∙◌}
use Rattle.dx_print.specs.declared.answer.Answer.TheVariants as answers
use Rattle.dx_cluster.proofs.Worlds.{more_heights, heights_told}
use Rattle.dx_cluster.proofs.cluster.Cluster.heights.Goals as goal

pub nodes-preserved : goal.nodes-preserved
nodes-preserved c =
    let within : c.nodes.node-index < length c.deref-node-items.result.now = search rules in
    let there : c.node-item.result ≡ get_or c.deref-node-items.result.now c.nodes.node-index c.node-item.result = search rules in
    more_heights c.deref-node-items.result.now c.nodes.node-index c.height.result c.node-item.result c.nodes.numbers.items c.push.new.self.items within there c.height.ensures c.nodes.invariant c.in_ok-push.ensures.items

pub returns : goal.returns
returns c = λ w st. ap answers.Heights (c.from_vec.ensures ∙ heights_told c.args.self.now w c.deref-node-items.result.now c.nodes.node-index c.nodes.numbers.items st c.deref-node-items.ensures.value c.nodes-test.false c.nodes.invariant)
