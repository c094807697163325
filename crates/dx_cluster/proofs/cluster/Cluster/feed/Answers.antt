use Rattle.std.proofs.Common.{refl}
use Rattle.dx_cluster.specs.Acts.{feed_price}
use Rattle.dx_cluster.proofs.Idling.{feeding_idle}
use Rattle.dx_cluster.proofs.Worlds.{idle_at, has_acted}
use Rattle.dx_cluster.proofs.cluster.Cluster.feed.Goals as goal

pub feed_price-requires : goal.feed_price-requires
feed_price-requires c = record { idle = idle_at c.args.self.now c.args.node c.index_mut.result.now c.requires.stands c.requires.there c.index_mut.ensures.value }

pub returns-clause-done : goal.returns-clause-done
returns-clause-done c =
    λ w st. has_acted c.args.self.now _ w c.args.node (feed_price c.args.market c.args.price) c.index_mut.result.now c.feed_price.new.node c.feed_price.result st c.requires.there c.index_mut.ensures.value c.feed_price.ensures (feeding_idle c.args.market c.args.price) refl refl
