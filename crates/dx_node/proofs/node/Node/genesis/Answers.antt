use Rattle.std.proofs.Common.{◌≡◌, ap, sym, subst, ◌∙◌}
use Rattle.dx_spec.specs.Genesis.{IsGenesis}
use Rattle.dx_work.specs.Lines.{committed}
use Rattle.dx_node.specs.Held.{Held}
use Rattle.dx_node.specs.Works.{held_over}
use Rattle.dx_node.proofs.Kept.{same_genesis}
use Rattle.dx_node.proofs.node.Node.genesis.Goals as goal

pub returns-clause-same : goal.returns-clause-same
returns-clause-same c =
    let old : Held = held_over c.self.inside.number c.self.inside.work c.self.inside.queue c.self.inside.book.orders c.self.inside.cancels c.self.inside.pool c.self.inside.feed c.self.inside.again in
    λ p st. c.genesis.ensures ∙ same_genesis old c.self.invariant.kept ∙ ap (λ (h : Held). h.committed.genesis) c.self.view_is ∙ st.genesis

pub returns-clause-good : goal.returns-clause-good
returns-clause-good c =
    let old : Held = held_over c.self.inside.number c.self.inside.work c.self.inside.queue c.self.inside.book.orders c.self.inside.cancels c.self.inside.pool c.self.inside.feed c.self.inside.again in
    subst IsGenesis (sym (c.genesis.ensures ∙ same_genesis old c.self.invariant.kept)) c.self.invariant.kept.settled.genesis

pub returns-clause-own : goal.returns-clause-own
returns-clause-own c =
    let old : Held = held_over c.self.inside.number c.self.inside.work c.self.inside.queue c.self.inside.book.orders c.self.inside.cancels c.self.inside.pool c.self.inside.feed c.self.inside.again in
    c.genesis.ensures ∙ same_genesis old c.self.invariant.kept ∙ ap (λ (h : Held). h.committed.genesis) c.self.view_is
