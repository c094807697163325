use Rattle.std.proofs.Common.{◌≡◌, ℕ, ◌+◌, ◌≤◌, ◌==◌, not, cond, Some, T, filter, length, arith, refl, ap, sym, ◌∙◌, subst}
use Rattle.std.specs.Prelude.{IsSome, IfSome, option_map, vec_capacity}
use Rattle.std.specs.Ordering.{eq_by_cmp}
use Rattle.std.specs.FinMap.Entries as rows
use Rattle.dx_types.specs.Keys.{order_id_cmp, subaccount_cmp}
use Rattle.dx_book.specs.Chains.{ends_without}
use Rattle.dx_book.specs.Names.{level_cmp, expiry_cmp, level_of, expiry_of}
use Rattle.dx_book.specs.Held.{item_at}
use Rattle.dx_book.specs.Standing.{items_in, Stands, HasRoom, AreSorted}
use Rattle.dx_book.specs.declared.parts.Parts.{Parts}
use Rattle.dx_book.proofs.Items.{items_are, stands_on}
use Rattle.dx_book.proofs.Named.{without_item}
use Rattle.dx_book.proofs.Taking.{key_held, keys_distinct, neighbours_of, order_taken, taken}
use Rattle.dx_book.proofs.Walks.{filter_shorter}
use Rattle.dx_book.proofs.parts.take.Goals as goal

pub link_out-node-requires-clause-neighbours : goal.link_out-node-requires-clause-neighbours
link_out-node-requires-clause-neighbours g c = neighbours_of (items_in c.args.parts.now) c.args.parts.now c.args.key c.requires.book c.requires.held

pub forget-requires-clause-distinct : goal.forget-requires-clause-distinct
forget-requires-clause-distinct g c = keys_distinct (items_in c.args.parts.now) c.args.parts.now c.requires.book

pub forget-requires-clause-held : goal.forget-requires-clause-held
forget-requires-clause-held g c = key_held (items_in c.args.parts.now) c.args.parts.now c.args.key c.requires.book c.requires.held

pub returns-clause-order : goal.returns-clause-order
returns-clause-order g c = order_taken (items_in c.args.parts.now) c.args.parts.now c.args.key c.link_out-node.result c.requires.book c.link_out-node.ensures.node

pub returns-clause-book : goal.returns-clause-book
returns-clause-book g c =
    let p = c.args.parts.now in
    let n = c.link_out-node.result in
    let q : Parts = record { arena = c.link_out-node.new.arena; arrivals = c.forget.new.keys; numbers = c.forget.new.numbers; next = p.next; ids = c.take_out.new.rows; levels = c.shorten.new.rows; accounts = c.shorten-2.new.rows; expiries = c.shorten-3.new.rows } in
    stands_on (without_item c.args.key (items_in p)) q
    (taken (items_in p) p q c.args.key n c.requires.book c.requires.held c.link_out-node.ensures.node c.link_out-node.ensures.vacant c.link_out-node.ensures.others c.take_out.ensures.rows
    (λ m. c.shorten.ensures.rows m ∙ (λ i. cond (eq_by_cmp level_cmp m (c.level_of.ensures i)) (ends_without (rows.find level_cmp (c.level_of.ensures i) p.levels.items) n.level) (rows.find level_cmp m p.levels.items)))
    c.shorten-2.ensures.rows
    (λ m. c.shorten-3.ensures.rows m ∙ (λ i. cond (eq_by_cmp expiry_cmp m (c.expiry_of.ensures i)) (ends_without (rows.find expiry_cmp (c.expiry_of.ensures i) p.expiries.items) n.expiry) (rows.find expiry_cmp m p.expiries.items)))
    c.forget.ensures.keys c.forget.ensures.numbers refl c.shorten.ensures.sorted c.shorten-2.ensures.sorted c.shorten-3.ensures.sorted)

pub returns-clause-items : goal.returns-clause-items
returns-clause-items g c =
    let p = c.args.parts.now in
    let n = c.link_out-node.result in
    let q : Parts = record { arena = c.link_out-node.new.arena; arrivals = c.forget.new.keys; numbers = c.forget.new.numbers; next = p.next; ids = c.take_out.new.rows; levels = c.shorten.new.rows; accounts = c.shorten-2.new.rows; expiries = c.shorten-3.new.rows } in
    items_are (without_item c.args.key (items_in p)) q
    (taken (items_in p) p q c.args.key n c.requires.book c.requires.held c.link_out-node.ensures.node c.link_out-node.ensures.vacant c.link_out-node.ensures.others c.take_out.ensures.rows
    (λ m. c.shorten.ensures.rows m ∙ (λ i. cond (eq_by_cmp level_cmp m (c.level_of.ensures i)) (ends_without (rows.find level_cmp (c.level_of.ensures i) p.levels.items) n.level) (rows.find level_cmp m p.levels.items)))
    c.shorten-2.ensures.rows
    (λ m. c.shorten-3.ensures.rows m ∙ (λ i. cond (eq_by_cmp expiry_cmp m (c.expiry_of.ensures i)) (ends_without (rows.find expiry_cmp (c.expiry_of.ensures i) p.expiries.items) n.expiry) (rows.find expiry_cmp m p.expiries.items)))
    c.forget.ensures.keys c.forget.ensures.numbers refl c.shorten.ensures.sorted c.shorten-2.ensures.sorted c.shorten-3.ensures.sorted)

pub returns-clause-room : goal.returns-clause-room
returns-clause-room g c = λ spare h.
    let a1 = h.arena in
    let a2 = c.link_out-node.ensures.spare in
    let b1 = h.arrivals in
    let b2 = c.forget.ensures.room in
    let b3 : length c.forget.new.keys.items ≤ length c.args.parts.now.arrivals.items = subst (λ l. length l ≤ length c.args.parts.now.arrivals.items) (sym c.forget.ensures.keys) (filter_shorter _ c.args.parts.now.arrivals.items) in
    let n1 = h.numbers in
    let n2 = c.forget.ensures.capacity in
    let n3 : length c.forget.new.numbers.items ≤ length c.args.parts.now.numbers.items = subst (λ l. length l ≤ length c.args.parts.now.numbers.items) (sym c.forget.ensures.numbers) (filter_shorter _ c.args.parts.now.numbers.items) in
    let i1 = h.ids in
    let i2 = c.take_out.ensures.capacity in
    let i3 : length c.take_out.new.rows.items ≤ length c.args.parts.now.ids.items = subst (λ l. length l ≤ length c.args.parts.now.ids.items) (sym c.take_out.ensures.rows) (filter_shorter _ c.args.parts.now.ids.items) in
    let l1 = h.levels in
    let l2 = c.shorten.ensures.capacity in
    let l3 = c.shorten.ensures.length in
    let s1 = h.accounts in
    let s2 = c.shorten-2.ensures.capacity in
    let s3 = c.shorten-2.ensures.length in
    let e1 = h.expiries in
    let e2 = c.shorten-3.ensures.capacity in
    let e3 = c.shorten-3.ensures.length in
    record {
      arena = omega (arith, a1, a2);
      arrivals = omega (arith, b1, b2, b3);
      numbers = omega (arith, n1, n2, n3);
      ids = omega (arith, i1, i2, i3);
      levels = omega (arith, l1, l2, l3);
      accounts = omega (arith, s1, s2, s3);
      expiries = omega (arith, e1, e2, e3);
    }
