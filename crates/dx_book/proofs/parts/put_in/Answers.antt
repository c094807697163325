use Rattle.std.proofs.Common.{◌≡◌, ℕ, ◌+◌, ◌≤◌, ◌++◌, [], ◌∷◌, Some, length, arith, ap, sym, ◌∙◌, subst}
use Rattle.std.specs.Prelude.{IsSome, IfSome, vec_capacity}
use Rattle.std.specs.Ordering.{nat_cmp}
use Rattle.std.specs.FinMap.Entries as rows
use Rattle.dx_types.specs.Keys.{order_id_cmp, subaccount_cmp, subaccount_total, subaccount_exact}
use Rattle.dx_arena.specs.Nodes.{node_at}
use Rattle.dx_book.specs.Chains.{last_of, ends_put}
use Rattle.dx_book.specs.Names.{level_cmp, expiry_cmp, level_of, expiry_of}
use Rattle.dx_book.specs.Orders.{level_total, level_exact, expiry_total, expiry_exact}
use Rattle.dx_book.specs.Standing.{items_in, Stands, HasRoom}
use Rattle.dx_book.specs.declared.parts.Parts.{Parts}
use Rattle.dx_book.proofs.Items.{items_are, stands_on, last_node, put_most, longer}
use Rattle.dx_book.proofs.Adding.{adds_behind}
use Rattle.dx_book.proofs.parts.put_in.Goals as goal

pub link_in-key-requires-clause-level : goal.link_in-key-requires-clause-level
link_in-key-requires-clause-level g c =
    let e : c.last_of.result ≡ last_of (rows.find level_cmp (level_of c.args.order.now) c.args.parts.now.levels.items) = c.last_of.ensures ∙ ap last_of (c.get-level.ensures ∙ (λ i. rows.find level_cmp (c.level_of.ensures i) (c.as_slice.ensures.value i))) in
    subst (λ l. IfSome l (λ key. IsSome (node_at c.args.parts.now.arena key))) (sym e)
    (last_node level_cmp level_total level_exact level_of (items_in c.args.parts.now) c.args.parts.now c.args.parts.now.levels.items (level_of c.args.order.now) c.requires.book c.requires.book.levels)

pub link_in-key-requires-clause-account : goal.link_in-key-requires-clause-account
link_in-key-requires-clause-account g c =
    let e : c.last_of-2.result ≡ last_of (rows.find subaccount_cmp c.args.order.now.id.who c.args.parts.now.accounts.items) = c.last_of-2.ensures ∙ ap last_of (c.get-account.ensures ∙ (λ i. rows.find subaccount_cmp c.args.order.now.id.who (c.as_slice-2.ensures.value i))) in
    subst (λ l. IfSome l (λ key. IsSome (node_at c.args.parts.now.arena key))) (sym e)
    (last_node subaccount_cmp subaccount_total subaccount_exact (λ o. o.id.who) (items_in c.args.parts.now) c.args.parts.now c.args.parts.now.accounts.items c.args.order.now.id.who c.requires.book c.requires.book.accounts)

pub link_in-key-requires-clause-expiry : goal.link_in-key-requires-clause-expiry
link_in-key-requires-clause-expiry g c =
    let e : c.last_of-3.result ≡ last_of (rows.find expiry_cmp (expiry_of c.args.order.now) c.args.parts.now.expiries.items) = c.last_of-3.ensures ∙ ap last_of (c.get-expiry.ensures ∙ (λ i. rows.find expiry_cmp (c.expiry_of.ensures i) (c.as_slice-3.ensures.value i))) in
    subst (λ l. IfSome l (λ key. IsSome (node_at c.args.parts.now.arena key))) (sym e)
    (last_node expiry_cmp expiry_total expiry_exact expiry_of (items_in c.args.parts.now) c.args.parts.now c.args.parts.now.expiries.items (expiry_of c.args.order.now) c.requires.book c.requires.book.expiries)

pub returns-clause-book : goal.returns-clause-book
returns-clause-book g c =
    let o = c.args.order.now in
    let p = c.args.parts.now in
    let k = c.link_in-key.result in
    let q : Parts = record { arena = c.link_in-key.new.arena; arrivals = c.push_reserved.new.self; numbers = c.put-5.new.rows; next = c.later-parts.result; ids = c.put-4.new.rows; levels = c.put.new.rows; accounts = c.put-2.new.rows; expiries = c.put-3.new.rows } in
    let g1 : c.get-level.result ≡ rows.find level_cmp (level_of o) p.levels.items = c.get-level.ensures ∙ (λ i. rows.find level_cmp (c.level_of.ensures i) (c.as_slice.ensures.value i)) in
    let g2 : c.get-account.result ≡ rows.find subaccount_cmp o.id.who p.accounts.items = c.get-account.ensures ∙ (λ i. rows.find subaccount_cmp c.args.order.now.id.who (c.as_slice-2.ensures.value i)) in
    let g3 : c.get-expiry.result ≡ rows.find expiry_cmp (expiry_of o) p.expiries.items = c.get-expiry.ensures ∙ (λ i. rows.find expiry_cmp (c.expiry_of.ensures i) (c.as_slice-3.ensures.value i)) in
    let e1 : c.last_of.result ≡ last_of (rows.find level_cmp (level_of o) p.levels.items) = c.last_of.ensures ∙ ap last_of g1 in
    let e2 : c.last_of-2.result ≡ last_of (rows.find subaccount_cmp o.id.who p.accounts.items) = c.last_of-2.ensures ∙ ap last_of g2 in
    let e3 : c.last_of-3.result ≡ last_of (rows.find expiry_cmp (expiry_of o) p.expiries.items) = c.last_of-3.ensures ∙ ap last_of g3 in
    let l : c.put.new.rows.items ≡ rows.put level_cmp (level_of o) (ends_put (rows.find level_cmp (level_of o) p.levels.items) k) p.levels.items =
    c.put.ensures.rows ∙ (λ i. rows.put level_cmp (c.level_of-2.ensures i) ((c.ends_put.ensures ∙ ap (λ e. ends_put e k) g1) i) p.levels.items) in
    let a : c.put-2.new.rows.items ≡ rows.put subaccount_cmp o.id.who (ends_put (rows.find subaccount_cmp o.id.who p.accounts.items) k) p.accounts.items =
    c.put-2.ensures.rows ∙ (λ i. rows.put subaccount_cmp o.id.who ((c.ends_put-2.ensures ∙ ap (λ e. ends_put e k) g2) i) p.accounts.items) in
    let x : c.put-3.new.rows.items ≡ rows.put expiry_cmp (expiry_of o) (ends_put (rows.find expiry_cmp (expiry_of o) p.expiries.items) k) p.expiries.items =
    c.put-3.ensures.rows ∙ (λ i. rows.put expiry_cmp (c.expiry_of-2.ensures i) ((c.ends_put-3.ensures ∙ ap (λ e. ends_put e k) g3) i) p.expiries.items) in
    stands_on (items_in p ++ record { key = k; order = o } ∷ []) q
    (adds_behind (items_in p) p q o k c.requires.book c.requires.absent c.link_in-key.ensures.vacant _ _ _ e1 e2 e3
    c.link_in-key.ensures.node c.link_in-key.ensures.others c.put-4.ensures.rows l a x c.push_reserved.ensures.items c.put-5.ensures.rows c.later-parts.ensures)

pub returns-clause-items : goal.returns-clause-items
returns-clause-items g c =
    let o = c.args.order.now in
    let p = c.args.parts.now in
    let k = c.link_in-key.result in
    let q : Parts = record { arena = c.link_in-key.new.arena; arrivals = c.push_reserved.new.self; numbers = c.put-5.new.rows; next = c.later-parts.result; ids = c.put-4.new.rows; levels = c.put.new.rows; accounts = c.put-2.new.rows; expiries = c.put-3.new.rows } in
    let g1 : c.get-level.result ≡ rows.find level_cmp (level_of o) p.levels.items = c.get-level.ensures ∙ (λ i. rows.find level_cmp (c.level_of.ensures i) (c.as_slice.ensures.value i)) in
    let g2 : c.get-account.result ≡ rows.find subaccount_cmp o.id.who p.accounts.items = c.get-account.ensures ∙ (λ i. rows.find subaccount_cmp c.args.order.now.id.who (c.as_slice-2.ensures.value i)) in
    let g3 : c.get-expiry.result ≡ rows.find expiry_cmp (expiry_of o) p.expiries.items = c.get-expiry.ensures ∙ (λ i. rows.find expiry_cmp (c.expiry_of.ensures i) (c.as_slice-3.ensures.value i)) in
    let e1 : c.last_of.result ≡ last_of (rows.find level_cmp (level_of o) p.levels.items) = c.last_of.ensures ∙ ap last_of g1 in
    let e2 : c.last_of-2.result ≡ last_of (rows.find subaccount_cmp o.id.who p.accounts.items) = c.last_of-2.ensures ∙ ap last_of g2 in
    let e3 : c.last_of-3.result ≡ last_of (rows.find expiry_cmp (expiry_of o) p.expiries.items) = c.last_of-3.ensures ∙ ap last_of g3 in
    let l : c.put.new.rows.items ≡ rows.put level_cmp (level_of o) (ends_put (rows.find level_cmp (level_of o) p.levels.items) k) p.levels.items =
    c.put.ensures.rows ∙ (λ i. rows.put level_cmp (c.level_of-2.ensures i) ((c.ends_put.ensures ∙ ap (λ e. ends_put e k) g1) i) p.levels.items) in
    let a : c.put-2.new.rows.items ≡ rows.put subaccount_cmp o.id.who (ends_put (rows.find subaccount_cmp o.id.who p.accounts.items) k) p.accounts.items =
    c.put-2.ensures.rows ∙ (λ i. rows.put subaccount_cmp o.id.who ((c.ends_put-2.ensures ∙ ap (λ e. ends_put e k) g2) i) p.accounts.items) in
    let x : c.put-3.new.rows.items ≡ rows.put expiry_cmp (expiry_of o) (ends_put (rows.find expiry_cmp (expiry_of o) p.expiries.items) k) p.expiries.items =
    c.put-3.ensures.rows ∙ (λ i. rows.put expiry_cmp (c.expiry_of-2.ensures i) ((c.ends_put-3.ensures ∙ ap (λ e. ends_put e k) g3) i) p.expiries.items) in
    items_are (items_in p ++ record { key = k; order = o } ∷ []) q
    (adds_behind (items_in p) p q o k c.requires.book c.requires.absent c.link_in-key.ensures.vacant _ _ _ e1 e2 e3
    c.link_in-key.ensures.node c.link_in-key.ensures.others c.put-4.ensures.rows l a x c.push_reserved.ensures.items c.put-5.ensures.rows c.later-parts.ensures)

pub returns-clause-room : goal.returns-clause-room
returns-clause-room g c = λ spare h.
    let a1 = h.arena in
    let a2 = c.link_in-key.ensures.spare in
    let b1 = h.arrivals in
    let b2 = ap length c.push_reserved.ensures.items in
    let b3 = c.push_reserved.ensures.capacity in
    let n1 = h.numbers in
    let n2 = c.put-5.ensures.capacity in
    let n3 : length c.put-5.new.rows.items ≤ length c.args.parts.now.numbers.items + 1 = subst (λ t. length t ≤ length c.args.parts.now.numbers.items + 1) (sym c.put-5.ensures.rows) (put_most nat_cmp _ _ c.args.parts.now.numbers.items) in
    let i1 = h.ids in
    let i2 = c.put-4.ensures.capacity in
    let l1 = h.levels in
    let l2 = c.put.ensures.capacity in
    let s1 = h.accounts in
    let s2 = c.put-2.ensures.capacity in
    let e1 = h.expiries in
    let e2 = c.put-3.ensures.capacity in
    let i3 : length c.put-4.new.rows.items ≤ length c.args.parts.now.ids.items + 1 = subst (λ t. length t ≤ length c.args.parts.now.ids.items + 1) (sym c.put-4.ensures.rows) (put_most order_id_cmp _ _ c.args.parts.now.ids.items) in
    let l3 : length c.put.new.rows.items ≤ length c.args.parts.now.levels.items + 1 = subst (λ t. length t ≤ length c.args.parts.now.levels.items + 1) (sym c.put.ensures.rows) (put_most level_cmp _ _ c.args.parts.now.levels.items) in
    let s3 : length c.put-2.new.rows.items ≤ length c.args.parts.now.accounts.items + 1 = subst (λ t. length t ≤ length c.args.parts.now.accounts.items + 1) (sym c.put-2.ensures.rows) (put_most subaccount_cmp _ _ c.args.parts.now.accounts.items) in
    let e3 : length c.put-3.new.rows.items ≤ length c.args.parts.now.expiries.items + 1 = subst (λ t. length t ≤ length c.args.parts.now.expiries.items + 1) (sym c.put-3.ensures.rows) (put_most expiry_cmp _ _ c.args.parts.now.expiries.items) in
    let n : length c.push_reserved.new.self.items ≡ length c.args.parts.now.arrivals.items + 1 = b2 ∙ longer c.args.parts.now.arrivals.items c.link_in-key.result in
    record {
      arena = omega (arith, a1, a2);
      arrivals = omega (arith, b1, b3, n);
      numbers = omega (arith, n1, n2, n3);
      ids = omega (arith, i1, i2, i3);
      levels = omega (arith, l1, l2, l3);
      accounts = omega (arith, s1, s2, s3);
      expiries = omega (arith, e1, e2, e3);
    }
