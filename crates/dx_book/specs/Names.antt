-- The names of the chains: of a level, of an account, of an expiry; and the orders by which they are kept.
use Rattle.std.specs.Prelude.{ℕ, Bool, true, false, ◌==◌, if◌then◌else◌}
use Rattle.std.specs.declared.cmp.Ordering.{Ordering}
use Rattle.std.specs.declared.cmp.Ordering.TheVariants.{Less, Greater}
use Rattle.std.specs.Ordering.{nat_cmp, ordering_then}
use Rattle.dx_types.specs.declared.Order.{Order}
use Rattle.dx_book.specs.declared.names.Level.{Level}
use Rattle.dx_book.specs.declared.names.Expiry.{Expiry}

-- asks before bids, and of a side the better price first
abbrev pub price_cmp : Bool → ℕ → Bool → ℕ → Ordering
price_cmp false s false t = nat_cmp s t
price_cmp false s true t = Less
price_cmp true s false t = Greater
price_cmp true s true t = nat_cmp t s

-- by market, by side, and then the better price first
abbrev pub level_cmp : Level → Level → Ordering
level_cmp a b = ordering_then (nat_cmp a.market b.market) (price_cmp a.buy a.subticks b.buy b.subticks)

-- 0 of short-term orders, else 1
abbrev pub term_of : ℕ → ℕ
term_of flags = if flags == 0 then 0 else 1

-- ends of short-term orders first, and of each sort the earlier end
abbrev pub expiry_cmp : Expiry → Expiry → Ordering
expiry_cmp a b = ordering_then (nat_cmp (term_of a.flags) (term_of b.flags)) (ordering_then (nat_cmp a.until b.until) (nat_cmp a.flags b.flags))

-- the level of an order
abbrev pub level_of : Order → Level
level_of o = record { market = o.id.market; buy = o.buy; subticks = o.subticks }

-- the expiry of an order
abbrev pub expiry_of : Order → Expiry
expiry_of o = record { flags = o.id.flags; until = o.until }
