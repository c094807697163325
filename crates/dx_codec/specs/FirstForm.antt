-- The bytes of a genesis of the first form, as they were before margins could be scaled, and what is said of them.
use Rattle.std.specs.Prelude.{◌≡◌, ℕ, None, List, [], ◌∷◌, ◌++◌}
use Rattle.sha2.specs.Sha256.{sha256}
use Rattle.dx_types.specs.declared.MarketParams.{MarketParams}
use Rattle.dx_types.specs.declared.Genesis.{Genesis}
use Rattle.dx_codec.specs.Bytes.{u32_bytes, u64_bytes, i64_bytes, list_bytes}
use Rattle.dx_codec.specs.Genesis.{genesis_bytes, digest_of}

-- a market of the first form: its ten numbers, each in 8 bytes
unfoldable pub first_market_bytes : MarketParams → List ℕ
first_market_bytes p =
    i64_bytes p.atomic ++ i64_bytes p.conversion ++ u64_bytes p.step ++ u64_bytes p.tick ++ i64_bytes p.price_exponent
    ++ u64_bytes p.price ++ u64_bytes p.initial ++ u64_bytes p.maintenance ++ u64_bytes p.impact ++ u64_bytes p.rate_cap

-- a genesis of the first form: the byte 1, the time, the insurance, the votes and the rates, and the list of markets
unfoldable pub first_genesis_bytes : Genesis → List ℕ
first_genesis_bytes g =
    (1 ∷ []) ++ u32_bytes g.time ++ i64_bytes g.insurance ++ u32_bytes g.params.min_votes
    ++ u32_bytes g.params.taker_ppm ++ u32_bytes g.params.maker_ppm ++ u32_bytes g.params.liq_cap_ppm ++ u32_bytes g.params.spread_ppm
    ++ u32_bytes g.params.bankruptcy_ppm ++ list_bytes first_market_bytes g.params.markets

-- a genesis that never scales margins has just the bytes of the first form
abbrev pub KeepsFirstForm : Type 0
KeepsFirstForm = (g : Genesis) → g.params.scale_from ≡ None → genesis_bytes g ≡ first_genesis_bytes g

-- and so their digest
abbrev pub KeepsDigest : Type 0
KeepsDigest = (g : Genesis) → g.params.scale_from ≡ None → digest_of g ≡ sha256 (first_genesis_bytes g)
