-- A genesis that never scales margins has the bytes of the first form.
use Rattle.std.proofs.Common.{◌≡◌, ℕ, List, [], ◌∷◌, ◌++◌, append-nil, Option, None, ap, ◌∙◌}
use Rattle.std.specs.Prelude.{is_some, if◌then◌else◌}
use Rattle.sha2.specs.Sha256.{sha256}
use Rattle.dx_types.specs.declared.Genesis.{Genesis}
use Rattle.dx_codec.specs.Bytes.{u32_bytes, i64_bytes, list_bytes}
use Rattle.dx_codec.specs.Genesis.{market_params_bytes, scaling_bytes, genesis_bytes, digest_of}
use Rattle.dx_codec.specs.FirstForm.{first_market_bytes, first_genesis_bytes}

-- the bytes of a genesis, were its margins scaled from another height on
abbrev bytes_from : Genesis → Option ℕ → List ℕ
bytes_from g o =
    ((if is_some o then 2 else 1) ∷ []) ++ u32_bytes g.time ++ i64_bytes g.insurance ++ u32_bytes g.params.min_votes
    ++ u32_bytes g.params.taker_ppm ++ u32_bytes g.params.maker_ppm ++ u32_bytes g.params.liq_cap_ppm ++ u32_bytes g.params.spread_ppm
    ++ u32_bytes g.params.bankruptcy_ppm ++ list_bytes market_params_bytes g.params.markets ++ scaling_bytes o g.params.markets

pub keeps_bytes : (g : Genesis) → g.params.scale_from ≡ None → genesis_bytes g ≡ first_genesis_bytes g
unfolding genesis_bytes first_genesis_bytes market_params_bytes first_market_bytes scaling_bytes
keeps_bytes g e = ap (bytes_from g) e ∙ append-nil (first_genesis_bytes g)

pub keeps_digest : (g : Genesis) → g.params.scale_from ≡ None → digest_of g ≡ sha256 (first_genesis_bytes g)
keeps_digest g e = ap sha256 (keeps_bytes g e)
