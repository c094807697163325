-- How many ids operations mention at most.
use Rattle.std.proofs.Common.{◌≡◌, ◌+◌, ◌≤◌, List, [], ◌∷◌, ◌++◌, length, arith, length-append}
use Rattle.std.specs.Prelude.{sum_by, flat_map}
use Rattle.std.proofs.lemmas.List.{length-map}
use Rattle.std.proofs.lemmas.List.Sums.{sum_by-cons}
use Rattle.dx_types.specs.declared.Op.{Op}
use Rattle.dx_types.specs.declared.Op.TheVariants.{Place, Match, Liquidate, Delever, Remove}
use Rattle.dx_spec.specs.Blocks.{fills_in}
use Rattle.dx_node_spec.specs.Queue.{mentioned}

-- one for each fill, and one more
mentioned_within : (op : Op) → length (mentioned op) ≤ fills_in op + 1
mentioned_within (Place o) = omega arith
mentioned_within (Match taker fills) = simp (length-append, length-map) (omega arith)
mentioned_within (Liquidate who market fills) = simp length-map (omega arith)
mentioned_within (Delever who market offsets) = omega arith
mentioned_within (Remove id) = omega arith

-- one for each fill, and one more for each operation
pub mentions_within : (ops : List Op) → length (flat_map mentioned ops) ≤ sum_by fills_in ops + length ops
mentions_within [] = omega arith
mentions_within (op ∷ ops) =
    let this = mentioned_within op in
    let rest = mentions_within ops in
    let ids : length (mentioned op ++ flat_map mentioned ops) ≡ length (mentioned op) + length (flat_map mentioned ops) = length-append _ _ in
    omega (arith, sum_by-cons fills_in op ops)
