-- How many rows a node has, by the heights that they stand at.
use Rattle.std.proofs.Common.{◌≡◌, ℕ, zero, suc, ◌+◌, ◌-◌, ◌^◌, ◌<◌, ◌≤◌, Bool, true, false, cond, ◌==◌, ◌&&◌, List, [], ◌∷◌, length, filter, slice_get, Option, Some, None, option_map, refl, sym, ap, subst, ◌∙◌, arith}
use Rattle.std.specs.Prelude.{◌||◌, min, is_some}
use Rattle.std.specs.List.{AllByRecursion}
use Rattle.std.specs.List.Sorted.{IsStrictlySortedBy}
use Rattle.std.specs.Map.{keys_of}
use Rattle.std.specs.declared.cmp.Ordering.{Ordering}
use Rattle.std.specs.declared.cmp.Ordering.TheVariants.{Less, Equal, Greater}
use Rattle.std.specs.Ordering.{nat_cmp, ordering_then, MatchOrdering}
use Rattle.std.specs.Cmp.{nat_cmp_is, ranks}
use Rattle.std.specs.FinMap as map
use Rattle.std.proofs.lemmas.Bool.{eqb-true}
use Rattle.std.proofs.lemmas.Bool.Decides.{nat_tests}
use Rattle.dx_maps.proofs.Entries.{keys_rise}
use Rattle.dx_types.specs.declared.Block.{Block}
use Rattle.dx_types.specs.declared.Genesis.{Genesis}
use Rattle.dx_spec.proofs.Each.{all_weaker}
use Rattle.dx_io.specs.declared.row_key.RowKey.{RowKey}
use Rattle.dx_io.specs.RowKeys.{row_cmp}
use Rattle.dx_io.specs.Rows.{Rows, row_count}
use Rattle.dx_history.specs.Rows.{place_of}
use Rattle.dx_history.specs.Chains.{row_at, AreRowsOf}
use Rattle.dx_history.proofs.Growing.{place_tied}
use Rattle.dx_history.proofs.Rising.{is_in, Rises, up_to, not_more, each_in, rises_up, length_up, each_up, in_all}

-- the heights of a node among entries
abbrev pub heights : ℕ → List (RowKey × List ℕ) → List ℕ
heights node [] = []
heights node (e ∷ es) = cond (e.0.node == node) (e.0.height ∷ heights node es) (heights node es)

-- those that a node has rows at
abbrev pub heights_of : Rows → ℕ → List ℕ
heights_of rows node = heights node (map.entries rows)

-- ---- they are counted

one_counted : (t : Bool) (key : RowKey) (keys : List RowKey) (h : ℕ) (hs : List ℕ) → length keys ≡ length hs → length (cond t (key ∷ keys) keys) ≡ length (cond t (h ∷ hs) hs)
one_counted true key keys h hs e = ap suc e
one_counted false key keys h hs e = e

entries_counted : (node : ℕ) (es : List (RowKey × List ℕ)) → length (filter (λ key. key.node == node) (keys_of es)) ≡ length (heights node es)
entries_counted node [] = refl
entries_counted node (e ∷ es) =
    one_counted (e.0.node == node) e.0 (filter (λ key. key.node == node) (keys_of es)) e.0.height (heights node es) (entries_counted node es)

pub counted : (rows : Rows) (node : ℕ) → row_count rows node ≡ min (length (heights_of rows node)) (2 ^ 32 - 1)
counted rows node = ap (λ (n : ℕ). min n (2 ^ 32 - 1)) (entries_counted node (map.entries rows))

-- ---- a height is one of them exactly where there is a row

flipped : (n m : ℕ) → (n == m) ≡ (m == n)
flipped n m = grind (arith, nat_tests)

here : (t : Bool) (b : Bool) (bytes : List ℕ) (o : Option (List ℕ)) → b ≡ is_some o → (t || b) ≡ is_some (cond t (Some bytes) o)
here true b bytes o e = refl
here false b bytes o e = e

one_found : (t : Bool) (h x : ℕ) (hs : List ℕ) (bytes : List ℕ) (o : Option (List ℕ)) → is_in h hs ≡ is_some o
    → is_in h (cond t (x ∷ hs) hs) ≡ is_some (cond (t && (h == x)) (Some bytes) o)
one_found true h x hs bytes o e = here (h == x) (is_in h hs) bytes o e
one_found false h x hs bytes o e = e

entries_found : (node h : ℕ) (es : List (RowKey × List ℕ)) → is_in h (heights node es) ≡ is_some (map.find row_cmp (place_of node h) es)
entries_found node h [] = refl
entries_found node h (e ∷ es) =
    one_found (e.0.node == node) h e.0.height (heights node es) e.1 (map.find row_cmp (place_of node h) es) (entries_found node h es)
    ∙ ap (λ (t : Bool). is_some (cond (t && (h == e.0.height)) (Some e.1) (map.find row_cmp (place_of node h) es))) (flipped e.0.node node)
    ∙ ap (λ (t : Bool). is_some (cond t (Some e.1) (map.find row_cmp (place_of node h) es))) (sym (place_tied (place_of node h) e.0))

pub found_at : (rows : Rows) (node h : ℕ) → is_in h (heights_of rows node) ≡ is_some (map.get rows (place_of node h))
found_at rows node h = entries_found node h (map.entries rows) ∙ ap is_some (sym (map.get-entries rows (place_of node h)))

-- ---- and they rise

then_less : (x y : Ordering) → ordering_then x y ≡ Less → Equal ≡ x → y ≡ Less
then_less Less y e same = absurd (cc)
then_less Equal y e same = e
then_less Greater y e same = absurd (cc)

less_than : (n m : ℕ) → nat_cmp n m ≡ Less → n < m
less_than n m e = subst (λ (r : Ordering). MatchOrdering r (n < m) (n ≡ m) (m < n)) e (ranks n m)

key_above : (key other : RowKey) (node : ℕ) → row_cmp key other ≡ Less → (key.node == node) ≡ true → (other.node == node) ≡ true → key.height + 1 ≤ other.height
key_above key other node e i j =
    let same : key.node ≡ other.node = eqb-true key.node node i ∙ sym (eqb-true other.node node j) in
    let less = less_than key.height other.height (then_less (nat_cmp key.node other.node) (nat_cmp key.height other.height) e (nat_cmp_is key.node other.node Equal same)) in
    omega (arith, less)

entries_rise : (node low : ℕ) (es : List (RowKey × List ℕ)) → AllByRecursion (λ key. (key.node == node) ≡ true → low ≤ key.height) (keys_of es)
    → IsStrictlySortedBy row_cmp (keys_of es) → Rises low (heights node es)
unfolding IsStrictlySortedBy
entries_rise node low [] h sorted = tt
entries_rise node low (e ∷ es) h sorted =
    go (e.0.node == node) refl (entries_rise node low es h.1 sorted.1)
    (λ i. entries_rise node (e.0.height + 1) es (all_weaker (λ key. row_cmp e.0 key ≡ Less) (λ key. (key.node == node) ≡ true → e.0.height + 1 ≤ key.height) (λ key less j. key_above e.0 key node less i j) (keys_of es) sorted.0) sorted.1)
  where
    go : (t : Bool) → (e.0.node == node) ≡ t → Rises low (heights node es) → ((e.0.node == node) ≡ true → Rises (e.0.height + 1) (heights node es))
        → Rises low (cond t (e.0.height ∷ heights node es) (heights node es))
    go true i same more = (h.0 i, more i)
    go false i same more = same

any_key : (node : ℕ) (keys : List RowKey) → AllByRecursion (λ key. (key.node == node) ≡ true → 0 ≤ key.height) keys
any_key node [] = tt
any_key node (key ∷ keys) = (λ e. omega arith, any_key node keys)

pub risen : (rows : Rows) (node : ℕ) → Rises 0 (heights_of rows node)
risen rows node = entries_rise node 0 (map.entries rows) (any_key node (keys_of (map.entries rows))) (keys_rise row_cmp rows)

-- ---- so rows at the same heights are as many

not_fewer : (a b : Rows) (m n : ℕ) → ((h : ℕ) → is_some (map.get a (place_of m h)) ≡ is_some (map.get b (place_of n h)))
    → length (heights_of b n) ≤ length (heights_of a m)
not_fewer a b m n same =
    not_more (heights_of a m) (heights_of b n) 0 0 (risen a m) (risen b n)
    (each_in (λ h. is_in h (heights_of a m) ≡ true) (heights_of b n) (λ h e. found_at a m h ∙ same h ∙ sym (found_at b n h) ∙ e))

pub same_count : (a b : Rows) (m n : ℕ) → ((h : ℕ) → is_some (map.get a (place_of m h)) ≡ is_some (map.get b (place_of n h))) → row_count a m ≡ row_count b n
same_count a b m n same =
    let more = not_fewer a b m n same in
    let less = not_fewer b a n m (λ h. sym (same h)) in
    let equal : length (heights_of a m) ≡ length (heights_of b n) = omega (arith, more, less) in
    counted a m ∙ ap (λ (k : ℕ). min k (2 ^ 32 - 1)) equal ∙ sym (counted b n)

-- ---- the rows of a chain

some_mapped : {X Y : Type 0} (f : X → Y) (o : Option X) → is_some (option_map f o) ≡ is_some o
some_mapped f None = refl
some_mapped f (Some x) = refl

there : {X : Type 0} (xs : List X) (n : ℕ) → n < length xs → is_some (slice_get xs n) ≡ true
there [] n lt = absurd (omega (arith, lt))
there (x ∷ xs) zero lt = refl
there (x ∷ xs) (suc n) lt = there xs n (omega (arith, lt))

within : {X : Type 0} (xs : List X) (n : ℕ) → is_some (slice_get xs n) ≡ true → n < length xs
within [] n e = absurd (cc)
within (x ∷ xs) zero e = omega arith
within (x ∷ xs) (suc n) e = let rest = within xs n e in omega (arith, rest)

pub row_there : (g : Genesis) (bs : List Block) (h : ℕ) → h ≤ length bs → is_some (row_at g bs h) ≡ true
row_there g bs zero le = refl
row_there g bs (suc n) le = some_mapped _ (slice_get bs n) ∙ there bs n (omega (arith, le))

row_within : (g : Genesis) (bs : List Block) (h : ℕ) → is_some (row_at g bs h) ≡ true → h ≤ length bs
row_within g bs zero e = omega arith
row_within g bs (suc n) e = let rest = within bs n (sym (some_mapped _ (slice_get bs n)) ∙ e) in omega (arith, rest)

-- they are one more than its blocks
pub rows_of_chain : (rows : Rows) (node : ℕ) (g : Genesis) (bs : List Block) → AreRowsOf rows node g bs → length (heights_of rows node) ≡ length bs + 1
rows_of_chain rows node g bs are =
    let most = length bs in
    let all = up_to 0 most most in
    let rise = rises_up 0 most most (omega arith) in
    let less = not_more (heights_of rows node) all 0 0 (risen rows node) rise
    (each_up (λ h. is_in h (heights_of rows node) ≡ true) 0 most most
    (λ h low high. found_at rows node h ∙ ap is_some (are h) ∙ row_there g bs h (omega (arith, high)))
    (found_at rows node most ∙ ap is_some (are most) ∙ row_there g bs most (omega arith))) in
    let more = not_more all (heights_of rows node) 0 0 rise (risen rows node)
    (each_in (λ h. is_in h all ≡ true) (heights_of rows node)
    (λ h e. in_all h most (row_within g bs h (sym (ap is_some (are h)) ∙ sym (found_at rows node h) ∙ e)))) in
    omega (arith, less, more, length_up 0 most most)

-- so many are counted where 32 bits hold the number
pub chain_counted : (rows : Rows) (node : ℕ) (g : Genesis) (bs : List Block) → AreRowsOf rows node g bs → length bs ≤ 4_000_000_000 → row_count rows node ≡ length bs + 1
chain_counted rows node g bs are few =
    counted rows node ∙ small (length (heights_of rows node)) (length bs) (rows_of_chain rows node g bs are) few
  where
    small : (n m : ℕ) → n ≡ m + 1 → m ≤ 4_000_000_000 → min n (2 ^ 32 - 1) ≡ m + 1
    small n m e f = omega (arith, e, f)

-- ---- a node with so many rows as it has heights from 0 on has no others

pub no_others : (rows : Rows) (node most : ℕ) → row_count rows node ≡ most + 1 → most ≤ 4_000_000_000
    → ((h : ℕ) → h ≤ most → is_some (map.get rows (place_of node h)) ≡ true) → (h : ℕ) → most < h → map.get rows (place_of node h) ≡ None
no_others rows node most count few all h past = go (map.get rows (place_of node h)) refl
  where
    least : (n : ℕ) → min n (2 ^ 32 - 1) ≡ most + 1 → n ≤ most + 1
    least n e = omega (arith, e, few)

    go : (o : Option (List ℕ)) → map.get rows (place_of node h) ≡ o → map.get rows (place_of node h) ≡ None
    go None e = e
    go (Some bytes) e =
        let less = not_more (heights_of rows node) (up_to 0 (most + 1) h) 0 0 (risen rows node) (rises_up 0 (most + 1) h (omega (arith, past)))
        (each_up (λ k. is_in k (heights_of rows node) ≡ true) 0 (most + 1) h (λ k low high. found_at rows node k ∙ all k (omega (arith, high))) (found_at rows node h ∙ ap is_some e)) in
        absurd (omega (arith, less, length_up 0 (most + 1) h, least (length (heights_of rows node)) (sym (counted rows node) ∙ count)))

-- and one that has none counted has none
pub no_rows : (rows : Rows) (node : ℕ) → row_count rows node ≡ 0 → (h : ℕ) → map.get rows (place_of node h) ≡ None
no_rows rows node count h = go (map.get rows (place_of node h)) refl
  where
    least : (n : ℕ) → min n (2 ^ 32 - 1) ≡ 0 → n ≡ 0
    least n e = omega (arith, e)

    go : (o : Option (List ℕ)) → map.get rows (place_of node h) ≡ o → map.get rows (place_of node h) ≡ None
    go None e = e
    go (Some bytes) e =
        let less = not_more (heights_of rows node) (h ∷ []) 0 0 (risen rows node) (omega arith, tt) (found_at rows node h ∙ ap is_some e, tt) in
        absurd (omega (arith, less, least (length (heights_of rows node)) (sym (counted rows node) ∙ count)))
