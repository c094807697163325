-- The line of a change is read as that change.
use Rattle.std.proofs.Common.{◌≡◌, ℕ, ◌^◌, ◌<◌, ◌≤◌, Bool, true, false, cond, ◌&&◌, ◌==◌, nat_le, Option, Some, None, Result, Ok, Err, IfOk, List, [], ◌∷◌, ◌++◌, length, codes, decimal, string_bytes, String, refl, sym, ap, subst, ◌∙◌, arith, lit≤, lit<, append_assoc, append-nil}
use Rattle.std.specs.Prelude.{option_map, option_and_then}
use Rattle.std.specs.Str.{IsUtf8}
use Rattle.std.specs.Str.Lossy.{utf8_valid_len}
use Rattle.std.proofs.lemmas.Str.{utf8_valid_len-IsUtf8, IsUtf8-append, IsUtf8-from_ascii}
use Rattle.std.proofs.lemmas.Fmt.{IsAscii-decimal}
use Rattle.std.proofs.lemmas.Bool.{le-leb, eq-eqb}
use Rattle.json.specs.Token.{Token}
use Rattle.json.specs.Lex.{tokens}
use Rattle.json.specs.Json as json
use Rattle.json.specs.Tree as tree
use Rattle.json.specs.Tree.{json_tokens, items_tokens}
use Rattle.json.specs.Print.{ArePrintable}
use Rattle.json.proofs.Printed.Utf8.{are_ascii, IsUtf8-are_ascii, IsUtf8-quoted}
use Rattle.json.proofs.Printed.Tokens.{tokens-print}
use Rattle.json.proofs.Printed.Trees.{value-json_tokens}
use Rattle.json.proofs.Printed.Decimals.{IsNumber-decimal}
use Rattle.serde_json.specs.Data.{Data, number, unsigned, string, array, Items, no_items, item}
use Rattle.serde_json.specs.Read.{read, max_depth, of_json, of_items}
use Rattle.serde_json.specs.Find.{at}
use Rattle.serde_json.specs.Written.{has_float, outline, items_outline, compact_text, items_text}
use Rattle.serde_json.proofs.Texts.{print-outline}
use Rattle.serde_json.proofs.Numbers.{number_of-decimal}
use Rattle.dx_types.specs.declared.OrderId.{OrderId}
use Rattle.dx_types.specs.declared.Order.{Order}
use Rattle.dx_types.specs.declared.Kind.{Kind}
use Rattle.dx_types.specs.declared.Kind.TheVariants.{Gtc, Ioc, PostOnly, ReduceIoc}
use Rattle.dx_spec.specs.Orders.{byte_of_kind}
use Rattle.dx_spec.proofs.Scripts.{unit_next, stage_next}
use Rattle.dx_types.specs.declared.Shown.{Shown}
use Rattle.dx_feed.specs.declared.Change.{Change}
use Rattle.dx_feed.specs.declared.Change.TheVariants.{Clear, Gone, Left, Add}
use Rattle.dx_scenario.specs.declared.changes.ChangeWord.TheVariants as words
use Rattle.dx_scenario.specs.Parts.{value_of, value_part, closed, nat_part, u32_part, u64_part}
use Rattle.dx_scenario.specs.Names.{subaccount_in, order_id_in, order_id_of, order_id_part}
use Rattle.dx_scenario.specs.Orders.{side_part, kind_part, order_of, order_part}
use Rattle.dx_scenario.specs.Changes.{last_node, clear_in, gone_in, left_in, add_in, change_behind, change_word, change_in, change_of, with_number, id_items, id_data, order_data, line_data, change_data, change_text, HasIdWidths, HasOrderWidths, HasWidths, IsReadAs, ChangesAreRead}

-- a number that stands there within its bound is read
number_at : (high place i n : ℕ) (d : Data) → at i d ≡ Some (number (unsigned n)) → n ≤ high → nat_part 0 high place i d ≡ Ok n
number_at high place i n d e l =
    let low : nat_le 0 n ≡ true = le-leb 0 n (omega arith) in
    let high : nat_le n high ≡ true = le-leb n high l in
    rw (e, low, high) refl

-- an id that stands at the front of an array
id_at_front : (place : ℕ) (id : OrderId) (rest : Items) → HasIdWidths id → order_id_in place (array (id_items id rest)) ≡ Ok id
unfolding order_id_in subaccount_in
id_at_front place id rest h =
    let d = array (id_items id rest) in
    let who : subaccount_in place d ≡ Ok id.who =
    stage_next (u32_part place 0 d) id.who.owner _ (number_at 4_294_967_295 place 0 id.who.owner d refl h.owner)
    ∙ stage_next (u32_part place 1 d) id.who.number _ (number_at 4_294_967_295 place 1 id.who.number d refl h.number) in
    stage_next (subaccount_in place d) id.who _ who
    ∙ stage_next (u32_part place 2 d) id.client _ (number_at 4_294_967_295 place 2 id.client d refl h.client)
    ∙ stage_next (u32_part place 3 d) id.flags _ (number_at 4_294_967_295 place 3 id.flags d refl h.flags)
    ∙ stage_next (u32_part place 4 d) id.market _ (number_at 4_294_967_295 place 4 id.market d refl h.market)

-- an id alone
id_alone : (place : ℕ) (id : OrderId) → HasIdWidths id → order_id_of place (id_data id) ≡ Ok id
unfolding order_id_of
id_alone place id h = stage_next (order_id_in place (id_data id)) id _ (id_at_front place id no_items h)

id_there : (place i : ℕ) (id : OrderId) (d : Data) → at i d ≡ Some (id_data id) → HasIdWidths id → order_id_part place i d ≡ Ok id
id_there place i id d e h =
    let found : value_part place i d ≡ Ok (id_data id) = rw e refl in
    stage_next (value_part place i d) (id_data id) (order_id_of place) found ∙ id_alone place id h

side_at : (place i : ℕ) (buy : Bool) (d : Data) → at i d ≡ Some (number (unsigned (cond buy 1 0))) → side_part place i d ≡ Ok buy
unfolding side_part
side_at place i true d e = rw e refl
side_at place i false d e = rw e refl

kind_at : (place i : ℕ) (kind : Kind) (d : Data) → at i d ≡ Some (number (unsigned (byte_of_kind kind))) → kind_part place i d ≡ Ok kind
unfolding kind_part
kind_at place i Gtc d e = rw e refl
kind_at place i Ioc d e = rw e refl
kind_at place i PostOnly d e = rw e refl
kind_at place i ReduceIoc d e = rw e refl

order_alone : (place : ℕ) (o : Order) → HasOrderWidths o → order_of place (order_data o) ≡ Ok o
unfolding order_of
order_alone place o h =
    let d = order_data o in
    stage_next (order_id_in place d) o.id _ (id_at_front place o.id _ h.id)
    ∙ stage_next (side_part place 5 d) o.buy _ (side_at place 5 o.buy d refl)
    ∙ stage_next (u64_part place 6 d) o.size _ (number_at 18_446_744_073_709_551_615 place 6 o.size d refl h.size)
    ∙ stage_next (u64_part place 7 d) o.subticks _ (number_at 18_446_744_073_709_551_615 place 7 o.subticks d refl h.subticks)
    ∙ stage_next (u32_part place 8 d) o.until _ (number_at 4_294_967_295 place 8 o.until d refl h.until)
    ∙ stage_next (kind_part place 9 d) o.kind _ (kind_at place 9 o.kind d refl)

order_there : (place i : ℕ) (o : Order) (d : Data) → at i d ≡ Some (order_data o) → HasOrderWidths o → order_part place i d ≡ Ok o
order_there place i o d e h =
    let found : value_part place i d ≡ Ok (order_data o) = rw e refl in
    stage_next (value_part place i d) (order_data o) (order_of place) found ∙ order_alone place o h

-- what stands behind the word and the node
behind_read : (node : ℕ) (c : Change) → HasWidths c → (w : _) → change_word (change_data node c) ≡ Ok w → change_behind (change_data node c) w ≡ Ok c
unfolding change_behind clear_in gone_in left_in add_in
behind_read node Clear h w e = let is : w ≡ words.Clear = cc in rw is refl
behind_read node (Gone id) h w e =
    let is : w ≡ words.Gone = cc in
    let d = change_data node (Gone id) in
    rw is (stage_next (order_id_part 0 2 d) id _ (id_there 0 2 id d refl h))
behind_read node (Left id left) h w e =
    let is : w ≡ words.Left = cc in
    let d = change_data node (Left id left) in
    rw is (stage_next (order_id_part 0 2 d) id _ (id_there 0 2 id d refl h.0)
    ∙ stage_next (u64_part 0 3 d) left _ (number_at 18_446_744_073_709_551_615 0 3 left d refl h.1))
behind_read node (Add s) h w e =
    let is : w ≡ words.Add = cc in
    let d = change_data node (Add s) in
    rw is (stage_next (order_part 0 2 d) s.order _ (order_there 0 2 s.order d refl h.0)
    ∙ stage_next (u64_part 0 3 d) s.left _ (number_at 18_446_744_073_709_551_615 0 3 s.left d refl h.1))

node_at : (node : ℕ) (c : Change) → at 1 (change_data node c) ≡ Some (number (unsigned node))
node_at node Clear = refl
node_at node (Gone id) = refl
node_at node (Left id left) = refl
node_at node (Add s) = refl

-- the value of the line of a change is read as that change
pub value_read : (node : ℕ) (c : Change) → node ≤ last_node → HasWidths c → change_in (change_data node c) ≡ Ok (node, c)
unfolding change_in
value_read node c l h =
    let d = change_data node c in
    let w = word_at c in
    stage_next (change_word d) w.0 _ w.1
    ∙ stage_next (nat_part 0 last_node 0 1 d) node _ (number_at last_node 0 1 node d (node_at node c) l)
    ∙ stage_next (change_behind d w.0) c _ (behind_read node c h w.0 w.1)
  where
    word_at : (x : Change) → (w : _) × (change_word (change_data node x) ≡ Ok w)
    word_at Clear = (words.Clear, refl)
    word_at (Gone id) = (words.Gone, refl)
    word_at (Left id left) = (words.Left, refl)
    word_at (Add s) = (words.Add, refl)

no_float : (node : ℕ) (c : Change) → has_float (change_data node c) ≡ false
no_float node Clear = refl
no_float node (Gone id) = refl
no_float node (Left id left) = refl
no_float node (Add s) = refl

not_deep : (node : ℕ) (c : Change) → tree.depth (outline (change_data node c)) ≤ max_depth
not_deep node Clear = lit≤ tt
not_deep node (Gone id) = lit≤ tt
not_deep node (Left id left) = lit≤ tt
not_deep node (Add s) = lit≤ tt

-- a value whose text is UTF-8 and is read as it
record IsReadAgain (d : Data) : Type 0 where
  printable : (rest : List Token) → ArePrintable rest → ArePrintable (json_tokens (outline d) ++ rest)
  reads : of_json (outline d) ≡ Some d
  utf8 : IsUtf8 (compact_text d)

-- the same of items behind others, with the closing bracket
record AreReadAgain (ds : Items) : Type 0 where
  printable : (rest : List Token) → ArePrintable rest → ArePrintable (items_tokens (items_outline ds) ++ rest)
  reads : of_items (items_outline ds) ≡ Some ds
  utf8 : IsUtf8 (items_text true ds)

no_more : AreReadAgain no_items
unfolding ArePrintable
no_more = record { printable = λ rest r. (tt, r); reads = refl; utf8 = IsUtf8-are_ascii (93 ∷ []) refl }

one_more : (d : Data) (ds : Items) → IsReadAgain d → AreReadAgain ds → AreReadAgain (item d ds)
one_more d ds v i = record {
  printable = λ rest r. subst ArePrintable (sym (append_assoc (json_tokens (outline d)) (items_tokens (items_outline ds)) rest)) (v.printable _ (i.printable rest r));
  reads = rw (v.reads, i.reads) refl;
  utf8 = IsUtf8-append (44 ∷ []) _ (IsUtf8-are_ascii (44 ∷ []) refl) (IsUtf8-append (compact_text d) (items_text true ds) v.utf8 i.utf8);
}

number_again : (n : ℕ) → n < 2 ^ 64 → IsReadAgain (number (unsigned n))
unfolding ArePrintable
number_again n l = record {
  printable = λ rest r. (IsNumber-decimal n l, r);
  reads = rw (number_of-decimal n l) refl;
  utf8 = IsUtf8-from_ascii (decimal n) (IsAscii-decimal n l);
}

word_again : (word : List ℕ) → are_ascii word ≡ true → IsReadAgain (string word)
unfolding ArePrintable
word_again word e = record { printable = λ rest r. (tt, r); reads = refl; utf8 = IsUtf8-quoted word (IsUtf8-are_ascii word e) }

array_again : (d : Data) (ds : Items) → IsReadAgain d → AreReadAgain ds → IsReadAgain (array (item d ds))
unfolding ArePrintable
array_again d ds v i =
    let all = one_more d ds v i in
    record {
      printable = λ rest r. (tt, all.printable rest r);
      reads = ap (option_map array) all.reads;
      utf8 = IsUtf8-append (91 ∷ []) (compact_text d ++ items_text true ds) (IsUtf8-are_ascii (91 ∷ []) refl) (IsUtf8-append (compact_text d) (items_text true ds) v.utf8 i.utf8);
    }

-- a number behind others
number_more : (n : ℕ) (ds : Items) → n < 2 ^ 64 → AreReadAgain ds → AreReadAgain (with_number n ds)
number_more n ds l i = one_more (number (unsigned n)) ds (number_again n l) i

-- the numbers of an id behind its first one
id_again : (id : OrderId) (ds : Items) → HasIdWidths id → AreReadAgain ds → IsReadAgain (array (id_items id ds))
id_again id ds h i =
    array_again (number (unsigned id.who.owner)) _ (number_again id.who.owner (omega (arith, h.owner)))
    (number_more id.who.number _ (omega (arith, h.number)) (number_more id.client _ (omega (arith, h.client))
    (number_more id.flags _ (omega (arith, h.flags)) (number_more id.market ds (omega (arith, h.market)) i))))

side_fits : (buy : Bool) → cond buy 1 0 < 2 ^ 64
side_fits true = lit< tt
side_fits false = lit< tt

kind_fits : (kind : Kind) → byte_of_kind kind < 2 ^ 64
kind_fits Gtc = lit< tt
kind_fits Ioc = lit< tt
kind_fits PostOnly = lit< tt
kind_fits ReduceIoc = lit< tt

order_again : (o : Order) → HasOrderWidths o → IsReadAgain (order_data o)
order_again o h =
    id_again o.id _ h.id (number_more (cond o.buy 1 0) _ (side_fits o.buy) (number_more o.size _ (omega (arith, h.size))
    (number_more o.subticks _ (omega (arith, h.subticks)) (number_more o.until _ (omega (arith, h.until)) (number_more (byte_of_kind o.kind) no_items (kind_fits o.kind) no_more)))))

line_again : (word : List ℕ) (node : ℕ) (ds : Items) → are_ascii word ≡ true → node ≤ last_node → AreReadAgain ds → IsReadAgain (line_data word node ds)
line_again word node ds e l i = array_again (string word) (with_number node ds) (word_again word e) (number_more node ds (omega (arith, l)) i)

change_again : (node : ℕ) (c : Change) → node ≤ last_node → HasWidths c → IsReadAgain (change_data node c)
change_again node Clear l h = line_again (codes "clear") node no_items refl l no_more
change_again node (Gone id) l h = line_again (codes "gone") node _ refl l (one_more (id_data id) no_items (id_again id no_items h no_more) no_more)
change_again node (Left id left) l h =
    line_again (codes "left") node _ refl l (one_more (id_data id) _ (id_again id no_items h.0 no_more) (number_more left no_items (omega (arith, h.1)) no_more))
change_again node (Add s) l h =
    line_again (codes "add") node _ refl l (one_more (order_data s.order) _ (order_again s.order h.0) (number_more s.left no_items (omega (arith, h.1)) no_more))

none_printable : ArePrintable []
unfolding ArePrintable
none_printable = tt

-- the text of such a value is read as it
text_again : (d : Data) → IsReadAgain d → tree.depth (outline d) ≤ max_depth → read (compact_text d) ≡ Some d
text_again d v shallow =
    let ts = json_tokens (outline d) in
    let printable : ArePrintable ts = subst ArePrintable (append-nil ts) (v.printable [] none_printable) in
    let same : tokens (compact_text d) ≡ ts = ap tokens (sym (print-outline d)) ∙ tokens-print ts printable in
    ap (λ r. option_and_then of_json (option_and_then (λ p. json.if_last p.0 p.1) r))
    (ap (json.value max_depth) (same ∙ sym (append-nil ts)) ∙ value-json_tokens (outline d) max_depth [] shallow)
    ∙ v.reads

-- a text that is UTF-8 and reads as a value
value_of_text : (text : List ℕ) (d : Data) → IsUtf8 text → read text ≡ Some d → value_of text ≡ Ok d
value_of_text text d u e = rw (eq-eqb (utf8_valid_len text) (length text) (utf8_valid_len-IsUtf8 text u), e) refl

pub changes_are_read : ChangesAreRead
unfolding change_text
changes_are_read node c l h =
    let d = change_data node c in
    let v = change_again node c l h in
    stage_next (value_of (compact_text d)) d change_in (value_of_text (compact_text d) d v.utf8 (text_again d v (not_deep node c))) ∙ value_read node c l h

-- what is written is the text of the change
pub text_written : {Z E : Type 0} (node : ℕ) (c : Change) (d : Data) (r : Result (String Z) E) → d ≡ change_data node c
    → IfOk r (λ s. has_float d ≡ false → string_bytes s ≡ compact_text d) → IfOk r (λ s. string_bytes s ≡ change_text node c)
unfolding change_text
text_written node c d (Ok s) e h = h (ap has_float e ∙ no_float node c) ∙ ap compact_text e
text_written node c d (Err fault) e h = tt

-- and it is read as the change
pub text_read : {Z E : Type 0} (node : ℕ) (c : Change) (r : Result (String Z) E) → HasWidths c
    → IfOk r (λ s. string_bytes s ≡ change_text node c) → IfOk r (λ s. IsReadAs node c (string_bytes s))
text_read node c (Ok s) w h = λ l. ap change_of h ∙ changes_are_read node c l w
text_read node c (Err fault) w h = tt
