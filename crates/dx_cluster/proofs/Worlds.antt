-- What the program holds, and the nodes and slots that it stands for.
use Rattle.std.proofs.Common.{◌≡◌, ◌<◌, ◌≤◌, ◌+◌, ℕ, zero, suc, List, [], ◌∷◌, ◌++◌, map, length, take, refl, sym, ap, subst, ◌∙◌, arith, add-one, get_or, Option, Some, None, Result, Ok, Err, IfOk}
use Rattle.std.specs.Prelude.{slice_get, slice_set, IsErr}
use Rattle.std.specs.List.{AllZip}
use Rattle.std.specs.FinMap.{get, insert}
use Rattle.std.proofs.lemmas.Slice.Zip.{AllZip-long}
use Rattle.std.proofs.lemmas.List.{set-get_or, take_all}
use Rattle.dx_types.specs.declared.no_memory.NoMemory.{NoMemory as OutOfMemory}
use Rattle.dx_types.specs.declared.Block.{Block}
use Rattle.dx_io.specs.Rows.{Rows}
use Rattle.dx_history.specs.Chains.{Unkept, BadAt, OtherGenesis}
use Rattle.dx_node_spec.specs.Node.{Node}
use Rattle.dx_node_spec.specs.Placing.{Refusal}
use Rattle.dx_node.specs.declared.refusal.Refusal.{Refusal as Cause}
use Rattle.dx_node.specs.Faults.{IsRefused}
use Rattle.dx_node.specs.Held.{Held}
use Rattle.dx_node_spec.specs.Proposals.{propose}
use Rattle.dx_node.specs.Standing.{StandsFor}
use Rattle.dx_print.specs.declared.words.Word.{Word}
use Rattle.dx_print.specs.declared.answer.Answer.{Answer}
use Rattle.dx_print.specs.declared.answer.Answer.TheVariants as answers
use Rattle.dx_cluster.specs.declared.cluster.Cluster.{Cluster}
use Rattle.dx_cluster.specs.declared.fault.StartFault.{StartFault}
use Rattle.dx_cluster.specs.declared.fault.StartFault.TheVariants as starts
use Rattle.dx_cluster.specs.Stored.{Stored}
use Rattle.dx_cluster.specs.Acts.{height_of, refused}
use Rattle.dx_cluster.specs.Refusals.{AnswersCause, cause_answer}
use Rattle.dx_cluster.specs.World.{World, Goes, node_acts, act_at, proposed, put_proposal, node_proposes, propose_at, replied, IsIdle, Stands, StandsForSome, Acts, HasActed, HasGone, HasStepped, Breaks}
use Rattle.dx_cluster.proofs.Everywhere.{all_set, all_at}

-- the same error
same_err : (a b : ℕ × Unkept) → ◌≡◌ {A = Result (World × Answer) (ℕ × Unkept)} (Err a) (Err b) → a ≡ b
same_err a b e = cc

-- there was no memory for an answer
no_answer : (P : Answer → Type 0) (result : Result Answer OutOfMemory) → IsErr result → IfOk result P
no_answer P (Ok a) h = absurd (cc)
no_answer P (Err e) h = tt

-- there is just one answer
one_answer : (P : Answer → Type 0) (result : Result Answer OutOfMemory) (a : Answer) → result ≡ Ok a → P a → IfOk result P
one_answer P result a e h = subst (λ r. IfOk r P) (sym e) h

module _ {A B : Type 0} (R : A → B → Type 0) where
  -- what stands at a place of the second list
  pub found : (xs : List A) (ys : List B) (n : ℕ) → AllZip R xs ys → n < length xs → (y : B) × (slice_get ys n ≡ Some y) × ((x : A) → x ≡ get_or xs n x → R x y)
  found [] ys n z h = absurd (omega arith)
  found (x ∷ xs) [] n z h = absurd z
  found (x ∷ xs) (y ∷ ys) zero z h = (y, refl, λ v e. subst (λ u. R u y) (sym e) z.0)
  found (x ∷ xs) (y ∷ ys) (suc n) z h = found xs ys n z.1 (omega arith)

  -- both lists changed at a place
  pub both_set : (xs : List A) (ys : List B) (n : ℕ) (x : A) (y : B) → AllZip R xs ys → R x y → AllZip R (slice_set xs n x) (slice_set ys n y)
  both_set [] [] n x y z r = tt
  both_set [] (b ∷ ys) n x y z r = absurd z
  both_set (a ∷ xs) [] n x y z r = absurd z
  both_set (a ∷ xs) (b ∷ ys) zero x y z r = (r, z.1)
  both_set (a ∷ xs) (b ∷ ys) (suc n) x y z r = (z.0, both_set xs ys n x y z.1 r)

  -- both lists with one more behind them
  pub both_more : (xs : List A) (ys : List B) (x : A) (y : B) → AllZip R xs ys → R x y → AllZip R (xs ++ x ∷ []) (ys ++ y ∷ [])
  both_more [] [] x y z r = (r, tt)
  both_more [] (b ∷ ys) x y z r = absurd z
  both_more (a ∷ xs) [] x y z r = absurd z
  both_more (a ∷ xs) (b ∷ ys) x y z r = (z.0, both_more xs ys x y z.1 r)

-- an element put where it stands
pub same_set : {A : Type 0} (xs : List A) (n : ℕ) (x : A) → slice_get xs n ≡ Some x → slice_set xs n x ≡ xs
same_set [] n x e = refl
same_set (y ∷ xs) zero x e = ap (λ v. v ∷ xs) (cc)
same_set (y ∷ xs) (suc n) x e = ap (λ vs. y ∷ vs) (same_set xs n x e)

pub node_count : (c : Cluster) (w : World) (n : ℕ) → Stands c w → n ≡ length c.nodes.items → length w.nodes ≡ n
node_count c w n st e = AllZip-long StandsFor c.nodes.items w.nodes st.nodes ∙ sym e

-- a node of the program has no order to place again
pub idle_at : (c : Cluster) (n : ℕ) (h : Held) → StandsForSome c → n < length c.nodes.items → h ≡ get_or c.nodes.items n h → h.again ≡ []
idle_at c n h s l e =
    let p = found StandsFor c.nodes.items s.0.nodes n s.1.nodes l in
    ap (λ (x : Held). x.again) (p.2 h e).parts ∙ all_at IsIdle s.0.nodes n p.0 p.1 s.1.idle

-- what is done leaves no order to place again
abbrev pub KeepsIdle : (Node → Node × Answer) → Type 0
KeepsIdle act = (p : Node) → IsIdle p → IsIdle (act p).0

-- a node has done something, as just the one that it stands for
pub has_acted_at : (c d : Cluster) (w : World) (node : ℕ) (act : Node → Node × Answer) (old new : Held) (answer : Answer) → Stands c w → node < length c.nodes.items → old ≡ get_or c.nodes.items node old
    → ((p : Node) → slice_get w.nodes node ≡ Some p → StandsFor old p → StandsFor new (act p).0 × (answer ≡ (act p).1)) → KeepsIdle act
    → d.nodes.items ≡ slice_set c.nodes.items node new → d.slots ≡ c.slots → HasActed (act_at w node act) d answer
has_acted_at c d w node act old new answer st h o a k ns ss =
    let p = found StandsFor c.nodes.items w.nodes node st.nodes h in
    let r = a p.0 p.1 (p.2 old o) in
    let acted : act_at w node act ≡ (record w { nodes = slice_set w.nodes node (act p.0).0 }, (act p.0).1) = ap (λ q. node_acts w q node act) p.1 in
    let stands : Stands d (record w { nodes = slice_set w.nodes node (act p.0).0 }) = record {
      nodes = subst (λ xs. AllZip StandsFor xs (slice_set w.nodes node (act p.0).0)) (sym ns) (both_set StandsFor c.nodes.items w.nodes node new (act p.0).0 st.nodes r.0);
      slots = ss ∙ st.slots;
      idle = all_set IsIdle w.nodes node (act p.0).0 st.idle (k p.0 (all_at IsIdle w.nodes node p.0 p.1 st.idle));
    } in
    subst (λ (x : World × Answer). HasActed x d answer) (sym acted) (record { answered = r.1; stands = stands })

-- a node has done something
pub has_acted : (c d : Cluster) (w : World) (node : ℕ) (act : Node → Node × Answer) (old new : Held) (answer : Answer) → Stands c w → node < length c.nodes.items → old ≡ get_or c.nodes.items node old → Acts act old new answer → KeepsIdle act
    → d.nodes.items ≡ slice_set c.nodes.items node new → d.slots ≡ c.slots → HasActed (act_at w node act) d answer
has_acted c d w node act old new answer st h o a k ns ss = has_acted_at c d w node act old new answer st h o (λ p at. a p) k ns ss

-- a node has told something
pub has_told : (c : Cluster) (w : World) (node : ℕ) (act : Node → Node × Answer) (state : Held) (answer : Answer) → Stands c w → node < length c.nodes.items → state ≡ get_or c.nodes.items node state → Acts act state state answer → KeepsIdle act
    → HasActed (act_at w node act) c answer
has_told c w node act state answer st h o a k =
    has_acted c c w node act state state answer st h o a k (sym (ap (λ x. slice_set c.nodes.items node x) o ∙ set-get_or c.nodes.items node state)) refl

-- a node has done nothing, whatever it is
pub has_rested : (c d : Cluster) (w : World) (node : ℕ) (act : Node → Node × Answer) (answer : Answer) → Stands c w → node < length c.nodes.items → ((p : Node) → act p ≡ (p, answer)) → d.nodes.items ≡ c.nodes.items → d.slots ≡ c.slots
    → HasActed (act_at w node act) d answer
has_rested c d w node act answer st h a ns ss =
    let p = found StandsFor c.nodes.items w.nodes node st.nodes h in
    let acted : act_at w node act ≡ (w, answer) =
    ap (λ q. node_acts w q node act) p.1 ∙ ap (λ (r : Node × Answer). (record w { nodes = slice_set w.nodes node r.0 }, r.1)) (a p.0)
    ∙ ap (λ (ps : List Node). (record w { nodes = ps }, answer)) (same_set w.nodes node p.0 p.1) in
    let stands : Stands d w = record { nodes = subst (λ xs. AllZip StandsFor xs w.nodes) (sym ns) st.nodes; slots = ss ∙ st.slots; idle = st.idle } in
    subst (λ (x : World × Answer). HasActed x d answer) (sym acted) (record { answered = refl; stands = stands })

pub slot_of : (c : Cluster) (w : World) (slot : ℕ) (o : Option Block) → Stands c w → o ≡ get c.slots slot → get w.slots slot ≡ o
slot_of c w slot o st e = ap (λ (m : Stored). get m slot) (sym st.slots) ∙ sym e

-- a node was asked for something of a slot that was never filled
pub slot_empty : (c d : Cluster) (w : World) (node slot : ℕ) (act : Option Block → Node → Node × Answer) → Stands c w → node < length c.nodes.items → None ≡ get c.slots slot → ((p : Node) → act None p ≡ (p, answers.Empty))
    → d.nodes.items ≡ c.nodes.items → d.slots ≡ c.slots → HasActed (act_at w node (act (get w.slots slot))) d answers.Empty
slot_empty c d w node slot act st h e a ns ss =
    subst (λ o. HasActed (act_at w node (act o)) d answers.Empty) (sym (slot_of c w slot None st e)) (has_rested c d w node (act None) answers.Empty st h a ns ss)

-- a node has done something with the block of a slot
pub slot_acted : (c d : Cluster) (w : World) (node slot : ℕ) (act : Option Block → Node → Node × Answer) (b : Block) (old new : Held) (answer : Answer) → Stands c w → node < length c.nodes.items → Some b ≡ get c.slots slot → old ≡ get_or c.nodes.items node old
    → Acts (act (Some b)) old new answer → KeepsIdle (act (Some b)) → d.nodes.items ≡ slice_set c.nodes.items node new → d.slots ≡ c.slots → HasActed (act_at w node (act (get w.slots slot))) d answer
slot_acted c d w node slot act b old new answer st h e o a k ns ss =
    subst (λ q. HasActed (act_at w node (act q)) d answer) (sym (slot_of c w slot (Some b) st e)) (has_acted c d w node (act (Some b)) old new answer st h o a k ns ss)

-- a node has proposed
pub has_proposed : (c d : Cluster) (w : World) (node slot time : ℕ) (h : Held) (b : Block) (answer : Answer) → Stands c w → node < length c.nodes.items → h ≡ get_or c.nodes.items node h → ((p : Node) → StandsFor h p → propose p time ≡ Ok b)
    → answer ≡ proposed b → d.nodes.items ≡ c.nodes.items → d.slots ≡ insert c.slots slot b → HasActed (propose_at w node slot time) d answer
has_proposed c d w node slot time h b answer st l o f a ns ss =
    let p = found StandsFor c.nodes.items w.nodes node st.nodes l in
    let did : propose_at w node slot time ≡ (record w { slots = insert w.slots slot b }, proposed b) =
    ap (λ q. node_proposes w q slot time) p.1 ∙ ap (put_proposal w slot) (f p.0 (p.2 h o)) in
    let stands : Stands d (record w { slots = insert w.slots slot b }) = record {
      nodes = subst (λ xs. AllZip StandsFor xs w.nodes) (sym ns) st.nodes;
      slots = ss ∙ ap (λ (m : Stored). insert m slot b) st.slots;
      idle = st.idle;
    } in
    subst (λ (x : World × Answer). HasActed x d answer) (sym did) (record { answered = a; stands = stands })

-- a node was not to propose
pub has_not_proposed : (c : Cluster) (node slot time : ℕ) (h : Held) (cause : Option Cause) (result : Result Answer OutOfMemory) → node < length c.nodes.items → h ≡ get_or c.nodes.items node h → ((p : Node) → StandsFor h p → IsRefused (propose p time) cause)
    → AnswersCause cause result → IfOk result (λ answer. (w : World) → Stands c w → HasActed (propose_at w node slot time) c answer)
has_not_proposed c node slot time h None result l o r a = no_answer (λ answer. (w : World) → Stands c w → HasActed (propose_at w node slot time) c answer) result a
has_not_proposed c node slot time h (Some cause) result l o r a =
    one_answer (λ answer. (w : World) → Stands c w → HasActed (propose_at w node slot time) c answer) result (cause_answer cause) a
    (λ w st.
    let p = found StandsFor c.nodes.items w.nodes node st.nodes l in
    let did : propose_at w node slot time ≡ (w, cause_answer cause) = ap (λ q. node_proposes w q slot time) p.1 ∙ ap (put_proposal w slot) (r p.0 (p.2 h o)) in
    subst (λ (x : World × Answer). HasActed x c (cause_answer cause)) (sym did) (record { answered = refl; stands = st }))

-- a node refused something, and is as before
pub has_refused : {X : Type 0} (step : Node → Result X Refusal) (told : Node → Result X Refusal → Node × Answer) (old new : Held) (cause : Option Cause) (result : Result Answer OutOfMemory) → ((p : Node) (c : Refusal) → told p (Err c) ≡ (p, refused c)) → new ≡ old
    → ((p : Node) → StandsFor old p → IsRefused (step p) cause) → AnswersCause cause result → IfOk result (λ answer. Acts (λ p. told p (step p)) old new answer)
has_refused step told old new None result t e r a = no_answer (λ answer. Acts (λ p. told p (step p)) old new answer) result a
has_refused step told old new (Some cause) result t e r a =
    one_answer (λ answer. Acts (λ p. told p (step p)) old new answer) result (cause_answer cause) a
    (λ p st.
    let did : told p (step p) ≡ (p, cause_answer cause) = ap (told p) (r p st) ∙ t p (record { number = cause.number; value = cause.value }) in
    subst (λ (x : Node × Answer). StandsFor new x.0 × (cause_answer cause ≡ x.1)) (sym did) (subst (λ h. StandsFor h p) (sym e) st, refl))

-- an event is done, and its word stands before the answer
pub has_stepped : (r : Goes) (word : Word) (c : Cluster) (answer : Answer) (rows : Option Rows) → HasGone r c answer rows → HasStepped (replied word r) c (record { word = word; answer = answer }) rows
has_stepped (Ok r) word c answer rows h = (record { replied = ap (λ a. record { word = word; answer = a }) h.0.answered; stands = h.0.stands }, h.1)
has_stepped (Err unkept) word c answer rows h = absurd h

-- a run that ends at an act ends at the event
pub breaks_at : (w : World) (word : Word) (r : Goes) (rows : Option Rows) (fault : StartFault) → Breaks w r rows fault → Breaks w (replied word r) rows fault
breaks_at w word (Ok r) rows (starts.KeptBad node height) h = absurd (let e = h.0 in cc)
breaks_at w word (Ok r) rows (starts.KeptOther node theirs ours) h = absurd (let e = h.0 in cc)
breaks_at w word (Ok r) rows starts.KeepFault h = h
breaks_at w word (Ok r) rows starts.NoMemory h = h
breaks_at w word (Err unkept) rows (starts.KeptBad node height) h = (ap Err (same_err unkept (node, BadAt height) h.0), h.1)
breaks_at w word (Err unkept) rows (starts.KeptOther node theirs ours) h = (ap Err (same_err unkept (node, OtherGenesis theirs) h.0), h.1, h.2)
breaks_at w word (Err unkept) rows starts.KeepFault h = h
breaks_at w word (Err unkept) rows starts.NoMemory h = h

-- the height of the next node, behind those before it
next_height : (hs : List Held) (ps : List Node) (i n : ℕ) (node : Held) → AllZip StandsFor hs ps → i < length hs → node ≡ get_or hs i node → ((p : Node) → StandsFor node p → n ≡ height_of p) → map height_of (take i ps) ++ n ∷ [] ≡ map height_of (take (suc i) ps)
next_height [] ps i n node z l e h = absurd (omega arith)
next_height (x ∷ hs) [] i n node z l e h = absurd z
next_height (x ∷ hs) (p ∷ ps) zero n node z l e h = ap (λ k. k ∷ []) (h p (subst (λ u. StandsFor u p) (sym e) z.0))
next_height (x ∷ hs) (p ∷ ps) (suc i) n node z l e h = ap (λ ks. height_of p ∷ ks) (next_height hs ps i n node z.1 (omega arith) e h)

-- the heights of one more node
pub more_heights : (hs : List Held) (i n : ℕ) (node : Held) (numbers more : List ℕ) → i < length hs → node ≡ get_or hs i node → ((p : Node) → StandsFor node p → n ≡ height_of p)
    → ((ps : List Node) → AllZip StandsFor hs ps → numbers ≡ map height_of (take i ps)) → more ≡ numbers ++ n ∷ [] → (ps : List Node) → AllZip StandsFor hs ps → more ≡ map height_of (take (i + 1) ps)
more_heights hs i n node numbers more l e h before m ps z = rw add-one (m ∙ ap (λ ks. ks ++ n ∷ []) (before ps z) ∙ next_height hs ps i n node z l e h)

-- the heights of all nodes
pub heights_told : (c : Cluster) (w : World) (hs : List Held) (i : ℕ) (numbers : List ℕ) → Stands c w → hs ≡ c.nodes.items → length hs ≤ i → ((ps : List Node) → AllZip StandsFor hs ps → numbers ≡ map height_of (take i ps)) → numbers ≡ map height_of w.nodes
heights_told c w hs i numbers st e h told =
    let z : AllZip StandsFor hs w.nodes = subst (λ xs. AllZip StandsFor xs w.nodes) (sym e) st.nodes in
    told w.nodes z ∙ ap (λ (ps : List Node). map {B = ℕ} height_of ps) (take_all i w.nodes (omega (arith, h, AllZip-long StandsFor hs w.nodes z)))
