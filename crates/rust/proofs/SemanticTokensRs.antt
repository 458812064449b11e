-- The Rust's token classes and document 01's say the same, of an admitted table over valid UTF-8 with tokens cut between characters.
-- Assumes nothing.
use Prim.Native.Nat.{ℕ, zero, suc, ◌+◌, ◌-◌, ◌≤◌, ◌<◌}
use mathlib.Core.Path.{◌≡◌, refl, sym, ap, ◌∙◌}
use mathlib.Core.Bool.{Bool, true, false, cond, not, ◌&&◌, ◌||◌}
use mathlib.Core.List.{List, [], ◌∷◌, ◌++◌, append-nil, append_assoc}
use native.Mathlib.Omega.{arith}
use borrow.Author.Tests.{ltb-true, le-leb, leb-false}
use lib.Dec.{ltb, eqb}
use lib.ListN.{length}
use Rattle.std.specs.Prelude.{Ok, Option, Some, None}
use Rattle.records.specs.declared.record.Rec.{Rec}
use Rattle.records.specs.Kinds.{is_node, last_node}
use Rattle.records.specs.Table.{count, kind_at, start_at, record_at, run, from, records}
use Rattle.forest.specs.Forest.{Forest, nil, token, node, level, kids}
use Rattle.table.specs.Rules.{verdict}
use Rattle.forest.specs.Sense.{Tidy, Linked, in_order, by_depth, tree_of}
use Rattle.text.specs.Text.{text}
use Rattle.classes.specs.declared.token_class.TokenClass.{TokenClass}
use Rattle.classes.specs.declared.token_class.TokenClass.TheVariants.{Keyword, Function, StringLiteral, Number, Comment, Operator, Variable, TypeName, Parameter, Property}
use Rattle.class_list.specs.declared.class_list.ClassedToken.{ClassedToken}
use Rattle.keywords.specs.Keywords.{is_keyword as word_is_keyword}
use Rattle.class_list.specs.Classes.{classes_of, entry_of, classes}
use Rattle.classes.specs.TokenClass.{between, judged, bareword, by_parent, class_of, number_of}
use Rattle.forest.proofs.Orders.{tidy-ordered}
use Rattle.forest.proofs.Sense.{admitted-tidy, whole-tree}
use Rattle.keywords.proofs.KeywordLaws.{not-keyword}
use Rattle.path.specs.Path.{one_of}
use Rattle.rust.specs.Rust.{gives, ◌>>=◌, slice, Askable}
use Rattle.rust.specs.SemanticTokensRs.{is_keyword, classify_identifier_by_parent, tables, classify_bareword, operators, word_arm, classify_token, push_class, collect_tokens, insert, sort_by_start, compute, SemanticTokensRs}
use Rattle.rust.proofs.KindLists.{kinds_from, range-list}
use Rattle.rust.proofs.Calls.{then_is}
use Rattle.rust.proofs.Texts.{Reads, reads}

keyword-same : (w : List ℕ) → is_keyword w ≡ word_is_keyword w
unfolding is_keyword word_is_keyword
keyword-same w = go (ltb (length w) 2) refl
  where
    go : (b : Bool) → ltb (length w) 2 ≡ b → cond b false (word_is_keyword w) ≡ word_is_keyword w
    go true e = not-keyword w (λ p q. omega (arith, ltb-true (length w) 2 e))
    go false e = refl

-- ---- the tests on a parent

range : (a n p : ℕ) → between a (a + n) p ≡ one_of (kinds_from a (suc n)) p
unfolding between
range a n p = range-list n a p

-- the Rust names them in another order
tables-same : (p : ℕ) → (one_of (33 ∷ 34 ∷ 35 ∷ []) p || one_of (50 ∷ 51 ∷ 52 ∷ 53 ∷ 54 ∷ []) p) ≡ one_of tables p
tables-same p = go (eqb p 33) (eqb p 34) (eqb p 35) (eqb p 50) (eqb p 51) (eqb p 52) (eqb p 53) (eqb p 54)
  where
    go : (a b c d e f g h : Bool) → (a || (b || (c || false))) || (d || (e || (f || (g || (h || false))))) ≡ a || (b || (d || (e || (f || (g || (h || (c || false)))))))
    go true b c d e f g h = refl
    go false true c d e f g h = refl
    go false false false d e f g h = refl
    go false false true true e f g h = refl
    go false false true false true f g h = refl
    go false false true false false true g h = refl
    go false false true false false false true h = refl
    go false false true false false false false true = refl
    go false false true false false false false false = refl

properties-same : (p : ℕ) → (one_of (33 ∷ 34 ∷ 35 ∷ []) p || one_of (50 ∷ 51 ∷ []) p) ≡ one_of (33 ∷ 34 ∷ 35 ∷ 50 ∷ 51 ∷ []) p
properties-same p = go (eqb p 33) (eqb p 34) (eqb p 35)
  where
    go : (a b c : Bool) → (a || (b || (c || false))) || one_of (50 ∷ 51 ∷ []) p ≡ a || (b || (c || one_of (50 ∷ 51 ∷ []) p))
    go true b c = refl
    go false true c = refl
    go false false true = refl
    go false false false = refl

columns-same : (p : ℕ) → one_of (46 ∷ 47 ∷ 48 ∷ []) p ≡ one_of (47 ∷ 48 ∷ 46 ∷ []) p
columns-same p = go (eqb p 46) (eqb p 47) (eqb p 48)
  where
    go : (a b c : Bool) → a || (b || (c || false)) ≡ b || (c || (a || false))
    go false b c = refl
    go true true c = refl
    go true false true = refl
    go true false false = refl

-- ---- the class of a token

never : (b : Bool) → (b && false) ≡ false
never true = refl
never false = refl

-- the number of a class, as the Rust has it
numbered : Option TokenClass → Option ℕ
numbered None = None
numbered (Some c) = Some (number_of c)

words : (ty fn tb al co pa kw ex : Bool)
    → cond ty (Some 7) (cond (fn && not kw) (Some 1) (cond (tb && not kw) (Some 9) (cond (al && not kw) (Some 6) (cond (co && not kw) (Some 6) (cond pa (Some 8) (cond kw (Some 0) (cond ex (Some 6) None)))))))
    ≡ numbered (cond ty (Some TypeName) (cond (not kw && fn) (Some Function) (cond (not kw && tb) (Some Property) (cond (not kw && (al || co)) (Some Variable) (cond pa (Some Parameter) (cond kw (Some Keyword) (cond ex (Some Variable) None)))))))
unfolding numbered
words true fn tb al co pa kw ex = refl
words false true tb al co pa false ex = refl
words false false true al co pa false ex = refl
words false false false true co pa false ex = refl
words false false false false true pa false ex = refl
words false false false false false true false ex = refl
words false false false false false false false true = refl
words false false false false false false false false = refl
words false fn tb al co true true ex = rw (never fn, never tb, never al, never co)
words false fn tb al co false true ex = rw (never fn, never tb, never al, never co)

by-parent : (p : ℕ) → classify_identifier_by_parent p ≡ Some (number_of (by_parent p))
unfolding classify_identifier_by_parent by_parent
by-parent p =
    rw (range 43 2 p, range 40 2 p, range 33 2 p, range 50 1 p, properties-same p)
    (go (one_of (43 ∷ 44 ∷ 45 ∷ []) p) (one_of (40 ∷ 41 ∷ 42 ∷ []) p) (one_of (33 ∷ 34 ∷ 35 ∷ 50 ∷ 51 ∷ []) p) (one_of (47 ∷ 48 ∷ 36 ∷ 46 ∷ []) p))
  where
    go : (a b c d : Bool) → cond a (Some 1) (cond b (Some 7) (cond c (Some 9) (cond d (Some 6) (Some 6)))) ≡ Some (number_of (cond a Function (cond b TypeName (cond c Property Variable))))
    go true b c d = refl
    go false true c d = refl
    go false false true d = refl
    go false false false true = refl
    go false false false false = refl

bareword-same : (w : List ℕ) (p : ℕ) → classify_bareword w p ≡ numbered (bareword w p)
unfolding classify_bareword bareword judged
bareword-same w p =
    rw (keyword-same w, range 40 2 p, range 43 2 p, range 33 2 p, range 50 4 p, range 46 2 p, tables-same p, columns-same p)
    (words (one_of (40 ∷ 41 ∷ 42 ∷ []) p) (one_of (43 ∷ 44 ∷ 45 ∷ []) p) (one_of tables p) (eqb p 36) (one_of (47 ∷ 48 ∷ 46 ∷ []) p) (eqb p 49) (word_is_keyword w) (eqb p 55))

class_same : (source : List ℕ) (p k s e : ℕ) → slice source s e ≡ gives (record { start = s; end = e })
    → classify_token k s e source p ≡ gives (numbered (class_of source p k s e))
unfolding classify_token word_arm class_of numbered ◌>>=◌
class_same source p k s e w =
    rw (w, range 134 1 k, range 143 14 k, by-parent p, bareword-same (text source s e) p)
    (go (eqb k 130) (eqb k 133) (one_of (134 ∷ 135 ∷ []) k) (one_of operators k) (eqb k 132) (eqb k 131) (by_parent p) (bareword (text source s e) p))
  where
    go : (a b c d q w : Bool) (x : TokenClass) (y : Option TokenClass)
        → cond a (gives (Some 4)) (cond b (gives (Some 3)) (cond c (gives (Some 2)) (cond d (gives (Some 5)) (cond q (gives (Some (number_of x))) (cond w (gives (numbered y)) (gives None))))))
        ≡ gives (numbered (cond a (Some Comment) (cond b (Some Number) (cond c (Some StringLiteral) (cond d (Some Operator) (cond q (Some x) (cond w y None)))))))
    go true b c d q w x y = refl
    go false true c d q w x y = refl
    go false false true d q w x y = refl
    go false false false true q w x y = refl
    go false false false false true w x y = refl
    go false false false false false true x y = refl
    go false false false false false false x y = refl

-- ---- the list

push-same : (out : List ClassedToken) (t : Rec) (c : Option TokenClass) → push_class out t (numbered c) ≡ out ++ entry_of c t.start t.end
unfolding push_class entry_of numbered
push-same out t None = sym (append-nil out)
push-same out t (Some c) = refl

collect-same : (source : List ℕ) (f : Forest) (p : ℕ) (out : List ClassedToken) → Reads source f → collect_tokens p f source out ≡ gives (out ++ classes source p f)
unfolding collect_tokens classes Reads
collect-same source nil p out w = ap gives (sym (append-nil out))
collect-same source (token t rest) p out w =
    then_is _ (class_same source p t.kind t.start t.end w.0.text)
    ∙ rw (push-same out t (class_of source p t.kind t.start t.end))
    (collect-same source rest p _ w.1 ∙ ap gives (append_assoc out _ (classes source p rest)))
collect-same source (node r below rest) p out w =
    then_is _ (collect-same source below r.kind out w.0)
    ∙ collect-same source rest p _ w.1 ∙ ap gives (append_assoc out (classes source r.kind below) (classes source p rest))

-- ---- the sort

-- the starts rise, from b on
unfoldable Rising : ℕ → List ClassedToken → Type 0
Rising b [] = Unit
Rising b (x ∷ xs) = (b ≤ x.start) × Rising x.start xs

rising-less : (b c : ℕ) (xs : List ClassedToken) → b ≤ c → Rising c xs → Rising b xs
unfolding Rising
rising-less b c [] h w = tt
rising-less b c (x ∷ xs) h w = (omega (arith, w.0), w.1)

insert-first : (x : ClassedToken) (xs : List ClassedToken) → Rising x.start xs → insert x xs ≡ x ∷ xs
unfolding Rising insert
insert-first x [] w = refl
insert-first x (y ∷ ys) w = rw (le-leb x.start y.start w.0)

sort-rising : (b : ℕ) (xs : List ClassedToken) → Rising b xs → sort_by_start xs ≡ xs
unfolding Rising sort_by_start
sort-rising b [] w = refl
sort-rising b (x ∷ xs) w = rw (sort-rising x.start xs w.1) (insert-first x xs w.1)

-- ---- the tokens of an admitted table rise

-- the tokens among records rise, from b on
unfoldable Ascending : ℕ → List Linked → Type 0
Ascending b [] = Unit
Ascending b (l ∷ ls) = (last_node < l.self.kind → b ≤ l.self.start) × Ascending (cond (is_node l.self.kind) b l.self.start) ls

-- a token of the tree has a token's kind
unfoldable Leafy : Forest → Type 0
Leafy nil = Unit
Leafy (token r rest) = (is_node r.kind ≡ false) × Leafy rest
Leafy (node r below rest) = (is_node r.kind ≡ true) × Leafy below × Leafy rest

level-leafy : (rs : List Rec) (k : ℕ) → Leafy (level k rs)
unfolding level Leafy
level-leafy [] k = tt
level-leafy (r ∷ rs) k = go (ltb r.depth k) (ltb k r.depth) (is_node r.kind) refl (level-leafy rs k) (level-leafy rs (k + 1))
  where
    go : (a b c : Bool) → is_node r.kind ≡ c → Leafy (level k rs) → Leafy (level (k + 1) rs)
        → Leafy (cond a nil (cond b (level k rs) (cond c (node r (level (k + 1) rs) (level k rs)) (token r (level k rs)))))
    go true b c e x y = tt
    go false true c e x y = x
    go false false true e x y = (e, y, x)
    go false false false e x y = (e, x)

module _ (source : List ℕ) where
  entry-rising : (c : Option TokenClass) (b s e : ℕ) (xs : List ClassedToken) → b ≤ s → Rising s xs → Rising b (entry_of c s e ++ xs)
  unfolding entry_of Rising
  entry-rising None b s e xs h w = rising-less b s xs h w
  entry-rising (Some c) b s e xs h w = (h, w)

  -- the entries of siblings rise, where their tokens do, and with what follows them
  classes-rising : (f : Forest) (p q b : ℕ) (more : List Linked) (tail : List ClassedToken) → Leafy f → Ascending b (in_order q f ++ more)
      → ((c : ℕ) → Ascending c more → Rising c tail) → Rising b (classes source p f ++ tail)
  unfolding classes in_order Ascending Leafy
  classes-rising nil p q b more tail l w on = on b w
  classes-rising (token r rest) p q b more tail l w on =
      rw (append_assoc (entry_of (class_of source p r.kind r.start r.end) r.start r.end) (classes source p rest) tail)
      (entry-rising (class_of source p r.kind r.start r.end) b r.start r.end (classes source p rest ++ tail) (w.0 (leb-false r.kind last_node l.0))
      (classes-rising rest p q r.start more tail l.1 (rw l.0 at w.1) on))
  classes-rising (node r below rest) p q b more tail l w on =
      rw (append_assoc (classes source r.kind below) (classes source p rest) tail)
      (classes-rising below r.kind r.index b (in_order q rest ++ more) (classes source p rest ++ tail) l.1
      (rw (l.0, append_assoc (in_order r.index below) (in_order q rest) more) at w.1)
      (λ c v. classes-rising rest p q c more tail l.2 v on))

  module _ (t : List ℕ) (ok : verdict t (length source) 0 ≡ Ok tt) where
    tidy : Tidy t (length source)
    tidy = admitted-tidy t (length source) 0 ok

    run-ascending : (n i b : ℕ) → i + n ≡ count t → ((j : ℕ) → i ≤ j → j < count t → last_node < kind_at t j → b ≤ start_at t j)
        → Ascending b (by_depth t (run t 0 i n))
    unfolding run by_depth Ascending record_at
    run-ascending zero i b z h = tt
    run-ascending (suc n) i b z h =
        (h i (omega arith) (omega arith), go (is_node (kind_at t i)) refl (run-ascending n (i + 1) b (omega arith) (λ j x y k. h j (omega arith) y k)) (λ k. run-ascending n (i + 1) (start_at t i) (omega arith) (λ j x y g. (tidy-ordered tidy).starts i j (omega arith) y k g)))
      where
        go : (c : Bool) → is_node (kind_at t i) ≡ c → Ascending b (by_depth t (run t 0 (i + 1) n)) → (last_node < kind_at t i → Ascending (start_at t i) (by_depth t (run t 0 (i + 1) n)))
            → Ascending (cond c b (start_at t i)) (by_depth t (run t 0 (i + 1) n))
        go true e x y = x
        go false e x y = y (leb-false (kind_at t i) last_node e)

    tree-ascending : Ascending 0 (in_order 0 (tree_of t))
    unfolding from
    tree-ascending = rw (whole-tree t (length source) tidy) (run-ascending (count t - 0) 0 0 (omega arith) (λ j x y k. omega arith))

    below-ascending : Ascending 0 (in_order 0 (kids (records 0 t)) ++ [])
    unfolding in_order Ascending record_at
    below-ascending = rw (le-leb (kind_at t 0) last_node tidy.top.0) at tree-ascending.1

    kids-leafy : (rs : List Rec) → Leafy (kids rs)
    unfolding kids Leafy
    kids-leafy [] = tt
    kids-leafy (r ∷ rs) = level-leafy rs (r.depth + 1)

    classes-sorted : Rising 0 (classes_of source t)
    unfolding Rising
    classes-sorted =
        rw (append-nil (classes_of source t))
        at (classes-rising (kids (records 0 t)) (kind_at t 0) 0 0 [] [] (kids-leafy (records 0 t)) below-ascending (λ c v. tt))

pub semantic-tokens-rs : (source t : List ℕ) → verdict t (length source) 0 ≡ Ok tt → Askable source t → SemanticTokensRs source t
unfolding compute
semantic-tokens-rs source t ok ask =
    let same : collect_tokens (kind_at t 0) (kids (records 0 t)) source [] ≡ gives (classes_of source t) = collect-same source (kids (records 0 t)) (kind_at t 0) [] (reads ok ask 0) in
    record { collected = same; sorted = then_is _ same ∙ ap gives (sort-rising 0 (classes_of source t) (classes-sorted source t ok)) }
