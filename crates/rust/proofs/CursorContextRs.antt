-- The Rust's cursor context and document 01's say the same, of an admitted table over valid UTF-8 with tokens cut between characters.
-- Assumes nothing.
use Prim.Native.Nat.{ℕ, ◌+◌, ◌≤◌, ◌<◌}
use mathlib.Core.Path.{◌≡◌, refl, sym, ap, ◌∙◌}
use mathlib.Core.Bool.{Bool, true, false, cond, not, ◌&&◌, ◌||◌}
use mathlib.Core.List.{List, [], ◌∷◌, ◌++◌, map, reverse, reverse_aux, append-nil, append_assoc}
use mathlib.Core.Logic.{⊎_elim}
use native.Mathlib.Omega.{arith}
use borrow.Author.Tests.{lt-ltb, le-ltb, le-leb, lt-leb, eq-eqb}
use lib.Dec.{leb, ltb, eqb}
use lib.ListN.{length}
use Rattle.std.specs.Prelude.{Option, None, Some, option_map, unwrap_or, Ok}
use Rattle.records.specs.declared.range.Range.{Range}
use Rattle.records.specs.declared.record.Rec.{Rec}
use Rattle.records.specs.Table.{kind_at, record_at, records}
use Rattle.forest.specs.Forest.{Forest, nil, token, node, kids, inside}
use Rattle.table.specs.Rules.{verdict}
use Rattle.forest.specs.Sense.{Tidy}
use Rattle.forest.specs.inner.Scan.{Reading, fold, of_tokens}
use Rattle.forest.specs.Descent.{path as way, path_of, along}
use Rattle.text.specs.Text.{bytes_of}
use Rattle.lent.proofs.Cases.{lt-or-le}
use Rattle.forest.proofs.Laws.{from_cons}
use Rattle.forest.proofs.Scans.{fold-tokens}
use Rattle.forest.proofs.Sense.{admitted-tidy}
use Rattle.records.specs.Ranges.{holds, span}
use Rattle.roots.proofs.Counts.{decide}
use Rattle.tokens.specs.declared.last_token.LastTwo.{LastTwo}
use Rattle.contexts.specs.declared.trailing.Clause.{Clause}
use Rattle.path.specs.Path.{Next, Deepest, Above}
use Rattle.contexts.specs.declared.context.CursorContext.{CursorContext}
use Rattle.contexts.specs.declared.context.CursorContext.TheVariants.{SelectExpression, TableReference, Expression, SettingName, EngineName, FormatName, DataType, CodecName, StatementStart, Unknown}
use Rattle.path.specs.Path.{path_at, one_of, deepest_or, deepest, on_path, trails, next_of, is_deepest, deepest_over}
use Rattle.tokens.specs.LastToken.{named, counted, entered, reading, last_or, init, last_two, is_text, dot, dotted, is_join_word, is_word as is_word_in}
use Rattle.tokens.specs.Function.{bare_word_in, or_name, function_name, opens, argued, arguments, argument_index}
use Rattle.contexts.specs.Trailing.{last_clause as last_clause_in, past_clause as past_kind, past_end, trailing_in, trailing_rule}
use Rattle.contexts.specs.PathRules.{Seen, table_reference, joined, function_argument, column_or, column, path_rules, ruled, else_ask, seen, by_path, path_rule}
use Rattle.cursor.specs.CursorContext.{starts_after, last_rule, given_or, context_at}
use Rattle.rust.specs.Rust.{Call, gives, ◌>>=◌, slice, push, find, Askable}
use Rattle.rust.specs.CursorContextRs.{return_or, PathNode, descend, find_node_path, Before, skipped, token_before_impl, token_before_offset, text_is, says_word, Prev, find_ident_before_dot_impl, before_dot, find_identifier_before_dot, table_ref_or_dot, column_of, check_dot_access, return_text, first_bare_word, extract_function_name, Commas, count_commas_impl, count_commas_before, is_statement_like, clause_before, trailing, clause_gives, trailing_of, check_trailing_clause, is_last, is_last_or, met, join_arm, call_arm, expression_arm, returned, arm, ancestors, starts_next, fallback, analyze_path, cursor_context, text_name, shortened, as_told, CursorContextRs}
use Rattle.rust.proofs.KindLists.{range-list}
use Rattle.rust.proofs.Calls.{Gives, then_is, gives_so, gives_then}
use Rattle.rust.proofs.Starts.{Rises, fold-late, Rooted, inside-rises, inside-rooted}
use Rattle.rust.proofs.Texts.{Reads, reads}

-- ---- the token before the offset

module _ (src : List ℕ) (o : ℕ) where
  abbrev counts : Rec → Bool
  counts r = counted o r.kind r.start

  abbrev enters : Rec → Bool
  enters r = entered o r.start r.end

  abbrev naming : Option Range → Rec → Option Range
  naming n r = named r

  abbrev lasting : Reading (Option Range)
  lasting = of_tokens naming counts enters

  -- what is found from best on
  abbrev Found : Option Before → Forest → Option Before → Type 0
  Found best f = λ b. text_name b ≡ fold lasting (text_name best) f

  before-fold : (f : Forest) (k : ℕ) (best : Option Before) → Reads src f → Gives (token_before_impl f src o k best) (Found best f)
  unfolding token_before_impl fold text_name Reads ◌>>=◌
  before-fold nil k best w = record { it = best; gave = refl; so = refl }
  before-fold (token r rest) k best w = rw w.0.text (go (skipped r.kind) (leb r.start o) (λ b. before-fold rest k b w.1))
    where
      go : (s l : Bool) → ((b : Option Before) → Gives (token_before_impl rest src o k b) (Found b rest))
          → Gives (cond s (token_before_impl rest src o k best) (cond l (token_before_impl rest src o k (Some (record { text = span r; parent = k }))) (token_before_impl rest src o k best)))
          (λ c. text_name c ≡ fold lasting (cond (l && not s) (named r) (text_name best)) rest)
      go true true ih = ih best
      go true false ih = ih best
      go false true ih = ih _
      go false false ih = ih best
  before-fold (node r below rest) k best w = go (ltb r.end r.start) (leb r.start o) (before-fold below r.kind best w.0) (λ b. before-fold rest k b w.1)
    where
      go : (e l : Bool) → Gives (token_before_impl below src o r.kind best) (Found best below) → ((b : Option Before) → Gives (token_before_impl rest src o k b) (Found b rest))
          → Gives (cond e (token_before_impl rest src o k best) (cond l (token_before_impl below src o r.kind best >>= (λ b. token_before_impl rest src o k b)) (token_before_impl rest src o k best)))
          (λ c. text_name c ≡ fold lasting (cond (not e && l) (fold lasting (text_name best) below) (text_name best)) rest)
      go true l ib ir = ir best
      go false true ib ir = gives_then _ ib (λ b e. gives_so (λ c q. q ∙ ap (λ (n : Option Range). fold lasting n rest) e) (ir b))
      go false false ib ir = ir best

  along-last : (n : Option Range) (l : List Rec) → along naming n l ≡ last_or n l
  unfolding along last_or
  along-last n [] = refl
  along-last n (r ∷ l) = along-last (named r) l

  before_same : (r : Rec) (f : Forest) → Reads src f → Gives (token_before_offset r f src o) (λ b. text_name b ≡ (last_two o f).last)
  unfolding token_before_offset last_two text_name
  before_same r f w = gives_so (λ b e. e ∙ fold-tokens naming counts enters f None ∙ along-last None (reading o f)) (before-fold f r.kind None w)

  -- ---- the two before it

  abbrev two_of : Prev → LastTwo
  two_of p = record { last = p.prev; before = p.prev_prev }

  abbrev pushing : LastTwo → Rec → LastTwo
  pushing two r = record { last = named r; before = two.last }

  abbrev lasting_two : Reading LastTwo
  lasting_two = of_tokens pushing counts enters

  late-two : (b : ℕ) → o < b → (r : Rec) → b ≤ r.start → counts r ≡ false
  late-two b h r g = rw (lt-leb r.start o (omega arith))

  abbrev FoundTwo : Prev → Forest → Prev → Type 0
  FoundTwo p f = λ q. two_of q ≡ fold lasting_two (two_of p) f

  ident-fold : (f : Forest) (p : Prev) → Reads src f → Rises f → Gives (find_ident_before_dot_impl f src o p) (λ q. two_of q ≡ fold lasting_two (two_of p) f)
  unfolding find_ident_before_dot_impl fold Rises Reads ◌>>=◌
  ident-fold nil p x w = record { it = p; gave = refl; so = refl }
  ident-fold (token r rest) p x w =
      ⊎_elim
      (λ (h : o < r.start).
      rw (lt-ltb o r.start h, lt-leb r.start o h)
      (gone (skipped r.kind) (ident-fold rest p x.1 w.1) (fold-late pushing counts enters r.start (late-two r.start h) rest (two_of p) w.0)))
      (λ (h : r.start ≤ o). rw (x.0.text, le-ltb o r.start h, le-leb r.start o h) (go (skipped r.kind) (λ q. ident-fold rest q x.1 w.1)))
      (lt-or-le o r.start)
    where
      gone : (s : Bool) → Gives (find_ident_before_dot_impl rest src o p) (FoundTwo p rest) → fold lasting_two (two_of p) rest ≡ two_of p
          → Gives (cond s (find_ident_before_dot_impl rest src o p) (gives p)) (FoundTwo p rest)
      gone true ih l = ih
      gone false ih l = record { it = p; gave = refl; so = sym l }

      go : (s : Bool) → ((q : Prev) → Gives (find_ident_before_dot_impl rest src o q) (FoundTwo q rest))
          → Gives (cond s (find_ident_before_dot_impl rest src o p) (find_ident_before_dot_impl rest src o (record { prev_prev = p.prev; prev = Some (span r) })))
          (λ q. two_of q ≡ fold lasting_two (cond (not s) (pushing (two_of p) r) (two_of p)) rest)
      go true ih = ih p
      go false ih = ih _
  ident-fold (node r below rest) p x w =
      go (ltb r.end r.start) (leb r.start o) (ident-fold below p x.0 w.0) (λ q. ident-fold rest q x.1 w.1)
    where
      go : (e l : Bool) → Gives (find_ident_before_dot_impl below src o p) (FoundTwo p below) → ((q : Prev) → Gives (find_ident_before_dot_impl rest src o q) (FoundTwo q rest))
          → Gives (cond e (find_ident_before_dot_impl rest src o p) (cond l (find_ident_before_dot_impl below src o p >>= (λ q. find_ident_before_dot_impl rest src o q)) (find_ident_before_dot_impl rest src o p)))
          (λ q. two_of q ≡ fold lasting_two (cond (not e && l) (fold lasting_two (two_of p) below) (two_of p)) rest)
      go true l ib ir = ir p
      go false true ib ir = gives_then _ ib (λ q e. gives_so (λ z y. y ∙ ap (λ (s : LastTwo). fold lasting_two s rest) e) (ir q))
      go false false ib ir = ir p

  two-along : (l b : Option Range) (r : Rec) (xs : List Rec)
      → along pushing (record { last = l; before = b }) (r ∷ xs) ≡ record { last = last_or l (r ∷ xs); before = last_or l (init (r ∷ xs)) }
  unfolding along last_or init
  two-along l b r [] = refl
  two-along l b r (q ∷ xs) = two-along (named r) l q xs

  two-same : (xs : List Rec) → along pushing (record { last = None; before = None }) xs ≡ record { last = last_or None xs; before = last_or None (init xs) }
  unfolding along last_or init
  two-same [] = refl
  two-same (r ∷ xs) = two-along None None r xs

  abbrev unread : Prev
  unread = record { prev_prev = None; prev = None }

  ident-two : (f : Forest) → Reads src f → Rises f → Gives (find_ident_before_dot_impl f src o unread) (λ q. two_of q ≡ last_two o f)
  unfolding last_two
  ident-two f x w = gives_so (λ q e. e ∙ fold-tokens pushing counts enters f (two_of unread) ∙ two-same (reading o f)) (ident-fold f unread x w)

  dot-same : (two : LastTwo) → before_dot src two.before two.last ≡ dotted src two
  unfolding dotted
  dot-same two = go two.last
    where
      go : (n : Option Range) → before_dot src two.before n ≡ cond (is_text dot src n) two.before None
      go None = unfold before_dot is_text in refl
      go (Some r) = unfold before_dot is_text bytes_of in refl

  identifier-same : (f : Forest) → Reads src f → Rises f → find_identifier_before_dot f src o ≡ gives (dotted src (last_two o f))
  unfolding find_identifier_before_dot
  identifier-same f x w = let g = ident-two f x w in then_is _ g.gave ∙ ap gives (dot-same (two_of g.it) ∙ ap (dotted src) g.so)

  word_same : (w : List ℕ) (b : Option Before) → text_is w src b ≡ is_text w src (text_name b)
  unfolding text_is is_text text_name
  word_same w None = refl
  word_same w (Some b) = refl

  says_same : (w : List ℕ) (b : Option Before) → says_word w src b ≡ is_word_in w src (text_name b)
  unfolding says_word is_word_in text_name
  says_same w None = refl
  says_same w (Some b) = refl

  module _ (n : PathNode) (x : Reads src n.children) (w : Rises n.children) where
    abbrev two : LastTwo
    two = last_two o n.children

    dot_before : Gives (token_before_offset n.tree n.children src o) (λ b. text_is (bytes_of ".") src b ≡ is_text dot src two.last)
    unfolding bytes_of
    dot_before = gives_so (λ b e. word_same dot b ∙ ap (is_text dot src) e) (before_same n.tree n.children x)

    reference-same : table_ref_or_dot n src o ≡ gives (table_reference src o n.children)
    unfolding table_ref_or_dot table_reference dotted
    reference-same =
        then_is _ dot_before.gave ∙ rw (dot_before.so, then_is (λ db. gives (TableReference db)) (identifier-same n.children x w)) (tested (is_text dot src two.last) two.before)
      where
        -- a name that is there only where the test holds
        tested : (b : Bool) (y : Option Range) → cond b (gives (TableReference (cond b y None))) (gives (TableReference None)) ≡ gives (TableReference (cond b y None))
        tested true y = refl
        tested false y = refl

    access-same : check_dot_access n src o ≡ gives (cond (is_text dot src two.last) (column_of two.before) None)
    unfolding check_dot_access dotted
    access-same =
        then_is _ dot_before.gave ∙ rw (dot_before.so, then_is (λ q. gives (column_of q)) (identifier-same n.children x w)) (tested (is_text dot src two.last) two.before)
      where
        tested : (b : Bool) (y : Option Range) → cond b (gives (column_of (cond b y None))) (gives None) ≡ gives (cond b (column_of y) None)
        tested true y = refl
        tested false y = refl

    dot-access : (other : CursorContext) → expression_arm n src o other ≡ gives (column_or other (dotted src two))
    unfolding expression_arm dotted column_or return_or column_of
    dot-access other = then_is _ access-same ∙ go (is_text dot src two.last) two.before
      where
        go : (b : Bool) (y : Option Range) → return_or (cond b (column_of y) None) (gives other) ≡ gives (column_or other (cond b y None))
        go true None = refl
        go true (Some r) = refl
        go false y = refl

-- ---- a function's argument

module _ (src : List ℕ) where
  text_same : (t : Rec) → slice src t.start t.end ≡ gives (span t) → return_text src t ≡ gives (shortened (named t))
  unfolding return_text shortened
  text_same t e = then_is _ e

  bare-same : (f : Forest) (on : Option Range) (run : Call (Option Range)) → Reads src f → run ≡ gives (shortened on) → first_bare_word f src run ≡ gives (shortened (or_name (bare_word_in f) on))
  unfolding first_bare_word bare_word_in or_name Reads
  bare-same nil on run w e = e
  bare-same (token r rest) on run w e = rw (text_same r w.0.text) (go (eqb r.kind 131) (bare-same rest on run w.1 e))
    where
      go : (b : Bool) → first_bare_word rest src run ≡ gives (shortened (or_name (bare_word_in rest) on))
          → cond b (gives (shortened (named r))) (first_bare_word rest src run) ≡ gives (shortened (or_name (cond b (named r) (bare_word_in rest)) on))
      go true ih = refl
      go false ih = ih
  bare-same (node r below rest) on run w e = bare-same rest on run w.1 e

  name-same : (f : Forest) → Reads src f → extract_function_name f src ≡ gives (shortened (function_name f))
  unfolding extract_function_name function_name Reads
  name-same nil w = unfold shortened in refl
  name-same (token r rest) w = rw (text_same r w.0.text, name-same rest w.1) (go (eqb r.kind 131) (eqb r.kind 137))
    where
      go : (a b : Bool) → cond a (gives (shortened (named r))) (cond b (gives None) (gives (shortened (function_name rest)))) ≡ gives (shortened (cond a (named r) (cond b None (function_name rest))))
      go true b = refl
      go false true = unfold shortened in refl
      go false false = refl
  name-same (node r below rest) w =
      rw (bare-same below (function_name rest) (extract_function_name rest src) w.0 (name-same rest w.1), name-same rest w.1) (go (eqb r.kind 46))
    where
      go : (a : Bool) → cond a (gives (shortened (or_name (bare_word_in below) (function_name rest)))) (gives (shortened (function_name rest)))
          ≡ gives (shortened (cond a (or_name (bare_word_in below) (function_name rest)) (function_name rest)))
      go true = refl
      go false = refl

module _ (o : ℕ) where
  abbrev args_of : Commas → Option ℕ
  args_of c = cond c.inside_parens (Some c.count) None

  abbrev arguing : Option ℕ → Rec → Option ℕ
  arguing a r = argued a r.kind

  abbrev before : Rec → Bool
  before r = ltb r.start o

  abbrev opening : Rec → Bool
  opening r = opens r.kind r.start r.end

  abbrev counting : Reading (Option ℕ)
  counting = of_tokens arguing before opening

  abbrev step : ℕ → Commas → Commas
  step k c =
      cond (eqb k 137) (record { count = 0; inside_parens = true })
      (cond (eqb k 136 && c.inside_parens) (record { count = c.count + 1; inside_parens = c.inside_parens }) c)

  step_same : (k : ℕ) (c : Commas) → args_of (step k c) ≡ argued (args_of c) k
  unfolding argued
  step_same k c = go (eqb k 137) (eqb k 136) c.inside_parens refl
    where
      go : (a b i : Bool) → c.inside_parens ≡ i
          → args_of (cond a (record { count = 0; inside_parens = true }) (cond (b && i) (record { count = c.count + 1; inside_parens = c.inside_parens }) c))
          ≡ cond a (Some 0) (cond b (option_map (λ n. n + 1) (args_of c)) (args_of c))
      go true b i e = refl
      go false true true e = rw e
      go false true false e = rw e
      go false false i e = refl

  -- before the first `(` nothing is counted
  abbrev Counted : Commas → Type 0
  Counted c = c.count ≡ unwrap_or (args_of c) 0

  counted-step : (k : ℕ) (c : Commas) → Counted c → Counted (step k c)
  counted-step k c h = go (eqb k 137) (eqb k 136) c.inside_parens refl
    where
      go : (a b i : Bool) → c.inside_parens ≡ i
          → Counted (cond a (record { count = 0; inside_parens = true }) (cond (b && i) (record { count = c.count + 1; inside_parens = c.inside_parens }) c))
      go true b i e = refl
      go false true true e = rw e
      go false true false e = h
      go false false i e = h

  counted-all : (f : Forest) (c : Commas) → Counted c → Counted (count_commas_impl f o c)
  unfolding count_commas_impl
  counted-all nil c h = h
  counted-all (token r rest) c h = go (leb o r.start) (counted-all rest (step r.kind c) (counted-step r.kind c h))
    where
      go : (b : Bool) → Counted (count_commas_impl rest o (step r.kind c)) → Counted (cond b c (count_commas_impl rest o (step r.kind c)))
      go true p = h
      go false p = p
  counted-all (node r below rest) c h =
      go (ltb r.end r.start) (eqb r.kind 43 || eqb r.kind 44) (counted-all rest c h) (counted-all rest (count_commas_impl below o c) (counted-all below c h))
    where
      go : (e x : Bool) → Counted (count_commas_impl rest o c) → Counted (count_commas_impl rest o (count_commas_impl below o c))
          → Counted (cond e (count_commas_impl rest o c) (cond x (count_commas_impl rest o c) (count_commas_impl rest o (count_commas_impl below o c))))
      go true x p q = p
      go false true p q = p
      go false false p q = q

  late-comma : (b : ℕ) → o ≤ b → (r : Rec) → b ≤ r.start → before r ≡ false
  late-comma b h r g = le-ltb r.start o (omega arith)

  commas-fold : (f : Forest) (c : Commas) → Rises f → args_of (count_commas_impl f o c) ≡ fold counting (args_of c) f
  unfolding count_commas_impl fold Rises
  commas-fold nil c w = refl
  commas-fold (token r rest) c w =
      ⊎_elim
      (λ (h : r.start < o).
      rw (lt-ltb r.start o h, lt-leb o r.start h)
      (commas-fold rest (step r.kind c) w.1 ∙ ap (λ (a : Option ℕ). fold counting a rest) (step_same r.kind c)))
      (λ (h : o ≤ r.start).
      rw (le-ltb r.start o h, le-leb o r.start h)
      (sym (fold-late arguing before opening r.start (late-comma r.start h) rest (args_of c) w.0)))
      (lt-or-le r.start o)
  commas-fold (node r below rest) c w =
      go (ltb r.end r.start) (eqb r.kind 43 || eqb r.kind 44) (commas-fold below c w.0) (λ d. commas-fold rest d w.1)
    where
      go : (e x : Bool) → args_of (count_commas_impl below o c) ≡ fold counting (args_of c) below
          → ((d : Commas) → args_of (count_commas_impl rest o d) ≡ fold counting (args_of d) rest)
          → args_of (cond e (count_commas_impl rest o c) (cond x (count_commas_impl rest o c) (count_commas_impl rest o (count_commas_impl below o c))))
          ≡ fold counting (cond (not e && not x) (fold counting (args_of c) below) (args_of c)) rest
      go true x ib ir = ir c
      go false true ib ir = ir c
      go false false ib ir = ir _ ∙ ap (λ (a : Option ℕ). fold counting a rest) ib

  commas-same : (f : Forest) → Rises f → count_commas_before f o ≡ argument_index o f
  unfolding count_commas_before arguments
  commas-same f w =
      counted-all f (record { count = 0; inside_parens = false }) refl
      ∙ ap (λ (a : Option ℕ). unwrap_or a 0) (commas-fold f (record { count = 0; inside_parens = false }) w ∙ fold-tokens arguing before opening f None)

-- ---- the path

-- a node of the table, as the Rust's path has it
abbrev at : List ℕ → Rec → PathNode
at t r = record { tree = r; children = inside t r.index }

module _ (t : List ℕ) (o : ℕ) where
  descend-same : (f : Forest) (p : List PathNode) → Rooted t f → descend f o p ≡ p ++ map (at t) (way (holds o) f)
  unfolding descend way Rooted
  descend-same nil p w = sym (append-nil p)
  descend-same (token r rest) p w = descend-same rest p w
  descend-same (node r below rest) p w =
      ⊎_elim
      (λ (h : r.end < r.start). rw (lt-ltb r.end r.start h, outside h) (descend-same rest p w.2))
      (λ (h : r.start ≤ r.end).
      rw (le-ltb r.end r.start h)
      (go (holds o r) (descend-same below (push p (record { tree = r; children = below })) w.1) (descend-same rest p w.2)))
      (lt-or-le r.end r.start)
    where
      outside : r.end < r.start → holds o r ≡ false
      outside h =
          ⊎_elim
          (λ (g : o < r.start). rw (lt-leb r.start o g))
          (λ (g : r.start ≤ o). rw (le-leb r.start o g, lt-leb o r.end (omega arith)))
          (lt-or-le o r.start)

      here : record { tree = r; children = below } ≡ at t r
      here = ap (λ (f : Forest). record { tree = r; children = f }) w.0

      go : (b : Bool) → descend below o (push p (record { tree = r; children = below })) ≡ push p (record { tree = r; children = below }) ++ map (at t) (way (holds o) below)
          → descend rest o p ≡ p ++ map (at t) (way (holds o) rest)
          → cond b (descend below o (push p (record { tree = r; children = below }))) (descend rest o p) ≡ p ++ map (at t) (cond b (r ∷ way (holds o) below) (way (holds o) rest))
      go true ib ir = ib ∙ append_assoc p (record { tree = r; children = below } ∷ []) _ ∙ ap (λ (n : PathNode). p ++ n ∷ map (at t) (way (holds o) below)) here
      go false ib ir = ir

  path-same : {n : ℕ} → Tidy t n → find_node_path (record_at t 0 0) (kids (records 0 t)) o ≡ map (at t) (path_at t o)
  unfolding find_node_path path_of record_at
  path-same tidy =
      descend-same (kids (records 0 t)) _ (inside-rooted tidy 0)
      ∙ sym (ap (λ (rs : List Rec). map (at t) (path_of (holds o) rs)) (from_cons t 0 0 tidy.some) ∙ rw (← from_cons t 0 0 tidy.some))

-- ---- the trailing clause

clause_of : Option Rec → Option Clause
clause_of None = None
clause_of (Some r) = Some (record { kind = r.kind; end = r.end })

clause-same : (o : ℕ) (f : Forest) (best : Option Rec) → clause_of (clause_before f o best) ≡ last_clause_in o (clause_of best) f
unfolding clause_before last_clause_in clause_of
clause-same o nil best = refl
clause-same o (token r rest) best = clause-same o rest best
clause-same o (node r below rest) best = go (leb r.start o) (clause-same o rest)
  where
    go : (b : Bool) → ((x : Option Rec) → clause_of (clause_before rest o x) ≡ last_clause_in o (clause_of x) rest)
        → clause_of (clause_before rest o (cond b (Some r) best)) ≡ last_clause_in o (cond b (Some (record { kind = r.kind; end = r.end })) (clause_of best)) rest
    go true ih = ih _
    go false ih = ih best

trailing-same : (k : ℕ) → trailing k ≡ past_kind k
unfolding trailing past_kind
trailing-same k =
    decide k 20 (λ e. rw e)
    (λ g. decide k 22 (λ e. rw e) (λ h. rw (g, h) (go (eqb k 18) (eqb k 19) (eqb k 21) (eqb k 16) (eqb k 15) (eqb k 23) (eqb k 26))))
  where
    go : (p w h f s st fo : Bool)
        → (cond (h || (w || (p || false))) (Some Expression) (cond f (Some (TableReference None)) (cond s (Some SelectExpression) (cond st (Some SettingName) (cond fo (Some FormatName) None)))))
        ≡ cond (p || (w || (h || false))) (Some Expression) (cond f (Some (TableReference None)) (cond s (Some SelectExpression) (cond st (Some SettingName) (cond fo (Some FormatName) None))))
    go true true true f s st fo = refl
    go true true false f s st fo = refl
    go true false true f s st fo = refl
    go true false false f s st fo = refl
    go false true true f s st fo = refl
    go false true false f s st fo = refl
    go false false true f s st fo = refl
    go false false false true s st fo = refl
    go false false false false true st fo = refl
    go false false false false false true fo = refl
    go false false false false false false true = refl
    go false false false false false false false = refl

past_same : (o : ℕ) (c : Option Rec) → clause_gives o c ≡ past_end o (clause_of c)
unfolding clause_gives past_end clause_of
past_same o None = refl
past_same o (Some r) =
    ⊎_elim
    (λ (h : r.end < o). rw (lt-ltb r.end o h, lt-leb o r.end h) (trailing-same r.kind))
    (λ (h : o ≤ r.end). rw (le-ltb r.end o h, le-leb o r.end h))
    (lt-or-le r.end o)

module _ (t : List ℕ) where
  picked : Option Rec → Option PathNode
  picked None = None
  picked (Some r) = Some (at t r)

  -- the first of a list read backwards is the deepest
  find-deepest : (p : List Rec) (above : List PathNode) (best : Option Rec) → find is_statement_like above ≡ picked best
      → find is_statement_like (reverse_aux (map (at t) p) above) ≡ picked (deepest_or best trails p)
  unfolding find deepest_or picked
  find-deepest [] above best e = e
  find-deepest (r ∷ p) above best e =
      find-deepest p (at t r ∷ above) (cond (trails r.kind) (Some r) best) (rw (← range-list 5 4 r.kind) (go (trails r.kind)))
    where
      go : (b : Bool) → cond b (Some (at t r)) (find is_statement_like above) ≡ picked (cond b (Some r) best)
      go true = refl
      go false = e

  trailing-rule : (o : ℕ) (p : List Rec) → check_trailing_clause (map (at t) p) o ≡ trailing_rule t o p
  unfolding check_trailing_clause trailing_of trailing_in picked clause_of
  trailing-rule o p = rw (find-deepest p [] None (unfold find in refl)) (go (deepest trails p))
    where
      go : (x : Option Rec) → trailing_of o (picked x) ≡ trailing_in t o x
      go None = refl
      go (Some r) = past_same o (clause_before (inside t r.index) o None) ∙ ap (past_end o) (clause-same o (inside t r.index) None)

-- ---- as the Rust tells it

told_answer : Option CursorContext → Option CursorContext
told_answer None = None
told_answer (Some c) = Some (as_told c)

past-told : (k : ℕ) → told_answer (past_kind k) ≡ past_kind k
unfolding past_kind
past-told k = go (one_of (18 ∷ 19 ∷ 20 ∷ 21 ∷ 22 ∷ []) k) (eqb k 16) (eqb k 15) (eqb k 23) (eqb k 26)
  where
    go : (e f s st fo : Bool)
        → told_answer (cond e (Some Expression) (cond f (Some (TableReference None)) (cond s (Some SelectExpression) (cond st (Some SettingName) (cond fo (Some FormatName) None)))))
        ≡ cond e (Some Expression) (cond f (Some (TableReference None)) (cond s (Some SelectExpression) (cond st (Some SettingName) (cond fo (Some FormatName) None))))
    go true f s st fo = unfold told_answer as_told in refl
    go false true s st fo = unfold told_answer as_told in refl
    go false false true st fo = unfold told_answer as_told in refl
    go false false false true fo = unfold told_answer as_told in refl
    go false false false false true = unfold told_answer as_told in refl
    go false false false false false = unfold told_answer in refl

trailing-told : (t : List ℕ) (o : ℕ) (p : List Rec) → told_answer (trailing_rule t o p) ≡ trailing_rule t o p
unfolding trailing_in past_end told_answer
trailing-told t o p = go (deepest trails p)
  where
    over : (c : Option Clause) → told_answer (past_end o c) ≡ past_end o c
    over None = refl
    over (Some c) = at (ltb c.end o)
      where
        at : (b : Bool) → told_answer (cond b (past_kind c.kind) None) ≡ cond b (past_kind c.kind) None
        at true = past-told c.kind
        at false = refl

    go : (x : Option Rec) → told_answer (trailing_in t o x) ≡ trailing_in t o x
    go None = refl
    go (Some r) = over (last_clause_in o None (inside t r.index))

-- ---- the rules of the path

abbrev is_constraint : PathNode → Bool
is_constraint n = eqb n.tree.kind 28

met-path : (t : List ℕ) (p : List Rec) (above : List PathNode) → met (find is_constraint (reverse_aux (map (at t) p) above)) ≡ on_path 28 p || met (find is_constraint above)
unfolding find on_path met
met-path t [] above = refl
met-path t (r ∷ p) above = met-path t p (at t r ∷ above) ∙ go (eqb r.kind 28) (on_path 28 p)
  where
    go : (a b : Bool) → b || met (cond a (Some (at t r)) (find is_constraint above)) ≡ (a || b) || met (find is_constraint above)
    go true true = refl
    go true false = refl
    go false true = refl
    go false false = refl

met-same : (t : List ℕ) (p : List Rec) → met (find is_constraint (reverse (map (at t) p))) ≡ on_path 28 p
unfolding find met
met-same t p = met-path t p [] ∙ go (on_path 28 p)
  where
    go : (b : Bool) → b || false ≡ b
    go true = refl
    go false = refl

-- the kinds in document 01's order
types_same : (k : ℕ) → one_of (40 ∷ 38 ∷ 41 ∷ []) k ≡ one_of (38 ∷ 40 ∷ 41 ∷ []) k
types_same k = go (eqb k 38) (eqb k 40) (eqb k 41)
  where
    go : (a b c : Bool) → b || (a || (c || false)) ≡ a || (b || (c || false))
    go true true c = refl
    go true false c = refl
    go false true c = refl
    go false false c = refl

clauses-same : (k : ℕ) → one_of (19 ∷ 21 ∷ 18 ∷ 20 ∷ 22 ∷ []) k ≡ one_of (18 ∷ 19 ∷ 20 ∷ 21 ∷ 22 ∷ []) k
clauses-same k = go (eqb k 18) (eqb k 19) (eqb k 20) (eqb k 21) (eqb k 22)
  where
    go : (a b c d e : Bool) → b || (d || (a || (c || (e || false)))) ≡ a || (b || (c || (d || (e || false))))
    go true true c d e = refl
    go true false c true e = refl
    go true false c false e = refl
    go false true c d e = refl
    go false false true true e = refl
    go false false true false e = refl
    go false false false true e = refl
    go false false false false e = refl

next_is : Option ℕ → Next
next_is None = Deepest
next_is (Some k) = Above k

last-same : (x : Option ℕ) → is_last x ≡ is_deepest (next_is x)
unfolding is_last is_deepest next_is
last-same None = refl
last-same (Some k) = refl

over-same : (k : ℕ) (x : Option ℕ) → is_last_or k x ≡ deepest_over k (next_is x)
unfolding is_last_or deepest_over next_is
over-same k None = refl
over-same k (Some l) = refl

-- the arms and the rules, one after the other
abbrev give : {P : Option CursorContext → Type 0} (c : Option CursorContext) → P c → Gives (gives c) P
give c p = record { it = c; gave = refl; so = p }

column-told : (other : CursorContext) (n : Option Range) → as_told other ≡ other → as_told (column_or other n) ≡ column_or other n
unfolding column_or as_told
column-told other None e = e
column-told other (Some r) e = refl

module _ (ref join call call' : CursorContext) (dot : Option Range) (ref-told : as_told ref ≡ ref) (join-told : as_told join ≡ join) (call-told : as_told call' ≡ call) where
  chain : (e16 e17 e5 ss e25 fs ts e37 e39 ns e15 ws xs a b c : Bool)
      → Gives
      (cond e16 (gives (Some ref)) (cond e17 (gives (Some join)) (cond e5 (cond a (gives (Some ref)) (gives None)) (cond ss (gives (Some SettingName)) (cond e25 (gives (Some EngineName)) (cond fs (gives (Some FormatName))
      (cond ts (gives (Some DataType)) (cond e37 (cond b (gives (Some DataType)) (gives None)) (cond e39 (gives (Some CodecName)) (cond ns (gives (Some call)) (cond e15 (gives (Some (column_or SelectExpression dot)))
      (cond ws (gives (Some (column_or Expression dot))) (cond xs (cond c (gives (Some StatementStart)) (gives None)) (gives None))))))))))))))
      (λ x. x ≡ told_answer
      (cond (e16 || false) (Some ref) (cond (e17 || false) (Some join) (cond (e5 || false) (cond a (Some ref) None) (cond ss (Some SettingName) (cond (e25 || false) (Some EngineName) (cond fs (Some FormatName)
      (cond ts (Some DataType) (cond (e37 || false) (cond b (Some DataType) None) (cond (e39 || false) (Some CodecName) (cond ns (Some call')
      (cond (e15 || ws) (Some (column_or (cond e15 SelectExpression Expression) dot)) (cond xs (cond c (Some StatementStart) None) None)))))))))))))
  unfolding told_answer as_told
  chain true e17 e5 ss e25 fs ts e37 e39 ns e15 ws xs a b c = give _ (ap Some (sym ref-told))
  chain false true e5 ss e25 fs ts e37 e39 ns e15 ws xs a b c = give _ (ap Some (sym join-told))
  chain false false true ss e25 fs ts e37 e39 ns e15 ws xs true b c = give _ (ap Some (sym ref-told))
  chain false false true ss e25 fs ts e37 e39 ns e15 ws xs false b c = give _ refl
  chain false false false true e25 fs ts e37 e39 ns e15 ws xs a b c = give _ refl
  chain false false false false true fs ts e37 e39 ns e15 ws xs a b c = give _ refl
  chain false false false false false true ts e37 e39 ns e15 ws xs a b c = give _ refl
  chain false false false false false false true e37 e39 ns e15 ws xs a b c = give _ refl
  chain false false false false false false false true e39 ns e15 ws xs a true c = give _ refl
  chain false false false false false false false true e39 ns e15 ws xs a false c = give _ refl
  chain false false false false false false false false true ns e15 ws xs a b c = give _ refl
  chain false false false false false false false false false true e15 ws xs a b c = give _ (ap Some (sym call-told))
  chain false false false false false false false false false false true ws xs a b c = give _ (ap Some (sym (column-told SelectExpression dot refl)))
  chain false false false false false false false false false false false true xs a b c = give _ (ap Some (sym (column-told Expression dot refl)))
  chain false false false false false false false false false false false false true a b true = give _ refl
  chain false false false false false false false false false false false false true a b false = give _ refl
  chain false false false false false false false false false false false false false a b c = give _ refl

module _ (src : List ℕ) (o : ℕ) (p : List PathNode) (constrained : Bool) (constraint : met (find is_constraint (reverse p)) ≡ constrained)
    (n : PathNode) (y : Reads src n.children) (w : Rises n.children) where
  join-same : join_arm n p src o ≡ gives (joined src o constrained n.children)
  unfolding join_arm joined is_join_word
  join-same =
      let g = before_same src o n.tree n.children y in
      then_is _ g.gave
      ∙ rw (constraint, reference-same src o n y w, says_same src o (bytes_of "ON") g.it, says_same src o (bytes_of "USING") g.it, g.so)
      (go (is_word_in (bytes_of "ON") src (last_two o n.children).last || is_word_in (bytes_of "USING") src (last_two o n.children).last) constrained)
    where
      go : (x z : Bool) → cond x (gives Expression) (cond z (gives Expression) (gives (table_reference src o n.children))) ≡ gives (cond (x || z) Expression (table_reference src o n.children))
      go true z = refl
      go false true = refl
      go false false = refl

  call_same : call_arm n src o ≡ gives (as_told (function_argument o n.children))
  unfolding call_arm function_argument as_told
  call_same = then_is _ (name-same src n.children y) ∙ rw (commas-same o n.children w)

  joined-told : as_told (joined src o constrained n.children) ≡ joined src o constrained n.children
  unfolding joined table_reference as_told
  joined-told = go (is_join_word src (last_two o n.children) || constrained)
    where
      go : (b : Bool) → as_told (cond b Expression (TableReference (dotted src (last_two o n.children)))) ≡ cond b Expression (TableReference (dotted src (last_two o n.children)))
      go true = refl
      go false = refl

  arm_same : (next : Option ℕ) → Gives (arm n next p src o)
      (λ c. c ≡ told_answer (ruled n.tree.kind (path_rules src o (record { kind = n.tree.kind; next = next_is next; children = n.children; constrained = constrained }))))
  unfolding arm returned ruled path_rules column ◌>>=◌
  arm_same next =
      rw (
        reference-same src o n y w,
        join-same,
        over-same 33 next,
        over-same 3 next,
        last-same next,
        call_same,
        dot-access src o n y w SelectExpression,
        dot-access src o n y w Expression,
        types_same n.tree.kind,
        clauses-same n.tree.kind,
      )
      (chain (table_reference src o n.children) (joined src o constrained n.children) (as_told (function_argument o n.children)) (function_argument o n.children)
      (dotted src (last_two o n.children)) (unfold table_reference as_told in refl) joined-told refl
      (eqb n.tree.kind 16) (eqb n.tree.kind 17) (eqb n.tree.kind 5) (one_of (23 ∷ 24 ∷ []) n.tree.kind) (eqb n.tree.kind 25)
      (one_of (26 ∷ 27 ∷ []) n.tree.kind) (one_of (38 ∷ 40 ∷ 41 ∷ []) n.tree.kind) (eqb n.tree.kind 37) (eqb n.tree.kind 39) (one_of (43 ∷ 44 ∷ []) n.tree.kind)
      (eqb n.tree.kind 15) (one_of (18 ∷ 19 ∷ 20 ∷ 21 ∷ 22 ∷ []) n.tree.kind) (one_of (1 ∷ 2 ∷ []) n.tree.kind)
      (deepest_over 33 (next_is next)) (deepest_over 3 (next_is next)) (is_deepest (next_is next)))

-- an Error has no rule
error-none : (src : List ℕ) (o k : ℕ) (n : Seen) → k ≡ 3 → ruled k (path_rules src o n) ≡ None
unfolding ruled path_rules
error-none src o k n e = rw e

-- a call that is made where an answer goes on
give_or : Call CursorContext → Option CursorContext → Call CursorContext
give_or on None = on
give_or on (Some c) = gives c

given_both : (x y : Option CursorContext) (on : Call CursorContext) → give_or (give_or on (told_answer y)) (told_answer x) ≡ give_or on (told_answer (else_ask x y))
unfolding give_or told_answer else_ask
given_both None y on = refl
given_both (Some c) y on = refl

return-given : (x : Option CursorContext) (on : Call CursorContext) → return_or x on ≡ give_or on x
unfolding return_or give_or
return-given None on = refl
return-given (Some c) on = refl

give-told : (on : CursorContext) (x : Option CursorContext) → give_or (gives (as_told on)) (told_answer x) ≡ gives (as_told (given_or on x))
unfolding give_or told_answer given_or
give-told on None = refl
give-told on (Some c) = refl

-- what is next below a node, where these are the deeper nodes
kind_of : List Rec → Option ℕ
kind_of [] = None
kind_of (r ∷ rs) = Some r.kind

next-of : (p : List Rec) → next_is (kind_of p) ≡ next_of p
unfolding next_is kind_of next_of
next-of [] = refl
next-of (r ∷ rs) = refl

module _ (src t : List ℕ) (o : ℕ) {m : ℕ} (tidy : Tidy t m) (read : (i : ℕ) → Reads src (inside t i)) (path : List Rec) (behind : Call CursorContext) where
  abbrev constrained : Bool
  constrained = on_path 28 path

  abbrev going : Option ℕ → List PathNode → Call CursorContext
  going = ancestors (map (at t) path) src o behind

  -- the answer of a rule, as the Rust tells it
  abbrev ruling : Rec → List Rec → Option CursorContext
  ruling r deeper = told_answer (ruled r.kind (path_rules src o (seen t constrained r deeper)))

  one_up : (r : Rec) (deeper : List Rec) (above : List PathNode) → going (kind_of deeper) (at t r ∷ above) ≡ give_or (going (Some r.kind) above) (ruling r deeper)
  unfolding ancestors give_or told_answer
  one_up r deeper above =
      decide r.kind 3
      (λ e. rw (eq-eqb r.kind 3 e, error-none src o r.kind (seen t constrained r deeper) e))
      (λ e.
      let g = arm_same src o (map (at t) path) constrained (met-same t path) (at t r) (read r.index) (inside-rises tidy r.index) (kind_of deeper) in
      rw e
      (then_is _ g.gave
      ∙ return-given g.it (going (Some r.kind) above)
      ∙ ap (give_or (going (Some r.kind) above))
      (g.so
      ∙ ap (λ (x : Next). told_answer (ruled r.kind (path_rules src o (record { kind = r.kind; next = x; children = inside t r.index; constrained = constrained })))) (next-of deeper))))

  all_up : (p : List Rec) (above : List PathNode) → going None (reverse_aux (map (at t) p) above) ≡ give_or (going (kind_of p) above) (told_answer (by_path src t o constrained p))
  unfolding by_path kind_of
  all_up [] above = unfold give_or told_answer in refl
  all_up (r ∷ p) above =
      all_up p (at t r ∷ above)
      ∙ ap (λ (c : Call CursorContext). give_or c (told_answer (by_path src t o constrained p))) (one_up r p above)
      ∙ given_both (by_path src t o constrained p) _ (going (Some r.kind) above)

-- ---- the theorem

starts-same : (src : List ℕ) (b : Option Before) → starts_next src b ≡ starts_after src (text_name b)
unfolding starts_next starts_after text_name text_is is_text bytes_of
starts-same src None = refl
starts-same src (Some b) = refl

module _ (src t : List ℕ) (o : ℕ) (ok : verdict t (length src) 0 ≡ Ok tt) (ask : Askable src t) where
  tidy : Tidy t (length src)
  tidy = admitted-tidy t (length src) 0 ok

  abbrev deeper : List Rec
  deeper = way (holds o) (kids (records 0 t))

  path-is : path_at t o ≡ record_at t 0 0 ∷ deeper
  unfolding path_of
  path-is = ap (path_of (holds o)) (from_cons t 0 0 tidy.some) ∙ rw (← from_cons t 0 0 tidy.some)

  fallback-same : fallback (map (at t) (record_at t 0 0 ∷ deeper)) src o ≡ gives (last_rule src t o)
  unfolding fallback last_rule record_at
  fallback-same =
      let g = before_same src o (record_at t 0 0) (inside t 0) (reads ok ask 0) in
      rw (then_is (λ b. gives (cond (starts_next src b) StatementStart Unknown)) g.gave, starts-same src g.it, g.so) (go (eqb (kind_at t 0) 1) _)
    where
      go : (a b : Bool) → cond a (gives (cond b StatementStart Unknown)) (gives Unknown) ≡ gives (cond (a && b) StatementStart Unknown)
      go true b = refl
      go false b = refl

  last-told : as_told (last_rule src t o) ≡ last_rule src t o
  unfolding last_rule as_told
  last-told = go (eqb (kind_at t 0) 1 && starts_after src (last_two o (inside t 0)).last)
    where
      go : (b : Bool) → as_told (cond b StatementStart Unknown) ≡ cond b StatementStart Unknown
      go true = refl
      go false = refl

  abbrev whole : List Rec
  whole = record_at t 0 0 ∷ deeper

  by-path : ancestors (map (at t) whole) src o (fallback (map (at t) whole) src o) None (reverse (map (at t) whole)) ≡ gives (as_told (given_or (last_rule src t o) (path_rule src t o whole)))
  unfolding ancestors
  by-path =
      all_up src t o tidy (reads ok ask) whole (fallback (map (at t) whole) src o) whole []
      ∙ ap (λ (c : Call CursorContext). give_or c (told_answer (path_rule src t o whole))) (fallback-same ∙ ap gives (sym last-told))
      ∙ give-told (last_rule src t o) (path_rule src t o whole)

  analyzed : analyze_path (map (at t) whole) src o ≡ gives (as_told (given_or (given_or (last_rule src t o) (path_rule src t o whole)) (trailing_rule t o whole)))
  unfolding analyze_path
  analyzed =
      return-given (check_trailing_clause (map (at t) whole) o) _
      ∙ rw (by-path, trailing-rule t o whole)
      (ap (give_or (gives (as_told (given_or (last_rule src t o) (path_rule src t o whole))))) (sym (trailing-told t o whole))
      ∙ give-told (given_or (last_rule src t o) (path_rule src t o whole)) (trailing_rule t o whole))

  context-same : cursor_context (record_at t 0 0) (kids (records 0 t)) src o ≡ gives (as_told (context_at src t o))
  unfolding cursor_context context_at
  context-same = rw (path-same t o tidy, path-is) analyzed

  map-tree : (p : List Rec) → map (λ (n : PathNode). n.tree) (map (at t) p) ≡ p
  map-tree [] = refl
  map-tree (r ∷ p) = rw (map-tree p)

  last-same' : (i : ℕ) → (token_before_offset (record_at t 0 i) (inside t i) src o >>= (λ b. gives (text_name b))) ≡ gives (last_two o (inside t i)).last
  last-same' i = let g = before_same src o (record_at t 0 i) (inside t i) (reads ok ask i) in then_is _ g.gave ∙ ap gives g.so

  pub cursor-context-rs : CursorContextRs src t o
  cursor-context-rs =
      record {
        path = ap (map (λ (n : PathNode). n.tree)) (path-same t o tidy) ∙ map-tree (path_at t o);
        last-token = last-same';
        before-dot = λ i. identifier-same src o (inside t i) (reads ok ask i) (inside-rises tidy i);
        function-name = λ i. name-same src (inside t i) (reads ok ask i);
        argument-index = λ i. commas-same o (inside t i) (inside-rises tidy i);
        context = context-same;
      }
