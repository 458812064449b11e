-- bracket_matching.rs, statement by statement: the second reading of document 01's brackets.
-- Definitions only; the theorem is `bracket-matching-rs` in proofs/BracketMatchingRs.antt.
use Rattle.std.specs.Prelude.{ℕ, ◌≡◌, Bool, cond, ◌&&◌, ◌||◌, List, [], ◌∷◌, map, reverse, eqb, Option, None, Some}
use Rattle.records.specs.declared.record.Rec.{Rec}
use Rattle.records.specs.Kinds.{opening_round, opening_square, opening_curly, closing_round, closing_square, closing_curly}
use Rattle.records.specs.Table.{records}
use Rattle.forest.specs.Forest.{Forest, nil, token, node, kids}
use Rattle.text.specs.Text.{bytes_of}
use Rattle.brackets.specs.Brackets.{holding, index_of, openers_left, stack_left, hint_of}
use Rattle.path.specs.Path.{one_of}
use Rattle.rust.specs.Rust.{push, last, pop, find}

-- struct BracketInfo: the token's record, which has its kind and its range

-- `matches!((last.kind, token.kind), ..)`
unfoldable pub matches : ℕ → ℕ → Bool
matches l k =
    (eqb l opening_round && eqb k closing_round)
    || (eqb l opening_square && eqb k closing_square)
    || (eqb l opening_curly && eqb k closing_curly)

-- the arm of a closing bracket of kind k: `if let Some(last) = stack.last()`, and if it matches `stack.pop()`
unfoldable pub pop_matching : ℕ → List Rec → Option Rec → List Rec
pop_matching k stack None = stack
pop_matching k stack (Some l) = cond (matches l.kind k) (pop stack) stack

-- the `match token.kind` of a token
unfoldable pub bracket : Rec → List Rec → List Rec
bracket t stack =
    cond (one_of (opening_round ∷ opening_square ∷ opening_curly ∷ []) t.kind) (push stack t)
    (cond (one_of (closing_round ∷ closing_square ∷ closing_curly ∷ []) t.kind) (pop_matching t.kind stack (last stack)) stack)

-- fn collect_brackets(tree, stack)
unfoldable pub collect_brackets : Forest → List Rec → List Rec
collect_brackets nil stack = stack
collect_brackets (token t rest) stack = collect_brackets rest (bracket t stack)
collect_brackets (node tree children rest) stack = collect_brackets rest (collect_brackets children stack)

-- the `closer` of a message; `contains` is document 01's "holding" (`holding-plain` in scope/proofs/BracketLaws.antt)
unfoldable pub closer : List ℕ → Option ℕ
closer message =
    cond (holding (bytes_of "expected )") message) (Some opening_round)
    (cond (holding (bytes_of "expected ]") message) (Some opening_square)
    (cond (holding (bytes_of "expected }") message) (Some opening_curly) None))

-- `if let Some(opener_kind) = closer`, then `stack.iter().rev().find(..)`
unfoldable pub find_opener : List Rec → Option ℕ → Option Rec
find_opener stack None = None
find_opener stack (Some k) = find (λ (b : Rec). eqb b.kind k) (reverse stack)

-- fn enrich(diagnostics, tree), of one diagnostic: the opener whose range it relates
unfoldable pub enrich : List ℕ → Forest → Option Rec
enrich message children = find_opener (collect_brackets children []) (closer message)

-- ---- the second reading says the same

-- an opener found, or none
unfoldable pub hint : Option Rec → Option ℕ
hint None = None
hint (Some b) = Some b.index

pub record BracketMatchingRs (t : List ℕ) : Type 0 where
  pub openers-left : map index_of (collect_brackets (kids (records 0 t)) []) ≡ openers_left t
  pub bracket-hint : (message : List ℕ) → hint (enrich message (kids (records 0 t))) ≡ hint_of message (stack_left t)
