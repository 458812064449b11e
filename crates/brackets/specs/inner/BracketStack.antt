-- How the code holds the bracket stack: an array of numbers, each an opener's record number and its shape. A reader of the answers needs
-- none of this.
-- Definitions only.
use Rattle.std.specs.Prelude.{ℕ, zero, suc, ◌+◌, ◌-◌, ◌*◌, ◌/◌, ◌%◌, ◌≡◌, cond, List, [], ◌∷◌, eqb, get_or, Option, Some, None}
use Rattle.records.specs.Kinds.{opening_round, closing_round}
use Rattle.records.specs.Table.{count, kind_at, records}
use Rattle.forest.specs.Forest.{Forest, nil, token, node, kids}
use Rattle.brackets.specs.Brackets.{is_opener, is_closer, holding}
use Rattle.text.specs.Text.{bytes_of}

-- an opener of kind k and number i
abbrev pub stacked : ℕ → ℕ → ℕ
stacked k i = 4 * i + (k - opening_round)

-- the first n elements of an array as a stack, its top first
unfoldable pub stack_of : List ℕ → ℕ → List ℕ
stack_of array zero = []
stack_of array (suc n) = get_or array n 0 ∷ stack_of array n

-- the steps of the stack, over such numbers
unfoldable pub closed_by : List ℕ → ℕ → List ℕ
closed_by [] c = []
closed_by (o ∷ stack) c = cond (eqb (o % 4) (c - closing_round)) stack (o ∷ stack)

unfoldable pub stepped_by : List ℕ → ℕ → ℕ → List ℕ
stepped_by stack k i = cond (is_opener k) (stacked k i ∷ stack) (cond (is_closer k) (closed_by stack k) stack)

unfoldable pub left_by : List ℕ → Forest → List ℕ
left_by stack nil = stack
left_by stack (token r rest) = left_by (stepped_by stack r.kind r.index) rest
left_by stack (node r below rest) = left_by (left_by stack below) rest

-- the stack after n records of a part s of the table, one after the other, where the part's first record has the number base
unfoldable pub stepped_over : List ℕ → List ℕ → ℕ → ℕ → List ℕ
stepped_over stack s base zero = stack
stepped_over stack s base (suc n) = stepped_by (stepped_over stack s base n) (kind_at s n) (base + n)

-- what an admitted table has: record 0 does nothing to the stack, and the stack of its tree is that of its records one after the other
pub record Stacks (t : List ℕ) : Type 0 where
  pub first : stepped_over [] t 0 1 ≡ []
  pub flat : left_by [] (kids (records 0 t)) ≡ stepped_over [] t 0 (count t)

-- the record number of an opener
abbrev pub unpacked : ℕ → ℕ
unpacked o = o / 4

-- the last opener of this shape, 0 to 2
unfoldable pub last_by : ℕ → List ℕ → Option ℕ
last_by shape [] = None
last_by shape (o ∷ stack) = let on : (Option ℕ) = last_by shape stack in cond (eqb (o % 4) shape) (Some (unpacked o)) on

-- the opener that a message speaks of
unfoldable pub hint_by : List ℕ → List ℕ → Option ℕ
hint_by m stack =
    cond (holding (bytes_of "expected )") m) (last_by 0 stack)
    (cond (holding (bytes_of "expected ]") m) (last_by 1 stack)
    (cond (holding (bytes_of "expected }") m) (last_by 2 stack) None))
