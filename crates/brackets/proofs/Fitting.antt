-- On an admitted table every opener that is left has a number below 4,096: in the list of openers, and in a hint; and no more are left than there are records.
--     openers-fit, hint-within, openers-few
-- Assumes nothing.
use Prim.Native.Nat.{ℕ, suc, ◌+◌, ◌≤◌, ◌<◌}
use mathlib.Core.Path.{◌≡◌, refl, sym}
use mathlib.Core.Bool.{Bool, true, false, cond}
use mathlib.Core.List.{List, [], ◌∷◌, map, reverse, reverse_aux}
use native.Mathlib.Omega.{arith}
use lib.Dec.{eqb}
use lib.ListN.{length, length-map, length-reverse}
use Rattle.std.specs.Prelude.{Ok, Option, Some, None}
use Rattle.text.specs.Text.{bytes_of}
use Rattle.lent.specs.Fit32.{Fit32, AllFit32}
use Rattle.records.specs.declared.record.Rec.{Rec}
use Rattle.records.specs.Kinds.{opening_round, opening_square, opening_curly}
use Rattle.records.specs.Table.{count, records}
use Rattle.conditions.specs.Conditions.{most_records}
use Rattle.table.specs.Rules.{verdict}
use Rattle.forest.specs.Forest.{Forest, nil, token, node, kids}
use Rattle.forest.specs.Limits.{Limited, size}
use Rattle.forest.proofs.Limits.{admitted-limited, inside-size}
use Rattle.forest.proofs.Sense.{admitted-tidy}
use Rattle.brackets.specs.Brackets.{is_opener, is_closer, fits, closed, stack_step, left, stack_left, index_of, openers_left, opener_row, holding, last_opener, hint_of}

-- each of these records has a number below 4,096
unfoldable Few : List Rec → Type 0
Few [] = Unit
Few (r ∷ rs) = (r.index < most_records) × Few rs

few-chosen : (b : Bool) (xs ys : List Rec) → Few xs → Few ys → Few (cond b xs ys)
few-chosen true xs ys p q = p
few-chosen false xs ys p q = q

closed-few : (stack : List Rec) (c : ℕ) → Few stack → Few (closed stack c)
unfolding closed Few
closed-few [] c w = tt
closed-few (o ∷ stack) c w = few-chosen (fits o.kind c) stack (o ∷ stack) w.1 w

stepped-few : (stack : List Rec) (r : Rec) → r.index < most_records → Few stack → Few (stack_step stack r)
unfolding stack_step Few
stepped-few stack r h w = few-chosen (is_opener r.kind) (r ∷ stack) _ (h, w) (few-chosen (is_closer r.kind) _ stack (closed-few stack r.kind w) w)

left-few : (stack : List Rec) (f : Forest) → Few stack → Limited f → Few (left stack f)
unfolding left Limited
left-few stack nil w l = w
left-few stack (token r rest) w l = left-few (stack_step stack r) rest (stepped-few stack r l.0.0 w) l.1
left-few stack (node r below rest) w l = left-few (left stack below) rest (left-few stack below w l.1) l.2

turned-few : (xs ys : List Rec) → Few xs → Few ys → Few (reverse_aux xs ys)
unfolding Few
turned-few [] ys p q = q
turned-few (x ∷ xs) ys p q = turned-few xs (x ∷ ys) p.1 (p.0, q)

few-fit : (rs : List Rec) → Few rs → AllFit32 opener_row (map index_of rs)
unfolding Few AllFit32 Fit32
few-fit [] w = tt
few-fit (r ∷ rs) w = ((omega (arith, w.0), tt), few-fit rs w.1)

-- the opener that a hint names, if it names one
unfoldable NamesFew : Option ℕ → Type 0
NamesFew (Some i) = i < most_records
NamesFew None = Unit

names-chosen : (b : Bool) (x y : Option ℕ) → NamesFew x → NamesFew y → NamesFew (cond b x y)
names-chosen true x y p q = p
names-chosen false x y p q = q

last-few : (k : ℕ) (stack : List Rec) → Few stack → NamesFew (last_opener k stack)
unfolding last_opener Few NamesFew
last-few k [] w = tt
last-few k (o ∷ stack) w = names-chosen (eqb o.kind k) (Some o.index) (last_opener k stack) w.0 (last-few k stack w.1)

-- ---- how many

closed-less : (stack : List Rec) (c : ℕ) → length (closed stack c) ≤ length stack
unfolding closed
closed-less [] c = omega arith
closed-less (o ∷ stack) c = go (fits o.kind c) refl
  where
    go : (b : Bool) → fits o.kind c ≡ b → length (cond (fits o.kind c) stack (o ∷ stack)) ≤ suc (length stack)
    go true e = rw e (omega arith)
    go false e = rw e (omega arith)

stepped-one : (stack : List Rec) (r : Rec) → length (stack_step stack r) ≤ suc (length stack)
unfolding stack_step
stepped-one stack r = go (is_opener r.kind) refl (is_closer r.kind) refl
  where
    go : (b : Bool) → is_opener r.kind ≡ b → (d : Bool) → is_closer r.kind ≡ d → length (stack_step stack r) ≤ suc (length stack)
    go true e d q = rw e (omega arith)
    go false e true q = rw (e, q) (omega (arith, closed-less stack r.kind))
    go false e false q = rw (e, q) (omega arith)

left_below : (stack : List Rec) (f : Forest) → length (left stack f) ≤ length stack + size f
unfolding left size
left_below stack nil = omega arith
left_below stack (token r rest) = omega (arith, left_below (stack_step stack r) rest, stepped-one stack r)
left_below stack (node r below rest) = omega (arith, left_below (left stack below) rest, left_below stack below)

-- ---- of an admitted table

module _ (t : List ℕ) (n m : ℕ) (a : Ok tt ≡ verdict t n m) where
  stack-few : Few (stack_left t)
  stack-few = left-few [] (kids (records 0 t)) (unfold Few in tt) (admitted-limited t n m a 0)

  pub openers-fit : AllFit32 opener_row (openers_left t)
  openers-fit = few-fit (reverse (stack_left t)) (turned-few (stack_left t) [] stack-few (unfold Few in tt))

  hint-few : (message : List ℕ) → NamesFew (hint_of message (stack_left t))
  unfolding hint_of
  hint-few message =
      names-chosen (holding (bytes_of "expected )") message) (last_opener opening_round (stack_left t)) _ (last-few opening_round (stack_left t) stack-few)
      (names-chosen (holding (bytes_of "expected ]") message) (last_opener opening_square (stack_left t)) _ (last-few opening_square (stack_left t) stack-few)
      (names-chosen (holding (bytes_of "expected }") message) (last_opener opening_curly (stack_left t)) None (last-few opening_curly (stack_left t) stack-few) (unfold NamesFew in tt)))

  pub hint-within : (message : List ℕ) {i : ℕ} → hint_of message (stack_left t) ≡ Some i → i < most_records
  unfolding NamesFew
  hint-within message e = rw e at (hint-few message)

  pub openers-few : length (openers_left t) ≤ count t
  openers-few =
      omega (arith, length-map (reverse (stack_left t)) index_of, length-reverse (stack_left t), left_below [] (kids (records 0 t)), inside-size t 0 (admitted-tidy t n m (sym a)).some)
