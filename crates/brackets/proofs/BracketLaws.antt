-- The bracket stack in an array, step by step, and that it is the stack of the definition.
-- Assumes nothing.
use Prim.Native.Nat.{ℕ, zero, suc, ◌+◌, ◌-◌, ◌*◌, ◌/◌, ◌%◌, ◌≤◌, ◌<◌}
use mathlib.Core.Path.{◌≡◌, refl, sym, ap, ◌∙◌}
use mathlib.Core.Bool.{Bool, true, false, cond, ◌||◌}
use mathlib.Core.List.{List, [], ◌∷◌, ◌++◌, map, map-append, append-nil, reverse, reverse_aux, reverse_aux-eq}
use mathlib.Core.Logic.{⊎_elim, ◌↔◌}
use native.Mathlib.Omega.{arith}
use native.Mathlib.Numerals.{add-one}
use borrow.Author.Tests.{le-leb, lt-leb, eq-eqb, ne_eqb, eqb-true}
use lib.Dec.{eqb}
use lib.ListN.{length, get_or, set, take, drop, length-take, length-map, length-reverse, take-append-drop}
use lib.Seq.{get_or-set_same, get_or-set_other, take-suc, take-length, take-append-le}
use Rattle.std.specs.Prelude.{Ok}
use Rattle.lent.specs.declared.refusal.Condition.TheVariants.{NoRoom}
use Rattle.lent.specs.Verdicts.{refused}
use Rattle.records.specs.declared.record.Rec.{Rec}
use Rattle.records.specs.Table.{records}
use Rattle.forest.specs.Forest.{Forest, nil, token, node, kids}
use Rattle.lent.specs.Numbers.{number_bytes}
use Rattle.lent.specs.Lists.{put, Written, listed, lent}
use Rattle.text.specs.Text.{same}
use Rattle.lent.proofs.Cases.{lt-or-le, eq-or-not, both}
use Rattle.text.proofs.Texts.{differ}
use Rattle.lent.proofs.Writes.{written_none, written_one, written_then, length-wide, list-filled, list-short}
use Rattle.brackets.specs.Brackets.{fits, closed, stack_step, left, stack_left, index_of, openers_left, opener_row, holding, last_opener, hint_of, StandsIn}
use Rattle.brackets.specs.inner.BracketStack.{stacked, unpacked, stack_of, closed_by, stepped_by, left_by, last_by, hint_by}

-- ---- the array

stack-below : (array : List ℕ) (n v k : ℕ) → k ≤ n → stack_of (set array n v) k ≡ stack_of array k
unfolding stack_of
stack-below array n v zero h = refl
stack-below array n v (suc k) h = rw (get_or-set_other array n k v 0 (λ e. omega arith), stack-below array n v k (omega arith))

stack_push : (array : List ℕ) (n v : ℕ) → n < length array → stack_of (set array n v) (n + 1) ≡ v ∷ stack_of array n
unfolding stack_of
stack_push array n v h = rw (add-one n, get_or-set_same array n v 0 h, stack-below array n v n (omega arith))

stack_top : (array : List ℕ) (n : ℕ) → 0 < n → stack_of array n ≡ get_or array (n - 1) 0 ∷ stack_of array (n - 1)
unfolding stack_of
stack_top array zero h = absurd (omega arith)
stack_top array (suc n) h = let e : suc n - 1 ≡ n = omega arith in rw e

pub stack-length : (array : List ℕ) (n : ℕ) → length (stack_of array n) ≡ n
unfolding stack_of
stack-length array zero = refl
stack-length array (suc n) = rw (stack-length array n)

-- ---- one step of the code, on a stack st that the array's first n elements are

pub step-low : (st : List ℕ) (k i : ℕ) → k < 137 → st ≡ stepped_by st k i
unfolding stepped_by
step-low st k i h = rw (lt-leb 137 k h, lt-leb 140 k (omega arith))

pub step-high : (st : List ℕ) (k i : ℕ) → 142 < k → st ≡ stepped_by st k i
unfolding stepped_by
step-high st k i h = rw (le-leb 137 k (omega arith), lt-leb k 139 (omega arith), le-leb 140 k (omega arith), lt-leb k 142 h)

module _ (array : List ℕ) (n k i : ℕ) {st : List ℕ} (v : stack_of array n ≡ st) where
  pub step-open : n < length array → 137 ≤ k → k ≤ 139
      → (stack_of (set array n (stacked k i)) (n + 1) ≡ stepped_by st k i) × (length (stack_of (set array n (stacked k i)) (n + 1)) ≤ length st + 1)
  unfolding stepped_by
  step-open l h g = (
    rw (← v, le-leb 137 k h, le-leb k 139 g) (stack_push array n (stacked k i) l),
    omega (arith, stack-length (set array n (stacked k i)) (n + 1), stack-length array n, ap length v),
  )

  module _ (h : 139 < k) (g : k ≤ 142) where
    closes : stepped_by st k i ≡ closed_by st k
    unfolding stepped_by
    closes = rw (le-leb 137 k (omega arith), lt-leb k 139 h, le-leb 140 k (omega arith), le-leb k 142 g)

    pub step-empty : n ≡ 0 → st ≡ stepped_by st k i
    unfolding stack_of closed_by
    step-empty e = rw (closes, ← v, e)

    pub step-pop : 0 < n → get_or array (n - 1) 0 % 4 ≡ k - 140
        → (stack_of array (n - 1) ≡ stepped_by st k i) × (length (stack_of array (n - 1)) ≤ length st + 1)
    unfolding closed_by
    step-pop p e = (
      rw (closes, ← v, stack_top array n p, eq-eqb (get_or array (n - 1) 0 % 4) (k - 140) e),
      omega (arith, stack-length array (n - 1), stack-length array n, ap length v),
    )

    pub step-drop : 0 < n → (get_or array (n - 1) 0 % 4 ≡ k - 140 → ⊥) → st ≡ stepped_by st k i
    unfolding closed_by
    step-drop p e = rw (closes, ← v, stack_top array n p, ne_eqb (get_or array (n - 1) 0 % 4) (k - 140) e)

-- ---- the array's stack is the definition's

abbrev pack : Rec → ℕ
pack r = stacked r.kind r.index

-- only openers are on the stack
Open : List Rec → Type 0
Open [] = Unit
Open (o ∷ stack) = ((137 ≤ o.kind) × (o.kind ≤ 139)) × Open stack

three : (a k : ℕ) → a ≤ k → k ≤ a + 2 → (P : ℕ → Type 0) → P a → P (a + 1) → P (a + 2) → P k
three a k h g P x y z =
    ⊎_elim
    (λ l. let e : a ≡ k = omega arith in rw e at x)
    (λ l.
    ⊎_elim
    (λ r. let e : a + 1 ≡ k = omega arith in rw e at y)
    (λ r. let e : a + 2 ≡ k = omega arith in rw e at z)
    (lt-or-le k (a + 2)))
    (lt-or-le k (a + 1))

fits-shape : (o c : ℕ) → 137 ≤ o → o ≤ 139 → 140 ≤ c → c ≤ 142 → fits o c ≡ eqb (o - 137) (c - 140)
unfolding fits
fits-shape o c a b h g =
    three 137 o a b (λ x. fits x c ≡ eqb (x - 137) (c - 140))
    (three 140 c h g (λ y. fits 137 y ≡ eqb 0 (y - 140)) refl refl refl)
    (three 140 c h g (λ y. fits 138 y ≡ eqb 1 (y - 140)) refl refl refl)
    (three 140 c h g (λ y. fits 139 y ≡ eqb 2 (y - 140)) refl refl refl)

closed-pack : (stack : List Rec) (c : ℕ) → Open stack → 140 ≤ c → c ≤ 142 → map pack (closed stack c) ≡ closed_by (map pack stack) c
unfolding closed closed_by Open
closed-pack [] c w h g = refl
closed-pack (o ∷ stack) c w h g =
    let e : stacked o.kind o.index % 4 ≡ o.kind - 137 = omega (arith, w.0.0, w.0.1) in
    rw (e, fits-shape o.kind c w.0.0 w.0.1 h g) (go (eqb (o.kind - 137) (c - 140)))
  where
    go : (b : Bool) → map pack (cond b stack (o ∷ stack)) ≡ cond b (map pack stack) (pack o ∷ map pack stack)
    go true = refl
    go false = refl

closed-open : (stack : List Rec) (c : ℕ) → Open stack → Open (closed stack c)
unfolding closed Open
closed-open [] c w = tt
closed-open (o ∷ stack) c w = go (fits o.kind c)
  where
    go : (b : Bool) → Open (cond b stack (o ∷ stack))
    go true = w.1
    go false = w

-- the ways of a token: an opener, a closer, neither
module _ (stack : List Rec) (r : Rec) (w : Open stack) where
  abbrev same_step : Type 0
  same_step = (map pack (stack_step stack r) ≡ stepped_by (map pack stack) r.kind r.index) × Open (stack_step stack r)

  token-open : 137 ≤ r.kind → r.kind ≤ 139 → same_step
  unfolding stack_step stepped_by Open
  token-open h g = rw (le-leb 137 r.kind h, le-leb r.kind 139 g) (refl, ((h, g), w))

  token-close : 139 < r.kind → r.kind ≤ 142 → same_step
  unfolding stack_step stepped_by
  token-close h g =
      rw (le-leb 137 r.kind (omega arith), lt-leb r.kind 139 h, le-leb 140 r.kind (omega arith), le-leb r.kind 142 g)
      (closed-pack stack r.kind w (omega arith) g, closed-open stack r.kind w)

  token-low : r.kind < 137 → same_step
  unfolding stack_step stepped_by
  token-low h = rw (lt-leb 137 r.kind h, lt-leb 140 r.kind (omega arith)) (refl, w)

  token-high : 142 < r.kind → same_step
  unfolding stack_step stepped_by
  token-high h = rw (le-leb 137 r.kind (omega arith), lt-leb r.kind 139 (omega arith), le-leb 140 r.kind (omega arith), lt-leb r.kind 142 h) (refl, w)

  token-step : same_step
  token-step =
      ⊎_elim
      token-low
      (λ h. ⊎_elim (λ g. ⊎_elim token-high (λ l. token-close g l) (lt-or-le 142 r.kind)) (λ g. token-open h g) (lt-or-le 139 r.kind))
      (lt-or-le r.kind 137)

left-pack : (f : Forest) (stack : List Rec) → Open stack → (map pack (left stack f) ≡ left_by (map pack stack) f) × Open (left stack f)
unfolding left left_by
left-pack nil stack w = (refl, w)
left-pack (token r rest) stack w =
    let s = token-step stack r w in
    let l = left-pack rest (stack_step stack r) s.1 in
    (l.0 ∙ rw s.0, l.1)
left-pack (node r below rest) stack w =
    let s = left-pack below stack w in
    let l = left-pack rest (left stack below) s.1 in
    (l.0 ∙ rw s.0, l.1)

-- ---- the list of openers

-- the array from its start is the stack from its bottom
pub take-stack : (array : List ℕ) (n : ℕ) → n ≤ length array → take n array ≡ reverse (stack_of array n)
unfolding stack_of
take-stack array zero h = refl
take-stack array (suc n) h =
    take-suc array n 0 h ∙ rw (take-stack array n (omega arith)) (sym (reverse_aux-eq (stack_of array n) (get_or array n 0 ∷ [])))

module _ {A B : Type 0} (f : A → B) where
  map-onto : (xs ys : List A) → map f (reverse_aux xs ys) ≡ reverse_aux (map f xs) (map f ys)
  map-onto [] ys = refl
  map-onto (x ∷ xs) ys = map-onto xs (x ∷ ys)

unpack-all : (stack : List Rec) → Open stack → map unpacked (map pack stack) ≡ map index_of stack
unfolding Open
unpack-all [] w = refl
unpack-all (o ∷ stack) w =
    let e : stacked o.kind o.index / 4 ≡ o.index = omega (arith, w.0.0, w.0.1) in
    rw (e, unpack-all stack w.1)

-- what the walk leaves is the stack of the tree
module _ (t : List ℕ) {st : List ℕ} (e : st ≡ left_by [] (kids (records 0 t))) where
  is-left : (map pack (stack_left t) ≡ left_by [] (kids (records 0 t))) × Open (stack_left t)
  is-left = left-pack (kids (records 0 t)) [] (unfold Open in tt)

  pub openers-are : map unpacked (reverse st) ≡ openers_left t
  openers-are =
      let w = is-left in
      rw (e, ← w.0) (map-onto unpacked (map pack (stack_left t)) [] ∙ rw (unpack-all (stack_left t) w.1) (sym (map-onto index_of (stack_left t) [])))

-- ---- an entry more
module _ (array : List ℕ) (j : ℕ) {out out' out'' : List ℕ} {at at' v : ℕ} where
  pub opener-put : Written opener_row (map unpacked (take j array)) out 0 out' at → j < length array → v ≡ get_or array j 0 / 4 → out'' ≡ put out' at (v ∷ []) → at' ≡ at + number_bytes * 1
      → Written opener_row (map unpacked (take (j + 1) array)) out 0 out'' at'
  opener-put w h e q r =
      let z : map unpacked (take (j + 1) array) ≡ map unpacked (take j array) ++ v ∷ [] =
      rw (add-one j, take-suc array j 0 h, e) (map-append unpacked (take j array) (get_or array j 0 ∷ [])) in
      rw z (written_then opener_row w (written_one opener_row v out' at q r))

pub opener-none : (array out : List ℕ) → Written opener_row (map unpacked (take 0 array)) out 0 out 0
opener-none array out = written_none opener_row out 0

-- ---- the last opener of a shape

last-pack : (k : ℕ) (stack : List Rec) → Open stack → 137 ≤ k → last_by (k - 137) (map pack stack) ≡ last_opener k stack
unfolding last_by last_opener Open
last-pack k [] w h = refl
last-pack k (o ∷ stack) w h =
    let e : stacked o.kind o.index % 4 ≡ o.kind - 137 = omega (arith, w.0.0, w.0.1) in
    let i : stacked o.kind o.index / 4 ≡ o.index = omega (arith, w.0.0, w.0.1) in
    rw (e, i, last-pack k stack w.1 h)
    (⊎_elim
    (λ q. rw (eq-eqb o.kind k q, eq-eqb (o.kind - 137) (k - 137) (ap (λ x. x - 137) q)))
    (λ q. rw (ne_eqb o.kind k q, ne_eqb (o.kind - 137) (k - 137) (λ z. q (omega (arith, w.0.0)))))
    (eq-or-not o.kind k))

module _ (t m : List ℕ) {st : List ℕ} (e : st ≡ left_by [] (kids (records 0 t))) where
  pub hint-is : hint_by m st ≡ hint_of m (stack_left t)
  unfolding hint_by hint_of
  hint-is =
      let w = is-left t e in
      rw (e, ← w.0, last-pack 137 (stack_left t) w.1 (omega arith), last-pack 138 (stack_left t) w.1 (omega arith), last-pack 139 (stack_left t) w.1 (omega arith))

-- ---- a message that holds a word

holding-short : (w m : List ℕ) → length m < length w → holding w m ≡ false
unfolding holding
holding-short w [] h = sym (differ [] w (λ e. omega (arith, e)))
holding-short w (b ∷ m) h =
    rw (holding-short w m (omega arith), ← differ (take (length w) (b ∷ m)) w (λ e. omega (arith, e, length-take (length w) (b ∷ m))))

holding-cons : (w : List ℕ) (b : ℕ) (m : List ℕ) → holding w (b ∷ m) ≡ (same (take (length w) (b ∷ m)) w || holding w m)
unfolding holding
holding-cons w b m = refl

pub holding-none : (w m : List ℕ) {t : Bool} → t ≡ holding w m → length m < length w → false ≡ t
holding-none w m e h = sym (e ∙ holding-short w m h)

-- ---- the questions, from what the walk left

module _ (t out : List ℕ) {st : List ℕ} {n : ℕ} (e : st ≡ left_by [] (kids (records 0 t))) (h : n ≡ length st) where
  fours : 4 * n / 4 ≡ n
  fours = omega arith

  pub openers-short : length out < 4 * n → (refused NoRoom n ≡ listed [] opener_row (openers_left t) out) × (out ≡ lent [] opener_row (openers_left t) out)
  openers-short g =
      let l : length (openers_left t) ≡ n = ap length (sym (openers-are t e)) ∙ length-map (reverse st) unpacked ∙ length-reverse st ∙ sym h in
      let r = list-short opener_row 4 (λ x. refl) (omega arith) [] (openers_left t) out refl {m = 4 * n} (omega (arith, length-wide opener_row 4 (λ x. refl) (openers_left t))) g in
      rw fours at r

  pub openers-full : {out' : List ℕ} → Written opener_row (map unpacked (reverse st)) out 0 out' (4 * length st) → 4 * n ≤ length out
      → (Ok n ≡ listed [] opener_row (openers_left t) out) × (out' ≡ lent [] opener_row (openers_left t) out)
  openers-full w g =
      let r = list-filled opener_row 4 (λ x. refl) (omega arith) [] (openers_left t) out refl (rw (openers-are t e, ← h) at w) g in
      rw fours at r

-- ---- holding, in plain words: the word stands in the message between two parts of it

same-eq : (a b : List ℕ) → same a b ≡ true → a ≡ b
same-eq [] [] e = refl
same-eq [] (y ∷ ys) e = absurd (let z : ◌≡◌ {A = ℕ} 0 1 = cc in omega arith)
same-eq (x ∷ xs) [] e = absurd (let z : ◌≡◌ {A = ℕ} 0 1 = cc in omega arith)
same-eq (x ∷ xs) (y ∷ ys) e = let b = both (eqb x y) _ e in rw (eqb-true x y b.0, same-eq xs ys b.1)

same_refl : (a : List ℕ) → same a a ≡ true
same_refl [] = refl
same_refl (x ∷ xs) = rw (eq-eqb x x refl, same_refl xs)

holds→ : (w m : List ℕ) → holding w m ≡ true → StandsIn w m
unfolding holding
holds→ w [] e = record { before = []; after = []; is = same-eq [] w e ∙ sym (append-nil w) }
holds→ w (b ∷ m) e = go (same (take (length w) (b ∷ m)) w) refl e (holds→ w m)
  where
    go : (t : Bool) → same (take (length w) (b ∷ m)) w ≡ t → (t || holding w m) ≡ true → (holding w m ≡ true → StandsIn w m) → StandsIn w (b ∷ m)
    go true q e on =
        record { before = []; after = drop (length w) (b ∷ m); is = sym (take-append-drop (length w) (b ∷ m)) ∙ ap (λ (l : List ℕ). l ++ drop (length w) (b ∷ m)) (same-eq (take (length w) (b ∷ m)) w q) }
    go false q e on = let h = on e in record { before = b ∷ h.before; after = h.after; is = ap (λ (l : List ℕ). b ∷ l) h.is }

holds-front : (w after : List ℕ) → holding w (w ++ after) ≡ true
unfolding holding
holds-front [] [] = refl
holds-front [] (a ∷ after) = refl
holds-front (x ∷ w) after = rw (take-append-le (length w) w after (omega arith), take-length w, same_refl (x ∷ w))

holds← : (w before after : List ℕ) → holding w (before ++ w ++ after) ≡ true
holds← w [] after = holds-front w after
holds← w (b ∷ before) after = rw (holding-cons w b (before ++ w ++ after), holds← w before after) (right (same (take (length w) (b ∷ before ++ w ++ after)) w))
  where
    right : (t : Bool) → (t || true) ≡ true
    right true = refl
    right false = refl

pub holding-plain : (w m : List ℕ) → (holding w m ≡ true) ↔ StandsIn w m
holding-plain w m = (holds→ w m, λ h. rw h.is (holds← w h.before h.after))
