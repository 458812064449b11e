-- How the writes of a walk follow each other, and what a question makes of them. Nothing here knows what is written.
--     written_none, written_one     nothing; one entry
--     written_then                  one run of entries after another
--     fill-sets, written-whole      all of them where they have room
--     list-refused, list-admitted   a question that its own rules refuse; one that they admit
--     sized-filled, sized-short     all entries are written; they are counted, and have no room
--     sized-copied                  they are written to bytes that are kept aside, and copied
--     list-filled, list-short       the same where every entry that there can be is of one width
--     written-map, written-rows, listed-map, ..   entries that are rows of numbers already
-- Assumes nothing.
use mathlib.Core.Path.{◌≡◌, refl, sym, ap, ◌∙◌}
use mathlib.Core.List.{List, [], ◌∷◌, ◌++◌, map, append_assoc}
use Prim.Native.Nat.{ℕ, suc, ◌+◌, ◌*◌, ◌/◌, ◌≤◌, ◌<◌}
use native.Mathlib.Omega.{arith}
use native.Mathlib.Nat.{add-zero, zero-add, add_assoc, suc-mul, mul-div_cancel}
use native.Mathlib.Numerals.{add-one}
use lib.ListN.{length, take, drop, set, get_or, length-append, length-map}
use borrow.Rule.Slice.PartMut.{put_mid}
use Rattle.std.proofs.lemmas.List.{drop-drop}
use lib.Seq.{sets, sets-eq, length-sets, take-suc, take_all, take-append_seam, length-take-le}
use borrow.Author.Tests.{lt-ltb, le-ltb}
use Rattle.std.specs.Prelude.{Ok, Err, Result}
use Rattle.lent.specs.declared.refusal.Condition.TheVariants.{NoRoom}
use Rattle.lent.specs.declared.refusal.Refusal.{Refusal}
use Rattle.lent.specs.Verdicts.{Rule, first, refused}
use Rattle.lent.specs.Numbers.{number_bytes, le4}
use Rattle.lent.specs.Lists.{row_bytes, list_bytes, room_rule, list_verdict, reply, buffer, listed, lent, put, fill, Written, plain}
use Rattle.lent.proofs.Verdicts.{then-refused, then-admitted}

pub length-row : (vs : List ℕ) → length (row_bytes vs) ≡ number_bytes * length vs
unfolding row_bytes
length-row [] = refl
length-row (v ∷ vs) = omega (arith, length-row vs)

pub sets-append : (xs ys l : List ℕ) (i : ℕ) → sets (sets l i xs) (i + length xs) ys ≡ sets l i (xs ++ ys)
sets-append [] ys l i = rw (add-zero i)
sets-append (x ∷ xs) ys l i =
    let e : i + suc (length xs) ≡ suc i + length xs = omega arith in
    rw e (sets-append xs ys (set l i x) (suc i))

-- a part of a slice that is overwritten with xs
pub sets-part : (xs out : List ℕ) (at k : ℕ) {ys : List ℕ} → ys ≡ xs → k ≡ length xs → at + length xs ≤ length out → put_mid at k out ys ≡ sets out at xs
sets-part xs out at k e q h = rw (e, q, drop-drop (length xs) at out) (sym (sets-eq xs out at h ∙ append_assoc (take at out) xs _))

module _ {E : Type 0} (row : E → List ℕ) where
  list-append : (xs ys : List E) → list_bytes row (xs ++ ys) ≡ list_bytes row xs ++ list_bytes row ys
  unfolding list_bytes
  list-append [] ys = refl
  list-append (x ∷ xs) ys = rw (list-append xs ys) (sym (append_assoc (row_bytes (row x)) (list_bytes row xs) (list_bytes row ys)))

  pub length-list-append : (xs ys : List E) → length (list_bytes row (xs ++ ys)) ≡ length (list_bytes row xs) + length (list_bytes row ys)
  length-list-append xs ys = rw (list-append xs ys) (length-append (list_bytes row xs) (list_bytes row ys))

  length-cons : (e : E) (es : List E) → length (list_bytes row (e ∷ es)) ≡ number_bytes * length (row e) + length (list_bytes row es)
  unfolding list_bytes
  length-cons e es = length-append (row_bytes (row e)) (list_bytes row es) ∙ rw (length-row (row e))

  pub fill-append : (out : List ℕ) (at : ℕ) (xs ys : List E) → fill row out at (xs ++ ys) ≡ fill row (fill row out at xs) (at + length (list_bytes row xs)) ys
  unfolding fill
  fill-append out at [] ys = (unfold list_bytes in rw (add-zero at))
  fill-append out at (x ∷ xs) ys =
      rw (length-cons x xs, ← add_assoc)
      (fill-append (put out at (row x)) (at + number_bytes * length (row x)) xs ys)

  pub written_none : (out : List ℕ) (at : ℕ) → Written row [] out at out at
  unfolding fill list_bytes
  written_none out at = record { bytes = refl; next = omega arith }

  pub written_one : (e : E) (out : List ℕ) (at : ℕ) {out' : List ℕ} {at' : ℕ} → out' ≡ put out at (row e) → at' ≡ at + number_bytes * length (row e)
      → Written row (e ∷ []) out at out' at'
  unfolding fill
  written_one e out at p q =
      let z : length (list_bytes row []) ≡ 0 = (unfold list_bytes in refl) in
      record { bytes = p; next = omega (arith, length-cons e []) }

  pub written_then : {xs ys : List E} {a b c : List ℕ} {n m l : ℕ} → Written row xs a n b m → Written row ys b m c l → Written row (xs ++ ys) a n c l
  written_then {xs} {ys} {a} {b} {c} {n} {m} {l} p q =
      record {
        bytes = q.bytes ∙ rw (p.bytes, p.next) (sym (fill-append a n xs ys));
        next = omega (arith, length-list-append xs ys, p.next, q.next);
      }

  -- ---- the bytes where all entries have room
  pub fill-sets : (out : List ℕ) (at : ℕ) (es : List E) → at + length (list_bytes row es) ≤ length out → fill row out at es ≡ sets out at (list_bytes row es)
  unfolding fill put list_bytes
  fill-sets out at [] h = refl
  fill-sets out at (e ∷ es) h =
      let l : length (sets out at (row_bytes (row e))) ≡ length out = length-sets out at (row_bytes (row e)) in
      let n : length (list_bytes row (e ∷ es)) ≡ number_bytes * length (row e) + length (list_bytes row es) = length-cons e es in
      rw (le-ltb (length out) (at + number_bytes * length (row e)) (omega arith))
      (fill-sets (sets out at (row_bytes (row e))) (at + number_bytes * length (row e)) es (rw l (omega arith))
      ∙ rw (← length-row (row e)) (sets-append (row_bytes (row e)) (list_bytes row es) out at))

  pub written-whole : {es : List E} {out out' : List ℕ} {m : ℕ} → Written row es out 0 out' m → length (list_bytes row es) ≤ length out
      → out' ≡ list_bytes row es ++ drop (length (list_bytes row es)) out
  written-whole {es} {out} w h =
      w.bytes ∙ fill-sets out 0 es (omega arith)
      ∙ sets-eq (list_bytes row es) out 0 (omega arith)
      ∙ rw (zero-add (length (list_bytes row es)))

  -- ---- a question for a list
  pub list-refused : (rs : List Rule) (es : List E) (out : List ℕ) {r : Refusal} → Err r ≡ first rs
      → (Err r ≡ listed rs row es out) × (out ≡ lent rs row es out)
  unfolding listed lent reply buffer
  list-refused rs es out e =
      let v = then-refused rs (room_rule row es out ∷ []) e in
      (rw (← v), rw (← v))

  listed-room : (rs : List Rule) (es : List E) (out : List ℕ) → Ok tt ≡ first rs → length (list_bytes row es) ≤ length out
      → Ok tt ≡ list_verdict rs row es out
  listed-room rs es out e h = sym (then-admitted rs (room_rule row es out ∷ []) e ∙ rw (le-ltb (length out) (length (list_bytes row es)) h))

  listed-short : (rs : List Rule) (es : List E) (out : List ℕ) → Ok tt ≡ first rs → length out < length (list_bytes row es)
      → refused NoRoom (length es) ≡ list_verdict rs row es out
  listed-short rs es out e h = sym (then-admitted rs (room_rule row es out ∷ []) e ∙ rw (lt-ltb (length out) (length (list_bytes row es)) h))

  -- where its rules admit a question, its list is that of the question with no rules
  pub list-admitted : (rs : List Rule) (es : List E) (out : List ℕ) {r : Result ℕ Refusal} {out' : List ℕ} → Ok tt ≡ first rs
      → (r ≡ listed [] row es out) × (out' ≡ lent [] row es out) → (r ≡ listed rs row es out) × (out' ≡ lent rs row es out)
  unfolding listed lent
  list-admitted rs es out e q = rw (then-admitted rs (room_rule row es out ∷ []) e) q

  -- a list of entries of w bytes each
  module _ (w : ℕ) (es : List E) (wide : length (list_bytes row es) ≡ length es * w) (p : 0 < w) where
    entries-of : (m : ℕ) → m ≡ length (list_bytes row es) → m / w ≡ length es
    entries-of m q = rw (q, wide) (mul-div_cancel (length es) p)

    module _ (rs : List Rule) (out : List ℕ) (ok : Ok tt ≡ first rs) where
      pub sized-filled : {out' : List ℕ} {m : ℕ} → Written row es out 0 out' m → m ≤ length out
          → (Ok (m / w) ≡ listed rs row es out) × (out' ≡ lent rs row es out)
      unfolding listed lent reply buffer
      sized-filled {out'} {m} c h =
          let v = listed-room rs es out ok (omega (arith, c.next)) in
          (rw (← v, entries-of m (omega (arith, c.next))), rw (← v) (written-whole c (omega (arith, c.next))))

      pub sized-short : {m : ℕ} → m ≡ length (list_bytes row es) → length out < m → (refused NoRoom (m / w) ≡ listed rs row es out) × (out ≡ lent rs row es out)
      unfolding listed lent reply buffer
      sized-short {m} c h =
          let v = listed-short rs es out ok (omega arith) in
          (rw (← v, entries-of m c), rw (← v))

      -- a function writes to bytes that are kept aside, which hold all of it, and copies them
      pub sized-copied : {kept kept' out' : List ℕ} {m : ℕ} → Written row es kept 0 kept' m → m ≤ length kept → m ≤ length out → out' ≡ take m kept' ++ drop m out
          → (Ok (m / w) ≡ listed rs row es out) × (out' ≡ lent rs row es out)
      unfolding listed lent reply buffer
      sized-copied {kept} {kept'} {out'} {m} c h g q =
          let z : m ≡ length (list_bytes row es) = omega (arith, c.next) in
          let v = listed-room rs es out ok (omega arith) in
          let k : take m kept' ≡ list_bytes row es = rw (z, written-whole c (omega arith)) (take-append_seam (list_bytes row es) _) in
          (rw (← v, entries-of m z), rw (← v, ← z) (q ∙ rw k))

  -- the same where every entry that there can be has w bytes
  module _ (w : ℕ) (wide : (e : E) → number_bytes * length (row e) ≡ w) where
    pub length-wide : (es : List E) → length (list_bytes row es) ≡ length es * w
    length-wide [] = (unfold list_bytes in omega arith)
    length-wide (e ∷ es) = length-cons e es ∙ rw (wide e, length-wide es, suc-mul (length es) w) (omega arith)

    module _ (p : 0 < w) (rs : List Rule) (es : List E) (out : List ℕ) (ok : Ok tt ≡ first rs) where
      pub list-filled : {out' : List ℕ} {m : ℕ} → Written row es out 0 out' m → m ≤ length out → (Ok (m / w) ≡ listed rs row es out) × (out' ≡ lent rs row es out)
      list-filled c h = sized-filled w es (length-wide es) p rs out ok c h

      pub list-short : {m : ℕ} → m ≡ length (list_bytes row es) → length out < m → (refused NoRoom (m / w) ≡ listed rs row es out) × (out ≡ lent rs row es out)
      list-short c h = sized-short w es (length-wide es) p rs out ok c h

  -- ---- entries that are rows of numbers already: the same bytes, writes and answers
  pub bytes-map : (es : List E) → list_bytes plain (map row es) ≡ list_bytes row es
  unfolding list_bytes
  bytes-map [] = refl
  bytes-map (e ∷ es) = rw (bytes-map es)

  fill-map : (out : List ℕ) (at : ℕ) (es : List E) → fill plain out at (map row es) ≡ fill row out at es
  unfolding fill
  fill-map out at [] = refl
  fill-map out at (e ∷ es) = fill-map (put out at (row e)) (at + number_bytes * length (row e)) es

  pub written-map : (es : List E) {out out' : List ℕ} {at at' : ℕ} → Written row es out at out' at' → Written plain (map row es) out at out' at'
  written-map es {out} {out'} {at} w = record { bytes = w.bytes ∙ sym (fill-map out at es); next = rw (bytes-map es) w.next }

  pub written-rows : (es : List E) {out out' : List ℕ} {at at' : ℕ} → Written plain (map row es) out at out' at' → Written row es out at out' at'
  written-rows es {out} {out'} {at} w = record { bytes = w.bytes ∙ fill-map out at es; next = rw (bytes-map es) at w.next }

  verdict-map : (rs : List Rule) (es : List E) (out : List ℕ) → list_verdict rs plain (map row es) out ≡ list_verdict rs row es out
  verdict-map rs es out = rw (bytes-map es, length-map es row)

  pub listed-map : (rs : List Rule) (es : List E) (out : List ℕ) → listed rs plain (map row es) out ≡ listed rs row es out
  unfolding listed
  listed-map rs es out = rw (verdict-map rs es out, length-map es row)

  pub lent_map : (rs : List Rule) (es : List E) (out : List ℕ) → lent rs plain (map row es) out ≡ lent rs row es out
  unfolding lent
  lent_map rs es out = rw (verdict-map rs es out, bytes-map es)

-- ---- an entry, number by number

-- the first i numbers of an entry are written from byte `at` on
pub record Putting (out : List ℕ) (at : ℕ) (entry : List ℕ) (i : ℕ) (out' : List ℕ) : Type 0 where
  pub now-is : out' ≡ sets out at (row_bytes (take i entry))

row-append : (xs ys : List ℕ) → row_bytes (xs ++ ys) ≡ row_bytes xs ++ row_bytes ys
unfolding row_bytes
row-append [] ys = refl
row-append (x ∷ xs) ys = rw (row-append xs ys)

module _ (out : List ℕ) (at : ℕ) (entry : List ℕ) where
  pub putting-start : Putting out at entry 0 out
  unfolding row_bytes
  putting-start = record { now-is = refl }

  module _ {i : ℕ} {out' : List ℕ} (w : Putting out at entry i out') where
    pub putting-next : {out'' : List ℕ} → i < length entry → out'' ≡ sets out' (at + number_bytes * i) (le4 (get_or entry i 0)) → Putting out at entry (i + 1) out''
    putting-next h q =
        let n : length (row_bytes (take i entry)) ≡ number_bytes * i = length-row (take i entry) ∙ ap (λ (x : ℕ). number_bytes * x) (length-take-le i entry (omega arith)) in
        let r : row_bytes (get_or entry i 0 ∷ []) ≡ le4 (get_or entry i 0) = (unfold row_bytes in refl) in
        record {
          now-is = q ∙ rw (add-one i, take-suc entry i 0 h, row-append (take i entry) (get_or entry i 0 ∷ []), r, w.now-is, ← n) (sets-append (row_bytes (take i entry)) (le4 (get_or entry i 0)) out at);
        }

    pub putting-end : length entry ≤ i → at + number_bytes * length entry ≤ length out → out' ≡ put out at entry
    unfolding put
    putting-end h g = rw (le-ltb (length out) (at + number_bytes * length entry) g) (w.now-is ∙ ap (λ (l : List ℕ). sets out at (row_bytes l)) (take_all i entry h))

  pub putting-none : length out < at + number_bytes * length entry → out ≡ put out at entry
  unfolding put
  putting-none g = rw (lt-ltb (length out) (at + number_bytes * length entry) g)
