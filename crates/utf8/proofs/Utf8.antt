-- The places of valid UTF-8, told by their bytes:
--     nothing       no bytes are valid
--     begins        the first byte of valid UTF-8 is none that goes on with a character
--     behind        behind a first byte below 128 stands valid UTF-8
--     between-or    every place is between characters, or its byte goes on with one
-- Assumes nothing.
use Prim.Native.Nat.{ℕ, zero, suc, ◌+◌, ◌-◌, ◌≤◌, ◌<◌}
use mathlib.Core.Path.{◌≡◌, refl, sym, ap, ◌∙◌}
use mathlib.Core.Bool.{Bool, true, false, ◌&&◌, ◌||◌}
use mathlib.Core.List.{List, [], ◌∷◌, ◌++◌}
use mathlib.Core.Logic.{◌⊎◌, inl, inr, ⊎_elim}
use native.Mathlib.Omega.{arith}
use native.Mathlib.Numerals.{add-one}
use borrow.Author.Tests.{leb-true, le-leb, lt-leb, ltb-true, ltb-false}
use lib.Dec.{leb, ltb}
use lib.ListN.{length, length-append, get_or}
use lib.Seq.{get_or-take, get_or-append-add, take-append_seam, take-append-add, drop-append-add}
use Rattle.utf8.specs.Utf8.{Bytes, bytes, further, forms, is_among, has_form, has_one_of, is_character, are_characters, in_row, Utf8, Between}

both : (a b : Bool) → (a && b) ≡ true → (a ≡ true) × (b ≡ true)
both true b e = (refl, e)
both false b e = absurd (let w : ◌≡◌ {A = ℕ} 0 1 = cc in omega arith)

-- a first byte of a form
first : (r : Bytes) (rs : List Bytes) (b : ℕ) (bs : List ℕ) → has_form (r ∷ rs) (b ∷ bs) ≡ true → (r.first ≤ b) × (b ≤ r.last)
unfolding has_form
first r rs b bs e =
    let x = both (is_among r b) (has_form rs bs) e in
    let y = both (leb r.first b) (leb b r.last) x.0 in
    (leb-true r.first b y.0, leb-true b r.last y.1)

one_of : (f : List Bytes) (fs : List (List Bytes)) (c : List ℕ) → has_one_of (f ∷ fs) c ≡ true → (has_form f c ≡ true) ⊎ (has_one_of fs c ≡ true)
unfolding has_one_of
one_of f fs c e = go (has_form f c) (has_one_of fs c) e
  where
    go : (a b : Bool) → (a || b) ≡ true → (a ≡ true) ⊎ (b ≡ true)
    go true b e = inl refl
    go false b e = inr e

-- bytes that go on, and all others
abbrev Fresh : ℕ → Type 0
Fresh b = (b < 128) ⊎ (191 < b)

-- every form begins so
abbrev Begins : List (List Bytes) → Type 0
Begins fs = (b : ℕ) (bs : List ℕ) → has_one_of fs (b ∷ bs) ≡ true → Fresh b

begins-none : Begins []
unfolding has_one_of
begins-none b bs e = absurd (let w : ◌≡◌ {A = ℕ} 0 1 = cc in omega arith)

begins-more : (r : Bytes) (rs : List Bytes) (fs : List (List Bytes)) → ((b : ℕ) → r.first ≤ b → b ≤ r.last → Fresh b) → Begins fs → Begins ((r ∷ rs) ∷ fs)
begins-more r rs fs h on b bs e =
    ⊎_elim (λ x. let y = first r rs b bs x in h b y.0 y.1) (λ x. on b bs x) (one_of (r ∷ rs) fs (b ∷ bs) e)

high : (a z : ℕ) → 191 < a → (b : ℕ) → a ≤ b → b ≤ z → Fresh b
high a z h b p q = inr (omega arith)

begins-all : Begins forms
begins-all =
    begins-more _ _ _ (λ b p q. inl (omega arith))
    (begins-more _ _ _ (high _ _ (omega arith))
    (begins-more _ _ _ (high _ _ (omega arith))
    (begins-more _ _ _ (high _ _ (omega arith))
    (begins-more _ _ _ (high _ _ (omega arith))
    (begins-more _ _ _ (high _ _ (omega arith))
    (begins-more _ _ _ (high _ _ (omega arith))
    (begins-more _ _ _ (high _ _ (omega arith))
    (begins-more _ _ _ (high _ _ (omega arith))
    begins-none))))))))

not-empty : is_character [] ≡ true → ⊥
unfolding has_one_of has_form
not-empty e = let w : ◌≡◌ {A = ℕ} 0 1 = cc in omega arith

fresh : (b : ℕ) → Fresh b → is_among further b ≡ false
fresh b (inl h) = rw (lt-leb 128 b h)
fresh b (inr h) = rw (lt-leb b 191 h) (never (leb 128 b))
  where
    never : (x : Bool) → (x && false) ≡ false
    never true = refl
    never false = refl

pub begins : (b : ℕ) (bs : List ℕ) → Utf8 (b ∷ bs) → is_among further b ≡ false
unfolding are_characters in_row
begins b bs u = go u.characters u.each u.are
  where
    go : (cs : List (List ℕ)) → are_characters cs ≡ true → b ∷ bs ≡ in_row cs → is_among further b ≡ false
    go [] e p = absurd (let w : ◌≡◌ {A = ℕ} 0 1 = cc in omega arith)
    go (c ∷ cs) e p = at c (both (is_character c) (are_characters cs) e).0 p
      where
        at : (c : List ℕ) → is_character c ≡ true → b ∷ bs ≡ c ++ in_row cs → is_among further b ≡ false
        at [] x q = absurd (not-empty x)
        at (d ∷ ds) x q = let w : b ≡ d = cc in rw w (fresh d (begins-all d ds x))

-- ---- a character of one byte

-- a form that begins high is not that of a byte below 128
alone-more : (r : Bytes) (rs : List Bytes) (fs : List (List Bytes)) (b : ℕ) (bs : List ℕ) → b < 128 → 191 < r.first
    → (has_one_of fs (b ∷ bs) ≡ true → bs ≡ []) → has_one_of ((r ∷ rs) ∷ fs) (b ∷ bs) ≡ true → bs ≡ []
alone-more r rs fs b bs h g on e =
    ⊎_elim (λ x. absurd (omega (arith, (first r rs b bs x).0))) on (one_of (r ∷ rs) fs (b ∷ bs) e)

alone-form : (b : ℕ) (bs : List ℕ) → has_form (bytes 0 127 ∷ []) (b ∷ bs) ≡ true → bs ≡ []
unfolding has_form
alone-form b [] e = refl
alone-form b (d ∷ ds) e = absurd (let x = (both (is_among (bytes 0 127) b) false e).1 in let w : ◌≡◌ {A = ℕ} 0 1 = cc in omega arith)

alone : (b : ℕ) (bs : List ℕ) → b < 128 → is_character (b ∷ bs) ≡ true → bs ≡ []
alone b bs h e =
    ⊎_elim (alone-form b bs)
    (alone-more (bytes 194 223) _ _ b bs h (omega arith)
    (alone-more (bytes 224 224) _ _ b bs h (omega arith)
    (alone-more (bytes 225 236) _ _ b bs h (omega arith)
    (alone-more (bytes 237 237) _ _ b bs h (omega arith)
    (alone-more (bytes 238 239) _ _ b bs h (omega arith)
    (alone-more (bytes 240 240) _ _ b bs h (omega arith)
    (alone-more (bytes 241 243) _ _ b bs h (omega arith)
    (alone-more (bytes 244 244) _ _ b bs h (omega arith)
    (λ x. absurd (no-form (b ∷ bs) x))))))))))
    (one_of (bytes 0 127 ∷ []) _ (b ∷ bs) e)
  where
    no-form : (c : List ℕ) → has_one_of [] c ≡ true → ⊥
    no-form c x = unfold has_one_of in (let w : ◌≡◌ {A = ℕ} 0 1 = cc in omega arith)

pub behind : (b : ℕ) (bs : List ℕ) → b < 128 → Utf8 (b ∷ bs) → Utf8 bs
unfolding are_characters in_row
behind b bs h u = go u.characters u.each u.are
  where
    go : (cs : List (List ℕ)) → are_characters cs ≡ true → b ∷ bs ≡ in_row cs → Utf8 bs
    go [] e p = absurd (let w : ◌≡◌ {A = ℕ} 0 1 = cc in omega arith)
    go (c ∷ cs) e p = let x = both (is_character c) (are_characters cs) e in at c x.0 x.1 p
      where
        at : (c : List ℕ) → is_character c ≡ true → are_characters cs ≡ true → b ∷ bs ≡ c ++ in_row cs → Utf8 bs
        at [] x y q = absurd (not-empty x)
        at (d ∷ ds) x y q =
            let w : b ≡ d = cc in
            let v : bs ≡ ds ++ in_row cs = cc in
            let z : ds ≡ [] = alone d ds (rw w at h) x in
            record { characters = cs; each = y; are = v ∙ ap (λ (l : List ℕ). l ++ in_row cs) z }

-- ---- a place that is between no characters

-- the bytes behind the first of a form all go on with a character
unfoldable are_later : List Bytes → Bool
are_later [] = true
are_later (r ∷ rs) = (leb 128 r.first && leb r.last 191) && are_later rs

unfoldable are_tails : List (List Bytes) → Bool
are_tails [] = true
are_tails ([] ∷ fs) = are_tails fs
are_tails ((r ∷ rs) ∷ fs) = are_later rs && are_tails fs

tails : are_tails forms ≡ true
unfolding are_tails are_later
tails = refl

later : (rs : List Bytes) (bs : List ℕ) → are_later rs ≡ true → has_form rs bs ≡ true → (i : ℕ) → i < length bs → is_among further (get_or bs i 0) ≡ true
unfolding are_later has_form
later [] [] l e i h = absurd (omega arith)
later [] (b ∷ bs) l e i h = absurd (let w : ◌≡◌ {A = ℕ} 0 1 = cc in omega arith)
later (r ∷ rs) [] l e i h = absurd (omega arith)
later (r ∷ rs) (b ∷ bs) l e zero h =
    let x = (both (is_among r b) (has_form rs bs) e).0 in
    let y = both (leb r.first b) (leb b r.last) x in
    let z = both (leb 128 r.first) (leb r.last 191) (both (leb 128 r.first && leb r.last 191) (are_later rs) l).0 in
    rw (
      le-leb 128 b (omega (arith, leb-true r.first b y.0, leb-true 128 r.first z.0)),
      le-leb b 191 (omega (arith, leb-true b r.last y.1, leb-true r.last 191 z.1)),
    )
later (r ∷ rs) (b ∷ bs) l e (suc i) h =
    later rs bs (both (leb 128 r.first && leb r.last 191) (are_later rs) l).1 (both (is_among r b) (has_form rs bs) e).1 i (omega arith)

rest-form : (r : Bytes) (rs : List Bytes) (b : ℕ) (bs : List ℕ) → has_form (r ∷ rs) (b ∷ bs) ≡ true → has_form rs bs ≡ true
unfolding has_form
rest-form r rs b bs e = (both (is_among r b) (has_form rs bs) e).1

no-form : (b : ℕ) (bs : List ℕ) → has_form [] (b ∷ bs) ≡ true → ⊥
unfolding has_form
no-form b bs e = let w : ◌≡◌ {A = ℕ} 0 1 = cc in omega arith

tail_of : (fs : List (List Bytes)) (b : ℕ) (bs : List ℕ) → are_tails fs ≡ true → has_one_of fs (b ∷ bs) ≡ true → (i : ℕ) → i < length bs → is_among further (get_or bs i 0) ≡ true
unfolding are_tails
tail_of [] b bs l e i h = absurd (unfold has_one_of in (let w : ◌≡◌ {A = ℕ} 0 1 = cc in omega arith))
tail_of ([] ∷ fs) b bs l e i h =
    ⊎_elim (λ x. absurd (no-form b bs x)) (λ x. tail_of fs b bs l x i h) (one_of [] fs (b ∷ bs) e)
tail_of ((r ∷ rs) ∷ fs) b bs l e i h =
    let w = both (are_later rs) (are_tails fs) l in
    ⊎_elim (λ x. later rs bs w.0 (rest-form r rs b bs x) i h) (λ x. tail_of fs b bs w.1 x i h) (one_of (r ∷ rs) fs (b ∷ bs) e)

-- a byte of a character that is not its first
inner-byte : (c rest : List ℕ) → is_character c ≡ true → (i : ℕ) → i + 1 < length c → is_among further (get_or (c ++ rest) (i + 1) 0) ≡ true
inner-byte [] rest e i h = absurd (omega arith)
inner-byte (b ∷ bs) rest e i h = rw (add-one i, left bs i (omega arith)) (tail_of forms b bs tails e i (omega arith))
  where
    left : (xs : List ℕ) (i : ℕ) → i < length xs → get_or (xs ++ rest) i 0 ≡ get_or xs i 0
    left xs i h = sym (get_or-take (length xs) (xs ++ rest) i 0 h) ∙ ap (λ (l : List ℕ). get_or l i 0) (take-append_seam xs rest)

pub nothing : Utf8 []
unfolding are_characters in_row
nothing = record { characters = []; each = refl; are = refl }

-- place i is between characters, or its byte goes on with one
abbrev Place : List ℕ → ℕ → Type 0
Place s i = Between s i ⊎ ((i < length s) × (is_among further (get_or s i 0) ≡ true))

-- a place behind a character
module _ (c r : List ℕ) (e : is_character c ≡ true) where
  with_first : {s : List ℕ} → Utf8 s → Utf8 (c ++ s)
  unfolding are_characters in_row
  with_first u = record { characters = c ∷ u.characters; each = rw (e, u.each); are = ap (λ (l : List ℕ). c ++ l) u.are }

  behind-first : (j : ℕ) → Place r j → Place (c ++ r) (length c + j)
  behind-first j (inl b) =
      inl (record { within = omega (arith, b.within, length-append c r); before = rw (take-append-add c r j) (with_first b.before); behind = rw (drop-append-add c r j) b.behind })
  behind-first j (inr w) = inr (omega (arith, w.0, length-append c r), rw (get_or-append-add c r j 0) w.1)

all-places : (cs : List (List ℕ)) → are_characters cs ≡ true → (i : ℕ) → i ≤ length (in_row cs) → Place (in_row cs) i
unfolding are_characters in_row
all-places [] e zero h = inl (record { within = h; before = nothing; behind = nothing })
all-places [] e (suc i) h = absurd (omega arith)
all-places (c ∷ cs) e zero h = inl (record { within = h; before = nothing; behind = record { characters = c ∷ cs; each = e; are = refl } })
all-places (c ∷ cs) e (suc i) h = go (ltb (suc i) (length c)) refl (λ j b. all-places cs (both (is_character c) (are_characters cs) e).1 j b)
  where
    is : is_character c ≡ true
    is = (both (is_character c) (are_characters cs) e).0

    go : (b : Bool) → ltb (suc i) (length c) ≡ b → ((j : ℕ) → j ≤ length (in_row cs) → Place (in_row cs) j) → Place (c ++ in_row cs) (suc i)
    go true p ih =
        let g : suc i < length c = ltb-true (suc i) (length c) p in
        inr (omega (arith, length-append c (in_row cs)), rw (← add-one i) (inner-byte c (in_row cs) is i (rw (add-one i) g)))
    go false p ih =
        let g : length c ≤ suc i = ltb-false (suc i) (length c) p in
        let k : length c + (suc i - length c) ≡ suc i = omega arith in
        rw k at (behind-first c (in_row cs) is (suc i - length c) (ih (suc i - length c) (omega (arith, length-append c (in_row cs)))))

pub between-or : (s : List ℕ) → Utf8 s → (i : ℕ) → i ≤ length s → Between s i ⊎ ((i < length s) × (is_among further (get_or s i 0) ≡ true))
between-or s u i h = rw u.are (all-places u.characters u.each i (rw u.are at h))
