-- The reference of a table name, part by part.
-- Assumes nothing.
use Prim.Native.Nat.{ℕ, ◌+◌, ◌≤◌, ◌<◌}
use mathlib.Core.Path.{◌≡◌, refl, sym, ap, ◌∙◌}
use mathlib.Core.Bool.{Bool, true, false, cond, ◌&&◌}
use mathlib.Core.List.{List, [], ◌∷◌}
use native.Mathlib.Omega.{arith}
use borrow.Author.Tests.{le-leb, lt-leb}
use lib.Dec.{leb}
use Rattle.std.specs.Prelude.{Option, Some, None}
use Rattle.records.specs.declared.record.Rec.{Rec}
use Rattle.records.specs.Kinds.{last_node}
use Rattle.forest.specs.Forest.{Forest, nil, token, node}
use Rattle.quotes.specs.declared.quotes.NameRanges.{NameRanges}
use Rattle.references.specs.declared.pending.TableRef.{TableRef}
use Rattle.names.specs.Names.{is_part, direct}
use Rattle.quotes.specs.Quotes.{name_of, absent_name}
use Rattle.references.specs.References.{fresh}
use Rattle.references.specs.inner.Pending.{pends}
use Rattle.names.proofs.NameLaws.{direct-yes, direct-no, direct-node, part-node}

-- the reference of name node x after n parts, of which d and t are the last two, with these parts to come
unfoldable pub shifted : List ℕ → ℕ → ℕ → NameRanges → NameRanges → List Rec → Option TableRef
shifted src x n d t [] = cond (leb 1 n && leb n 2) (Some (record { «record» = x; database = d; table = t; alias = absent_name })) None
shifted src x n d t (p ∷ ps) = shifted src x (n + 1) t (name_of src p) ps

-- the same with the children to come
abbrev pub shifted_in : List ℕ → ℕ → ℕ → NameRanges → NameRanges → Forest → Option TableRef
shifted_in src x n d t f = shifted src x n d t (direct is_part f)

many : (src : List ℕ) (x n : ℕ) (d t : NameRanges) (ps : List Rec) → 2 < n → shifted src x n d t ps ≡ None
unfolding shifted
many src x n d t [] h = rw (le-leb 1 n (omega arith), lt-leb n 2 h)
many src x n d t (p ∷ ps) h = many src x (n + 1) t (name_of src p) ps (omega arith)

shifted-fresh : (src : List ℕ) (x : ℕ) (ps : List Rec) → shifted src x 0 absent_name absent_name ps ≡ fresh src x ps
unfolding shifted fresh
shifted-fresh src x [] = refl
shifted-fresh src x (t ∷ []) = refl
shifted-fresh src x (d ∷ (t ∷ [])) = refl
shifted-fresh src x (d ∷ (t ∷ (u ∷ more))) = many src x 3 (name_of src t) (name_of src u) more (omega arith)

pub shifted_start : (src : List ℕ) (x : ℕ) (f : Forest) → shifted_in src x 0 absent_name absent_name f ≡ fresh src x (direct is_part f)
shifted_start src x f = shifted-fresh src x (direct is_part f)

module _ (src : List ℕ) (x n : ℕ) (d t : NameRanges) where
  pub shifted-part : (p : Rec) (f : Forest) {q : NameRanges} → is_part p ≡ true → q ≡ name_of src p → shifted_in src x n d t (token p f) ≡ shifted_in src x (n + 1) t q f
  unfolding shifted
  shifted-part p f e q = rw (direct-yes is_part p f e, q)

  pub shifted-on : (p : Rec) (f : Forest) → is_part p ≡ false → shifted_in src x n d t (token p f) ≡ shifted_in src x n d t f
  shifted-on p f e = rw (direct-no is_part p f e)

  pub shifted-over : (p : Rec) (b f : Forest) → shifted_in src x n d t (node p b f) ≡ shifted_in src x n d t f
  shifted-over p b f = rw (direct-node is_part p b f)

  pub shifted_none : n ≡ 0 → None ≡ shifted_in src x n d t nil
  unfolding shifted direct
  shifted_none h = rw (lt-leb 1 n (omega arith))

  pub shifted-many : 2 < n → None ≡ shifted_in src x n d t nil
  shifted-many h = sym (many src x n d t _ h)

  pub shifted-held : {a : NameRanges} → (n ≡ 0 → ⊥) → n ≤ 2 → a ≡ absent_name
      → Some (record { «record» = x; database = d; table = t; alias = a }) ≡ shifted_in src x n d t nil
  unfolding shifted direct
  shifted-held z h e = rw (le-leb 1 n (omega arith), le-leb n 2 h, e)

-- ---- whether it gives a reference, by how many parts it has

-- after n parts, with these to come: are they one or two in all
unfoldable pub one_or_two : ℕ → List Rec → Bool
one_or_two n [] = leb 1 n && leb n 2
one_or_two n (p ∷ ps) = one_or_two (n + 1) ps

-- the same with the children to come
abbrev pub one_or_two_in : ℕ → Forest → Bool
one_or_two_in n f = one_or_two n (direct is_part f)

held-pends : (b : Bool) (t : TableRef) → pends (cond b (Some t) None) ≡ b
held-pends true t = refl
held-pends false t = refl

shifted-pends : (src : List ℕ) (x n : ℕ) (d t : NameRanges) (ps : List Rec) → pends (shifted src x n d t ps) ≡ one_or_two n ps
unfolding shifted one_or_two
shifted-pends src x n d t [] = held-pends (leb 1 n && leb n 2) _
shifted-pends src x n d t (p ∷ ps) = shifted-pends src x (n + 1) t (name_of src p) ps

pub parts-fresh : (src : List ℕ) (x : ℕ) (ps : List Rec) → one_or_two 0 ps ≡ pends (fresh src x ps)
parts-fresh src x ps = sym (shifted-pends src x 0 absent_name absent_name ps) ∙ ap (λ (p : Option TableRef). pends p) (shifted-fresh src x ps)

module _ (n : ℕ) where
  pub parts-part : (p : Rec) (f : Forest) → is_part p ≡ true → one_or_two_in n (token p f) ≡ one_or_two_in (n + 1) f
  unfolding one_or_two
  parts-part p f e = rw (direct-yes is_part p f e)

  pub parts-on : (p : Rec) (f : Forest) → is_part p ≡ false → one_or_two_in n (token p f) ≡ one_or_two_in n f
  parts-on p f e = rw (direct-no is_part p f e)

  pub parts-over : (p : Rec) (b f : Forest) → one_or_two_in n (node p b f) ≡ one_or_two_in n f
  parts-over p b f = rw (direct-node is_part p b f)

  pub parts-end : (leb 1 n && leb n 2) ≡ one_or_two_in n nil
  unfolding one_or_two direct
  parts-end = refl

-- a part is no node
pub part-not : (p : Rec) → is_part p ≡ true → p.kind ≤ last_node → ⊥
part-not p e h = let f = part-node p h in bad (sym e ∙ f)
  where
    bad : true ≡ false → ⊥
    bad q = let z : ◌≡◌ {A = ℕ} 0 1 = cc in omega arith
