-- The items of a WITH clause that a query sees, record by record: a flat reading of the clause's records.
--     Picking, pick-start, -end, -stop, -over, -item, -held, -on    the items, up to the one that holds the query
-- Assumes nothing.
use Prim.Native.Nat.{ℕ, ◌+◌, ◌*◌, ◌≤◌, ◌<◌}
use mathlib.Core.Path.{◌≡◌, refl, sym, ap, ◌∙◌}
use mathlib.Core.Bool.{Bool, true, false, cond}
use mathlib.Core.List.{List, [], ◌∷◌, ◌++◌, append_assoc, append-nil}
use mathlib.Core.Logic.{⊎_elim}
use native.Mathlib.Omega.{arith}
use native.Mathlib.Nat.{zero-add, add-zero}
use borrow.Author.Tests.{ne_eqb, eqb-true}
use lib.Dec.{eqb, ltb}
use lib.ListN.{drop}
use Rattle.std.specs.Prelude.{Option}
use Rattle.records.specs.declared.record.Rec.{Rec}
use Rattle.records.specs.Kinds.{last_node, is_node, with_expression_item, column_list}
use Rattle.records.specs.Table.{record_bytes, count, kind_at, depth_at, record_at, from, records}
use Rattle.forest.specs.Forest.{Forest, nil, token, node, kids, inside}
use Rattle.forest.specs.inner.Scan.{Reading, fold}
use Rattle.lent.specs.Lists.{Written}
use Rattle.forest.proofs.Laws.{node-or-token, record-tail}
use Rattle.records.proofs.Fields.{kind-of, kind-yes, kind-no, index_of}
use Rattle.forest.proofs.Scans.{sweep, Sweep, sweep-start, sweep-end, sweep-stop, sweep-over, sweep-token, sweep-into, sweep-past}
use Rattle.lent.proofs.Writes.{written_none, written_then}
use Rattle.forest.proofs.Walking.{rest-inside}
use Rattle.forest.proofs.Rooted.{Rooted, inside-rooted}
use Rattle.names.specs.declared.names.NameBinding.{NameBinding}
use Rattle.names.specs.Names.{with_item}
use Rattle.names.specs.Bindings.{entry, binding_row}
use Rattle.forest.specs.Above.{stands_below}
use Rattle.items.specs.Items.{Item, items, items_before, bound_by}

-- ---- a reading that changes nothing any more

idle : {S : Type 0} (R : Reading S) (s : S) → ((r : Rec) → R.at_token s r ≡ s) → ((r : Rec) → R.at_node s r ≡ s) → (k m : ℕ) (rs : List Rec) → sweep R k m s rs ≡ s
unfolding sweep
idle R s p q k m [] = refl
idle {S} R s p q k m (r ∷ rs) =
    rw (p r, q r, idle R s p q k m rs, idle R s p q k r.depth rs, idle R s p q k (r.depth + 1) rs)
    (go (ltb r.depth k) (ltb m r.depth) (is_node r.kind) (R.enters s r))
  where
    go : (a b c d : Bool) → cond a s (cond b s (cond c (cond d s s) s)) ≡ s
    go true b c d = refl
    go false true c d = refl
    go false false true true = refl
    go false false true false = refl
    go false false false d = refl

-- ---- the items of a clause

-- what was picked so far, and is the item that holds the query still to come
pub record Picked : Type 0 where
  pub entries : List NameBinding
  pub waits : Bool

module _ (src t : List ℕ) (n : ℕ) where
  abbrev pub more : Picked → Rec → Forest → Picked
  more s r below = record { entries = s.entries ++ entry (with_item src r below); waits = true }

  abbrev pub shut : Picked → Picked
  shut s = record { entries = s.entries; waits = false }

  -- an item is picked, unless it or one before it holds the query
  unfoldable pub pick : Picked → Rec → Forest → Picked
  pick s r below = cond s.waits (cond (stands_below t r.index n) (shut s) (more s r below)) s

  abbrev pub picking : Reading Picked
  picking =
      record {
        at_token = λ s r. s;
        at_node = λ s r. cond (eqb r.kind with_expression_item) (pick s r (inside t r.index)) s;
        enters = λ s r. eqb r.kind column_list;
      }

  item-same : {r q : Rec} {i : ℕ} → r ≡ q → q.index ≡ i → with_item src r (inside t r.index) ≡ with_item src q (inside t i)
  item-same {r} {q} e p = ap (λ (x : Rec). with_item src x (inside t x.index)) e ∙ ap (λ (j : ℕ). with_item src q (inside t j)) p

  -- the same along a list of items
  picked : Picked → List Item → Picked
  picked s [] = s
  picked s (i ∷ is) = picked (pick s i.self i.below) is

  picked-append : (xs ys : List Item) (s : Picked) → picked s (xs ++ ys) ≡ picked (picked s xs) ys
  unfolding picked
  picked-append [] ys s = refl
  picked-append (x ∷ xs) ys s = picked-append xs ys (pick s x.self x.below)

  picked-node : (s : Picked) (r : Rec) (below : Forest) (a b : Bool) → eqb r.kind with_expression_item ≡ a → eqb r.kind column_list ≡ b
      → (a ≡ true → b ≡ false)
      → fold picking s below ≡ picked s (items below) → below ≡ inside t r.index
      → cond b (fold picking (cond a (pick s r (inside t r.index)) s) below) (cond a (pick s r (inside t r.index)) s)
      ≡ picked s (cond a (record { self = r; below = below } ∷ []) (cond b (items below) []))
  unfolding picked
  picked-node s r below true true p q x f e = absurd (let y : true ≡ false = x refl in let z : ◌≡◌ {A = ℕ} 0 1 = cc in omega arith)
  picked-node s r below true false p q x f e = rw e
  picked-node s r below false true p q x f e = f
  picked-node s r below false false p q x f e = refl

  not-both : (k : ℕ) → eqb k with_expression_item ≡ true → eqb k column_list ≡ false
  not-both k e = let h : k ≡ 29 = eqb-true k with_expression_item e in ne_eqb k column_list (λ q. omega arith)

  fold-picked : (f : Forest) (s : Picked) → Rooted t f → fold picking s f ≡ picked s (items f)
  unfolding fold items Rooted
  fold-picked nil s w = unfold picked in refl
  fold-picked (token r rest) s w = fold-picked rest s w
  fold-picked (node r below rest) s w =
      fold-picked rest _ w.2
      ∙ ap (λ (x : Picked). picked x (items rest))
      (picked-node s r below (eqb r.kind with_expression_item) (eqb r.kind column_list) refl refl (not-both r.kind) (fold-picked below s w.1) w.0)
      ∙ sym (picked-append (cond (eqb r.kind with_expression_item) (record { self = r; below = below } ∷ []) (cond (eqb r.kind column_list) (items below) [])) (items rest) s)

  shut-stays : (is : List Item) (s : Picked) → s.waits ≡ false → (picked s is).entries ≡ s.entries
  unfolding picked pick
  shut-stays [] s e = refl
  shut-stays (i ∷ is) s e = ap (λ (b : Bool). (picked (cond b (cond (stands_below t i.self.index n) (shut s) (more s i.self i.below)) s) is).entries) e ∙ shut-stays is s e

  picked-before : (is : List Item) (s : Picked) → s.waits ≡ true → (picked s is).entries ≡ s.entries ++ bound_by src (items_before t n is)
  unfolding picked pick items_before bound_by
  picked-before [] s e = sym (append-nil s.entries)
  picked-before (i ∷ is) s e =
      ap (λ (b : Bool). (picked (cond b (cond (stands_below t i.self.index n) (shut s) (more s i.self i.below)) s) is).entries) e
      ∙ go (stands_below t i.self.index n) (picked-before is (more s i.self i.below) refl)
    where
      go : (b : Bool) → (picked (more s i.self i.below) is).entries ≡ (more s i.self i.below).entries ++ bound_by src (items_before t n is)
          → (picked (cond b (shut s) (more s i.self i.below)) is).entries
          ≡ s.entries ++ bound_by src (cond b [] (i ∷ items_before t n is))
      go true p = shut-stays is (shut s) refl ∙ sym (append-nil s.entries)
      go false p = p ∙ append_assoc s.entries (entry (with_item src i.self i.below)) (bound_by src (items_before t n is))

  abbrev none_yet : Picked
  none_yet = record { entries = []; waits = true }

  -- the items of record c that the query sees
  abbrev pub seen_in : ℕ → List NameBinding
  seen_in c = bound_by src (items_before t n (items (inside t c)))

  picked_all : (c : ℕ) → (fold picking none_yet (inside t c)).entries ≡ seen_in c
  picked_all c =
      ap (λ (x : Picked). x.entries) (fold-picked (inside t c) none_yet (inside-rooted t c))
      ∙ picked-before (items (inside t c)) none_yet refl

  -- the loop over the records of clause c from record i on, with what was written so far
  pub record Picking (c : ℕ) (s out₀ : List ℕ) (at k m i : ℕ) (out : List ℕ) (next : ℕ) : Type 0 where
    pub sofar : List NameBinding
    pub written : Written binding_row sofar out₀ at out next
    pub left : Sweep picking s c k m i (record { entries = sofar; waits = true }) (fold picking none_yet (inside t c))

  pub pick-start : {c k : ℕ} {s : List ℕ} (out : List ℕ) (at : ℕ) → s ≡ drop (record_bytes * c) t → 0 < count s → k ≡ depth_at s 0 + 1 → Picking c s out at k k 1 out at
  pick-start {c} {k} {s} out at q h e =
      record {
        sofar = [];
        written = written_none binding_row out at;
        left = rw (← rest-inside t c, ← q) (sweep-start picking s c none_yet h e);
      }

  module _ {c : ℕ} {s out₀ : List ℕ} {at k m i : ℕ} {out : List ℕ} {next : ℕ} (w : Picking c s out₀ at k m i out next) where
    told : record { entries = w.sofar; waits = true } ≡ fold picking none_yet (inside t c) → Written binding_row (seen_in c) out₀ at out next
    told e = rw (← picked_all c, ← e) w.written

    pub pick_end : count s ≤ i → Written binding_row (seen_in c) out₀ at out next
    pick_end h = told (sweep-end w.left h)

    module _ (h : i < count s) where
      pub pick-stop : depth_at s i < k → Written binding_row (seen_in c) out₀ at out next
      pick-stop d = told (sweep-stop w.left h d)

      module _ (kd : k ≤ depth_at s i) where
        pub pick-over : m < depth_at s i → Picking c s out₀ at k m (i + 1) out next
        pick-over d = record { sofar = w.sofar; written = w.written; left = sweep-over w.left h kd d }

        module _ (dm : depth_at s i ≤ m) where
          -- neither an item nor a list, or a list that is gone through
          pub pick-on : {m' : ℕ} → (kind_at s i ≡ with_expression_item → ⊥) → m' ≡ cond (eqb (kind_at s i) column_list) (depth_at s i + 1) (depth_at s i)
              → Picking c s out₀ at k m' (i + 1) out next
          pick-on {m'} e p =
              let no : eqb (record_at s c i).kind with_expression_item ≡ false = kind-no s c i with_expression_item e in
              let same : record { entries = w.sofar; waits = true } ≡ picking.at_node (record { entries = w.sofar; waits = true }) (record_at s c i) = rw no in
              record {
                sofar = w.sofar;
                written = w.written;
                left =
                    ⊎_elim
                    (λ g. go (eqb (kind_at s i) column_list) refl p g same)
                    (λ g. let q : eqb (kind_at s i) column_list ≡ false = ne_eqb (kind_at s i) column_list (λ z. omega arith) in sweep-token w.left h kd dm g (p ∙ rw q) refl)
                    (node-or-token (kind_at s i));
              }
            where
              go : (b : Bool) → eqb (kind_at s i) column_list ≡ b → m' ≡ cond b (depth_at s i + 1) (depth_at s i) → kind_at s i ≤ last_node
                  → record { entries = w.sofar; waits = true } ≡ picking.at_node (record { entries = w.sofar; waits = true }) (record_at s c i)
                  → Sweep picking s c k m' (i + 1) (record { entries = w.sofar; waits = true }) (fold picking none_yet (inside t c))
              go true e q g z = sweep-into w.left h kd dm g (rw (kind-of s c i) e) q z
              go false e q g z = sweep-past w.left h kd dm g (rw (kind-of s c i) e) q z

          module _ (item : kind_at s i ≡ with_expression_item) (whole : s ≡ drop (record_bytes * c) t) where
            its : record_at s c i ≡ record_at t 0 (c + i)
            its = rw whole (rw (zero-add c) at (record-tail t 0 c i))

            not-list : eqb (record_at s c i).kind column_list ≡ false
            not-list = kind-no s c i column_list (λ q. omega arith)

            -- the item that holds the query ends the list
            pub pick-held : stands_below t (c + i) n ≡ true → Written binding_row (seen_in c) out₀ at out next
            unfolding pick
            pick-held b =
                let now : Picked = record { entries = w.sofar; waits = true } in
                let to : shut now ≡ picking.at_node now (record_at s c i) = rw (kind-yes s c i item, index_of s c i, b) in
                let past : Sweep picking s c k (depth_at s i) (i + 1) (shut now) (fold picking none_yet (inside t c)) = sweep-past w.left h kd dm (omega arith) not-list refl to in
                let e : shut now ≡ fold picking none_yet (inside t c) =
                sym (idle picking (shut now) (λ r. refl) (λ r. stays (shut now) (eqb r.kind with_expression_item)) k (depth_at s i) (from s c (i + 1))) ∙ past.left in
                rw (← picked_all c, ← e) w.written
              where
                stays : (x : Picked) (b : Bool) → cond b x x ≡ x
                stays x true = refl
                stays x false = refl

            -- any other is written
            pub pick-item : {m' next' : ℕ} {out' p : List ℕ} {b : Option NameBinding} → m' ≡ depth_at s i → stands_below t (c + i) n ≡ false → p ≡ drop (record_bytes * (c + i)) t
                → b ≡ with_item src (record_at p (c + i) 0) (kids (records (c + i) p)) → Written binding_row (entry b) out next out' next'
                → Picking c s out₀ at k m' (i + 1) out' next'
            unfolding pick
            pick-item {p = p} {b = bound} q b e f x =
                let now : Picked = record { entries = w.sofar; waits = true } in
                let head : record_at p (c + i) 0 ≡ record_at t 0 (c + i) = rw e (rw (zero-add (c + i), add-zero (c + i)) at (record-tail t 0 (c + i) 0)) in
                let below : kids (records (c + i) p) ≡ inside t (c + i) = rw e (rest-inside t (c + i)) in
                let g = rw (head, below) at f in
                let z : bound ≡ with_item src (record_at s c i) (inside t (record_at s c i).index) = g ∙ sym (item-same its (index_of t 0 (c + i) ∙ zero-add (c + i))) in
                let not-held : stands_below t (record_at s c i).index n ≡ false = rw (index_of s c i) b in
                let to : record { entries = w.sofar ++ entry bound; waits = true } ≡ picking.at_node now (record_at s c i) =
                rw (kind-yes s c i item, not-held, z) in
                record { sofar = w.sofar ++ entry bound; written = written_then binding_row w.written x; left = sweep-past w.left h kd dm (omega arith) not-list q to }
