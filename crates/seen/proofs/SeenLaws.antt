-- The WITH names that a query sees of a root around it, record by record: a flat reading of the root's records.
--     Seeing, see-start, -end, -stop, -over, -clause, -on           the clauses of a root; see-alone, a root that is a clause itself
-- Assumes nothing.
use Prim.Native.Nat.{ℕ, ◌+◌, ◌-◌, ◌*◌, ◌≤◌, ◌<◌}
use mathlib.Core.Path.{◌≡◌, refl, sym, ap, ◌∙◌}
use mathlib.Core.Bool.{Bool, true, false, cond, not, ◌&&◌}
use mathlib.Core.List.{List, [], ◌++◌, append_assoc, append-nil}
use mathlib.Core.Logic.{⊎_elim}
use native.Mathlib.Omega.{arith}
use native.Mathlib.Nat.{zero-add}
use borrow.Author.Tests.{eq-eqb, ne_eqb, eqb-true, le-leb, lt-leb}
use lib.Dec.{eqb}
use lib.ListN.{drop}
use Rattle.records.specs.Kinds.{last_node, is_node, with_clause, subquery_expression}
use Rattle.records.specs.Table.{record_bytes, count, kind_at, depth_at, record_at, records, part}
use Rattle.forest.specs.Forest.{Forest, nil, token, node, kids, inside, stretch_end}
use Rattle.forest.specs.inner.Scan.{Reading, fold}
use Rattle.lent.specs.Lists.{Written}
use Rattle.forest.proofs.Laws.{node-or-token, head-part, kids-tail}
use Rattle.records.proofs.Fields.{kind-of, kind-yes, kind-no, index_of}
use Rattle.forest.proofs.Scans.{Sweep, sweep-start, sweep-end, sweep-stop, sweep-over, sweep-token, sweep-into, sweep-past}
use Rattle.lent.proofs.Writes.{written_none, written_then}
use Rattle.forest.proofs.Walking.{rest-inside}
use Rattle.forest.proofs.Rooted.{Rooted, inside-rooted}
use Rattle.names.specs.declared.names.NameBinding.{NameBinding}
use Rattle.names.specs.Bindings.{binding_row}
use Rattle.collection.specs.Collection.{node_gives, collected, collection}
use Rattle.items.specs.Items.{items, items_before, bound_by}
use Rattle.items.proofs.ItemLaws.{seen_in}
use Rattle.seen.specs.Seen.{own_seen, seen_of}

module _ (src t : List ℕ) (n : ℕ) where
  abbrev own : ℕ → Forest → List NameBinding
  own = own_seen src t n

  own-with : (below : Forest) (k : ℕ) → k ≡ with_clause → own k below ≡ bound_by src (items_before t n (items below))
  unfolding own_seen
  own-with below k e = rw (eq-eqb k with_clause e)

  own-none : (below : Forest) (k : ℕ) → (k ≡ with_clause → ⊥) → own k below ≡ []
  unfolding own_seen
  own-none below k e = rw (ne_eqb k with_clause e)

  abbrev pub seeing : Reading (List NameBinding)
  seeing =
      record {
        at_token = λ s r. s;
        at_node = λ s r. s ++ own r.kind (inside t r.index);
        enters = λ s r. not (eqb r.kind subquery_expression) && not (eqb r.kind with_clause);
      }

  seen-node : (s below inner : List NameBinding) (a b : Bool) → (a ≡ true → below ≡ [])
      → cond (not a && not b) ((s ++ below) ++ inner) (s ++ below) ≡ s ++ cond a [] (below ++ cond b [] inner)
  seen-node s below inner true b e = rw (e refl)
  seen-node s below inner false true e = rw (append-nil below)
  seen-node s below inner false false e = append_assoc s below inner

  fold-seen : (f : Forest) (s : List NameBinding) → Rooted t f → fold seeing s f ≡ s ++ collected own f
  unfolding fold collected node_gives Rooted
  fold-seen nil s w = sym (append-nil s)
  fold-seen (token r rest) s w = fold-seen rest s w
  fold-seen (node r below rest) s w =
      fold-seen rest _ w.2
      ∙ rw (fold-seen below (s ++ own r.kind (inside t r.index)) w.1, ← w.0)
      (ap (λ (x : List NameBinding). x ++ collected own rest)
      (seen-node s (own r.kind below) (collected own below) (eqb r.kind subquery_expression) (eqb r.kind with_clause)
      (λ e. own-none below r.kind (λ q. omega (arith, eqb-true r.kind subquery_expression e))))
      ∙ append_assoc s _ (collected own rest))

  -- the loop over the records of the root i₀ from record i on, with what was written so far
  pub record Seeing (root : ℕ) (s out₀ : List ℕ) (at k m i : ℕ) (out : List ℕ) (next : ℕ) : Type 0 where
    pub sofar : List NameBinding
    pub written : Written binding_row sofar out₀ at out next
    pub left : Sweep seeing s root k m i sofar (fold seeing [] (inside t root))

  pub see-start : {root k : ℕ} {s : List ℕ} (out : List ℕ) (at : ℕ) → s ≡ drop (record_bytes * root) t → 0 < count s → k ≡ depth_at s 0 + 1
      → Seeing root s out at k k 1 out at
  see-start {root} {k} {s} out at q h e =
      record { sofar = []; written = written_none binding_row out at; left = rw (← rest-inside t root, ← q) (sweep-start seeing s root [] h e) }

  module _ (root : ℕ) (h : root < count t) where
    below_root : kids (records root (part t root (stretch_end t root))) ≡ inside t root
    below_root = sym (rw (zero-add root) at (kids-tail t 0 (depth_at t root) root h refl)) ∙ rest-inside t root

    head : record_at (part t root (stretch_end t root)) root 0 ≡ record_at t 0 root
    head = rw (zero-add root) at (head-part t 0 root h refl)

    -- a root that is itself a WITH clause
    seen-clause : kind_at t root ≡ with_clause → seen_of src t n root ≡ seen_in src t n root
    unfolding collection node_gives
    seen-clause e =
        rw (below_root, head, kind-of t 0 root, eq-eqb (kind_at t root) with_clause e)
        (append-nil (own (kind_at t root) (inside t root)) ∙ own-with (inside t root) (kind_at t root) e)

    pub see-alone : {out out' : List ℕ} {at next : ℕ} → kind_at t root ≡ with_clause → Written binding_row (seen_in src t n root) out at out' next
        → Written binding_row (seen_of src t n root) out at out' next
    see-alone e w = rw (seen-clause e) w

    seen_below : (kind_at t root ≡ with_clause → ⊥) → seen_of src t n root ≡ collected own (inside t root)
    unfolding collection node_gives
    seen_below e = rw (below_root, head, kind-of t 0 root, ne_eqb (kind_at t root) with_clause e, own-none (inside t root) (kind_at t root) e)

    module _ (plain : kind_at t root ≡ with_clause → ⊥) {s out₀ : List ℕ} {at k m i : ℕ} {out : List ℕ} {next : ℕ} (w : Seeing root s out₀ at k m i out next) where
      all_seen : w.sofar ≡ fold seeing [] (inside t root) → Written binding_row (seen_of src t n root) out₀ at out next
      all_seen e = rw (seen_below plain, ← fold-seen (inside t root) [] (inside-rooted t root), ← e) w.written

      pub see-end : count s ≤ i → Written binding_row (seen_of src t n root) out₀ at out next
      see-end g = all_seen (sweep-end w.left g)

      module _ (g : i < count s) where
        pub see-stop : depth_at s i < k → Written binding_row (seen_of src t n root) out₀ at out next
        see-stop d = all_seen (sweep-stop w.left g d)

        module _ (kd : k ≤ depth_at s i) where
          pub see-over : m < depth_at s i → Seeing root s out₀ at k m (i + 1) out next
          see-over d = record { sofar = w.sofar; written = w.written; left = sweep-over w.left g kd d }

          module _ (dm : depth_at s i ≤ m) where
            -- a WITH clause, whose items are written
            pub see-clause : {m' next' : ℕ} {out' : List ℕ} → kind_at s i ≡ with_clause → m' ≡ depth_at s i → Written binding_row (seen_in src t n (root + i)) out next out' next'
                → Seeing root s out₀ at k m' (i + 1) out' next'
            see-clause e p x =
                let kind : (record_at s root i).kind ≡ with_clause = kind-of s root i ∙ e in
                let to : w.sofar ++ seen_in src t n (root + i) ≡ seeing.at_node w.sofar (record_at s root i) =
                rw (index_of s root i) (ap (λ (l : List NameBinding). w.sofar ++ l) (sym (own-with (inside t (root + i)) (record_at s root i).kind kind))) in
                let not_in : not (eqb (record_at s root i).kind subquery_expression) && not (eqb (record_at s root i).kind with_clause) ≡ false =
                rw (kind-no s root i subquery_expression (λ q. omega arith), kind-yes s root i e) in
                record { sofar = w.sofar ++ seen_in src t n (root + i); written = written_then binding_row w.written x; left = sweep-past w.left g kd dm (omega arith) not_in p to }

            -- any other record; a node that is no subquery is gone into
            pub see-on : {m' : ℕ} → (kind_at s i ≡ with_clause → ⊥) → m' ≡ cond (is_node (kind_at s i) && not (eqb (kind_at s i) subquery_expression)) (depth_at s i + 1) (depth_at s i)
                → Seeing root s out₀ at k m' (i + 1) out next
            see-on {m'} e p =
                let kind : (record_at s root i).kind ≡ with_clause → ⊥ = (λ q. e (sym (kind-of s root i) ∙ q)) in
                let same : w.sofar ≡ seeing.at_node w.sofar (record_at s root i) =
                sym (ap (λ (l : List NameBinding). w.sofar ++ l) (own-none (inside t (record_at s root i).index) (record_at s root i).kind kind) ∙ append-nil w.sofar) in
                record {
                  sofar = w.sofar;
                  written = w.written;
                  left =
                      ⊎_elim
                      (λ l. go (eqb (kind_at s i) subquery_expression) refl (p ∙ rw (le-leb (kind_at s i) last_node l)) l same)
                      (λ l. sweep-token w.left g kd dm l (p ∙ rw (lt-leb (kind_at s i) last_node l)) refl)
                      (node-or-token (kind_at s i));
                }
              where
                go : (b : Bool) → eqb (kind_at s i) subquery_expression ≡ b → m' ≡ cond (not b) (depth_at s i + 1) (depth_at s i) → kind_at s i ≤ last_node
                    → w.sofar ≡ seeing.at_node w.sofar (record_at s root i)
                    → Sweep seeing s root k m' (i + 1) w.sofar (fold seeing [] (inside t root))
                go true q p l z = sweep-past w.left g kd dm l (rw (kind-of s root i, q)) p z
                go false q p l z = sweep-into w.left g kd dm l (rw (kind-of s root i, q, ne_eqb (kind_at s i) with_clause e)) p z
