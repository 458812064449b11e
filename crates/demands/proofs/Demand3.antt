-- Demand 3, from the contract of `ask` and the theorem on all roots' lists (roots/proofs/AllRoots.antt).
--     free         at a root of an admitted table, in a buffer with room, no refusal's condition holds
--     shown-is     so the reply is an answer, and reply and buffer show the root's list
--     served       there is a serving of every admitted table: each list in a buffer of its own length
--     demand-3     both
-- Assumes nothing.
use Prim.Native.Nat.{ℕ, ◌≤◌}
use mathlib.Core.Path.{◌≡◌, refl, ◌∙◌}
use mathlib.Core.Bool.{Bool, true, false, cond}
use mathlib.Core.List.{List, [], ◌++◌, Memᴰ}
use native.Mathlib.Omega.{arith}
use lib.ListN.{length, length-map, drop}
use Rattle.std.specs.Prelude.{Ok}
use Rattle.table.specs.Rules.{verdict}
use Rattle.lent.specs.Lists.{list_bytes, buffer}
use Rattle.forest.specs.Places.{Place, nodes_of}
use Rattle.table.proofs.Exactly.{admitted-exactly}
use Rattle.forest.proofs.Places.{nodes-in-order}
use Rattle.forest.proofs.Sense.{admitted-tidy}
use Rattle.references.specs.References.{reference_row}
use Rattle.lists.specs.Scope.{table_refs}
use Rattle.roots.specs.Reach.{is_root, refs, times}
use Rattle.roots.specs.AllRoots.{RootIn, records_in, times_in}
use Rattle.roots.proofs.AllRoots.{exact, its-node, its-list, shown-times, sum-members}
use Rattle.replies.specs.Reply.{packed, answered}
use Rattle.demands.specs.declared.Question.TheVariants.{TableRefs}
use Rattle.demands.specs.Questions.{Asked, asked, matter, answer_of, said_bytes, written}
use Rattle.demands.specs.Demand1.{Missing, Holds, of-table, of-offsets, of-name, of_room}
use Rattle.demands.specs.Demand3.{ServedAt, Served, entries_of, Demand3, Demanded3}
use Rattle.demands.proofs.Offsets.{no-offsets}
use Rattle.demands.proofs.Stages.{staged}
use Rattle.demands.proofs.Replies.{packing, demanded}
use Rattle.demands.proofs.Promises.{rows-bytes}

module _ (source t : List ℕ) (ok : verdict t (length source) 0 ≡ Ok tt) where
  -- ---- one root

  module _ (root : Place) (is : RootIn t root) {a : Asked} {reply : ℕ} {out : List ℕ} (s : ServedAt source t root.self.index a reply out) where
    abbrev i : ℕ
    i = root.self.index

    free : (k d : ℕ) → Holds a (matter TableRefs a) k d → ⊥
    unfolding matter Missing
    free k d (of-table b) = (admitted-exactly t (length source) 0).0 ok k d (rw (s.source_is, s.table_is) at b)
    free k d (of-offsets e z b) = no-offsets b
    free k d (of-name e z b) = let w = its-node source t ok root is.0 in (rw (s.table_is, s.root_is) at b) w.0 w.1
    free k d (of_room e z h) = omega (arith, s.room)

    abbrev rest : List ℕ
    rest = drop (length (list_bytes reference_row (refs source root))) a.out

    record Shown : Type 0 where
      answer : reply ≡ packed answered (length (refs source root))
      bytes : out ≡ list_bytes reference_row (refs source root) ++ rest

    same-list : table_refs a.source a.table a.root ≡ refs source root
    same-list = rw (s.source_is, s.table_is, s.root_is) (its-list source t ok root is.0)

    shown-is : Shown
    unfolding matter answer_of said_bytes
    shown-is =
        record {
          answer = s.met.1.answer free ∙ rw (same-list, length-map (refs source root));
          bytes = s.met.1.entries free ∙ rw (same-list, rows-bytes reference_row (refs source root));
        }

    entries-is : entries_of reply ≡ length (refs source root)
    entries-is = rw shown-is.answer (omega arith)

    times-is : (x : ℕ) → times_in x (records_in (entries_of reply) out) ≡ times x (refs source root)
    times-is x = rw (entries-is, shown-is.bytes) (shown-times source t ok root is rest x)

  -- ---- all roots

  module _ (s : Served source t) where
    entries-of : (root : Place) → Memᴰ root (nodes_of t) → (b : Bool) → is_root root ≡ b
        → cond b (entries_of (s.reply root.self.index)) 0 ≡ cond b (length (refs source root)) 0
    entries-of root m true r = entries-is root (m, r) (s.each root (m, r))
    entries-of root m false r = refl

    all-roots : Demand3 source t s
    all-roots =
        record {
          given = λ root r. record { said = _; is = (shown-is root r (s.each root r)).answer };
          names = λ root p r n. times-is root r (s.each root r) p.self.index ∙ (exact source t ok).names root p r.0 r.1 n.0 n.1;
          others = λ root x r h. times-is root r (s.each root r) x ∙ (exact source t ok).others root x r.0 r.1 (λ p m n. h p (m, n));
          total = sum-members (nodes_of t) (λ root m. entries-of root m (is_root root) refl) ∙ (exact source t ok).total;
          nodes = nodes-in-order t (length source) (admitted-tidy t (length source) 0 ok);
        }

  -- ---- there is one

  -- the question at record i in a buffer as long as the list
  abbrev asking : ℕ → Asked
  asking i = asked t source [] 0 [] i (list_bytes reference_row (table_refs source t i))

  room_for : (i : ℕ) → length (said_bytes (matter TableRefs (asking i)).said) ≤ length (asking i).out
  unfolding matter said_bytes
  room_for i = rw (rows-bytes reference_row (table_refs source t i)) (omega arith)

  served : Served source t
  served =
      record {
        asks = asking;
        reply = λ i. packing (staged (asking i) (matter TableRefs (asking i))) (answer_of (matter TableRefs (asking i)).said);
        out = λ i. buffer (staged (asking i) (matter TableRefs (asking i))) (written (matter TableRefs (asking i)).said (asking i).out) (asking i).out;
        each = λ root r. record {
          source_is = refl;
          table_is = refl;
          root_is = refl;
          room = room_for root.self.index;
          met = demanded TableRefs (asking root.self.index) (record { reply = refl; bytes = refl });
        };
      }

pub demand-3 : Demanded3
demand-3 source t ok = (served source t ok, all-roots source t ok)
