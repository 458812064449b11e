-- Why `DeepestQuery` shuts out other roots, computed on the smallest trees. Offset 0 is in all of their nodes.
-- A File with one SubqueryExpression: record 1 is a kind 30 node on the path, and record 0 is neither it nor below it.
-- A SubqueryExpression in another: the outermost is record 0, and record 1 is on the path again.
use Rattle.std.specs.Prelude.{ℕ, ◌≡◌, refl, true, false, List, [], ◌∷◌, ◌++◌, Ok}
use Rattle.std.proofs.Common.{arith}
use mathlib.Core.List.Memᴰ
use Rattle.records.specs.declared.record.Rec.{Rec}
use Rattle.records.specs.Kinds.{file, subquery_expression}
use Rattle.lent.specs.Numbers.{word}
use Rattle.records.specs.Table.{record_at, run, from}
use Rattle.forest.specs.Forest.{level, kids, extent, stretch_end}
use Rattle.forest.specs.Descent.{path, path_of}
use Rattle.conditions.specs.Conditions.{misplaced, nearest, last_end, bad_span}
use Rattle.refusals.specs.ByRecord.{rules_from}
use Rattle.table.specs.Rules.{verdict}
use Rattle.table.specs.worked.Worked.{rec}
use Rattle.statement.specs.Statement.{or_else, first_find, enclosing_at}
use Rattle.path.specs.Path.{path_at, deepest_or}
use Rattle.cursor_root.specs.Root.{root_of, root_at}
use Rattle.roots.specs.Nearest.{DeepestQuery}

-- a node of kind k with a subquery below it
abbrev over : ℕ → List ℕ
over k = rec k 0 0 0 ++ rec subquery_expression 1 0 0

-- both are admitted, and record 1 is the cursor's root
roots : (verdict (over file) 0 0 ≡ Ok tt) × (verdict (over subquery_expression) 0 0 ≡ Ok tt)
    × (root_at (over file) 0 ≡ 1) × (root_at (over subquery_expression) 0 ≡ 1)
unfolding word record_at run from level kids path path_of verdict rules_from misplaced nearest bad_span last_end or_else first_find enclosing_at deepest_or root_of root_at
roots = (refl, refl, refl, refl)

-- record 1 is on both paths
on-paths : (path_at (over file) 0 ≡ record_at (over file) 0 0 ∷ record_at (over file) 0 1 ∷ [])
    × (path_at (over subquery_expression) 0 ≡ record_at (over subquery_expression) 0 0 ∷ record_at (over subquery_expression) 0 1 ∷ [])
unfolding word record_at run from level kids path path_of
on-paths = (refl, refl)

-- with record 0 for the root, statement (a) is false of the first tree
record-0-refuted : DeepestQuery (over file) 0 0 → ⊥
unfolding word record_at run from level kids extent stretch_end
record-0-refuted d =
    let r : Rec = record_at (over file) 0 1 in
    let e : false ≡ true = d.all_above r (record { on-path = rw on-paths.0 (Memᴰ.tail (Memᴰ.head refl)); query = refl }) in
    let z : ◌≡◌ {A = ℕ} 0 1 = cc in
    omega arith

-- with the outermost subquery for the root, it is false of the second
outermost-refuted : DeepestQuery (over subquery_expression) 0 0 → ⊥
unfolding word record_at run from level kids extent stretch_end
outermost-refuted d =
    let r : Rec = record_at (over subquery_expression) 0 1 in
    let e : false ≡ true = d.all_above r (record { on-path = rw on-paths.1 (Memᴰ.tail (Memᴰ.head refl)); query = refl }) in
    let z : ◌≡◌ {A = ℕ} 0 1 = cc in
    omega arith
