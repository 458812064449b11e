use Rattle.clauses.proofs.ClauseLaws.{Unmet}
use Rattle.clauses.specs.inner.Clauses.{some_kind}
use Rattle.records.specs.Table.{from}
use Rattle.clauses.proofs.clauses.has_kind_from.Given as goal

abbrev pub invariant-loop-i : goal.invariant-loop-i
invariant-loop-i l = Unmet l.s l.first l.last l.i (some_kind l.first l.last (from l.s 0 l.j))
