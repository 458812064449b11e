use mathlib.Core.Path.{sym, ◌∙◌}
use native.Mathlib.Omega.{arith}
use lib.ListN.{length-take, length-drop}
use Rattle.keywords.proofs.WordLaws.{left-start, left-first, left-none}
use Rattle.keywords.proofs.keywords.among.Goals as goal

pub loop-rest-init : goal.loop-rest-init
loop-rest-init c = left-start _ c.requires.1

pub slice_bounds-spells-end : goal.slice_bounds-spells-end
slice_bounds-spells-end c =
    let f = left-first _ c.loop-rest.invariant (λ e. omega arith) in
    simp length-take (omega arith)

pub spells-requires : goal.spells-requires
spells-requires c =
    let f = left-first _ c.loop-rest.invariant (λ e. omega arith) in
    (f.lettered, simp length-take (omega arith), omega arith, f.begun)

pub returns-then-spells : goal.returns-then-spells
returns-then-spells c =
    let f = left-first _ c.loop-rest.invariant (λ e. omega arith) in
    f.found (sym c.spells.ensures ∙ c.if-spells.true)

pub slice_bounds-next-count : goal.slice_bounds-next-count
slice_bounds-next-count c = omega (arith, (left-first _ c.loop-rest.invariant (λ e. omega arith)).fits)

pub slice_bounds-next-start : goal.slice_bounds-next-start
slice_bounds-next-start c = omega (arith, (left-first _ c.loop-rest.invariant (λ e. omega arith)).fits)

pub slice_bounds-next-end : goal.slice_bounds-next-end
slice_bounds-next-end c = omega (arith, (left-first _ c.loop-rest.invariant (λ e. omega arith)).fits)

pub loop-rest-smaller : goal.loop-rest-smaller
loop-rest-smaller c =
    let f = left-first _ c.loop-rest.invariant (λ e. omega arith) in
    simp (length-take, length-drop) (omega arith)

pub loop-rest-preserved : goal.loop-rest-preserved
loop-rest-preserved c =
    let f = left-first _ c.loop-rest.invariant (λ e. omega arith) in
    f.passed (sym c.spells.ensures ∙ c.if-spells.false)

pub returns : goal.returns
returns c = left-none _ c.loop-rest.invariant (omega arith) (omega arith)
