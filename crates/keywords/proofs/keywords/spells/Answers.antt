use native.Mathlib.Omega.{arith}
use Rattle.text.proofs.Texts.{agree-end}
use Rattle.keywords.proofs.WordLaws.{first-same, letter-differs, letter-same}
use Rattle.keywords.proofs.keywords.spells.Goals as goal

pub returns-then-cleared-word : goal.returns-then-cleared-word
returns-then-cleared-word c =
    let begun = first-same _ _ (omega arith) (omega arith) c.requires.3 in
    letter-differs _ _ begun c.cleared.ensures c.requires.0 c.requires.1 (omega arith) (λ e. omega arith)

pub loop-i-init : goal.loop-i-init
loop-i-init c =
    let begun = first-same _ _ (omega arith) (omega arith) c.requires.3 in
    (omega arith, letter-same _ _ begun c.cleared.ensures c.requires.0 c.requires.1 (omega arith) (omega arith))

pub returns-then-cleared-word-2 : goal.returns-then-cleared-word-2
returns-then-cleared-word-2 c =
    letter-differs _ _ c.loop-i.invariant.1 c.cleared-in-loop-i.ensures c.requires.0 c.requires.1 (omega arith) (λ e. omega arith)

pub loop-i-preserved : goal.loop-i-preserved
loop-i-preserved c =
    (omega arith, letter-same _ _ c.loop-i.invariant.1 c.cleared-in-loop-i.ensures c.requires.0 c.requires.1 (omega arith) (omega arith))

pub returns : goal.returns
returns c = agree-end _ _ c.loop-i.invariant.1 (omega arith) (omega arith)
