use lib.ListN.{length}
use Rattle.keywords.proofs.WordLaws.{WordsLeft}
use Rattle.keywords.proofs.keywords.among.Given as goal

-- the text is a keyword where it is among the words that are left
abbrev pub invariant-loop-rest : goal.invariant-loop-rest
invariant-loop-rest l = WordsLeft l.text l.rest

abbrev pub decreases-loop-rest : goal.decreases-loop-rest
decreases-loop-rest l = length l.rest
