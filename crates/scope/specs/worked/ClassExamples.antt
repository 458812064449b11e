-- Worked cases of the token classes and of brackets, computed.
use Rattle.std.specs.Prelude.{ℕ, ◌≡◌, refl, true, false, List, [], ◌∷◌, ◌++◌, Some, None}
use Rattle.lent.specs.Numbers.{word}
use Rattle.records.specs.Table.{record_at, run, from}
use Rattle.forest.specs.Forest.{level, kids}
use Rattle.text.specs.Text.{bytes_of, upper, text}
use Rattle.table.specs.worked.Worked.{rec}
use Rattle.classes.specs.declared.token_class.TokenClass.TheVariants.{Keyword, Function, StringLiteral, Number, Comment, Operator, Variable, TypeName, Parameter, Property}
use Rattle.class_list.specs.declared.class_list.ClassedToken.{ClassedToken}
use Rattle.keywords.specs.Keywords.{keywords, is_keyword}
use Rattle.classes.specs.TokenClass.{between, judged, bareword, by_parent, class_of}
use Rattle.class_list.specs.Classes.{entry_of, classes, classes_of}

-- ---- each class, by the token's kind

pub by_kind :
    (class_of [] 0 130 0 0 ≡ Some Comment) × (class_of [] 0 133 0 0 ≡ Some Number) × (class_of [] 0 134 0 0 ≡ Some StringLiteral) × (class_of [] 0 135 0 0 ≡ Some StringLiteral)
    × (class_of [] 0 143 0 0 ≡ Some Operator) × (class_of [] 0 157 0 0 ≡ Some Operator) × (class_of [] 0 128 0 0 ≡ None) × (class_of [] 0 129 0 0 ≡ None)
    × (class_of [] 0 136 0 0 ≡ None) × (class_of [] 0 142 0 0 ≡ None)
unfolding class_of between
by_kind = (refl, refl, refl, refl, refl, refl, refl, refl, refl, refl)

-- ---- a BareWord by its parent: what is a keyword, and what is none

pub words :
    -- 40 to 42 type, whatever the word
    (judged true 40 ≡ Some TypeName) × (judged false 42 ≡ Some TypeName)
    -- 43 to 45, 33 to 35 and 50 to 54, 36 and 46 to 48: only where it is no keyword
    × (judged false 43 ≡ Some Function) × (judged true 45 ≡ Some Keyword)
    × (judged false 33 ≡ Some Property) × (judged false 35 ≡ Some Property) × (judged false 50 ≡ Some Property) × (judged false 54 ≡ Some Property) × (judged true 34 ≡ Some Keyword)
    × (judged false 36 ≡ Some Variable) × (judged false 46 ≡ Some Variable) × (judged false 48 ≡ Some Variable) × (judged true 47 ≡ Some Keyword)
    -- 49 parameter, whatever the word; a keyword elsewhere; 55 variable; else none
    × (judged true 49 ≡ Some Parameter) × (judged false 49 ≡ Some Parameter) × (judged true 4 ≡ Some Keyword) × (judged true 55 ≡ Some Keyword) × (judged false 55 ≡ Some Variable)
    × (judged false 15 ≡ None) × (judged false 37 ≡ None)
unfolding judged between
words = (refl, refl, refl, refl, refl, refl, refl, refl, refl, refl, refl, refl, refl, refl, refl, refl, refl, refl, refl, refl)

-- ---- a Quoted by its parent

pub quoted :
    (by_parent 43 ≡ Function) × (by_parent 45 ≡ Function) × (by_parent 40 ≡ TypeName) × (by_parent 42 ≡ TypeName)
    × (by_parent 33 ≡ Property) × (by_parent 35 ≡ Property) × (by_parent 50 ≡ Property) × (by_parent 51 ≡ Property)
    × (by_parent 52 ≡ Variable) × (by_parent 36 ≡ Variable) × (by_parent 49 ≡ Variable) × (by_parent 0 ≡ Variable)
unfolding by_parent between
quoted = (refl, refl, refl, refl, refl, refl, refl, refl, refl, refl, refl, refl)

-- ---- the list of the tree of `SELECT r. FROM raw r`, document 01's frame

abbrev pub source : List ℕ
source = bytes_of "SELECT r. FROM raw r"

abbrev pub tree : List ℕ
tree =
    rec 1 0 0 20 ++ rec 4 1 0 20 ++ rec 15 2 0 9 ++ rec 131 3 0 6 ++ rec 129 3 6 7 ++ rec 47 3 7 9 ++ rec 131 4 7 8 ++ rec 128 4 8 9
    ++ rec 129 2 9 10 ++ rec 16 2 10 20 ++ rec 131 3 10 14 ++ rec 129 3 14 15 ++ rec 33 3 15 18 ++ rec 131 4 15 18 ++ rec 129 3 18 19
    ++ rec 35 3 19 20 ++ rec 131 4 19 20

abbrev entry : ℕ → ℕ → ℕ → ClassedToken
entry a b c = record { start = a; end = b; class = c }

pub frame : classes_of source tree ≡ entry 0 6 0 ∷ entry 7 8 6 ∷ entry 10 14 0 ∷ entry 15 18 9 ∷ entry 19 20 9 ∷ []
unfolding classes entry_of class_of bareword judged by_parent between is_keyword keywords bytes_of upper text kids level from run record_at word
frame = refl
