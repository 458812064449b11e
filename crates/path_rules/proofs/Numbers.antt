-- What the rule of a number gives, by the rule itself; a number that no rule has gives Unknown.
-- Assumes nothing.
use Prim.Native.Nat.{ℕ}
use mathlib.Core.Path.{◌≡◌, refl, sym, ap, ◌∙◌}
use mathlib.Core.Bool.{Bool, true, false, cond}
use mathlib.Core.List.{List}
use lib.Dec.{eqb}
use Rattle.std.specs.Prelude.{Option, None, Some}
use Rattle.forest.specs.Forest.{Forest}
use Rattle.contexts.specs.declared.context.CursorContext.{CursorContext}
use Rattle.contexts.specs.declared.context.CursorContext.TheVariants.{Unknown}
use Rattle.contexts.specs.PathRules.{path_rules}
use Rattle.contexts.specs.inner.ByNumber.{gives, given_by}
use Rattle.path.specs.declared.rules.PathRule.{PathRule}
use Rattle.path.specs.declared.rules.PathRule.TheVariants.{From, Join, Insert, Settings, Engine, Format, DataType, Definition, Codec, Function, Column, Start}
use Rattle.path.specs.inner.Rules.{rule_number, rule_numbered}

module _ (src : List ℕ) (o : ℕ) (c : Bool) (k : ℕ) (f : Forest) where
  -- what a rule gives, if there is one
  unfoldable told : Option PathRule → CursorContext
  told None = Unknown
  told (Some r) = given_by src o c (rule_number r) k f

  push : (b : Bool) (x y : Option PathRule) {z : CursorContext} → z ≡ told y → cond b (told x) z ≡ told (cond b x y)
  push true x y e = refl
  push false x y e = e

  by-number : (n : ℕ) → given_by src o c n k f ≡ told (rule_numbered n)
  unfolding gives given_by path_rules rule_numbered told
  by-number n =
      push (eqb n 2) (Some From) _
      (push (eqb n 3) (Some Join) _
      (push (eqb n 4) (Some Insert) _
      (push (eqb n 5) (Some Settings) _
      (push (eqb n 6) (Some Engine) _
      (push (eqb n 7) (Some Format) _
      (push (eqb n 8) (Some DataType) _
      (push (eqb n 9) (Some Definition) _
      (push (eqb n 10) (Some Codec) _
      (push (eqb n 11) (Some Function) _
      (push (eqb n 12) (Some Column) _
      (push (eqb n 13) (Some Start) None refl)))))))))))

  pub rule-given : (n : ℕ) (r : PathRule) {x : Option PathRule} {s : PathRule} → x ≡ rule_numbered n → x ≡ Some s → s ≡ r
      → given_by src o c (rule_number r) k f ≡ given_by src o c n k f
  unfolding told
  rule-given n r e q p = ap told (sym (q ∙ ap Some p) ∙ e) ∙ sym (by-number n)

  pub none-given : (n : ℕ) {x : Option PathRule} → x ≡ rule_numbered n → x ≡ None → Unknown ≡ given_by src o c n k f
  unfolding told
  none-given n e q = ap told (sym q ∙ e) ∙ sym (by-number n)
