-- Each form of a question's promise tells its reply and its buffer by the verdict on it:
--     number-told                                            a number
--     plain-told, offset-told, rooted-told, numbered-told    a list
-- Assumes nothing.
use Prim.Native.Nat.{ℕ}
use mathlib.Core.Path.{◌≡◌, refl, sym, ap, ◌∙◌}
use mathlib.Core.List.{List, [], ◌∷◌, map}
use native.Mathlib.Omega.{arith}
use borrow.Author.Tests.{le-ltb}
use lib.ListN.{length, length-map}
use Rattle.std.specs.Prelude.{Ok, Err, Option, Some, None}
use Rattle.lent.specs.Verdicts.{Rule, first, Verdict}
use Rattle.table.specs.Rules.{rules, root_rules, number_rules, offset_rules, verdict}
use Rattle.lent.specs.Lists.{list_bytes, room_rule, list_verdict, reply, buffer, listed, lent}
use Rattle.replies.specs.Reply.{verdict_reply, number_reply, reply_number}
use Rattle.demands.specs.Questions.{Asked, number, no_one, Matter, plain, of_offsets, of_root, of_record, list, answer_of, said_bytes, written}
use Rattle.demands.proofs.Offsets.{amid, amid-rules}
use Rattle.demands.proofs.Stages.{after, first-after, rooted, roomy, staged}
use Rattle.demands.proofs.Replies.{packing, Told}

-- ---- each form of promise

after-after : (u v w : Verdict) → after (after u v) w ≡ after u (after v w)
unfolding after
after-after (Ok tt) v w = refl
after-after (Err r) v w = refl

-- a number
module _ (a : Asked) (message n : ℕ) where
  abbrev saying : Matter
  saying = record { message = message; offsets = 0; names = no_one; said = number n }

  abbrev on : Verdict
  on = verdict a.table (length a.source) message

  number-stage : staged a saying ≡ on
  unfolding staged rooted roomy said_bytes after amid
  number-stage = rw (le-ltb (length a.out) 0 (omega arith)) (go on)
    where
      go : (v : Verdict) → after v (after (Ok tt) (Ok tt)) ≡ v
      go (Ok tt) = refl
      go (Err r) = refl

  number-bytes : (v : Verdict) → a.out ≡ buffer v (written (number n) a.out) a.out
  unfolding buffer said_bytes
  number-bytes (Ok tt) = refl
  number-bytes (Err r) = refl

  pub number-told : {r : ℕ} → r ≡ packing on n → Told a saying r a.out
  unfolding answer_of
  number-told p = record { reply = rw number-stage p; bytes = rw number-stage (number-bytes on) }

-- a reply's number, whatever its answer says in the high half
pub check-packed : (v : Verdict) → verdict_reply v ≡ packing v 0
unfolding reply_number packing
check-packed (Ok tt) = refl
check-packed (Err r) = refl

pub reply-packed : {A : Type 0} (high : A → ℕ) (v : Verdict) (x : A) → reply_number high (reply v x) ≡ packing v (high x)
unfolding reply reply_number packing
reply-packed high (Ok tt) x = refl
reply-packed high (Err r) x = refl

-- a list
pub rows-bytes : {E : Type 0} (row : E → List ℕ) (es : List E) → list_bytes (λ r. r) (map row es) ≡ list_bytes row es
unfolding list_bytes
rows-bytes row [] = refl
rows-bytes row (e ∷ es) = rw (rows-bytes row es)

module _ (a : Asked) {E : Type 0} (row : E → List ℕ) (es : List E) where
  abbrev roomed : Verdict
  roomed = roomy (list row es) a.out

  module _ (rs : List Rule) where
    list-stage : list_verdict rs row es a.out ≡ after (first rs) roomed
    unfolding roomy said_bytes answer_of
    list-stage = rw (rows-bytes row es, length-map es) (first-after rs (room_rule row es a.out ∷ []))

    list-packed : number_reply (listed rs row es a.out) ≡ packing (after (first rs) roomed) (answer_of (list row es))
    unfolding listed answer_of
    list-packed = rw (list-stage, length-map es) (reply-packed (λ n. n) (after (first rs) roomed) (length es))

    list-bytes : lent rs row es a.out ≡ buffer (after (first rs) roomed) (written (list row es) a.out) a.out
    unfolding lent said_bytes
    list-bytes = rw (list-stage, rows-bytes row es)

    list-told : (m : Matter) → m.said ≡ list row es → staged a m ≡ after (first rs) roomed → {r : ℕ} {o : List ℕ}
        → (r ≡ number_reply (listed rs row es a.out)) × (o ≡ lent rs row es a.out) → Told a m r o
    list-told m e s p = record { reply = rw (s, e) (p.0 ∙ list-packed); bytes = rw (s, e) (p.1 ∙ list-bytes) }

  pub plain-told : {r : ℕ} {o : List ℕ}
      → (r ≡ number_reply (listed (rules a.table (length a.source) 0) row es a.out)) × (o ≡ lent (rules a.table (length a.source) 0) row es a.out)
      → Told a (plain (list row es)) r o
  unfolding staged rooted after verdict amid
  plain-told = list-told (rules a.table (length a.source) 0) (plain (list row es)) refl refl

  pub offset-told : (b : ℕ) {r : ℕ} {o : List ℕ}
      → (r ≡ number_reply (listed (offset_rules a.table (length a.source) b) row es a.out))
      × (o ≡ lent (offset_rules a.table (length a.source) b) row es a.out)
      → Told a (of_offsets b (list row es)) r o
  unfolding staged rooted after
  offset-told b =
      list-told (offset_rules a.table (length a.source) b) (of_offsets b (list row es)) refl
      (ap (λ (v : Verdict). after v roomed) (sym (amid-rules a.table (length a.source) b)))

  pub rooted-told : (i : ℕ) {r : ℕ} {o : List ℕ}
      → (r ≡ number_reply (listed (root_rules a.table (length a.source) i) row es a.out)) × (o ≡ lent (root_rules a.table (length a.source) i) row es a.out)
      → Told a (of_root i (list row es)) r o
  unfolding staged rooted verdict amid
  rooted-told i =
      list-told (root_rules a.table (length a.source) i) (of_root i (list row es)) refl
      (sym (ap (λ (v : Verdict). after v roomed) (first-after (rules a.table (length a.source) 0) _) ∙ after-after _ _ roomed))

  pub numbered-told : (i : ℕ) {r : ℕ} {o : List ℕ}
      → (r ≡ number_reply (listed (number_rules a.table (length a.source) i) row es a.out))
      × (o ≡ lent (number_rules a.table (length a.source) i) row es a.out)
      → Told a (of_record i (list row es)) r o
  unfolding staged rooted verdict amid
  numbered-told i =
      list-told (number_rules a.table (length a.source) i) (of_record i (list row es)) refl
      (sym (ap (λ (v : Verdict). after v roomed) (first-after (rules a.table (length a.source) 0) _) ∙ after-after _ _ roomed))
