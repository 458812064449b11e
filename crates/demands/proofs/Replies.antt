-- Demands 1 and 2, of a reply and a buffer that are told by the verdict on the question (proofs/Stages.antt).
--     demanded         both demands
--     one-reply        two replies that meet both demands are equal
--     answered-free    where a reply is an answer, no refusal's condition holds
-- Assumes nothing.
use Prim.Native.Nat.{ℕ}
use mathlib.Core.Path.{◌≡◌, refl, sym, ◌∙◌}
use mathlib.Core.List.{List}
use mathlib.Core.Logic.{◌⊎◌, inl, inr}
use native.Mathlib.Omega.{arith}
use Rattle.lent.proofs.Verdicts.{numbered}
use Rattle.std.specs.Prelude.{Ok, Err}
use Rattle.lent.specs.Verdicts.{Verdict, IsRefused, number_of}
use Rattle.lent.specs.Lists.{reply, buffer}
use Rattle.replies.specs.Reply.{packed, answered}
use Rattle.demands.specs.declared.Question.{Question}
use Rattle.demands.specs.Questions.{Asked, number, Matter, matter, answer_of, written}
use Rattle.demands.specs.Demand1.{Holds, First, RefusedFor, Answer, Refuses, Demand1}
use Rattle.demands.specs.Demand2.{Demand2}
use Rattle.demands.proofs.Stages.{staged, Means, numbers, staged-means, free-none, staged-refused}

-- ---- a reply and a buffer that are told by the verdict

unfoldable pub packing : Verdict → ℕ → ℕ
packing (Ok tt) n = packed answered n
packing (Err x) n = packed (number_of x.condition) x.detail

-- a refusal's number and detail are what it is told by, and then the buffer is kept
packs : (v : Verdict) (k d n : ℕ) → IsRefused v k d → packing v n ≡ packed k d
unfolding packing
packs (Ok _) k d n p = absurd p
packs (Err x) k d n p = rw (p.0, p.1)

keeps : (v : Verdict) (k d : ℕ) (new old : List ℕ) → IsRefused v k d → buffer v new old ≡ old
unfolding buffer
keeps (Ok _) k d new old p = absurd p
keeps (Err x) k d new old p = refl

pub record Told (a : Asked) (m : Matter) (r : ℕ) (o : List ℕ) : Type 0 where
  pub reply : r ≡ packing (staged a m) (answer_of m.said)
  pub bytes : o ≡ buffer (staged a m) (written m.said a.out) a.out

module _ (q : Question) (a : Asked) {r : ℕ} {o : List ℕ} (told : Told a (matter q a) r o) where
  abbrev m : Matter
  m = matter q a

  either : Answer r ⊎ Refuses r
  unfolding Means packing
  either = go (staged a m) (staged-means a m) told.reply
    where
      go : (v : Verdict) → Means a m v → r ≡ packing v (answer_of m.said) → Answer r ⊎ Refuses r
      go (Ok tt) w e = inl (record { said = answer_of m.said; is = e })
      go (Err x) w e =
          let b = numbered x.condition in inr (record { number = number_of x.condition; detail = x.detail; is = record { from = b.0; to = b.1; is = e } })

  given : (k d : ℕ) → RefusedFor r k d → First a m k d
  unfolding Means packing
  given k d x = go (staged a m) (staged-means a m) told.reply
    where
      go : (v : Verdict) → Means a m v → r ≡ packing v (answer_of m.said) → First a m k d
      go (Ok tt) w e = absurd (omega (arith, x.from, x.to, x.is))
      go (Err y) w e =
          let b = numbered y.condition in
          let p : number_of y.condition ≡ k = omega (arith, x.from, x.to, x.is) in
          let s : y.detail ≡ d = omega (arith, x.from, x.to, x.is) in
          rw (p, s) at w

  back : (k d : ℕ) → First a m k d → RefusedFor r k d
  back k d f =
      let b = numbers a m k d f.holds in
      record { from = b.0; to = b.1; is = told.reply ∙ packs (staged a m) k d _ (staged-refused a m k d f) }

  demand-1 : Demand1 q a r o
  demand-1 =
      record {
        either = either;
        exactly = λ k d. (given k d, back k d);
        kept = λ k d x. told.bytes ∙ keeps (staged a m) k d _ _ (staged-refused a m k d (given k d x));
      }

  admitted : ((k d : ℕ) → Holds a m k d → ⊥) → staged a m ≡ Ok tt
  unfolding Means
  admitted h = go (staged a m) refl (staged-means a m)
    where
      go : (v : Verdict) → staged a m ≡ v → Means a m v → staged a m ≡ Ok tt
      go (Ok tt) e w = e
      go (Err x) e w = absurd (h _ _ w.holds)

  demand-2 : Demand2 q a r o
  unfolding buffer packing
  demand-2 = record { answer = λ h. told.reply ∙ rw (admitted h); entries = λ h. told.bytes ∙ rw (admitted h) }

  pub demanded : Demand1 q a r o × Demand2 q a r o
  demanded = (demand-1, demand-2)

-- two replies that meet both demands are equal, and so are the buffers
module _ (q : Question) (a : Asked) {r r' : ℕ} {o o' : List ℕ} (x : Demand1 q a r o × Demand2 q a r o) (y : Demand1 q a r' o' × Demand2 q a r' o') where
  pub one-reply : (r ≡ r') × (o ≡ o')
  unfolding Means
  one-reply = go (staged a (matter q a)) (staged-means a (matter q a))
    where
      go : (v : Verdict) → Means a (matter q a) v → (r ≡ r') × (o ≡ o')
      go (Ok tt) w =
          let f = free-none a (matter q a) w in (x.1.answer f ∙ sym (y.1.answer f), x.1.entries f ∙ sym (y.1.entries f))
      go (Err z) w =
          let p = (x.0.exactly _ _).1 w in
          let s = (y.0.exactly _ _).1 w in
          (p.is ∙ sym s.is, x.0.kept _ _ p ∙ sym (y.0.kept _ _ s))

-- where a reply is an answer, no refusal's condition holds
pub answered-free : (q : Question) (a : Asked) {r : ℕ} {o : List ℕ} → Demand1 q a r o → Answer r → (k d : ℕ) → Holds a (matter q a) k d → ⊥
unfolding Means
answered-free q a {r} x y = go (staged a (matter q a)) (staged-means a (matter q a))
  where
    go : (v : Verdict) → Means a (matter q a) v → (k d : ℕ) → Holds a (matter q a) k d → ⊥
    go (Ok tt) w = free-none a (matter q a) w
    go (Err z) w = let p = (x.exactly _ _).1 w in absurd (omega (arith, p.from, p.to, p.is, y.is))
