-- What is meant by a refusal that is given exactly when its condition holds and none before it in the order does.
-- Definitions only; the theorems are in proofs/Exactly.antt.
use Rattle.std.specs.Prelude.{ℕ, ◌+◌, ◌*◌, ◌/◌, ◌%◌, ◌≤◌, ◌<◌, ◌≡◌, true, cond, List, ◌⊎◌, length, ltb, eqb}
use Rattle.records.specs.Kinds.{expression, other_token, arrow}
use Rattle.records.specs.Table.{record_bytes, count, kind_at, depth_at, start_at, end_at, parent_at}
use Rattle.conditions.specs.Conditions.{most_records, most_depth, most_source, most_message, most_offsets, offset_bytes, bad_length, too_long, unlisted, misplaced, too_deep, wrong_parent, bad_span}

-- condition k holds with detail d, of the table t, a source of n bytes and a message of m bytes
pub data Broken (t : List ℕ) (n m k d : ℕ) : Type 0 where
  broken-1 : k ≡ 1 → d ≡ 0 → bad_length t ≡ true → Broken t n m k d
  broken-2 : k ≡ 2 → d ≡ 0 → too_long n m ≡ true → Broken t n m k d
  broken-3 : k ≡ 3 → d < count t → unlisted t d ≡ true → Broken t n m k d
  broken-4 : k ≡ 4 → d < count t → misplaced t d ≡ true → Broken t n m k d
  broken-5 : k ≡ 5 → d < count t → too_deep t d ≡ true → Broken t n m k d
  broken-12 : k ≡ 12 → d < count t → wrong_parent t d ≡ true → Broken t n m k d
  broken-6 : k ≡ 6 → d < count t → bad_span t n d ≡ true → Broken t n m k d

-- the place of condition k among those of a record, counted from 3: 3, 4, 5, 12, 6
unfoldable pub rank : ℕ → ℕ
rank k = cond (eqb k 12) 6 (cond (eqb k 6) 7 k)

-- the place of condition k with detail d in the order: 1, 2, then record by record 3, 4, 5, 12, 6
unfoldable pub place : ℕ → ℕ → ℕ
place k d = cond (ltb k 3) k (5 * d + rank k)

-- condition k holds with detail d, and none before it in the order does
pub record Least (t : List ℕ) (n m k d : ℕ) : Type 0 where
  pub holds : Broken t n m k d
  pub none_before : (k' d' : ℕ) → Broken t n m k' d' → place k d ≤ place k' d'

-- ---- the conditions in plain words, of the numbers that stand in the table

-- a kind of node; a kind of token
abbrev pub Node : ℕ → Type 0
Node k = k ≤ expression

abbrev pub Token : ℕ → Type 0
Token k = (other_token ≤ k) × (k ≤ arrow)

-- 1
abbrev pub BadLength : List ℕ → Type 0
BadLength t = (length t ≡ 0) ⊎ ((length t % record_bytes ≡ 0 → ⊥) ⊎ (most_records < count t))

-- 2
abbrev pub TooLong : ℕ → ℕ → Type 0
TooLong n m = (most_source < n) ⊎ (most_message < m)

-- 10
abbrev pub BadOffsets : ℕ → Type 0
BadOffsets b = (most_offsets < b / offset_bytes) ⊎ (b % offset_bytes ≡ 0 → ⊥)

-- 3
abbrev pub Unlisted : List ℕ → ℕ → Type 0
Unlisted t i = (Node (kind_at t i) → ⊥) × (Token (kind_at t i) → ⊥)

-- 4, of record 0 and of a later record
abbrev pub MisplacedFirst : List ℕ → Type 0
MisplacedFirst t = Node (kind_at t 0) × (depth_at t 0 ≡ 0) → ⊥

abbrev pub MisplacedLater : List ℕ → ℕ → Type 0
MisplacedLater t i =
    (depth_at t (i + 1) ≡ 0)
    ⊎ ((depth_at t i + 1 < depth_at t (i + 1)) ⊎ (Token (kind_at t i) × (depth_at t i < depth_at t (i + 1))))

-- 5
abbrev pub TooDeep : List ℕ → ℕ → Type 0
TooDeep t i = most_depth < depth_at t i

-- record p is the nearest before record i whose depth is one less than d
pub record NearestBefore (t : List ℕ) (d i p : ℕ) : Type 0 where
  pub before : p < i
  pub depth : depth_at t p + 1 ≡ d
  pub nearest : (k : ℕ) → p < k → k < i → depth_at t k + 1 ≡ d → ⊥

-- no record before record i has a depth one less than d
abbrev pub NoneBefore : List ℕ → ℕ → ℕ → Type 0
NoneBefore t d i = (k : ℕ) → k < i → depth_at t k + 1 ≡ d → ⊥

-- record p is the parent of record i: the nearest earlier record whose depth is one less
abbrev pub Parent : List ℕ → ℕ → ℕ → Type 0
Parent t i p = NearestBefore t (depth_at t i) i p

-- 12: record i carries neither its parent nor, where it has none as record 0 has, 0
abbrev pub WrongParent : List ℕ → ℕ → Type 0
WrongParent t i = Parent t i (parent_at t i) ⊎ (NoneBefore t (depth_at t i) i × (parent_at t i ≡ 0)) → ⊥

-- record j is the last token before record i
pub record LastToken (t : List ℕ) (i j : ℕ) : Type 0 where
  pub before : j < i
  pub token : Token (kind_at t j)
  pub last : (k : ℕ) → j < k → k < i → Token (kind_at t k) → ⊥

-- before record i there is a last token, and it ends after x
pub record EndsAfter (t : List ℕ) (i x : ℕ) : Type 0 where
  pub previous : ℕ
  pub last : LastToken t i previous
  pub inside : x < end_at t previous

-- 6
abbrev pub BadSpan : List ℕ → ℕ → ℕ → Type 0
BadSpan t n i = Token (kind_at t i) × ((end_at t i < start_at t i) ⊎ ((n < end_at t i) ⊎ EndsAfter t i (start_at t i)))
