-- The conditions of the refusals of a table: document 01's 1 to 6 and 8, and document 02's 10 and 12.
-- Definitions only.
use Rattle.std.specs.Prelude.{ℕ, zero, suc, ◌+◌, ◌/◌, ◌%◌, Bool, cond, not, ◌&&◌, ◌||◌, List, length, ltb, eqb}
use Rattle.records.specs.Kinds.{is_node, is_token}
use Rattle.records.specs.Table.{record_bytes, count, kind_at, depth_at, start_at, end_at, parent_at}

-- ---- the limits
abbrev pub most_records : ℕ
most_records = 4096

abbrev pub most_depth : ℕ
most_depth = 63

abbrev pub most_source : ℕ
most_source = 65536

abbrev pub most_message : ℕ
most_message = 4096

abbrev pub most_offsets : ℕ
most_offsets = 64

-- how many bytes an offset of a list of offsets takes
abbrev pub offset_bytes : ℕ
offset_bytes = 4

-- ---- the conditions, of the table t, a source of n bytes, a message of m bytes and offsets of b bytes

-- 1: table length 0, not a multiple of 20, or over 4,096 records
abbrev pub bad_length : List ℕ → Bool
bad_length t = eqb (length t) 0 || not (eqb (length t % record_bytes) 0) || ltb most_records (count t)

-- 2: source or message too long
abbrev pub too_long : ℕ → ℕ → Bool
too_long n m = ltb most_source n || ltb most_message m

-- 10: over 64 offsets or not a whole count of four-byte ones
abbrev pub bad_offsets : ℕ → Bool
bad_offsets b = ltb most_offsets (b / offset_bytes) || not (eqb (b % offset_bytes) 0)

-- 3: the kind of record i is not listed
abbrev pub unlisted : List ℕ → ℕ → Bool
unlisted t i = not (is_node (kind_at t i) || is_token (kind_at t i))

-- 4: record 0 is not a node of depth 0; or a later depth is 0, is over the previous depth plus 1, or is over the depth of a token just before
unfoldable pub misplaced : List ℕ → ℕ → Bool
misplaced t zero = not (is_node (kind_at t 0) && eqb (depth_at t 0) 0)
misplaced t (suc i) =
    eqb (depth_at t (suc i)) 0
    || ltb (depth_at t i + 1) (depth_at t (suc i))
    || (is_token (kind_at t i) && ltb (depth_at t i) (depth_at t (suc i)))

-- 5: the depth of record i is over 63
abbrev pub too_deep : List ℕ → ℕ → Bool
too_deep t i = ltb most_depth (depth_at t i)

-- the nearest record before record i whose depth is one less than d, 0 where there is none
unfoldable pub nearest : List ℕ → ℕ → ℕ → ℕ
nearest t d zero = 0
nearest t d (suc i) = cond (eqb (depth_at t i + 1) d) i (nearest t d i)

-- the nearest earlier record whose depth is one less than that of record i; 0 for record 0
abbrev pub parent_of : List ℕ → ℕ → ℕ
parent_of t i = nearest t (depth_at t i) i

-- 12: record i carries another number than its parent's
abbrev pub wrong_parent : List ℕ → ℕ → Bool
wrong_parent t i = not (eqb (parent_at t i) (parent_of t i))

-- the end of the last token before record i, 0 where there is none
unfoldable pub last_end : List ℕ → ℕ → ℕ
last_end t zero = 0
last_end t (suc i) = cond (is_token (kind_at t i)) (end_at t i) (last_end t i)

-- 6: record i is a token with start > end, end past the source, or start before the previous token's end
unfoldable pub bad_span : List ℕ → ℕ → ℕ → Bool
bad_span t n i =
    is_token (kind_at t i)
    && (ltb (end_at t i) (start_at t i) || ltb n (end_at t i) || ltb (start_at t i) (last_end t i))

-- 8: record i is no node of the table
abbrev pub no_root : List ℕ → ℕ → Bool
no_root t i = not (ltb i (count t) && is_node (kind_at t i))

-- 8, where the question names a record of any kind: record i is not in the table
abbrev pub no_such_record : List ℕ → ℕ → Bool
no_such_record t i = not (ltb i (count t))
