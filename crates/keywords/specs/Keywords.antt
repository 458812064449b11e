-- The keywords, and when a word is one.
use Rattle.std.specs.Prelude.{ℕ, Bool, false, ◌||◌, List, [], ◌∷◌, map}
use Prim.Native.String.{String}
use Rattle.text.specs.Text.{bytes_of, upper_word, same}

-- the words of `KEYWORDS`, in its order
unfoldable pub keywords : List String
keywords =
    "ADD" ∷ "AFTER" ∷ "ALIAS" ∷ "ALL" ∷ "ALTER" ∷ "AND" ∷ "ANTI" ∷ "ANY" ∷ "ARRAY" ∷ "AS" ∷
    "ASC" ∷ "ASOF" ∷ "ASSUME" ∷ "ASYNC" ∷ "ATTACH" ∷ "BACKUP" ∷ "BEGIN" ∷ "BETWEEN" ∷ "BY" ∷
    "CACHE" ∷ "CASE" ∷ "CAST" ∷ "CHECK" ∷ "CLEANUP" ∷ "CLEAR" ∷ "CLUSTER" ∷ "CODEC" ∷
    "COLUMN" ∷ "COLUMNS" ∷ "COMMENT" ∷ "COMMIT" ∷ "COMPILED" ∷ "COMPLEX" ∷ "CONFIG" ∷
    "CONSTRAINT" ∷ "CREATE" ∷ "CROSS" ∷ "CUBE" ∷ "CURRENT" ∷ "DATABASE" ∷ "DATABASES" ∷
    "DEDUPLICATE" ∷ "DEFAULT" ∷ "DELETE" ∷ "DESC" ∷ "DESCRIBE" ∷ "DETACH" ∷ "DICTIONARIES" ∷
    "DICTIONARY" ∷ "DIRECT" ∷ "DISKS" ∷ "DISTINCT" ∷ "DISTRIBUTED" ∷ "DIV" ∷ "DNS" ∷ "DROP" ∷
    "ELSE" ∷ "EMPTY" ∷ "END" ∷ "ENGINE" ∷ "ENGINES" ∷ "EPHEMERAL" ∷ "ESTIMATE" ∷ "EXCEPT" ∷
    "EXCHANGE" ∷ "EXISTS" ∷ "EXPLAIN" ∷ "FALSE" ∷ "FETCH" ∷ "FETCHES" ∷ "FILL" ∷ "FILTER" ∷
    "FINAL" ∷ "FIRST" ∷ "FLAT" ∷ "FLUSH" ∷ "FOLLOWING" ∷ "FOR" ∷ "FORMAT" ∷ "FREEZE" ∷ "FROM" ∷
    "FULL" ∷ "FUNCTION" ∷ "FUNCTIONS" ∷ "GLOBAL" ∷ "GRANT" ∷ "GRANTS" ∷ "GRANULARITY" ∷
    "GROUP" ∷ "GROUPING" ∷ "GROUPS" ∷ "HASHED" ∷ "HAVING" ∷ "HIERARCHICAL" ∷ "HOST" ∷
    "ID" ∷ "IDENTIFIED" ∷ "IF" ∷ "IGNORE" ∷ "ILIKE" ∷ "IN" ∷ "INDEX" ∷ "INJECTIVE" ∷ "INNER" ∷
    "INSERT" ∷ "INTERPOLATE" ∷ "INTERSECT" ∷ "INTERVAL" ∷ "INTO" ∷ "IS" ∷ "ISNULL" ∷ "JOIN" ∷
    "KEY" ∷ "KEYED" ∷ "KILL" ∷ "LAST" ∷ "LAYOUT" ∷ "LEFT" ∷ "LIFETIME" ∷ "LIKE" ∷ "LIMIT" ∷
    "LIVE" ∷ "LOCAL" ∷ "LOGS" ∷ "MARK" ∷ "MATERIALIZE" ∷ "MATERIALIZED" ∷ "MAX" ∷
    "MERGES" ∷ "MIN" ∷ "MOD" ∷ "MODELS" ∷ "MODIFY" ∷ "MOVE" ∷ "MOVES" ∷ "MUTATION" ∷
    "NATURAL" ∷ "NOT" ∷ "NULL" ∷ "NULLS" ∷ "OFFSET" ∷ "ON" ∷ "OPTIMIZE" ∷ "OPTION" ∷ "OR" ∷
    "ORDER" ∷ "OUTER" ∷ "OVER" ∷ "OVERRIDE" ∷ "PART" ∷ "PARTITION" ∷ "PERMANENTLY" ∷
    "PIPELINE" ∷ "PLAN" ∷ "POLICY" ∷ "POPULATE" ∷ "PRECEDING" ∷ "PREWHERE" ∷ "PRIMARY" ∷
    "PRIVILEGES" ∷ "PROCESSLIST" ∷ "PROFILE" ∷ "PROJECTION" ∷ "QUALIFY" ∷ "QUERY" ∷ "QUOTA" ∷
    "RANGE" ∷ "RECURSIVE" ∷ "RELOAD" ∷ "RENAME" ∷ "REPLACE" ∷ "REPLICA" ∷ "REPLICAS" ∷
    "REPLICATED" ∷ "RESET" ∷ "RESPECT" ∷ "RESTORE" ∷ "REVOKE" ∷ "RIGHT" ∷ "ROLE" ∷ "ROLLBACK" ∷
    "ROLLUP" ∷ "ROW" ∷ "ROWS" ∷ "SAMPLE" ∷ "SELECT" ∷ "SEMI" ∷ "SENDING" ∷ "SENDS" ∷ "SET" ∷
    "SETS" ∷ "SETTING" ∷ "SETTINGS" ∷ "SHOW" ∷ "SKIP" ∷ "SOURCE" ∷ "START" ∷ "STEP" ∷ "STOP" ∷
    "SYNC" ∷ "SYNTAX" ∷ "SYSTEM" ∷ "TABLE" ∷ "TABLES" ∷ "TEMPORARY" ∷ "TEST" ∷ "THEN" ∷ "TIES" ∷
    "TO" ∷ "TOTALS" ∷ "TRANSACTION" ∷ "TREE" ∷ "TRUE" ∷ "TRUNCATE" ∷ "TTL" ∷ "TYPE" ∷
    "UNBOUNDED" ∷ "UNCOMPRESSED" ∷ "UNDROP" ∷ "UNFREEZE" ∷ "UNION" ∷ "UPDATE" ∷ "USE" ∷
    "USER" ∷ "USING" ∷ "VALUES" ∷ "VIEW" ∷ "WHEN" ∷ "WHERE" ∷ "WINDOW" ∷ "WITH" ∷ []

-- a word is in a list of words
abbrev pub elem : List ℕ → List (List ℕ) → Bool
elem w [] = false
elem w (k ∷ ks) = same w k || elem w ks

-- a word is a keyword: in upper case it is in the list
unfoldable pub is_keyword : List ℕ → Bool
is_keyword w = elem (upper_word w) (map bytes_of keywords)
