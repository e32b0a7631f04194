-- The hash of a key: FNV-1a of 64 bits, after Fowler, Noll and Vo.
--
-- The empty key has the hash cbf29ce484222325, and the key "a" the hash af63dc4c8601ec8c.
use Rattle.std.specs.Prelude.{ℕ, ◌*◌, ◌%◌, ◌^◌, List, fold, bit_xor}

-- the hash after one byte more
abbrev pub hash_step : ℕ → ℕ → ℕ
hash_step hash byte = (bit_xor hash byte * 0x100000001b3) % 2 ^ 64

-- the hash of a key
unfoldable pub key_hash : List ℕ → ℕ
key_hash key = fold hash_step 0xcbf29ce484222325 key
