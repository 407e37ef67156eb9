-- What a key of a book hashes to: its hasher begins with one half of the digest of the book's text and ends with the other.
-- Defined in docs/DECISIONS.md, "Books"; MD5 is that of RFC 1321, and the hasher is `FoldHasher` of std.
-- Cited by `Seed::of_text`.
use Rattle.std.specs.Prelude.{ℕ, List, ◌++◌, ◌/◌, take, drop, length}
use Rattle.std.specs.List.{fold}
use Rattle.std.specs.Hash.{HashWrites, u64}
use Rattle.std.specs.Hash.FoldHasher.{initial, write, finish}
use Rattle.std.specs.declared.hash.FoldHasher.{FoldHasher}
use Rattle.md5.specs.Md5.{md5}

-- the hasher that each key begins with: one that was fed the first half
abbrev pub first_hasher : List ℕ → FoldHasher
first_hasher digest = write initial (take (length digest / 2) digest)

-- the number that each key ends with: the hash of the second half
abbrev pub last_number : List ℕ → ℕ
last_number digest = finish (write initial (drop (length digest / 2) digest))

-- the hash under this digest of a key that makes these writes: after them comes the last number
abbrev pub hash_under : List ℕ → HashWrites → ℕ
hash_under digest writes = finish (fold write (first_hasher digest) (writes ++ u64 (last_number digest)))

-- the hash of the key under the seed of this text
abbrev pub key_hash : List ℕ → HashWrites → ℕ
key_hash text writes = hash_under (md5 text) writes
