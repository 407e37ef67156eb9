-- What a seeded hasher makes of some writes: its first hasher is fed them, and then its last number.
use Rattle.std.proofs.Common.{◌≡◌, ℕ, List, refl, sym, ap, ◌∙◌, ◌++◌, [], ◌∷◌}
use Rattle.std.proofs.lemmas.List.Sums.{fold-append}
use Rattle.std.specs.List.{fold}
use Rattle.std.specs.Hash.{HashWrites, u64}
use Rattle.std.specs.Hash.FoldHasher.{write, finish}
use Rattle.locale_numbers_tables.specs.Seeding.{first_hasher, last_number, hash_under, key_hash}
use Rattle.locale_numbers_tables.specs.declared.seed.SeededHasher.{SeededHasher}
use Rattle.md5.specs.Md5.{md5}

abbrev fed : SeededHasher → List ℕ → SeededHasher
fed hasher bytes = record hasher { state = write hasher.state bytes }

abbrev ended : SeededHasher → ℕ
ended hasher = finish (fold write hasher.state (u64 hasher.last))

fed_with : (hasher : SeededHasher) (writes : HashWrites) → fold fed hasher writes ≡ record hasher { state = fold write hasher.state writes }
fed_with hasher [] = refl
fed_with hasher (bytes ∷ writes) = fed_with (fed hasher bytes) writes

-- of the halves of a digest
pub hashed_under : (hasher : SeededHasher) (digest : List ℕ) → hasher.state ≡ first_hasher digest → hasher.last ≡ last_number digest
    → (writes : HashWrites) → ended (fold fed hasher writes) ≡ hash_under digest writes
hashed_under hasher digest first last writes =
    ap ended (fed_with hasher writes)
    ∙ ap finish (sym (fold-append write hasher.state writes (u64 hasher.last)))
    ∙ (λ i. finish (fold write (first i) (writes ++ u64 (last i))))

-- of the digest of a text
pub hashed_in : (hasher : SeededHasher) (text digest : List ℕ) → digest ≡ md5 text → hasher.state ≡ first_hasher digest → hasher.last ≡ last_number digest
    → (writes : HashWrites) → ended (fold fed hasher writes) ≡ key_hash text writes
hashed_in hasher text digest digested first last writes =
    hashed_under hasher digest first last writes ∙ ap (λ d. hash_under d writes) digested
