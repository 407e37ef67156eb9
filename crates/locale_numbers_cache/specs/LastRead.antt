-- Bytes kept beside the key that was read from them, in pairs of places: it is the key that would be read now.
-- Defined in docs/requests.md, "What a cache keeps".
-- Cited by `ReadKeys::find`.
use Rattle.std.specs.Prelude.{ℕ, ◌≡◌, ◌%◌, Bool, false, ◌||◌, List, Option, Some, None, IfSome, option_map, slice_get, refl}
use Rattle.std.specs.Coded.{Coded, code_by, coded×, coded_list, coded_option, coded_ℕ}
use Rattle.std.specs.Str.{bytes_eq}
use Rattle.std.specs.Hash.FoldHasher.{initial, write, finish}

-- the pair of places of the bytes, of 512
abbrev pub pair_at : List ℕ → ℕ
pair_at bytes = finish (write initial bytes) % 512

-- what a place keeps: bytes and their key, or nothing yet
abbrev pub Place : Type 0 → Type 0
Place K = Option (List ℕ × K)

-- the pairs of places, and the key of the bytes that came last
pub record Remembered (K : Type 0) : Type 0 where
  pub pairs : List (Place K × Place K)
  pub latest : Option K

module _ {K : Type 0} where
  abbrev pub remembered : List (Place K × Place K) → Option K → Remembered K
  remembered pairs latest = record { pairs = pairs; latest = latest }

  -- a pair of places is stored as the pair of them, and all of it as the pair of its fields
  abbrev pub pair_code : Coded K → Coded (Place K × Place K)
  pair_code k = coded× (coded_option (coded× (coded_list coded_ℕ) k)) (coded_option (coded× (coded_list coded_ℕ) k))

  abbrev pub remembered_code : Coded K → Coded (Remembered K)
  remembered_code k =
      code_by (List (Place K × Place K) × Option K) (coded× (coded_list (pair_code k)) (coded_option k)) (λ r. (r.pairs, r.latest)) (λ p. remembered p.0 p.1) (λ _. refl)

  -- what is kept for the bytes is the key that these have
  abbrev pub IsRead : (List ℕ → K) → Place K → Type 0
  IsRead key_of None = Unit {0}
  IsRead key_of (Some kept) = kept.1 ≡ key_of kept.0

  -- whether these are the bytes that it keeps
  abbrev pub remembers : List ℕ → Place K → Bool
  remembers bytes None = false
  remembers bytes (Some kept) = bytes_eq kept.0 bytes

  -- of a pair, the place used last and the other: so of both
  abbrev pub AreRead : (List ℕ → K) → Place K × Place K → Type 0
  AreRead key_of pair = IsRead key_of pair.0 × IsRead key_of pair.1

  -- whether one of them keeps these bytes
  abbrev pub either_remembers : List ℕ → Place K × Place K → Bool
  either_remembers bytes pair = remembers bytes pair.0 || remembers bytes pair.1

  -- what a use of bytes with this key leaves: they are those used last, and those that were are still kept, if they are others
  pub record Uses (bytes : List ℕ) (key : K) (old new : Place K × Place K) : Type 0 where
    pub last : new.0 ≡ Some (bytes, key)
    pub other : remembers bytes old.0 ≡ false → new.1 ≡ old.0

  -- the key that a place keeps
  abbrev pub key_at : Place K → Option K
  key_at place = option_map (λ kept. kept.1) place

  -- the key of the bytes that came last: that of the place that their pair used last, or what is kept beside the pairs where they have none
  abbrev pub latest_in : Option (Place K × Place K) → Option K → Option K
  latest_in None long = long
  latest_in (Some pair) long = key_at pair.0

  abbrev pub latest_at : ℕ → List (Place K × Place K) → Option K → Option K
  latest_at last pairs long = latest_in (slice_get pairs last) long

  -- of these pairs the one at this place, where there is one, was used last by bytes that belong there
  abbrev pub IsLastAt : ℕ → List (Place K × Place K) → Type 0
  IsLastAt last pairs = IfSome (slice_get pairs last) (λ pair. IfSome pair.0 (λ kept. pair_at kept.0 ≡ last))

  -- these are the bytes that came last: their pair used the place with them last, and the key there is the latest
  pub record IsLastOf (bytes : List ℕ) (keys : Remembered K) : Type 0 where
    pub pair : Place K × Place K
    pub key : K
    pub at : slice_get keys.pairs (pair_at bytes) ≡ Some pair
    pub last : pair.0 ≡ Some (bytes, key)
    pub latest : keys.latest ≡ Some key
