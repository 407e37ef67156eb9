-- How many things are made for the keys that lines use, as the page on requests gives them.
use Rattle.std.proofs.Common.{◌≡◌, ℕ, Bool, ◌==◌, not, List, [], ◌∷◌, Option, Some, None, nat_eq, refl}
use Rattle.locale_numbers_cache.specs.Cached.{cached, made_over}
use Rattle.locale_numbers_cache.specs.Laws.{kept_after, last_used}

-- the key 9 is one for which nothing is found
abbrev found : ℕ → Bool
found key = not (key == 9)

-- of a new cache with this capacity
abbrev makes : ℕ → List (Option ℕ) → ℕ
makes capacity keys = made_over {F = ℕ} nat_eq found (cached [] capacity 0) keys

-- `en`, `ar-EG`, `EN`, `xx`: the first and the third have one key, and for the last there is no table
abbrev three_tags : List (Option ℕ)
three_tags = Some 1 ∷ Some 2 ∷ Some 1 ∷ Some 9 ∷ []

pub three_tags-one : makes 1 three_tags ≡ 3
three_tags-one = refl

pub three_tags-two : makes 2 three_tags ≡ 2
three_tags-two = refl

-- `en` with the groupings `auto`, `always`, `auto`: the grouping is in the key
pub groupings-one : makes 1 (Some 3 ∷ Some 4 ∷ Some 3 ∷ []) ≡ 3
groupings-one = refl

pub groupings-two : makes 2 (Some 3 ∷ Some 4 ∷ Some 3 ∷ []) ≡ 2
groupings-two = refl

-- one key three times
pub one_key-one : makes 1 (Some 5 ∷ Some 5 ∷ Some 5 ∷ []) ≡ 1
one_key-one = refl

pub one_key-two : makes 2 (Some 5 ∷ Some 5 ∷ Some 5 ∷ []) ≡ 1
one_key-two = refl

-- a key twice, and a line that is refused before its key is asked for
pub refused-one : makes 1 (Some 1 ∷ Some 1 ∷ None ∷ []) ≡ 1
refused-one = refl

-- a line without a table between two of one key drops nothing
pub no_table-one : makes 1 (Some 1 ∷ Some 9 ∷ Some 1 ∷ []) ≡ 1
no_table-one = refl

pub no_table-two : makes 2 (Some 1 ∷ Some 9 ∷ Some 1 ∷ []) ≡ 1
no_table-two = refl

-- three keys in turn: with room for two each is gone when it comes again
abbrev in_turn : List (Option ℕ)
in_turn = Some 1 ∷ Some 2 ∷ Some 3 ∷ Some 1 ∷ Some 2 ∷ Some 3 ∷ []

pub in_turn-one : makes 1 in_turn ≡ 6
in_turn-one = refl

pub in_turn-two : makes 2 in_turn ≡ 6
in_turn-two = refl

pub in_turn-three : makes 3 in_turn ≡ 3
in_turn-three = refl

-- a use keeps a key: of 1, 2, 1, 3 the key 2 is dropped, and the key 1 is found again
pub used_again-one : makes 1 (Some 1 ∷ Some 2 ∷ Some 1 ∷ Some 3 ∷ Some 1 ∷ []) ≡ 5
used_again-one = refl

pub used_again : makes 2 (Some 1 ∷ Some 2 ∷ Some 1 ∷ Some 3 ∷ Some 1 ∷ []) ≡ 3
used_again = refl

pub used_again-kept : kept_after nat_eq 2 [] (1 ∷ 2 ∷ 1 ∷ 3 ∷ []) ≡ 3 ∷ 1 ∷ []
used_again-kept = refl

-- the different keys used last, the last first
pub last_of_five : last_used nat_eq 2 (1 ∷ 2 ∷ 1 ∷ 3 ∷ 3 ∷ []) ≡ 3 ∷ 1 ∷ []
last_of_five = refl

-- the count stays at the greatest
pub at_most : made_over {F = ℕ} nat_eq found (cached [] 1 (18446744073709551615)) (Some 1 ∷ Some 2 ∷ []) ≡ 18446744073709551615
at_most = refl
