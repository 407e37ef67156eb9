-- Values of this crate's definitions, by hand: `ab` in a word, its flags, its length, and bytes filled up.
use Rattle.std.specs.Prelude.{◌≡◌, true, false, [], ◌∷◌, nat_le, refl}
use Rattle.std.specs.Char.{to_ascii_lowercase, to_ascii_uppercase}
use Rattle.tinystr_words.specs.Words.{word_bytes, flags, map_first, filled, nuls_last, text_bytes}

letters_in_a_word : word_bytes 25185 ≡ 97 ∷ 98 ∷ 0 ∷ 0 ∷ 0 ∷ 0 ∷ 0 ∷ 0 ∷ []
unfolding word_bytes
letters_in_a_word = refl

letters_filled_up : filled (97 ∷ 98 ∷ []) ≡ 97 ∷ 98 ∷ 0 ∷ 0 ∷ 0 ∷ 0 ∷ 0 ∷ 0 ∷ []
unfolding filled
letters_filled_up = refl

-- of the two bytes the second alone is at least 98
second_letter_flagged : flags (nat_le 98) (97 ∷ 98 ∷ []) ≡ 32768
second_letter_flagged = refl

two_bytes_of_text : text_bytes (97 ∷ 98 ∷ 0 ∷ 0 ∷ []) ≡ 2
two_bytes_of_text = refl

nul_before_a_letter : nuls_last (97 ∷ 0 ∷ 98 ∷ []) ≡ false
nul_before_a_letter = refl

nul_after_letters : nuls_last (97 ∷ 98 ∷ 0 ∷ []) ≡ true
nul_after_letters = refl

first_letter_raised : map_first to_ascii_uppercase to_ascii_lowercase (97 ∷ 66 ∷ 98 ∷ []) ≡ 65 ∷ 98 ∷ 98 ∷ []
first_letter_raised = refl
