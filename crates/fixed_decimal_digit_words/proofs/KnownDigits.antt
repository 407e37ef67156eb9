-- How digits lie in bytes and in words, at known lists, so that a wrong definition does not pass.
use Rattle.std.proofs.Common.{◌≡◌, [], ◌∷◌, refl}
use Rattle.fixed_decimal_digit_words.specs.DigitWord.{word_digits, word_bytes}
use Rattle.fixed_decimal_digit_words.specs.Packed.{packed, digits_in, shifted}

two_to_a_byte : packed (9 ∷ 0 ∷ 5 ∷ 7 ∷ []) ≡ 144 ∷ 87 ∷ []
two_to_a_byte = refl

an_odd_count_ends_in_zero : packed (9 ∷ 0 ∷ 5 ∷ []) ≡ 144 ∷ 80 ∷ []
an_odd_count_ends_in_zero = refl

read_from_bytes : digits_in (144 ∷ 80 ∷ []) 3 ≡ 9 ∷ 0 ∷ 5 ∷ []
read_from_bytes = refl

moved_up_by_half : shifted (144 ∷ 87 ∷ []) ≡ 5 ∷ 112 ∷ []
moved_up_by_half = refl

-- the word 905 in base sixteen
digits_of_a_word : word_digits 2309 3 ≡ 9 ∷ 0 ∷ 5 ∷ []
digits_of_a_word = refl

bytes_of_a_word : word_bytes 2309 2 ≡ 9 ∷ 5 ∷ []
bytes_of_a_word = refl
