-- A word that is filled byte by byte, from the last byte to the first.
use Rattle.std.proofs.Common.{◌≡◌, ℕ, zero, suc, ◌+◌, ◌*◌, ◌-◌, ◌^◌, ◌≤◌, ◌<◌, List, [], ◌∷◌, ◌++◌, length, drop, get_or, replicate, refl, sym, ap, arith, ◌∙◌}
use Rattle.std.proofs.Math.Pow.{pow_mono}
use Rattle.std.proofs.lemmas.List.{drop_more, get_or-drop}
use Rattle.tinystr_words.specs.Words.{word_bytes, word_of, filled}
use Rattle.tinystr_words.proofs.FlagLaws.{bytes_of_word}
use Rattle.tinystr_words.proofs.LengthLaws.{AreBytes, power_step}
use Rattle.tinystr_words.proofs.CutLaws.{NUL, filled_below, length-filled}

below_power : (bs : List ℕ) → AreBytes bs → word_of bs < 2 ^ (8 * length bs)
below_power [] small = omega arith
below_power (b ∷ bs) small = omega (arith, power_step (length bs), below_power bs (λ i. small (suc i)), small 0)

-- seven bytes leave room for one more
pub room_for_one : (bs : List ℕ) → AreBytes bs → length bs ≤ 7 → word_of bs < 2 ^ 56
room_for_one bs small short =
    let less : 8 * length bs ≤ 56 = omega (arith, short) in
    let mono : 2 ^ (8 * length bs) ≤ 2 ^ 56 = pow_mono less in
    omega (arith, below_power bs small, mono)

pub AreBytes-drop : (bs : List ℕ) (n : ℕ) → AreBytes bs → AreBytes (drop n bs)
AreBytes-drop bs n small i = let e = get_or-drop n bs i 0 in let s = small (n + i) in omega (arith, e, s)

-- one byte more in front of those that are in the word
pub one_more : (bs : List ℕ) (left : ℕ) → 0 < left → left ≤ length bs
    → word_of (drop left bs) * 256 + get_or bs (left - 1) 0 ≡ word_of (drop (left - 1) bs)
one_more bs left some within =
    let here : left - 1 < length bs = omega (arith, some, within) in
    let next : left - 1 + 1 ≡ left = omega (arith, some) in
    let cut = ap word_of (drop_more bs (left - 1) 0 here ∙ ap (λ n. get_or bs (left - 1) 0 ∷ drop n bs) next) in
    omega (arith, cut)

nuls_add_nothing : (bs : List ℕ) (k : ℕ) → word_of (bs ++ replicate k NUL) ≡ word_of bs
nuls_add_nothing [] zero = refl
nuls_add_nothing [] (suc k) = omega (arith, nuls_add_nothing [] k)
nuls_add_nothing (b ∷ bs) k = omega (arith, nuls_add_nothing bs k)

pub filled_number : (bs : List ℕ) → word_of (filled bs) ≡ word_of bs
unfolding filled
filled_number bs = nuls_add_nothing bs (8 - length bs)

pub filled_word : (bs : List ℕ) (w : ℕ) → length bs ≤ 8 → AreBytes bs → w ≡ word_of bs → word_bytes w ≡ filled bs
unfolding filled
filled_word bs w short small is =
    bytes_of_word w (filled bs) (length-filled bs short) (filled_below bs small) (is ∙ sym (nuls_add_nothing bs (8 - length bs)))
