-- One character of a text, and the rest: what a loop over characters keeps.
use Rattle.std.proofs.Common.{◌≡◌, ℕ, suc, ◌+◌, ◌≤◌, ◌<◌, ◌==◌, ◌&&◌, Bool, true, false, List, [], ◌∷◌, length, map, Option, None, Some, is_some, is_none, refl, sym, ap, ◌∙◌, arith}
use Rattle.std.specs.Char.{digit_value}
use Rattle.std.specs.List.{list_all, cons_option, filter_map}
use Rattle.std.proofs.lemmas.Bool.{false≢true, eq-eqb, ne_eqb, and_left}
use Rattle.fixed_decimal.specs.GivenDigits.{DigitsGiven, with_digit}
use Rattle.fixed_decimal.specs.NumberText.{character}
use Rattle.fixed_decimal.proofs.PrintedLemmas.{character_value}
use Rattle.icu_decimal_reading.specs.GatheredDigits.{with_characters}
use Rattle.icu_decimal_reading.specs.PlainReading.{begins_fraction, digits_of_text, fraction_in, fraction_then, whole_in, whole_then}
use Rattle.icu_decimal_reading.specs.Readable.{digit_of}
use Rattle.icu_decimal_reading.proofs.GatheredLemmas.{count_with}

clear_by : (o : Option ℕ) (b r : Bool) → is_some o ≡ b → b ≡ true → (is_none o && r) ≡ false
clear_by None b r is some = absurd (false≢true (is ∙ some))
clear_by (Some d) b r is some = refl

pub clear_not : (ds cs rest : List ℕ) (c : ℕ) → cs ≡ c ∷ rest → is_some (digit_of ds c) ≡ true → false ≡ list_all (λ e. is_none (digit_of ds e)) cs
clear_not ds cs rest c is some = sym (ap (list_all (λ e. is_none (digit_of ds e))) is ∙ clear_by (digit_of ds c) true _ some refl)

other_by : (o : Option ℕ) (r : Bool) → is_some o ≡ false → (is_none o && r) ≡ r
other_by None r none = refl
other_by (Some d) r none = absurd (false≢true (sym none))

pub clear_more : (ds cs rest : List ℕ) (c : ℕ) (whole : Bool) → cs ≡ c ∷ rest → is_some (digit_of ds c) ≡ false → list_all (λ e. is_none (digit_of ds e)) cs ≡ whole → list_all (λ e. is_none (digit_of ds e)) rest ≡ whole
clear_more ds cs rest c whole is none before = sym (ap (list_all (λ e. is_none (digit_of ds e))) is ∙ other_by (digit_of ds c) _ none) ∙ before

pub clear_end : (ds cs : List ℕ) (whole : Bool) → cs ≡ [] → list_all (λ e. is_none (digit_of ds e)) cs ≡ whole → true ≡ whole
clear_end ds cs whole is before = sym (ap (list_all (λ e. is_none (digit_of ds e))) is) ∙ before

-- ---- counts

longer_by : (o : Option ℕ) (ds : List ℕ) → is_some o ≡ true → length (cons_option o ds) ≡ length ds + 1
longer_by None ds some = absurd (false≢true some)
longer_by (Some d) ds some = omega arith

same_by : (o : Option ℕ) (ds : List ℕ) → is_some o ≡ false → length (cons_option o ds) ≡ length ds
same_by None ds none = refl
same_by (Some d) ds none = absurd (false≢true (sym none))

pub count_digit : (ds cs rest : List ℕ) (c count whole : ℕ) → cs ≡ c ∷ rest → is_some (digit_of ds c) ≡ true → count + length (filter_map (digit_of ds) cs) ≡ whole → count + 1 + length (filter_map (digit_of ds) rest) ≡ whole
count_digit ds cs rest c count whole is some before =
    let more : length (filter_map (digit_of ds) cs) ≡ length (filter_map (digit_of ds) rest) + 1 = ap (λ t. length (filter_map (digit_of ds) t)) is ∙ longer_by (digit_of ds c) (filter_map (digit_of ds) rest) some in
    omega (arith, more, before)

pub count_other : (ds cs rest : List ℕ) (c count whole : ℕ) → cs ≡ c ∷ rest → is_some (digit_of ds c) ≡ false → count + length (filter_map (digit_of ds) cs) ≡ whole → count + length (filter_map (digit_of ds) rest) ≡ whole
count_other ds cs rest c count whole is none before =
    let same : length (filter_map (digit_of ds) cs) ≡ length (filter_map (digit_of ds) rest) = ap (λ t. length (filter_map (digit_of ds) t)) is ∙ same_by (digit_of ds c) (filter_map (digit_of ds) rest) none in
    omega (arith, same, before)

pub count_end : (ds cs : List ℕ) (count whole : ℕ) → cs ≡ [] → count + length (filter_map (digit_of ds) cs) ≡ whole → count ≡ whole
count_end ds cs count whole is before =
    let none : length (filter_map (digit_of ds) cs) ≡ 0 = ap (λ t. length (filter_map (digit_of ds) t)) is in omega (arith, none, before)

-- ---- separators

pub begins_more : (ds wanted cs more rest : List ℕ) (p c : ℕ) (whole : Bool) → wanted ≡ p ∷ more → cs ≡ c ∷ rest → c ≡ p → begins_fraction ds wanted cs ≡ whole → begins_fraction ds more rest ≡ whole
begins_more ds wanted cs more rest p c whole is are same before =
    sym (ap (λ t. begins_fraction ds t cs) is ∙ ap (begins_fraction ds (p ∷ more)) are ∙ ap (λ b. b && begins_fraction ds more rest) (eq-eqb p c (sym same))) ∙ before

pub begins_apart : (ds wanted cs more rest : List ℕ) (p c : ℕ) (whole : Bool) → wanted ≡ p ∷ more → cs ≡ c ∷ rest → (c ≡ p → ⊥) → begins_fraction ds wanted cs ≡ whole → false ≡ whole
begins_apart ds wanted cs more rest p c whole is are apart before =
    sym (ap (λ t. begins_fraction ds t cs) is ∙ ap (begins_fraction ds (p ∷ more)) are ∙ and_left (p == c) (begins_fraction ds more rest) (ne_eqb p c (λ same. apart (sym same)))) ∙ before

pub begins_short : (ds wanted cs more : List ℕ) (p : ℕ) (whole : Bool) → wanted ≡ p ∷ more → cs ≡ [] → begins_fraction ds wanted cs ≡ whole → false ≡ whole
begins_short ds wanted cs more p whole is are before = sym (ap (λ t. begins_fraction ds t cs) is ∙ ap (begins_fraction ds (p ∷ more)) are) ∙ before

pub begins_digit : (ds wanted cs rest : List ℕ) (c : ℕ) (whole : Bool) → wanted ≡ [] → cs ≡ c ∷ rest → begins_fraction ds wanted cs ≡ whole → is_some (digit_of ds c) ≡ whole
begins_digit ds wanted cs rest c whole is are before = sym (ap (λ t. begins_fraction ds t cs) is ∙ ap (begins_fraction ds []) are) ∙ before

pub begins_end : (ds wanted cs : List ℕ) (whole : Bool) → wanted ≡ [] → cs ≡ [] → begins_fraction ds wanted cs ≡ whole → false ≡ whole
begins_end ds wanted cs whole is are before = sym (ap (λ t. begins_fraction ds t cs) is ∙ ap (begins_fraction ds []) are) ∙ before

-- ---- digits gathered

-- a digit that was given is the character's
given_again : (given after : DigitsGiven) (d : ℕ) → d < 10 → after ≡ with_digit given d → after ≡ with_digit given (digit_value (character d))
given_again given after d ten e = e ∙ ap (with_digit given) (sym (character_value d ten))

-- counts of the same digits
same_count : (given first : DigitsGiven) (cs ds : List ℕ) → with_characters given cs ≡ with_characters first ds → given.count + length cs ≡ first.count + length ds
same_count given first cs ds same = sym (count_with given cs) ∙ ap (λ (g : DigitsGiven). g.count) same ∙ count_with first ds

-- the digits of a text

text_first : (ds cs rest : List ℕ) (c d : ℕ) → cs ≡ c ∷ rest → Some d ≡ digit_of ds c → digits_of_text ds cs ≡ character d ∷ digits_of_text ds rest
text_first ds cs rest c d is found = ap (digits_of_text ds) is ∙ ap (λ o. map character (cons_option o (filter_map (digit_of ds) rest))) (sym found)

pub text_digit : (ds cs rest : List ℕ) (c d : ℕ) (given after whole : DigitsGiven) → cs ≡ c ∷ rest → Some d ≡ digit_of ds c → d < 10 → with_characters given (digits_of_text ds cs) ≡ whole → after ≡ with_digit given d → with_characters after (digits_of_text ds rest) ≡ whole
text_digit ds cs rest c d given after whole is found ten before pushed =
    ap (λ g. with_characters g (digits_of_text ds rest)) (given_again given after d ten pushed)
    ∙ sym (ap (with_characters given) (text_first ds cs rest c d is found)) ∙ before

pub text_other : (ds cs rest : List ℕ) (c : ℕ) (given whole : DigitsGiven) → cs ≡ c ∷ rest → None ≡ digit_of ds c → with_characters given (digits_of_text ds cs) ≡ whole → with_characters given (digits_of_text ds rest) ≡ whole
text_other ds cs rest c given whole is none before =
    sym (ap (λ t. with_characters given (digits_of_text ds t)) is ∙ ap (λ o. with_characters given (map character (cons_option o (filter_map (digit_of ds) rest)))) (sym none)) ∙ before

pub text_end : (ds cs : List ℕ) (given whole : DigitsGiven) → cs ≡ [] → with_characters given (digits_of_text ds cs) ≡ whole → given ≡ whole
text_end ds cs given whole is before = sym (ap (λ t. with_characters given (digits_of_text ds t)) is) ∙ before

-- where a digit is left after as many as lie inline, there are more than these
pub text_many : (ds cs rest text : List ℕ) (c d : ℕ) (given first : DigitsGiven) → cs ≡ c ∷ rest → Some d ≡ digit_of ds c → with_characters given (digits_of_text ds cs) ≡ with_characters first (digits_of_text ds text) → 16 ≤ given.count → 16 < first.count + length (digits_of_text ds text)
text_many ds cs rest text c d given first is found before many =
    let size : length (digits_of_text ds cs) ≡ suc (length (digits_of_text ds rest)) = ap length (text_first ds cs rest c d is found) in
    omega (arith, size, same_count given first (digits_of_text ds cs) (digits_of_text ds text) before, many)

-- those before a fraction

whole_first : (ds sep cs rest : List ℕ) (c d : ℕ) (b : Bool) → cs ≡ c ∷ rest → Some d ≡ digit_of ds c → b ≡ begins_fraction ds sep rest → whole_in ds sep cs ≡ whole_then (Some d) b (whole_in ds sep rest)
whole_first ds sep cs rest c d b is found begins =
    ap (whole_in ds sep) is ∙ ap (λ o. whole_then o (begins_fraction ds sep rest) (whole_in ds sep rest)) (sym found) ∙ ap (λ e. whole_then (Some d) e (whole_in ds sep rest)) (sym begins)

pub whole_last : (ds sep cs rest : List ℕ) (c d : ℕ) (given after whole : DigitsGiven) → cs ≡ c ∷ rest → Some d ≡ digit_of ds c → d < 10 → true ≡ begins_fraction ds sep rest → with_characters given (whole_in ds sep cs) ≡ whole → after ≡ with_digit given d → after ≡ whole
whole_last ds sep cs rest c d given after whole is found ten begins before pushed =
    given_again given after d ten pushed ∙ sym (ap (with_characters given) (whole_first ds sep cs rest c d true is found begins)) ∙ before

pub whole_digit : (ds sep cs rest : List ℕ) (c d : ℕ) (given after whole : DigitsGiven) → cs ≡ c ∷ rest → Some d ≡ digit_of ds c → d < 10 → false ≡ begins_fraction ds sep rest → with_characters given (whole_in ds sep cs) ≡ whole → after ≡ with_digit given d → with_characters after (whole_in ds sep rest) ≡ whole
whole_digit ds sep cs rest c d given after whole is found ten begins before pushed =
    ap (λ g. with_characters g (whole_in ds sep rest)) (given_again given after d ten pushed)
    ∙ sym (ap (with_characters given) (whole_first ds sep cs rest c d false is found begins)) ∙ before

pub whole_other : (ds sep cs rest : List ℕ) (c : ℕ) (given whole : DigitsGiven) → cs ≡ c ∷ rest → None ≡ digit_of ds c → with_characters given (whole_in ds sep cs) ≡ whole → with_characters given (whole_in ds sep rest) ≡ whole
whole_other ds sep cs rest c given whole is none before =
    sym (ap (λ t. with_characters given (whole_in ds sep t)) is ∙ ap (λ o. with_characters given (whole_then o (begins_fraction ds sep rest) (whole_in ds sep rest))) (sym none)) ∙ before

pub whole_end : (ds sep cs : List ℕ) (given whole : DigitsGiven) → cs ≡ [] → with_characters given (whole_in ds sep cs) ≡ whole → given ≡ whole
whole_end ds sep cs given whole is before = sym (ap (λ t. with_characters given (whole_in ds sep t)) is) ∙ before

some_first : (d : ℕ) (b : Bool) (rest : List ℕ) → 0 < length (whole_then (Some d) b rest)
some_first d true rest = omega arith
some_first d false rest = omega arith

pub whole_many : (ds sep cs rest text : List ℕ) (c d : ℕ) (given first : DigitsGiven) → cs ≡ c ∷ rest → Some d ≡ digit_of ds c → with_characters given (whole_in ds sep cs) ≡ with_characters first (whole_in ds sep text) → 16 ≤ given.count → 16 < first.count + length (whole_in ds sep text)
whole_many ds sep cs rest text c d given first is found before many =
    let size : length (whole_in ds sep cs) ≡ length (whole_then (Some d) (begins_fraction ds sep rest) (whole_in ds sep rest)) = ap length (whole_first ds sep cs rest c d (begins_fraction ds sep rest) is found refl) in
    let some = some_first d (begins_fraction ds sep rest) (whole_in ds sep rest) in
    omega (arith, size, some, same_count given first (whole_in ds sep cs) (whole_in ds sep text) before, many)

-- and the fraction

pub fraction_here : (ds sep cs rest whole : List ℕ) (c d : ℕ) → cs ≡ c ∷ rest → Some d ≡ digit_of ds c → true ≡ begins_fraction ds sep rest → fraction_in ds sep cs ≡ whole → digits_of_text ds rest ≡ whole
fraction_here ds sep cs rest whole c d is found begins before =
    sym (ap (fraction_in ds sep) is ∙ ap (λ o. fraction_then o (begins_fraction ds sep rest) (digits_of_text ds rest) (fraction_in ds sep rest)) (sym found) ∙ ap (λ b. fraction_then (Some d) b (digits_of_text ds rest) (fraction_in ds sep rest)) (sym begins)) ∙ before

pub fraction_digit : (ds sep cs rest whole : List ℕ) (c d : ℕ) → cs ≡ c ∷ rest → Some d ≡ digit_of ds c → false ≡ begins_fraction ds sep rest → fraction_in ds sep cs ≡ whole → fraction_in ds sep rest ≡ whole
fraction_digit ds sep cs rest whole c d is found begins before =
    sym (ap (fraction_in ds sep) is ∙ ap (λ o. fraction_then o (begins_fraction ds sep rest) (digits_of_text ds rest) (fraction_in ds sep rest)) (sym found) ∙ ap (λ b. fraction_then (Some d) b (digits_of_text ds rest) (fraction_in ds sep rest)) (sym begins)) ∙ before

pub fraction_other : (ds sep cs rest whole : List ℕ) (c : ℕ) → cs ≡ c ∷ rest → None ≡ digit_of ds c → fraction_in ds sep cs ≡ whole → fraction_in ds sep rest ≡ whole
fraction_other ds sep cs rest whole c is none before =
    sym (ap (fraction_in ds sep) is ∙ ap (λ o. fraction_then o (begins_fraction ds sep rest) (digits_of_text ds rest) (fraction_in ds sep rest)) (sym none)) ∙ before

pub fraction_end : (ds sep cs whole : List ℕ) → cs ≡ [] → fraction_in ds sep cs ≡ whole → [] ≡ whole
fraction_end ds sep cs whole is before = sym (ap (fraction_in ds sep) is) ∙ before
