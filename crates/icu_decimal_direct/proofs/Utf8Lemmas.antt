-- The text of a number's digits is UTF-8.
use Rattle.std.proofs.Common.{ℕ, zero, suc, ◌+◌, List, [], ◌∷◌, ◌++◌, IsUtf8, drop, flat_map, length, map, subst, sym, take, arith}
use Rattle.std.proofs.lemmas.Int.Digits.{all_below_base_from_digits}
use Rattle.std.proofs.lemmas.Str.{IsUtf8-append, IsUtf8-from_ascii, IsUtf8-had, IsUtf8-nil}
use Rattle.std.specs.Char.{digit_value}
use Rattle.std.specs.Int.Digits.{AllBelowBase}
use Rattle.fixed_decimal.specs.declared.Sign.{Sign}
use Rattle.fixed_decimal.specs.declared.Sign.TheVariants.{None as NoSign, Negative, Positive}
use Rattle.icu_decimal_grouping.specs.Grouper.{cut_by, group_sizes, joined}
use Rattle.icu_decimal_plain.specs.PlainText.{Tables, chained, decimal_text, digit_text, fraction_text, unsigned_text, whole_text}
use Rattle.icu_decimal_plain.specs.Runs.{IsRun}
use Rattle.icu_decimal_plain.proofs.PieceLemmas.{one_ascii}
use Rattle.icu_decimal_direct.specs.Direct.{AreHeld}
use Rattle.icu_decimal_direct.specs.FewDigits.{AreFewDigits, plain_number}
use Rattle.icu_decimal_direct.specs.declared.text_tables.Direct.{Direct}
use Rattle.icu_decimal_direct.proofs.ShownLemmas.{digits_told}
use Rattle.icu_decimal_direct.proofs.TextLemmas.{unsigned_is}

-- each list is UTF-8
abbrev EachUtf8 : List (List ℕ) → Type 0
EachUtf8 [] = Unit {0}
EachUtf8 (x ∷ xs) = IsUtf8 x × EachUtf8 xs

utf8_chained : (xs : List (List ℕ)) → EachUtf8 xs → IsUtf8 (chained xs)
utf8_chained [] h = IsUtf8-nil
utf8_chained (x ∷ xs) h = IsUtf8-append x (chained xs) h.0 (utf8_chained xs h.1)

each_append : (xs ys : List (List ℕ)) → EachUtf8 xs → EachUtf8 ys → EachUtf8 (xs ++ ys)
each_append [] ys h k = k
each_append (x ∷ xs) ys h k = (h.0, each_append xs ys h.1 k)

each_take : (n : ℕ) (xs : List (List ℕ)) → EachUtf8 xs → EachUtf8 (take n xs)
each_take zero xs h = tt
each_take (suc n) [] h = tt
each_take (suc n) (x ∷ xs) h = (h.0, each_take n xs h.1)

each_drop : (n : ℕ) (xs : List (List ℕ)) → EachUtf8 xs → EachUtf8 (drop n xs)
each_drop zero xs h = h
each_drop (suc n) [] h = tt
each_drop (suc n) (x ∷ xs) h = each_drop n xs h.1

-- groups, and separators between them
each_ahead : (separator : List ℕ) (ns : List ℕ) (xs : List (List ℕ)) → IsUtf8 separator → EachUtf8 xs → EachUtf8 (flat_map (λ h. (separator ∷ []) ++ h) (cut_by ns xs))
each_ahead separator [] xs utf8 h = tt
each_ahead separator (n ∷ ns) xs utf8 h =
    each_append (separator ∷ take n xs) (flat_map (λ g. (separator ∷ []) ++ g) (cut_by ns (drop n xs))) (utf8, each_take n xs h) (each_ahead separator ns (drop n xs) utf8 (each_drop n xs h))

each_joined : (separator : List ℕ) (ns : List ℕ) (xs : List (List ℕ)) → IsUtf8 separator → EachUtf8 xs → EachUtf8 (joined (separator ∷ []) (cut_by ns xs))
each_joined separator [] xs utf8 h = tt
each_joined separator (n ∷ ns) xs utf8 h =
    each_append (take n xs) (flat_map (λ g. (separator ∷ []) ++ g) (cut_by ns (drop n xs))) (each_take n xs h) (each_ahead separator ns (drop n xs) utf8 (each_drop n xs h))

each_digit : (table ds : List ℕ) → IsRun 48 table → AllBelowBase 10 ds → EachUtf8 (map (digit_text table) ds)
each_digit table [] run tens = tt
each_digit table (d ∷ ds) run tens =
    let small = tens.0 in
    (subst IsUtf8 (sym (run.bytes d tens.0)) (IsUtf8-from_ascii ((48 + d) ∷ []) (one_ascii (48 + d) (omega (arith, small)))), each_digit table ds run tens.1)

utf8_fraction : (t : Tables) (ds : List ℕ) → IsRun 48 t.digits → IsUtf8 t.symbols.strings.decimal_separator → AllBelowBase 10 ds → IsUtf8 (fraction_text t ds)
utf8_fraction t [] run utf8 tens = IsUtf8-nil
utf8_fraction t (d ∷ ds) run utf8 tens =
    IsUtf8-append t.symbols.strings.decimal_separator (chained (map (digit_text t.digits) (d ∷ ds))) utf8 (utf8_chained (map (digit_text t.digits) (d ∷ ds)) (each_digit t.digits (d ∷ ds) run tens))

utf8_unsigned : (t : Tables) (d : Direct) (integer fraction : List ℕ) → AreHeld d t → AreFewDigits integer fraction → IsUtf8 (unsigned_text t (plain_number integer fraction))
utf8_unsigned t d integer fraction held h =
    let ds : List ℕ = map digit_value integer in
    let whole : IsUtf8 (whole_text t ds)
    = utf8_chained (joined (t.symbols.strings.grouping_separator ∷ []) (cut_by (group_sizes t.strategy t.symbols.grouping_sizes (length (map (digit_text t.digits) ds))) (map (digit_text t.digits) ds)))
    (each_joined t.symbols.strings.grouping_separator (group_sizes t.strategy t.symbols.grouping_sizes (length (map (digit_text t.digits) ds))) (map (digit_text t.digits) ds)
    (subst IsUtf8 held.group (IsUtf8-had d.group.now held.utf8_group)) (each_digit t.digits ds held.run (all_below_base_from_digits 10 integer (digits_told integer h.whole)))) in
    subst IsUtf8 (sym (unsigned_is t integer fraction h))
    (IsUtf8-append (whole_text t ds) (fraction_text t (map digit_value fraction)) whole
    (utf8_fraction t (map digit_value fraction) held.run (subst IsUtf8 held.decimal (IsUtf8-had d.decimal.now held.utf8_decimal)) (all_below_base_from_digits 10 fraction (digits_told fraction h.part))))

pub utf8_between : (t : Tables) (d : Direct) (integer fraction before behind : List ℕ) → AreHeld d t → AreFewDigits integer fraction → IsUtf8 before → IsUtf8 behind
    → IsUtf8 (before ++ (unsigned_text t (plain_number integer fraction) ++ behind))
utf8_between t d integer fraction before behind held h first last =
    IsUtf8-append before (unsigned_text t (plain_number integer fraction) ++ behind) first
    (IsUtf8-append (unsigned_text t (plain_number integer fraction)) behind (utf8_unsigned t d integer fraction held h) last)

pub utf8_decimal : (t : Tables) (d : Direct) (sign : Sign) (integer fraction : List ℕ) → AreHeld d t → AreFewDigits integer fraction
    → IsUtf8 (decimal_text t (record { sign = sign; absolute = plain_number integer fraction }))
utf8_decimal t d NoSign integer fraction held h = IsUtf8-append (unsigned_text t (plain_number integer fraction)) [] (utf8_unsigned t d integer fraction held h) IsUtf8-nil
utf8_decimal t d Negative integer fraction held h =
    utf8_between t d integer fraction t.symbols.strings.minus_sign_prefix t.symbols.strings.minus_sign_suffix held h
    (subst IsUtf8 held.prefix (IsUtf8-had d.prefix.now held.utf8_prefix)) (subst IsUtf8 held.suffix (IsUtf8-had d.suffix.now held.utf8_suffix))
utf8_decimal t d Positive integer fraction held h =
    utf8_between t d integer fraction t.symbols.strings.plus_sign_prefix t.symbols.strings.plus_sign_suffix held h
    (subst IsUtf8 held.plus_prefix (IsUtf8-had d.plus_prefix.now held.utf8_plus_prefix)) (subst IsUtf8 held.plus_suffix (IsUtf8-had d.plus_suffix.now held.utf8_plus_suffix))
