-- What the one subtag of a value gives: a subdivision of that text, a currency that is a piece.
use Rattle.std.proofs.Common.{◌≡◌, ℕ, Bool, true, false, [], ◌∷◌, ◌++◌, None, Some, refl, length, eqb, sym, ap, ◌∙◌, arith}
use Rattle.std.specs.Prelude.{if◌then◌else◌}
use Rattle.std.proofs.lemmas.Bool.{and_parts, and_from, eqb-true}
use Rattle.std.proofs.lemmas.Bool.Decides.{nat_tests}
use Rattle.std.proofs.lemmas.List.{map-append}
use Rattle.std.specs.Char.{is_ascii_alphabetic, to_ascii_lowercase}
use Rattle.std.specs.Int.{is_in_range}
use Rattle.std.specs.List.{list_all}
use Rattle.icu_locale_core_grammar.specs.Subtags.{Text, is_plain, is_other_piece, is_true, lower}
use Rattle.icu_locale_core_grammar.specs.TagPreferences.{Subdivision, subdivision_of, subdivision_text}
use Rattle.icu_locale_core_grammar.proofs.CaseLemmas.{lower-upper}
use Rattle.icu_locale_core_grammar.proofs.PlainSubtags.{language_plain}
use Rattle.icu_locale_core_grammar.proofs.PreferenceLemmas.{subdivision_spells}
use Rattle.icu_locale_core_preference_keywords.specs.TypedKeywords.{IsOwnPiece, is_currency, stated_currency, stated_subdivision}

-- ---- subdivisions

spelled_text : (text : Text) (s : Subdivision) → lower text ≡ text → subdivision_of text ≡ Some s → subdivision_text s ≡ text
spelled_text text s lowered e =
    let own = subdivision_spells text s e in
    ap subdivision_text (sym own.meant)
    ∙ ap (λ region. region ++ lower own.suffix) (lower-upper own.region)
    ∙ sym (map-append to_ascii_lowercase own.region own.suffix)
    ∙ ap lower own.parts ∙ lowered

pub subdivision_spelled : (text : Text) (s : Subdivision) → subdivision_of text ≡ Some s → lower text ≡ text → is_true text ≡ false → IsOwnPiece stated_subdivision subdivision_text s
subdivision_spelled text s e lowered other =
    let same = spelled_text text s lowered e in
    record { lowered = ap lower same ∙ lowered ∙ sym same; other = ap is_true same ∙ other; states = ap subdivision_of same ∙ e }

-- ---- currencies

three_in_range : (n : ℕ) → n ≡ 3 → is_in_range 2 8 n ≡ true
three_in_range n e = grind (arith, nat_tests)

three_in_language : (n : ℕ) → n ≡ 3 → is_in_range 2 3 n ≡ true
three_in_language n e = grind (arith, nat_tests)

is_then : (b : Bool) (p q : Text) → (if b then Some p else None) ≡ Some q → b ≡ true
is_then true p q e = refl
is_then false p q e = cc

pub currency_letters : (p q : Text) → stated_currency (p ∷ []) ≡ Some q → is_currency p ≡ true
currency_letters p q e = is_then (is_currency p) p q e

pub currency_is_piece : (p q : Text) → stated_currency (p ∷ []) ≡ Some q → is_other_piece p ≡ true
currency_is_piece p q stated =
    let e = currency_letters p q stated in
    let parts = and_parts (eqb (length p) 3) (list_all is_ascii_alphabetic p) e in
    let long : length p ≡ 3 = eqb-true (length p) 3 parts.0 in
    let plain : is_plain p ≡ true = language_plain p (and_from (is_in_range 2 3 (length p)) (list_all is_ascii_alphabetic p) (three_in_language (length p) long) parts.1) in
    and_from (is_in_range 2 8 (length p)) (is_plain p) (three_in_range (length p) long) plain
