-- A compact text has one reading, and a printed one reads back.
use Rattle.std.proofs.Common.{◌≡◌, ℕ, zero, suc, ◌+◌, ◌*◌, ◌<◌, List, [], ◌∷◌, length, get_or, map, refl, sym, ap, ◌∙◌, subst, arith, inl, inr}
use Rattle.std.proofs.lemmas.Int.Digits.{all_below_base_digits_of, first_digits_of, number_digits_of}
use Rattle.std.specs.Int.Digits.{AllBelowBase, digits_of, number_from_digits_after}
use Rattle.std.specs.Str.Parse.{digits_value_after}
use Rattle.fixed_decimal_signed.specs.Number.{Number}
use Rattle.fixed_decimal_signed.specs.NumberText.{AreDigits, spelled, character, digit_zero}
use Rattle.fixed_decimal_signed.proofs.PrintedLemmas.{character_value}
use Rattle.fixed_decimal_signed.proofs.TextPartsLemmas.{cons_tail}
use Rattle.fixed_decimal.specs.CompactText.{CompactValue, IsCompact, after_compact_mark, StartsNoZero, SpellsCompact, ReadsCompact, PassesExponent, IsBeyondCompact, compact_text_of}
use Rattle.fixed_decimal.specs.PlainText.{compact_mark}
use Rattle.fixed_decimal_signed.specs.SignedText.{ReadsSigned, signed_text_of}
use Rattle.fixed_decimal_signed.specs.SignedValue.{SignedValue}
use Rattle.fixed_decimal.proofs.CompactTextLemmas.{after_marked, found_compact}
use Rattle.fixed_decimal.proofs.PlainTextLemmas.{plain_printed}
use Rattle.fixed_decimal.proofs.SignedReadOnceLemmas.{signed_reads_once, signed_not_beyond, signed_printed, same_printed}

same_after : (ds es : List ℕ) → after_compact_mark ds ≡ after_compact_mark es → ds ≡ es
same_after [] [] e = refl
same_after [] (d ∷ ds) e = absurd (cc)
same_after (d ∷ ds) [] e = absurd (cc)
same_after (d ∷ ds) (c ∷ cs) e = cons_tail compact_mark compact_mark (d ∷ ds) (c ∷ cs) e

record IsSameCompact (a b c d : List ℕ) : Type 0 where
  pub front : a ≡ b
  pub digits : c ≡ d

same_spelled : (text front digits other more : List ℕ) → SpellsCompact text front digits → SpellsCompact text other more → IsSameCompact front other digits more
same_spelled text front digits other more h k =
    let found = found_compact text front (after_compact_mark digits) h.whole h.plain (after_marked digits) other more k in
    record { front = found.0; digits = same_after digits more found.1 }

abbrev compact_of : SignedValue Number → ℕ → CompactValue
compact_of significand exponent = record { significand = significand; exponent = exponent }

pub same_compact : (a b : CompactValue) → a.significand ≡ b.significand → a.exponent ≡ b.exponent → a ≡ b
same_compact a b e f =
    let first : compact_of a.significand a.exponent ≡ compact_of b.significand a.exponent = ap (λ s. compact_of s a.exponent) e in
    let second : compact_of b.significand a.exponent ≡ compact_of b.significand b.exponent = ap (λ n. compact_of b.significand n) f in
    first ∙ second

pub compact_reads_once : (text : List ℕ) (a b : CompactValue) → ReadsCompact text a → ReadsCompact text b → a ≡ b
compact_reads_once text a b h k =
    let same = same_spelled text h.front h.digits k.front k.digits h.spells k.spells in
    same_compact a b
    (signed_reads_once k.front a.significand b.significand (subst (λ t. ReadsSigned t a.significand) same.front h.significand) k.significand)
    (h.exponent ∙ ap spelled same.digits ∙ sym k.exponent)

passes_not : (v : CompactValue) (text front digits : List ℕ) (h : ReadsCompact text v) → h.digits ≡ digits → PassesExponent front digits → ⊥
passes_not v text front digits h e k =
    let fits = h.fits in let above = k.above in let is = h.exponent in let same : spelled h.digits ≡ spelled digits = ap spelled e in omega arith

beyond_not : (v : CompactValue) (text : List ℕ) (h : ReadsCompact text v) (k : IsBeyondCompact text) → IsSameCompact h.front k.front h.digits k.digits → ⊥
beyond_not v text h k same =
    elim k.beyond [
      | inl beyond ↦ signed_not_beyond k.front v.significand (subst (λ t. ReadsSigned t v.significand) same.front h.significand) beyond
      | inr passes ↦ passes_not v text k.front k.digits h same.digits passes
    ]

pub compact_not_beyond : (text : List ℕ) (v : CompactValue) → ReadsCompact text v → IsBeyondCompact text → ⊥
compact_not_beyond text v h k = beyond_not v text h k (same_spelled text h.front h.digits k.front k.digits h.spells k.spells)

characters_are_digits : (ds : List ℕ) → AllBelowBase 10 ds → AreDigits (map character ds)
characters_are_digits [] h = tt
characters_are_digits (d ∷ ds) h = (subst (λ x. x < 10) (sym (character_value d h.0)) h.0, characters_are_digits ds h.1)

characters_spell : (n : ℕ) (ds : List ℕ) → AllBelowBase 10 ds → digits_value_after 10 n (map character ds) ≡ number_from_digits_after 10 n ds
characters_spell n [] h = refl
characters_spell n (d ∷ ds) h =
    ap (λ x. digits_value_after 10 (n * 10 + x) (map character ds)) (character_value d h.0) ∙ characters_spell (n * 10 + d) ds h.1

first_no_zero : (ds : List ℕ) → (0 < length ds → 0 < get_or ds 0 0) → StartsNoZero (map character ds)
first_no_zero [] h = tt
first_no_zero (d ∷ ds) h = λ (e : character d ≡ digit_zero). let some : 0 < d = h (omega arith) in omega arith

first_of : (n : ℕ) → 0 < length (digits_of 10 n) → 0 < get_or (digits_of 10 n) 0 0
first_of zero h = absurd (omega arith)
first_of (suc n) h = first_digits_of 10 (suc n) (omega arith) (omega arith)

pub compact_printed : (v : CompactValue) → IsCompact v → ReadsCompact (compact_text_of v) v
compact_printed v h =
    let ds = digits_of 10 v.exponent in
    let below : AllBelowBase 10 ds = all_below_base_digits_of 10 v.exponent (omega arith) in
    record {
      front = signed_text_of v.significand;
      digits = map character ds;
      spells = record {
        whole = refl;
        plain = plain_printed v.significand;
        are_digits = characters_are_digits ds below;
        first = first_no_zero ds (first_of v.exponent);
      };
      significand = signed_printed v.significand h.significand;
      exponent = sym (characters_spell 0 ds below ∙ number_digits_of 10 v.exponent (omega arith));
      fits = h.exponent;
    }

pub compact_equal : (a b : CompactValue) → IsCompact a → IsCompact b → compact_text_of a ≡ compact_text_of b → a ≡ b
compact_equal a b h k e =
    same_printed ReadsCompact (compact_text_of a) (compact_text_of b) a b compact_reads_once (compact_printed a h) (compact_printed b k) e
