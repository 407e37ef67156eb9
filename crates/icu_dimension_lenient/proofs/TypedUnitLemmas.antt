-- What is read of a typed text with a unit is a spelling of that decimal.
use Rattle.std.proofs.Common.{◌≡◌, ◌≢◌, ◌⊎◌, inl, inr, ℕ, ◌-◌, Bool, true, false, cond, ◌&&◌, List, [], ◌∷◌, ◌++◌, length, take, drop, Option, None, Some, refl, sym, ap, subst, ◌∙◌, take-append-drop}
use Rattle.std.proofs.lemmas.Bool.{and_from, and_parts, true≢false}
use Rattle.std.specs.Cmp.Lexicographic.{bytes_decides}
use Rattle.std.specs.List.{list_all}
use Rattle.std.specs.Str.{bytes_eq, trim}
use Rattle.fixed_decimal.specs.Number.{Number}
use Rattle.fixed_decimal.specs.SignedValue.{SignedValue}
use Rattle.fixed_decimal.specs.declared.Sign.{Sign}
use Rattle.fixed_decimal.specs.declared.Sign.TheVariants.{None as NoSign, Negative, Positive}
use Rattle.fixed_decimal.proofs.SignedEqualityLemmas.{decimals_decide}
use Rattle.fixed_decimal.proofs.SignedReadOnceLemmas.{same_signed}
use Rattle.icu_decimal_symbols.specs.declared.options.GroupingStrategy.TheVariants.{Never, Always}
use Rattle.icu_decimal_symbols.specs.Symbols.{Symbols}
use Rattle.icu_decimal_plain.specs.PlainText.{Tables}
use Rattle.icu_decimal_reading.specs.DecimalOfText.{PlainReading, decimal, not_written, unreadable}
use Rattle.icu_decimal_reading.specs.PlainReading.{plain_reading}
use Rattle.icu_decimal_reading.specs.ReadingLaws.{AreTables}
use Rattle.icu_decimal_reading.proofs.LawLemmas.{plain_found}
use Rattle.icu_decimal_lenient.specs.Folding.{folded_symbols, folded_tables}
use Rattle.icu_decimal_lenient.specs.LenientReading.{IsGroupedText, IsTypedText, filled_text, or_else, read_either, trimmed_fold}
use Rattle.icu_decimal_lenient.proofs.FoldingLemmas.{are_folded}
use Rattle.icu_decimal_lenient.proofs.LenientLemmas.{lenient_is_typed}
use Rattle.icu_dimension_affixes.specs.UnitPatterns.{AffixPair}
use Rattle.icu_dimension_affixes.specs.UnitReading.{SignPairs, pair_for}
use Rattle.icu_dimension_affixes.specs.UnitText.{text_between}
use Rattle.icu_dimension_lenient.specs.Agreement.{DoDiffer, IsOneOf, agreed_reading, is_no_other}
use Rattle.icu_dimension_lenient.specs.LenientUnits.{FoldedUnit, back_of_some, beside_within, between, folded_ways, minus_pair, past_back, past_front, plus_pair, read_beside, read_between, read_named, read_own, read_rest, signed_as, signed_within, unit_ways, where_true, with_own_sign}
use Rattle.icu_dimension_lenient.specs.TypedUnits.{IsBeside, IsBesideWithin, IsBetween, IsFoldedSpelling, IsNamedSpelling, IsOwnSpelling, symbols_pair, unsigned}

no_unreadable : (v : SignedValue Number) → unreadable ≡ decimal v → ⊥
no_unreadable v e = cc

no_missing : (v : SignedValue Number) → not_written ≡ decimal v → ⊥
no_missing v e = cc

missing_apart : unreadable ≡ not_written → ⊥
missing_apart e = cc

pub same_decimal : (v w : SignedValue Number) → decimal v ≡ decimal w → v ≡ w
same_decimal v w e = cc

-- ---- readings that agree

same_reading : (v w : SignedValue Number) → is_no_other v (decimal w) ≡ true → v ≡ w
same_reading v w same = (decimals_decide v w).0 same

-- what is read where others are no other decimal
unless_is : (v w : SignedValue Number) (b : Bool) → cond b (decimal v) not_written ≡ decimal w → (v ≡ w) × (b ≡ true)
unless_is v w true e = (same_decimal v w e, refl)
unless_is v w false e = absurd (no_missing w e)

-- a decimal in which others agree is each of them
others_agree : (rs : List PlainReading) (v w : SignedValue Number) → list_all (is_no_other v) rs ≡ true → IsOneOf rs w → w ≡ v
others_agree (r ∷ rs) v w all (inl is) =
    sym (same_reading v w (ap (is_no_other v) (sym is) ∙ (and_parts (is_no_other v r) (list_all (is_no_other v) rs) all).0))
others_agree (r ∷ rs) v w all (inr is) = others_agree rs v w (and_parts (is_no_other v r) (list_all (is_no_other v) rs) all).1 is
others_agree [] v w all is = absurd is

pub all_agree : (rs : List PlainReading) (v w : SignedValue Number) → agreed_reading rs ≡ decimal v → IsOneOf rs w → w ≡ v
all_agree [] v w e is = absurd is
all_agree (unreadable ∷ rs) v w e is = absurd (no_unreadable v e)
all_agree (not_written ∷ rs) v w e (inl is) = absurd (no_missing w is)
all_agree (not_written ∷ rs) v w e (inr is) = all_agree rs v w e is
all_agree (decimal u ∷ rs) v w e (inl is) = sym (same_decimal u w is) ∙ (unless_is u v (list_all (is_no_other u) rs) e).0
all_agree (decimal u ∷ rs) v w e (inr is) =
    let parts = unless_is u v (list_all (is_no_other u) rs) e in
    others_agree rs u w parts.1 is ∙ parts.0

-- what is answered is one of them
pub one_is_read : (rs : List PlainReading) (v : SignedValue Number) → agreed_reading rs ≡ decimal v → IsOneOf rs v
one_is_read [] v e = absurd (no_missing v e)
one_is_read (unreadable ∷ rs) v e = absurd (no_unreadable v e)
one_is_read (not_written ∷ rs) v e = inr (one_is_read rs v e)
one_is_read (decimal u ∷ rs) v e = inl (ap decimal (unless_is u v (list_all (is_no_other u) rs) e).0)

-- others that are no other decimal
pub no_others : (rs : List PlainReading) (v : SignedValue Number) → ((w : SignedValue Number) → IsOneOf rs w → w ≡ v) → list_all (is_no_other v) rs ≡ true
no_others [] v same = refl
no_others (r ∷ rs) v same = and_from (is_no_other v r) (list_all (is_no_other v) rs) (by r refl) (no_others rs v (λ w is. same w (inr is)))
  where
    by : (x : PlainReading) → r ≡ x → is_no_other v x ≡ true
    by unreadable is = refl
    by not_written is = refl
    by (decimal w) is = (decimals_decide v w).1 (sym (same w (inl is)))

-- where none is answered, none is read or two differ
abbrev Another : List PlainReading → SignedValue Number → Type 0
Another rs v = (w : SignedValue Number) × (IsOneOf rs w × (v ≢ w))

more_differ : (r : PlainReading) (rs : List PlainReading) (v : SignedValue Number) → Another rs v → Another (r ∷ rs) v
more_differ r rs v found = (found.0, (inr found.1.0, found.1.1))

this_differs : (r : PlainReading) (rs : List PlainReading) (v : SignedValue Number) (x : PlainReading) → r ≡ x → is_no_other v x ≡ false → Another (r ∷ rs) v
this_differs r rs v unreadable is other = absurd (true≢false other)
this_differs r rs v not_written is other = absurd (true≢false other)
this_differs r rs v (decimal w) is other = (w, (inl is, λ same. true≢false (sym ((decimals_decide v w).1 same) ∙ other)))

another_by : (r : PlainReading) (rs : List PlainReading) (v : SignedValue Number) (b : Bool) → is_no_other v r ≡ b → (b && list_all (is_no_other v) rs) ≡ false
    → (list_all (is_no_other v) rs ≡ false → Another rs v) → Another (r ∷ rs) v
another_by r rs v true same fails rest = more_differ r rs v (rest fails)
another_by r rs v false other fails rest = this_differs r rs v r refl other

another : (rs : List PlainReading) (v : SignedValue Number) → list_all (is_no_other v) rs ≡ false → Another rs v
another [] v fails = absurd (true≢false fails)
another (r ∷ rs) v fails = another_by r rs v (is_no_other v r) refl fails (λ more. another rs v more)

differ_after : (r : PlainReading) (rs : List PlainReading) → DoDiffer rs → DoDiffer (r ∷ rs)
differ_after r rs d = record { one = d.one; two = d.two; first = inr d.first; second = inr d.second; differ = d.differ }

pub none_or_two : (rs : List PlainReading) → agreed_reading rs ≡ not_written → ((v : SignedValue Number) → ¬ (IsOneOf rs v)) ⊎ DoDiffer rs
none_or_two [] e = inl (λ v is. is)
none_or_two (unreadable ∷ rs) e = absurd (missing_apart e)
none_or_two (not_written ∷ rs) e = by (none_or_two rs e)
  where
    by : ((v : SignedValue Number) → ¬ (IsOneOf rs v)) ⊎ DoDiffer rs → ((v : SignedValue Number) → ¬ (IsOneOf (not_written ∷ rs) v)) ⊎ DoDiffer (not_written ∷ rs)
    by (inl none) = inl none_more
      where
        none_more : (v : SignedValue Number) → IsOneOf (not_written ∷ rs) v → ⊥
        none_more v (inl is) = no_missing v is
        none_more v (inr is) = none v is
    by (inr two) = inr (differ_after not_written rs two)
none_or_two (decimal u ∷ rs) e = inr (by (list_all (is_no_other u) rs) refl e)
  where
    by : (b : Bool) → list_all (is_no_other u) rs ≡ b → cond b (decimal u) not_written ≡ not_written → DoDiffer (decimal u ∷ rs)
    by true is e = absurd (no_missing u (sym e))
    by false is e = let found = another rs u is in record { one = u; two = found.0; first = inl refl; second = inr found.1.0; differ = found.1.1 }

-- ---- ends of a text

same_some : (one other : List ℕ) → Some one ≡ Some other → one ≡ other
same_some one other e = cc

front_again : (name text rest : List ℕ) → past_front name text ≡ Some rest → name ++ rest ≡ text
front_again name text rest is = by (bytes_eq (take (length name) text) name) refl is
  where
    by : (b : Bool) → bytes_eq (take (length name) text) name ≡ b → where_true b (drop (length name) text) ≡ Some rest → name ++ rest ≡ text
    by true same e =
        ap (λ front. front ++ rest) (sym ((bytes_decides (take (length name) text) name).0 same))
        ∙ ap (λ end. take (length name) text ++ end) (sym (same_some (drop (length name) text) rest e)) ∙ take-append-drop (length name) text
    by false other e = absurd (none_some e)
      where
        none_some : None ≡ Some rest → ⊥
        none_some e = cc

back_again : (name text rest : List ℕ) → past_back name text ≡ Some rest → rest ++ name ≡ text
back_again name text rest is = by (bytes_eq (drop (length text - length name) text) name) refl is
  where
    by : (b : Bool) → bytes_eq (drop (length text - length name) text) name ≡ b → where_true b (take (length text - length name) text) ≡ Some rest → rest ++ name ≡ text
    by true same e =
        ap (λ end. rest ++ end) (sym ((bytes_decides (drop (length text - length name) text) name).0 same))
        ∙ ap (λ front. front ++ drop (length text - length name) text) (sym (same_some (take (length text - length name) text) rest e))
        ∙ take-append-drop (length text - length name) text
    by false other e = absurd (none_some e)
      where
        none_some : None ≡ Some rest → ⊥
        none_some e = cc

pub between_again : (pair : AffixPair) (text inner : List ℕ) → between pair text ≡ Some inner → text_between pair inner ≡ text
between_again pair text inner is = by (past_front pair.before text) refl is
  where
    by : (o : Option (List ℕ)) → past_front pair.before text ≡ o → back_of_some pair.after o ≡ Some inner → text_between pair inner ≡ text
    by None front e = absurd (none_some e)
      where
        none_some : None ≡ Some inner → ⊥
        none_some e = cc
    by (Some rest) front e = ap (λ end. pair.before ++ end) (back_again pair.after rest inner e) ∙ front_again pair.before text rest front

-- ---- a number

from_else : (v : SignedValue Number) (one other : PlainReading) → or_else one other ≡ decimal v → (one ≡ decimal v) ⊎ (other ≡ decimal v)
from_else v unreadable other e = absurd (no_unreadable v e)
from_else v not_written other e = inr e
from_else v (decimal w) other e = inl e

from_either : (t : Tables) (text : List ℕ) (v : SignedValue Number) → AreTables t → read_either (folded_symbols t) text ≡ decimal v → IsGroupedText (folded_symbols t) text v
from_either t text v are e = by (from_else v (plain_reading (folded_tables Never t) text) (plain_reading (folded_tables Always t) text) e)
  where
    by : (plain_reading (folded_tables Never t) text ≡ decimal v) ⊎ (plain_reading (folded_tables Always t) text ≡ decimal v) → IsGroupedText (folded_symbols t) text v
    by (inl is) = inl (plain_found (folded_tables Never t) text v (are_folded t Never are) is)
    by (inr is) = inr (plain_found (folded_tables Always t) text v (are_folded t Always are) is)

-- a decimal that has got its sign
record IsSigned (r : PlainReading) (sign : Sign) (v : SignedValue Number) : Type 0 where
  pub signed : v.sign ≡ sign
  pub number : r ≡ decimal (unsigned v)

from_signed : (r : PlainReading) (sign : Sign) (v : SignedValue Number) → signed_as sign r ≡ decimal v → IsSigned r sign v
from_signed unreadable sign v e = absurd (no_unreadable v e)
from_signed not_written sign v e = absurd (no_missing v e)
from_signed (decimal w) sign v e = by w.sign refl e
  where
    by : (s : Sign) → w.sign ≡ s → with_own_sign sign s w.absolute ≡ decimal v → IsSigned (decimal w) sign v
    by NoSign none e =
        let same : record { sign = sign; absolute = w.absolute } ≡ v = same_decimal (record { sign = sign; absolute = w.absolute }) v e in
        record {
          signed = sym (ap (λ (d : SignedValue Number). d.sign) same);
          number = ap decimal (same_signed w (unsigned v) none (ap (λ (d : SignedValue Number). d.absolute) same));
        }
    by Negative none e = absurd (no_missing v e)
    by Positive none e = absurd (no_missing v e)

-- ---- between affixes

module _ (t : Tables) (are : AreTables t) where
  abbrev folded : Symbols
  folded = folded_symbols t

  between_is : (sign : Sign) (pair : AffixPair) (text : List ℕ) (v : SignedValue Number) → read_between folded sign pair text ≡ decimal v → (v.sign ≡ sign) × IsBetween folded pair text v
  between_is sign pair text v e = by (between pair text) refl e
    where
      by : (o : Option (List ℕ)) → between pair text ≡ o → signed_within folded sign o ≡ decimal v → (v.sign ≡ sign) × IsBetween folded pair text v
      by None is e = absurd (no_missing v e)
      by (Some inner) is e =
          let found = from_signed (read_either folded inner) sign v e in
          (found.signed, record { inner = inner; between = between_again pair text inner is; number = from_either t inner (unsigned v) are found.number })

  pub own_is : (pairs : SignPairs) (text : List ℕ) (v : SignedValue Number) → read_own folded pairs text ≡ decimal v → IsOwnSpelling folded pairs text v
  own_is pairs text v e =
      first (from_else v (read_between folded NoSign pairs.none text) (or_else (read_between folded Negative pairs.minus text) (read_between folded Positive pairs.plus text)) e)
    where
      at : (sign : Sign) → (v.sign ≡ sign) × IsBetween folded (pair_for pairs sign) text v → IsOwnSpelling folded pairs text v
      at sign found = subst (λ s. IsBetween folded (pair_for pairs s) text v) (sym found.0) found.1

      second : (read_between folded Negative pairs.minus text ≡ decimal v) ⊎ (read_between folded Positive pairs.plus text ≡ decimal v) → IsOwnSpelling folded pairs text v
      second (inl is) = at Negative (between_is Negative pairs.minus text v is)
      second (inr is) = at Positive (between_is Positive pairs.plus text v is)

      first : (read_between folded NoSign pairs.none text ≡ decimal v) ⊎ (or_else (read_between folded Negative pairs.minus text) (read_between folded Positive pairs.plus text) ≡ decimal v)
          → IsOwnSpelling folded pairs text v
      first (inl is) = at NoSign (between_is NoSign pairs.none text v is)
      first (inr is) = second (from_else v (read_between folded Negative pairs.minus text) (read_between folded Positive pairs.plus text) is)

  -- ---- beside a name

  rest_is : (name text : List ℕ) (v : SignedValue Number) (o : Option (List ℕ)) → ((rest : List ℕ) → o ≡ Some rest → (name ++ rest ≡ text) ⊎ (rest ++ name ≡ text))
      → read_rest folded o ≡ decimal v → IsBeside folded name text v
  rest_is name text v None is e = absurd (no_missing v e)
  rest_is name text v (Some rest) is e = record { rest = rest; beside = is rest refl; number = from_either t (trim rest) v are e }

  beside_is : (name text : List ℕ) (v : SignedValue Number) → read_beside folded name text ≡ decimal v → IsBeside folded name text v
  beside_is name text v e = by (from_else v (read_rest folded (past_front name text)) (read_rest folded (past_back name text)) e)
    where
      by : (read_rest folded (past_front name text) ≡ decimal v) ⊎ (read_rest folded (past_back name text) ≡ decimal v) → IsBeside folded name text v
      by (inl is) = rest_is name text v (past_front name text) (λ rest at. inl (front_again name text rest at)) is
      by (inr is) = rest_is name text v (past_back name text) (λ rest at. inr (back_again name text rest at)) is

  within_is : (name : List ℕ) (sign : Sign) (pair : AffixPair) (text : List ℕ) (v : SignedValue Number) → beside_within folded name sign (between pair text) ≡ decimal v
      → (v.sign ≡ sign) × IsBesideWithin folded pair name text v
  within_is name sign pair text v e = by (between pair text) refl e
    where
      by : (o : Option (List ℕ)) → between pair text ≡ o → beside_within folded name sign o ≡ decimal v → (v.sign ≡ sign) × IsBesideWithin folded pair name text v
      by None is e = absurd (no_missing v e)
      by (Some inner) is e =
          let found = from_signed (read_beside folded name (trim inner)) sign v e in
          (found.signed, record { inner = inner; between = between_again pair text inner is; beside = beside_is name (trim inner) (unsigned v) found.number })

  named_is : (name text : List ℕ) (v : SignedValue Number) → read_named folded name text ≡ decimal v → IsNamedSpelling folded name text v
  named_is name text v e = first (from_else v (read_beside folded name text) (or_else minus plus) e)
    where
      minus : PlainReading
      minus = beside_within folded name Negative (between (minus_pair folded) text)

      plus : PlainReading
      plus = beside_within folded name Positive (between (plus_pair folded) text)

      at : (sign : Sign) → (v.sign ≡ sign) × IsBesideWithin folded (symbols_pair folded sign) name text v → IsNamedSpelling folded name text v
      at sign found = inr (subst (λ s. IsBesideWithin folded (symbols_pair folded s) name text v) (sym found.0) found.1)

      second : (minus ≡ decimal v) ⊎ (plus ≡ decimal v) → IsNamedSpelling folded name text v
      second (inl is) = at Negative (within_is name Negative (minus_pair folded) text v is)
      second (inr is) = at Positive (within_is name Positive (plus_pair folded) text v is)

      first : (read_beside folded name text ≡ decimal v) ⊎ (or_else minus plus ≡ decimal v) → IsNamedSpelling folded name text v
      first (inl is) = inl (beside_is name text v is)
      first (inr is) = second (from_else v minus plus is)

  folded_is : (u : FoldedUnit) (text : List ℕ) (v : SignedValue Number) → IsOneOf (folded_ways folded u text) v → IsFoldedSpelling folded u text v
  folded_is u text v (inl is) = inl (own_is u.pairs text v is)
  folded_is u text v (inr (inl is)) = inr (inl (named_is u.unit text v is))
  folded_is u text v (inr (inr (inl is))) = inr (inr (inl (named_is u.code text v is)))
  folded_is u text v (inr (inr (inr (inl is)))) = inr (inr (inr (own_is u.pairs (filled_text folded.strings.decimal_separator text) v is)))
  folded_is u text v (inr (inr (inr (inr is)))) = absurd is

  pub way_is_typed : (u : FoldedUnit) (text : List ℕ) (v : SignedValue Number) → IsOneOf (unit_ways t u text) v → IsTypedText t text v ⊎ IsFoldedSpelling folded u (trimmed_fold t text) v
  way_is_typed u text v (inl is) = inl (lenient_is_typed t text v are is)
  way_is_typed u text v (inr is) = inr (folded_is u (trimmed_fold t text) v is)
