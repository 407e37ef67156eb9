-- What is read exactly is read leniently, as the same decimal; what is read leniently is a text of the decimal, and what is not is one of none.
use Rattle.std.proofs.Common.{◌≡◌, ◌⊎◌, inl, inr, ℕ, Bool, true, false, cond, List, refl, sym, ap, ◌∙◌}
use Rattle.std.proofs.lemmas.Bool.{and_parts, false≢true}
use Rattle.std.specs.Str.{IsUtf8, trim}
use Rattle.fixed_decimal.specs.Number.{Number}
use Rattle.fixed_decimal.specs.SignedValue.{SignedValue}
use Rattle.fixed_decimal.specs.TextLaws.{IsDecimal}
use Rattle.icu_decimal_symbols.specs.Symbols.{Symbols}
use Rattle.icu_decimal_symbols.specs.declared.options.GroupingStrategy.{GroupingStrategy}
use Rattle.icu_decimal_symbols.specs.declared.options.GroupingStrategy.TheVariants.{Never, Always}
use Rattle.icu_decimal_plain.specs.PlainText.{Tables, decimal_text}
use Rattle.icu_decimal_reading.specs.DecimalOfText.{PlainReading, decimal, not_written, unreadable}
use Rattle.icu_decimal_lenient.specs.Folding.{folded_alike, folded_symbols, folded_tables, folded_text}
use Rattle.icu_decimal_lenient.specs.LenientLaws.{EachGroupingIsLenient, ExactIsLenient, LenientIsTyped, LenientIsUnreadable, LenientMisses, WrittenReadsLeniently, grouped_as, under}
use Rattle.icu_decimal_lenient.specs.LenientReading.{IsGroupedText, IsTypedText, IsUnreadable, filled_fold, filled_text, folded_reading, is_leniently_readable_by, lenient_reading, or_else, read_either, read_folded, read_trimmed, trimmed_fold, with_folded}
use Rattle.icu_decimal_reading.specs.PlainReading.{plain_reading}
use Rattle.icu_decimal_reading.specs.Readable.{is_readable_by}
use Rattle.icu_decimal_reading.specs.ReadingLaws.{AreTables}
use Rattle.icu_decimal_lenient.proofs.FilledLemmas.{filled_utf8, trim_utf8}
use Rattle.icu_decimal_lenient.proofs.GroupingLemmas.{are_under, groupings_one, two_groupings}
use Rattle.icu_decimal_lenient.proofs.FoldingLemmas.{are_alike, are_folded, fold_of_text, folded_utf8}
use Rattle.icu_decimal_reading.proofs.LawLemmas.{nothing_found, plain_again, plain_found, reads_back, unreadable_is}
use Rattle.icu_decimal_reading.proofs.ReadingLemmas.{reading_unreadable}

-- ---- what is read exactly is read leniently

-- a text with groups that is read without them is read as the same decimal
second_reading : (t : Tables) (text : List ℕ) (v : SignedValue Number) (r : PlainReading) → AreTables t → is_readable_by t ≡ true → IsUtf8 text → IsDecimal v
    → decimal_text (under Always t) v ≡ text → plain_reading (under Never t) text ≡ r → or_else r (plain_reading (under Always t) text) ≡ decimal v
second_reading t text v unreadable are readable utf8 is written e = absurd (false≢true (sym (unreadable_is (under Never t) text e) ∙ readable))
second_reading t text v not_written are readable utf8 is written e =
    plain_again (under Always t) text v (are_under t Always are) readable utf8 (record { decimal = is; written = written })
second_reading t text v (decimal w) are readable utf8 is written e =
    let plain = plain_found (under Never t) text w (are_under t Never are) e in
    ap decimal (groupings_one t Never Always w v are readable plain.decimal is (plain.written ∙ sym written))

pub are_grouped : (t : Tables) (strategy : GroupingStrategy) → AreTables t → AreTables (grouped_as strategy t)
are_grouped t strategy are = record { ten = are.ten; digits = are.digits; minus_prefix = are.minus_prefix; minus_suffix = are.minus_suffix; plus_prefix = are.plus_prefix; plus_suffix = are.plus_suffix; point = are.point; group = are.group }

-- the text of a decimal, under any grouping
pub either_again : (t : Tables) (text : List ℕ) (v : SignedValue Number) → AreTables t → is_readable_by t ≡ true → IsUtf8 text → IsDecimal v → decimal_text t v ≡ text
    → or_else (plain_reading (grouped_as Never t) text) (plain_reading (grouped_as Always t) text) ≡ decimal v
either_again t text v are readable utf8 is written = by (two_groupings t v)
  where
    by : (decimal_text t v ≡ decimal_text (grouped_as Never t) v) ⊎ (decimal_text t v ≡ decimal_text (grouped_as Always t) v) → or_else (plain_reading (grouped_as Never t) text) (plain_reading (grouped_as Always t) text) ≡ decimal v
    by (inl e) = ap (λ r. or_else r (plain_reading (grouped_as Always t) text)) (plain_again (grouped_as Never t) text v (are_grouped t Never are) readable utf8 (record { decimal = is; written = sym e ∙ written }))
    by (inr e) = second_reading (grouped_as Always t) text v (plain_reading (grouped_as Never t) text) (are_grouped t Always are) readable utf8 is (sym e ∙ written) refl

pub exact_is_lenient : ExactIsLenient
exact_is_lenient t text v e = ap (λ r. or_else r (folded_reading t text)) e

-- what is read exactly, under any grouping, is read once it is folded
folded_again : (t : Tables) (strategy : GroupingStrategy) (text : List ℕ) (v : SignedValue Number) → AreTables t → IsUtf8 text → is_leniently_readable_by t ≡ true
    → plain_reading (under strategy t) text ≡ decimal v → folded_reading t text ≡ decimal v
folded_again t strategy text v are utf8 readable e =
    let tables : Tables = under strategy t in
    let plain = plain_found tables text v (are_under t strategy are) e in
    let parts = and_parts (is_readable_by t) (is_readable_by (folded_tables Never t)) readable in
    let folded : List ℕ = folded_text t.digits text in
    let written : decimal_text (folded_alike tables) v ≡ folded =
    sym (fold_of_text tables v (are_under t strategy are) parts.0 plain.decimal) ∙ ap (folded_text t.digits) plain.written in
    let either : read_either (folded_symbols t) folded ≡ decimal v = either_again (folded_alike tables) folded v (are_alike tables (are_under t strategy are)) parts.1 (folded_utf8 t.digits text are.ten utf8) plain.decimal written in
    ap (λ b. cond b (read_folded (folded_symbols t) folded) unreadable) readable ∙ ap (λ r. or_else r (read_trimmed (folded_symbols t) folded)) either

pub each_grouping_is_lenient : EachGroupingIsLenient
each_grouping_is_lenient t strategy text v are utf8 readable e = by (plain_reading t text) refl
  where
    holds : is_readable_by t ≡ true
    holds = (and_parts (is_readable_by t) (is_readable_by (folded_tables Never t)) readable).0

    by : (r : PlainReading) → plain_reading t text ≡ r → or_else r (folded_reading t text) ≡ decimal v
    by unreadable is = absurd (false≢true (sym (unreadable_is t text is) ∙ holds))
    by not_written is = folded_again t strategy text v are utf8 readable e
    by (decimal w) is =
        let own = plain_found t text w are is in
        let other = plain_found (under strategy t) text v (are_under t strategy are) e in
        ap decimal (groupings_one t t.strategy strategy w v are holds own.decimal other.decimal (own.written ∙ sym other.written))

pub written_reads_leniently : WrittenReadsLeniently
written_reads_leniently t v are readable is = exact_is_lenient t (decimal_text t v) v (reads_back t v are readable is)

-- ---- what is read leniently is a text of the decimal

no_unreadable : (v : SignedValue Number) → unreadable ≡ decimal v → ⊥
no_unreadable v e = cc

pub from_else : (v : SignedValue Number) (one other : PlainReading) → or_else one other ≡ decimal v → (one ≡ decimal v) ⊎ (other ≡ decimal v)
from_else v unreadable other e = absurd (no_unreadable v e)
from_else v not_written other e = inr e
from_else v (decimal w) other e = inl e

from_either : (t : Tables) (text : List ℕ) (v : SignedValue Number) → AreTables t → read_either (folded_symbols t) text ≡ decimal v → IsGroupedText (folded_symbols t) text v
from_either t text v are e = by (from_else v (plain_reading (folded_tables Never t) text) (plain_reading (folded_tables Always t) text) e)
  where
    by : (plain_reading (folded_tables Never t) text ≡ decimal v) ⊎ (plain_reading (folded_tables Always t) text ≡ decimal v) → IsGroupedText (folded_symbols t) text v
    by (inl is) = inl (plain_found (folded_tables Never t) text v (are_folded t Never are) is)
    by (inr is) = inr (plain_found (folded_tables Always t) text v (are_folded t Always are) is)

pub from_cond : (b : Bool) (r : PlainReading) (v : SignedValue Number) → cond b r unreadable ≡ decimal v → r ≡ decimal v
from_cond true r v e = e
from_cond false r v e = absurd (no_unreadable v e)

pub lenient_is_typed : LenientIsTyped
lenient_is_typed t text v are e = first (from_else v (plain_reading t text) (folded_reading t text) e)
  where
    folded : List ℕ
    folded = folded_text t.digits text

    last : (read_either (folded_symbols t) (trimmed_fold t text) ≡ decimal v) ⊎ (read_either (folded_symbols t) (filled_fold t text) ≡ decimal v) → IsTypedText t text v
    last (inl is) = inr (inr (inl (from_either t (trimmed_fold t text) v are is)))
    last (inr is) = inr (inr (inr (from_either t (filled_fold t text) v are is)))

    second : (read_either (folded_symbols t) folded ≡ decimal v) ⊎ (read_trimmed (folded_symbols t) folded ≡ decimal v) → IsTypedText t text v
    second (inl is) = inr (inl (from_either t folded v are is))
    second (inr is) = last (from_else v (read_either (folded_symbols t) (trimmed_fold t text)) (read_either (folded_symbols t) (filled_fold t text)) is)

    first : (plain_reading t text ≡ decimal v) ⊎ (folded_reading t text ≡ decimal v) → IsTypedText t text v
    first (inl is) = inl (plain_found t text v are is)
    first (inr is) = second (from_else v (read_either (folded_symbols t) folded) (read_trimmed (folded_symbols t) folded) (from_cond (is_leniently_readable_by t) (read_folded (folded_symbols t) folded) v is))

-- ---- and what is not read is not one

pub none_else : (one other : PlainReading) → or_else one other ≡ not_written → (one ≡ not_written) × (other ≡ not_written)
none_else unreadable other e = absurd (unreadable_apart e)
  where
    unreadable_apart : unreadable ≡ not_written → ⊥
    unreadable_apart e = cc
none_else not_written other e = (refl, e)
none_else (decimal v) other e = absurd (decimal_apart e)
  where
    decimal_apart : decimal v ≡ not_written → ⊥
    decimal_apart e = cc

pub none_cond : (b : Bool) (r : PlainReading) → cond b r unreadable ≡ not_written → (b ≡ true) × (r ≡ not_written)
none_cond true r e = (refl, e)
none_cond false r e = absurd (unreadable_apart e)
  where
    unreadable_apart : unreadable ≡ not_written → ⊥
    unreadable_apart e = cc

none_either : (t : Tables) (text : List ℕ) (v : SignedValue Number) → AreTables t → is_leniently_readable_by t ≡ true → IsUtf8 text → read_either (folded_symbols t) text ≡ not_written → IsGroupedText (folded_symbols t) text v → ⊥
none_either t text v are readable utf8 e = by
  where
    folds : is_readable_by (folded_tables Never t) ≡ true
    folds = (and_parts (is_readable_by t) (is_readable_by (folded_tables Never t)) readable).1

    parts : (plain_reading (folded_tables Never t) text ≡ not_written) × (plain_reading (folded_tables Always t) text ≡ not_written)
    parts = none_else (plain_reading (folded_tables Never t) text) (plain_reading (folded_tables Always t) text) e

    by : IsGroupedText (folded_symbols t) text v → ⊥
    by (inl plain) = nothing_found (folded_tables Never t) text (are_folded t Never are) folds utf8 parts.0 v plain.decimal plain.written
    by (inr plain) = nothing_found (folded_tables Always t) text (are_folded t Always are) folds utf8 parts.1 v plain.decimal plain.written

pub lenient_misses : LenientMisses
lenient_misses t text are utf8 e v = by
  where
    folded : List ℕ
    folded = folded_text t.digits text

    whole : IsUtf8 folded
    whole = folded_utf8 t.digits text are.ten utf8

    trimmed : IsUtf8 (trimmed_fold t text)
    trimmed = trim_utf8 folded whole

    top : (plain_reading t text ≡ not_written) × (folded_reading t text ≡ not_written)
    top = none_else (plain_reading t text) (folded_reading t text) e

    opened : (is_leniently_readable_by t ≡ true) × (read_folded (folded_symbols t) folded ≡ not_written)
    opened = none_cond (is_leniently_readable_by t) (read_folded (folded_symbols t) folded) top.1

    first : (read_either (folded_symbols t) folded ≡ not_written) × (read_trimmed (folded_symbols t) folded ≡ not_written)
    first = none_else (read_either (folded_symbols t) folded) (read_trimmed (folded_symbols t) folded) opened.1

    last : (read_either (folded_symbols t) (trimmed_fold t text) ≡ not_written) × (read_either (folded_symbols t) (filled_fold t text) ≡ not_written)
    last = none_else (read_either (folded_symbols t) (trimmed_fold t text)) (read_either (folded_symbols t) (filled_fold t text)) first.1

    by : IsTypedText t text v → ⊥
    by (inl plain) = nothing_found t text are (and_parts (is_readable_by t) (is_readable_by (folded_tables Never t)) opened.0).0 utf8 top.0 v plain.decimal plain.written
    by (inr (inl grouped)) = none_either t folded v are opened.0 whole first.0 grouped
    by (inr (inr (inl grouped))) = none_either t (trimmed_fold t text) v are opened.0 trimmed last.0 grouped
    by (inr (inr (inr grouped))) = none_either t (filled_fold t text) v are opened.0 (filled_utf8 (folded_symbols t).strings.decimal_separator (trimmed_fold t text) trimmed) last.1 grouped

-- ---- unreadable

pub apart_written : not_written ≡ unreadable → ⊥
apart_written e = cc

pub apart_decimal : (v : SignedValue Number) → decimal v ≡ unreadable → ⊥
apart_decimal v e = cc

-- two readings that are not unreadable
pub else_readable : (one other : PlainReading) → (one ≡ unreadable → ⊥) → (other ≡ unreadable → ⊥) → or_else one other ≡ unreadable → ⊥
else_readable unreadable other first second e = first refl
else_readable not_written other first second e = second e
else_readable (decimal v) other first second e = apart_decimal v e

plain_readable : (t : Tables) (text : List ℕ) → is_readable_by t ≡ true → plain_reading t text ≡ unreadable → ⊥
plain_readable t text readable e = false≢true (sym (unreadable_is t text e) ∙ readable)

either_readable : (folded : Symbols) (text : List ℕ) → is_readable_by (with_folded Never folded) ≡ true → read_either folded text ≡ unreadable → ⊥
either_readable folded text readable =
    else_readable (plain_reading (with_folded Never folded) text) (plain_reading (with_folded Always folded) text)
    (plain_readable (with_folded Never folded) text readable) (plain_readable (with_folded Always folded) text readable)

folded_readable : (folded : Symbols) (text : List ℕ) → is_readable_by (with_folded Never folded) ≡ true → read_folded folded text ≡ unreadable → ⊥
folded_readable folded text readable =
    let full : List ℕ = filled_text folded.strings.decimal_separator (trim text) in
    else_readable (read_either folded text) (read_trimmed folded text) (either_readable folded text readable)
    (else_readable (read_either folded (trim text)) (read_either folded full) (either_readable folded (trim text) readable) (either_readable folded full readable))

cond_unreadable : (b : Bool) (r : PlainReading) → (b ≡ true → r ≡ unreadable → ⊥) → cond b r unreadable ≡ unreadable → b ≡ false
cond_unreadable true r apart e = absurd (apart refl e)
cond_unreadable false r apart e = refl

folded_unreadable : (t : Tables) (text : List ℕ) → folded_reading t text ≡ unreadable → is_leniently_readable_by t ≡ false
folded_unreadable t text e =
    cond_unreadable (is_leniently_readable_by t) (read_folded (folded_symbols t) (folded_text t.digits text))
    (λ readable. folded_readable (folded_symbols t) (folded_text t.digits text) (and_parts (is_readable_by t) (is_readable_by (folded_tables Never t)) readable).1) e

pub lenient_is_unreadable : LenientIsUnreadable
lenient_is_unreadable t text = (λ e. by (plain_reading t text) refl e, back)
  where
    by : (r : PlainReading) → plain_reading t text ≡ r → or_else r (folded_reading t text) ≡ unreadable → IsUnreadable t text
    by unreadable is e = inl (unreadable_is t text is)
    by not_written is e = inr (folded_unreadable t text e, is)
    by (decimal v) is e = absurd (apart_decimal v e)

    back : IsUnreadable t text → lenient_reading t text ≡ unreadable
    back (inl lacks) = ap (λ r. or_else r (folded_reading t text)) (reading_unreadable t text lacks)
    back (inr none) =
        ap (λ r. or_else r (folded_reading t text)) none.1
        ∙ ap (λ b. cond b (read_folded (folded_symbols t) (folded_text t.digits text)) unreadable) none.0
