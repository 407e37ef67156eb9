-- Changed maps at a key, and that written values and maps read back.
use Rattle.std.proofs.Common.{◌≡◌, ◌≢◌, Bool, true, false, List, [], ◌∷◌, ◌++◌, codes, refl, sym, subst}
use Rattle.std.specs.List.{AllByRecursion}
use Rattle.icu_locale_core_grammar.specs.Subtags.{Text, is_plain, is_key, is_field_key}
use Rattle.icu_locale_core_grammar.specs.Pieces.{joined_text}
use Rattle.icu_locale_core_grammar.specs.Collections.{Entry, Each}
use Rattle.icu_locale_core_grammar.specs.Extensions.{value_meaning, has_enough}
use Rattle.icu_locale_core_grammar.specs.NormalText.{entry_pieces}
use Rattle.icu_locale_core_grammar.specs.WellFormed.{IsNormalValue, AreNormalEntries}
use Rattle.icu_locale_core_grammar.specs.PartReaders.{MeansValue, MeansKeywords, MeansFields, ReadsValue, ReadsKeywords, ReadsFields, listed}
use Rattle.icu_locale_core_grammar.proofs.PartReaders.{keywords_after, fields_after}
use Rattle.icu_locale_core_grammar.proofs.MeaningsAreNormal.{unicode_normal, transform_normal}
use Rattle.icu_locale_core_grammar.proofs.PlainPieces.{pieces-joined}
use Rattle.icu_locale_core_grammar.proofs.PartPlain.{value_is_plain, keywords_are_plain, fields_are_plain, value_back, keywords_back, fields_back}
use Rattle.icu_locale_core_keywords_fields.specs.EntryText.{value_text, entries_text}
use Rattle.icu_locale_core_keywords_fields.specs.Laws.{SettingSetsOne, RemovalTakesOne, JoiningPrefersOne, ValuesReadBack, KeywordsReadBack, FieldsReadBack, EqualityTells}
use Rattle.icu_locale_core_keywords_fields.specs.OrderLaws.{values_decide, entries_decide}
use Rattle.icu_locale_core_keywords_fields.proofs.RisingLemmas.{value_at-set, value_at-without, value_at-joined, Rises-set, Rises-without, Rises-joined}

pub setting_sets_one : SettingSetsOne
setting_sets_one = record { has = value_at-set; rises = Rises-set }

pub removal_takes_one : RemovalTakesOne
removal_takes_one = record { has = value_at-without; rises = Rises-without }

pub joining_prefers_one : JoiningPrefersOne
joining_prefers_one = record { has = value_at-joined; rises = Rises-joined }

pub equality_tells : EqualityTells
equality_tells = record { values = values_decide; maps = entries_decide }

-- ---- pieces that are written are those that are read

-- a first piece that is not empty makes a text that is not
first_listed : (p : Text) (ps : List Text) → p ≢ [] → Each is_plain (p ∷ ps) → listed (joined_text (p ∷ ps)) ≡ p ∷ ps
first_listed [] ps filled plain = absurd (filled refl)
first_listed (c ∷ cs) ps filled plain = pieces-joined (c ∷ cs) ps plain

key_filled : (key : Text) → is_key key ≡ true → key ≢ []
key_filled [] e = cc
key_filled (c ∷ cs) e = λ none. cc none

field_key_filled : (key : Text) → is_field_key key ≡ true → key ≢ []
field_key_filled [] e = cc
field_key_filled (c ∷ cs) e = λ none. cc none

value_filled : (v : Text) → IsNormalValue v → v ≢ []
value_filled [] n = let e = n.piece.is in cc e
value_filled (c ∷ cs) n = λ none. cc none

-- ---- values

-- as the value of some key
value_entry : (ps vs : List Text) (b : Bool) → has_enough false ps ≡ b → MeansValue ps vs → MeansKeywords (codes "aa" ∷ (ps ++ [])) ((codes "aa", value_meaning ps) ∷ [])
value_entry ps vs true enough a = record { entries = (codes "aa", ps) ∷ []; parts = refl; each = (record { key = refl; values = a.each; enough = enough }, tt); keyed = refl }
value_entry [] vs false enough a = cc
value_entry (p ∷ ps) vs false enough a = cc

value_normal : (ps vs : List Text) → MeansValue ps vs → AllByRecursion IsNormalValue vs
value_normal ps vs a =
    let normal = unicode_normal _ _ (keywords_after _ _ (value_entry ps vs (has_enough false ps) refl a)) in
    subst (AllByRecursion IsNormalValue) a.meant normal.keywords.each.0.values

value_text_back : (needs : Bool) (vs : List Text) → AllByRecursion IsNormalValue vs → ReadsValue (value_text needs vs) vs
value_text_back true [] each = record { each = (refl, tt); meant = refl }
value_text_back false [] each = value_back [] each
value_text_back needs (v ∷ vs) each =
    let back = value_back (v ∷ vs) each in
    let same : listed (joined_text (v ∷ vs)) ≡ v ∷ vs = first_listed v vs (value_filled v each.0) (value_is_plain (v ∷ vs) (v ∷ vs) back) in
    subst (λ l. MeansValue l (v ∷ vs)) (sym same) back

pub values_read_back : ValuesReadBack
values_read_back = record { normal = λ text vs a. value_normal (listed text) vs a; back = value_text_back }

-- ---- maps

keywords_text_back : (es : List Entry) → AreNormalEntries is_key es → ReadsKeywords (entries_text false es) es
keywords_text_back [] n = keywords_back [] n
keywords_text_back (e ∷ es) n =
    let back = keywords_back (e ∷ es) n in
    let same : listed (entries_text false (e ∷ es)) ≡ entry_pieces false (e ∷ es) =
    first_listed e.0 _ (key_filled e.0 n.each.0.key.is) (keywords_are_plain (entry_pieces false (e ∷ es)) (e ∷ es) back) in
    subst (λ l. MeansKeywords l (e ∷ es)) (sym same) back

fields_text_back : (es : List Entry) → AreNormalEntries is_field_key es → ReadsFields (entries_text true es) es
fields_text_back [] n = fields_back [] n
fields_text_back (e ∷ es) n =
    let back = fields_back (e ∷ es) n in
    let same : listed (entries_text true (e ∷ es)) ≡ entry_pieces true (e ∷ es) =
    first_listed e.0 _ (field_key_filled e.0 n.each.0.key.is) (fields_are_plain (entry_pieces true (e ∷ es)) (e ∷ es) back) in
    subst (λ l. MeansFields l (e ∷ es)) (sym same) back

pub keywords_read_back : KeywordsReadBack
keywords_read_back = record {
  normal = λ text es a. (unicode_normal _ _ (keywords_after (listed text) es a)).keywords;
  back = keywords_text_back;
}

pub fields_read_back : FieldsReadBack
fields_read_back = record {
  normal = λ text es a. (transform_normal _ _ (fields_after (listed text) es a)).fields;
  back = fields_text_back;
}
