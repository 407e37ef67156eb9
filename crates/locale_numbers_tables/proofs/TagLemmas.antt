-- What is read of a list of pieces is what it means: `specs/TagReading.antt`.
use Rattle.std.proofs.Common.{◌≡◌, Bool, true, false, List, [], ◌++◌, append-nil, Option, None, Some, ◌⊎◌, inl, inr, refl, ap, ◌∙◌}
use Rattle.std.specs.Prelude.{option_and_then, option_to_list, if◌then◌else◌}
use Rattle.icu_locale_core.specs.declared.ParseError.{ParseError}
use Rattle.icu_locale_core.specs.Subtags.{Text}
use Rattle.icu_locale_core.specs.Meaning.{TagMeaning, MeansTag}
use Rattle.icu_locale_core.specs.FaultyPiece.{HasFault}
use Rattle.icu_locale_core.specs.TagPreferences.{DataLocaleMeaning, data_meaning, language_priority, locale_preferences_of}
use Rattle.icu_locale_core.specs.DataTags.{IsDataTag, MeansDataLocale, HasDataFault}
use Rattle.icu_locale_core.specs.OneVariant.{MeansOneVariant, one_variant}
use Rattle.icu_locale_core.specs.SingleVariant.{SingleMeaning, MeansSingle, single_tag}
use Rattle.icu_locale_core.specs.Stepping.{run}
use Rattle.icu_locale_core.specs.TagStages.{TagStage, tag_start, tag_after, tag_ends}
use Rattle.icu_locale_core.proofs.TagReader.{tag_reader}
use Rattle.icu_locale_core.proofs.FaultyPieceLemmas.{never_both}
use Rattle.icu_locale_core.proofs.DataFaults.{data_never_both}
use Rattle.icu_locale_core.proofs.SingleTags.{single_is_tag}
use Rattle.icu_locale_core.specs.LocaleValue.{locale_decides}
use Rattle.locale_numbers_tables.specs.TagReading.{tag_of, data_locale_in, says_no_more, alone, data_locale_of, one_variant_data}

-- the second, where the first is not
pub other_one : {A B : Type 0} → A ⊎ B → (A → ⊥) → B
other_one (inl a) never = absurd (never a)
other_one (inr b) never = b

-- where nothing is meant, nothing is read
none_read : {M : Type 0} (o : Option M) → ((m : M) → o ≡ Some m → ⊥) → o ≡ None
none_read None h = refl
none_read (Some m) h = absurd (h m refl)

-- ---- tags

pub tag_meant : (list : List Text) (tag : TagMeaning) → tag_of list ≡ Some tag → MeansTag list tag
unfolding tag_of
tag_meant list tag h = by_stage (run tag_after (Some tag_start) list) refl h
  where
    by_stage : (s : Option TagStage) → run tag_after (Some tag_start) list ≡ s → option_and_then tag_ends s ≡ Some tag → MeansTag list tag
    by_stage None e f = cc
    by_stage (Some s) e f = tag_reader.found list s tag e f

pub tag_read : (list : List Text) (tag : TagMeaning) → MeansTag list tag → tag_of list ≡ Some tag
unfolding tag_of
tag_read list tag m = let only = tag_reader.only list tag m in ap (option_and_then tag_ends) only.1 ∙ only.2

-- a faulty list is not read
pub tag_faulty : (list : List Text) (e : ParseError) → HasFault MeansTag list e → tag_of list ≡ None
tag_faulty list e fault = none_read (tag_of list) (λ tag h. never_both list tag e (tag_meant list tag h) fault)

-- ---- data locales

pub data_meant : (list : List Text) (locale : DataLocaleMeaning) → data_locale_of list ≡ Some locale → MeansDataLocale list locale
unfolding data_locale_of
data_meant list locale h = by_tag (tag_of list) refl h
  where
    by_test : (tag : TagMeaning) (b : Bool) → tag_of list ≡ Some tag → says_no_more tag ≡ b → (if b then Some (data_locale_in tag) else None) ≡ Some locale → MeansDataLocale list locale
    by_test tag false e t f = cc
    by_test tag true e t f = record {
      tag = tag;
      means = tag_meant list tag e;
      is = (locale_decides (data_meaning (data_locale_in tag)) tag).0 t;
      same = cc;
    }

    by_tag : (o : Option TagMeaning) → tag_of list ≡ o → option_and_then alone o ≡ Some locale → MeansDataLocale list locale
    by_tag None e f = cc
    by_tag (Some tag) e f = by_test tag (says_no_more tag) e refl f

pub data_read : (list : List Text) (locale : DataLocaleMeaning) → MeansDataLocale list locale → data_locale_of list ≡ Some locale
unfolding data_locale_of
data_read list locale m =
    let test : says_no_more m.tag ≡ true = (locale_decides (data_meaning (data_locale_in m.tag)) m.tag).1 m.is in
    ap (option_and_then alone) (tag_read list m.tag m.means)
    ∙ ap (λ b. if b then Some (data_locale_in m.tag) else None) test
    ∙ ap Some m.same

pub data_faulty : (list : List Text) (e : ParseError) → HasDataFault list e → data_locale_of list ≡ None
data_faulty list e fault = none_read (data_locale_of list) (λ locale h. data_never_both list locale e (data_meant list locale h) fault)

-- ---- a tag of one variant at most, and nothing else

abbrev plain_single : Text × Option Text × Option Text × Option Text → SingleMeaning
plain_single parts = record { language = parts.0; script = parts.1; region = parts.2; variant = parts.3; keyword = None }

-- its data locale says all of it
says_all : (language : Text) (script region variant : Option Text) → let tag = single_tag (plain_single (language, script, region, variant)) in
    (data_meaning (language_priority (locale_preferences_of tag)) ≡ tag) × (language_priority (locale_preferences_of tag) ≡ one_variant_data (language, script, region, variant))
says_all language script region None = (refl, refl)
says_all language script region (Some v) = (refl, refl)

pub one_variant_read : (list : List Text) (parts : Text × Option Text × Option Text × Option Text)
    → MeansOneVariant list (one_variant parts.0 parts.1 parts.2 parts.3) → data_locale_of list ≡ Some (one_variant_data parts)
one_variant_read list parts m =
    let single = plain_single parts in
    let means : MeansSingle list single = record { front = list; last = []; parts = append-nil list; language = m.means; keyword = refl } in
    let says = says_all parts.0 parts.1 parts.2 parts.3 in
    data_read list (one_variant_data parts) (record { tag = single_tag single; means = single_is_tag list single means; is = says.0; same = says.1 })
