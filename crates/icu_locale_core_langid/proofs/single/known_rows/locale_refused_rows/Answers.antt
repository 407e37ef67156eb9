use Rattle.std.proofs.Common.{[], ◌∷◌, None, Some, codes, refl}
use Rattle.icu_locale_core_grammar.specs.Pieces.{pieces}
use Rattle.icu_locale_core_grammar.specs.SingleVariant.{InLanguage, AfterUnicode, AfterValue}
use Rattle.icu_locale_core_grammar.proofs.CallerLemmas.{single_refused, single_cut}
use Rattle.icu_locale_core_langid.proofs.KnownValues as Rows
use Rattle.icu_locale_core_langid.proofs.single.known_rows.locale_refused_rows.Goals as goal

pub returns : goal.returns
returns c = record {
  second_variant = single_refused (pieces (codes "de-1996-fonipa")) (pieces (codes "de-1996")) [] (InLanguage (Some Rows.german)) (codes "fonipa") refl Rows.after_variant Rows.second_variant;
  second_value =
      single_refused (pieces (codes "en-u-nu-thai-latn")) (pieces (codes "en-u-nu-thai")) [] (AfterValue Rows.english (codes "nu") (Some (codes "thai"))) (codes "latn") refl Rows.after_value
      (Rows.no_second (codes "nu") (Some (codes "thai")) (codes "latn"));
  second_keyword =
      single_refused (pieces (codes "en-u-nu-thai-nu-latn")) (pieces (codes "en-u-nu-thai")) (codes "latn" ∷ []) (AfterValue Rows.english (codes "nu") (Some (codes "thai"))) (codes "nu") refl Rows.after_value
      (Rows.no_second (codes "nu") (Some (codes "thai")) (codes "nu"));
  true_is_a_piece =
      single_refused (pieces (codes "en-u-nu-true-thai")) (pieces (codes "en-u-nu-true")) [] (AfterValue Rows.english (codes "nu") None) (codes "thai") refl Rows.true_is_no_value
      (Rows.no_second (codes "nu") None (codes "thai"));
  transform = single_refused (pieces (codes "en-t-de")) (pieces (codes "en")) (codes "de" ∷ []) (InLanguage (Some Rows.english)) (codes "t") refl Rows.behind_language Rows.no_transform;
  attribute = single_refused (pieces (codes "en-u-foo")) (pieces (codes "en-u")) [] (AfterUnicode Rows.english) (codes "foo") refl Rows.behind_unicode Rows.no_attribute;
  empty_extension = single_cut (pieces (codes "en-u")) (pieces (codes "en-u")) (AfterUnicode Rows.english) refl Rows.behind_unicode refl;
  nothing = single_refused (pieces (codes "")) [] [] (InLanguage None) (codes "") refl refl Rows.no_first;
}
