use Rattle.std.proofs.Common.{[], ◌∷◌, None, Some, codes, refl}
use Rattle.icu_locale_core_grammar.specs.Pieces.{pieces}
use Rattle.icu_locale_core_grammar.specs.SingleVariant.{AfterKey, AfterValue}
use Rattle.icu_locale_core_grammar.proofs.SingleReader.{single_reader}
use Rattle.icu_locale_core_langid.proofs.OneVariantReader.{one_variant_reader}
use Rattle.icu_locale_core_langid.specs.SingleModes.{single}
use Rattle.icu_locale_core_langid.proofs.SingleFrontLemmas.{front_left}
use Rattle.icu_locale_core_langid.proofs.KnownValues as Rows
use Rattle.icu_locale_core_langid.proofs.single.known_rows.read_rows.Goals as goal

pub returns : goal.returns
returns c = record {
  keyword =
      single_reader.found (pieces (codes "EN-us-u-NU-Thai")) (AfterValue Rows.american (codes "nu") (Some (codes "thai")))
      (single (codes "en", None, Some (codes "US"), None, Some (codes "nu", Some (codes "thai")))) Rows.keyword refl;
  true_is_no_value =
      single_reader.found (pieces (codes "en-u-nu-true")) (AfterValue Rows.english (codes "nu") None) (single (codes "en", None, None, None, Some (codes "nu", None))) Rows.true_is_no_value refl;
  key_alone = single_reader.found (pieces (codes "en-u-nu")) (AfterKey Rows.english (codes "nu")) (single (codes "en", None, None, None, Some (codes "nu", None))) Rows.key_alone refl;
  whole = (one_variant_reader.found (pieces (codes "EN-latn-us-FONIPA")) (Some Rows.phonetic) Rows.phonetic Rows.whole_part refl, refl);
  keyword_left = (
    (
      pieces (codes "u-nu-thai"),
      front_left (pieces (codes "en-US-u-nu-thai")) Rows.american (pieces (codes "u-nu-thai")) (record { took = (pieces (codes "en-US"), refl, Rows.american_part); stuck = Rows.american_ends }),
    ),
    refl,
  );
  variant_left = (
    (codes "fonipa" ∷ [], front_left (pieces (codes "de-1996-fonipa")) Rows.german (codes "fonipa" ∷ []) (record { took = (pieces (codes "de-1996"), refl, Rows.german_part); stuck = Rows.german_ends })),
    refl,
  );
  transform_left = (
    (pieces (codes "t-de"), front_left (pieces (codes "en-t-de")) Rows.english (pieces (codes "t-de")) (record { took = (pieces (codes "en"), refl, Rows.english_part); stuck = Rows.english_ends })),
    refl,
  );
}
