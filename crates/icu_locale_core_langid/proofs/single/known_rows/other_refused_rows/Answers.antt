use Rattle.std.proofs.Common.{[], ◌∷◌, None, Some, codes, refl}
use Rattle.icu_locale_core_grammar.specs.Pieces.{pieces}
use Rattle.icu_locale_core_langid.proofs.OneVariantReader.{one_variant_refused}
use Rattle.icu_locale_core_langid.proofs.KnownValues as Rows
use Rattle.icu_locale_core_langid.proofs.single.known_rows.other_refused_rows.Goals as goal

pub returns : goal.returns
returns c = record {
  singleton = one_variant_refused (pieces (codes "en-US-u-nu-thai")) (pieces (codes "en-US")) (pieces (codes "nu-thai")) (Some Rows.american) (codes "u") refl Rows.american_part Rows.american_ends;
  second_variant = one_variant_refused (pieces (codes "de-1996-fonipa")) (pieces (codes "de-1996")) [] (Some Rows.german) (codes "fonipa") refl Rows.german_part Rows.german_ends;
  transform = one_variant_refused (pieces (codes "en-t-de")) (pieces (codes "en")) (codes "de" ∷ []) (Some Rows.english) (codes "t") refl Rows.english_part Rows.english_ends;
  nothing = one_variant_refused (pieces (codes "")) [] [] None (codes "") refl refl refl;
  nothing_left = (one_variant_refused (pieces (codes "")) [] [] None (codes "") refl refl refl, refl);
  no_language = (one_variant_refused (pieces (codes "x-foo")) [] (codes "foo" ∷ []) None (codes "x") refl refl refl, refl);
}
