-- The definitions of parts read alone, of data locales and of joined preferences, at known texts.
use Rattle.std.proofs.Common.{◌≡◌, ◌≢◌, ℕ, ◌≤◌, List, [], ◌∷◌, None, Some, Ok, inl, inr, refl, ap, codes, arith}
use Rattle.icu_locale_core_grammar.specs.declared.error.ParseError.TheVariants.{InvalidSubtag, InvalidExtension}
use Rattle.icu_locale_core_grammar.specs.Subtags.{Text}
use Rattle.icu_locale_core_grammar.specs.Pieces.{pieces}
use Rattle.icu_locale_core_grammar.specs.Meaning.{TagMeaning, no_transform}
use Rattle.icu_locale_core_grammar.specs.PartReaders.{ReadsPrivate, ReadsOther, ReadsAttributes}
use Rattle.icu_locale_core_grammar.specs.TagPreferences.{LocalePreferencesMeaning, DataLocaleMeaning, data_meaning}
use Rattle.icu_locale_core_grammar.specs.PreferenceChanges.{joined_preferences}
use Rattle.icu_locale_core_grammar.specs.DataTags.{MeansDataLocale, HasDataFault}
use Rattle.icu_locale_core_grammar.specs.Stepping.{headed_after, whole_after}
use Rattle.icu_locale_core_grammar.specs.TagStages.{with_piece, body_after}
use Rattle.icu_locale_core_grammar.specs.KnownRows.{tag_answer}
use Rattle.icu_locale_core_grammar.proofs.AnswerLemmas.{meaning_row, refused_row}

some_pieces : (p : Text) (ps : List Text) → p ∷ ps ≢ []
some_pieces p ps e = cc

abbrev pub rest_of : List Text → List Text
rest_of [] = []
rest_of (p ∷ ps) = ps

few : 0 ≤ 1
few = omega arith

-- ---- parts read alone

-- private pieces: in lower case, in their order
pub private_in_order : ReadsPrivate (codes "X-Foo-a") (codes "foo" ∷ codes "a" ∷ [])
private_in_order = record {
  singleton = codes "X";
  body = codes "Foo" ∷ codes "a" ∷ [];
  parts = refl;
  is = refl;
  filled = some_pieces (codes "Foo") (codes "a" ∷ []);
  meant = record { each = (refl, (refl, tt)); meant = refl };
}

-- `x` alone is no private part
pub private_alone : (own : List Text) → ReadsPrivate (codes "x") own → ⊥
private_alone own r = r.filled (ap rest_of r.parts)

-- any other extension: its singleton and its pieces in lower case, in their order
pub other_in_order : ReadsOther (codes "A-Foo-Bar") (codes "a", codes "foo" ∷ codes "bar" ∷ [])
other_in_order = record {
  extension = record {
    singleton = codes "A";
    body = codes "Foo" ∷ codes "Bar" ∷ [];
    parts = refl;
    is = refl;
    filled = some_pieces (codes "Foo") (codes "Bar" ∷ []);
    meant = record { each = (refl, (refl, tt)); meant = refl };
  };
  singleton = refl;
}

-- attributes: a set, in lower case
pub attributes_once : ReadsAttributes (codes "foo-Bar-FOO") (codes "bar" ∷ codes "foo" ∷ [])
attributes_once = record { each = (refl, (refl, (refl, tt))); meant = refl }

-- the empty text has none
pub no_attributes : ReadsAttributes [] []
no_attributes = record { each = tt; meant = refl }

-- ---- data locales

abbrev pub texan : DataLocaleMeaning
texan = record { language = codes "en"; script = None; region = Some (codes "US"); variant = None; subdivision = Some (record { region = codes "US"; suffix = codes "tx" }) }

texan_read : tag_answer (codes "en-us-u-sd-ustx") ≡ Ok (data_meaning texan)
unfolding whole_after headed_after body_after with_piece
texan_read = refl

-- in either case
pub of_texas : MeansDataLocale (pieces (codes "en-us-u-sd-ustx")) texan
of_texas = record { tag = data_meaning texan; means = meaning_row (codes "en-us-u-sd-ustx") (data_meaning texan) texan_read; is = refl; same = refl }

abbrev pub two_variants : TagMeaning
two_variants = record {
  language = record { language = codes "de"; script = None; region = None; variants = codes "1996" ∷ codes "fonipa" ∷ [] };
  extensions = record { unicode = record { head = []; entries = [] }; transform = no_transform; others = [] };
  private_use = [];
}

two_read : tag_answer (codes "de-1996-fonipa") ≡ Ok two_variants
unfolding whole_after headed_after body_after with_piece
two_read = refl

too_many : (n : ℕ) → n ≡ 2 → n ≤ 1 → ⊥
too_many n two few = omega (arith, two, few)

-- a second variant
pub second_variant : HasDataFault (pieces (codes "de-1996-fonipa")) InvalidSubtag
second_variant = inr (record { tag = two_variants; means = meaning_row (codes "de-1996-fonipa") two_variants two_read; refused = too_many 2 refl })

abbrev pub private_tag : TagMeaning
private_tag = record {
  language = record { language = codes "en"; script = None; region = None; variants = [] };
  extensions = record { unicode = record { head = []; entries = [] }; transform = no_transform; others = [] };
  private_use = codes "foo" ∷ [];
}

private_read : tag_answer (codes "en-x-foo") ≡ Ok private_tag
unfolding whole_after headed_after body_after with_piece
private_read = refl

nothing_own : [] ≡ codes "foo" ∷ [] → ⊥
nothing_own e = cc

-- an extension that a data locale does not hold
pub private_part : HasDataFault (pieces (codes "en-x-foo")) InvalidExtension
private_part = inr (record { tag = private_tag; means = meaning_row (codes "en-x-foo") private_tag private_read; refused = (few, λ e. nothing_own (ap (λ m. m.private_use) e)) })

-- the faults of a tag come first
pub fault_of_a_tag : HasDataFault (pieces (codes "en-a")) InvalidExtension
unfolding whole_after headed_after body_after with_piece
fault_of_a_tag = inl (refused_row (codes "en-a") InvalidExtension refl)

-- ---- joined preferences

abbrev pub austrian : LocalePreferencesMeaning
austrian = record { language = codes "de"; script = None; region = Some (codes "AT"); variant = Some (codes "1996"); subdivision = None; region_override = None }

abbrev pub of_zurich : LocalePreferencesMeaning
of_zurich = record { language = codes "und"; script = None; region = Some (codes "CH"); variant = None; subdivision = Some (record { region = codes "CH"; suffix = codes "zh" }); region_override = None }

-- each part that is there wins, and `und` is not there
pub second_wins : joined_preferences austrian of_zurich
    ≡ record { language = codes "de"; script = None; region = Some (codes "CH"); variant = Some (codes "1996"); subdivision = Some (record { region = codes "CH"; suffix = codes "zh" }); region_override = None }
second_wins = refl

-- a language that is there wins too
pub language_wins : (joined_preferences of_zurich austrian).language ≡ codes "de"
language_wins = refl
