-- Preferences written as a tag read back, a tag and its normal text have the same, and joining goes by parts.
use Rattle.std.proofs.Common.{◌≡◌, Bool, true, false, ◌++◌, Option, None, Some, refl, sym, ap, ◌∙◌}
use Rattle.std.specs.Prelude.{IfSome, if◌then◌else◌}
use Rattle.std.specs.Char.{to_ascii_lowercase}
use Rattle.icu_locale_core_grammar.specs.Subtags.{Text, lower}
use Rattle.icu_locale_core_grammar.specs.Collections.{first_there}
use Rattle.icu_locale_core_grammar.specs.TagPreferences.{Subdivision, subdivision_text, subdivision_key, override_key, keyword_subdivision, subdivision_entries, preferences_of}
use Rattle.icu_locale_core_grammar.specs.PreferenceChanges.{is_unknown, joined_language, keyword_of}
use Rattle.icu_locale_core_grammar.specs.PreferenceLaws.{IsNormalSubdivision, SubdivisionReadsBack, PreferencesReadBack, DataLocaleIsItself, AlikeTagsPreferAlike, NothingAddsNothing, JoinedThrice}
use Rattle.icu_locale_core_grammar.proofs.CaseLemmas.{region_changed, lower_keeps, upper-lower}
use Rattle.icu_locale_core_grammar.proofs.PreferenceLemmas.{spelled_subdivision}
use Rattle.icu_locale_core_grammar.proofs.NormalTags.{read_again}
use Rattle.icu_locale_core_grammar.proofs.TagReader.{tag_reader}
use Rattle.icu_locale_core_grammar.proofs.SingleReader.{first_again}
use Rattle.icu_locale_core_grammar.proofs.Runs as Runs

pub subdivision_reads_back : SubdivisionReadsBack
subdivision_reads_back s n = spelled_subdivision (subdivision_text s) s (record {
  region = lower s.region;
  suffix = s.suffix;
  parts = refl;
  first = region_changed to_ascii_lowercase lower_keeps s.region ∙ n.region;
  second = n.suffix;
  meant = λ i. record { region = (upper-lower s.region ∙ n.upper) i; suffix = n.lower i };
})

-- ---- written as keywords

subdivision_kept : (o : Option Subdivision) (s : Option Subdivision) → IfSome s IsNormalSubdivision → keyword_subdivision subdivision_key (keyword_of override_key o ++ keyword_of subdivision_key s) ≡ s
subdivision_kept None None n = refl
subdivision_kept None (Some s) n = subdivision_reads_back s n
subdivision_kept (Some o) None n = refl
subdivision_kept (Some o) (Some s) n = subdivision_reads_back s n

override_kept : (o : Option Subdivision) (s : Option Subdivision) → IfSome o IsNormalSubdivision → keyword_subdivision override_key (keyword_of override_key o ++ keyword_of subdivision_key s) ≡ o
override_kept None None n = refl
override_kept None (Some s) n = refl
override_kept (Some o) s n = subdivision_reads_back o n

alone_kept : (s : Option Subdivision) → IfSome s IsNormalSubdivision → keyword_subdivision subdivision_key (subdivision_entries s) ≡ s
alone_kept None n = refl
alone_kept (Some s) n = subdivision_reads_back s n

pub preferences_read_back : PreferencesReadBack
preferences_read_back p sd rg = λ i. record {
  language = p.language;
  script = p.script;
  region = p.region;
  variant = first_again p.variant i;
  subdivision = subdivision_kept p.region_override p.subdivision sd i;
  region_override = override_kept p.region_override p.subdivision rg i;
}

pub data_locale_is_itself : DataLocaleIsItself
data_locale_is_itself d n = λ i. record {
  language = d.language;
  script = d.script;
  region = d.region;
  variant = first_again d.variant i;
  subdivision = alone_kept d.subdivision n i;
}

-- ---- alike tags

pub alike_tags_prefer_alike : AlikeTagsPreferAlike
alike_tags_prefer_alike ps m n a b = ap preferences_of (Runs.one_meaning tag_reader _ n m b (read_again ps m a))

-- ---- joining

first_nothing : {A : Type 0} (o : Option A) → first_there None o ≡ o
first_nothing o = refl

pub nothing_adds_nothing : NothingAddsNothing
nothing_adds_nothing p = refl

first_thrice : {A : Type 0} (a b c : Option A) → first_there c (first_there b a) ≡ first_there (first_there c b) a
first_thrice a b None = refl
first_thrice a b (Some c) = refl

language_thrice : (a b c : Text) → joined_language (joined_language a b) c ≡ joined_language a (joined_language b c)
language_thrice a b c = by_last (is_unknown c) refl
  where
    by_last : (u : Bool) → is_unknown c ≡ u → (if u then joined_language a b else c) ≡ joined_language a (if u then b else c)
    by_last true e = refl
    by_last false e = sym (ap (λ u. if u then a else c) e)

pub joined_thrice : JoinedThrice
joined_thrice p q r = λ i. record {
  language = language_thrice p.language q.language r.language i;
  script = first_thrice p.script q.script r.script i;
  region = first_thrice p.region q.region r.region i;
  variant = first_thrice p.variant q.variant r.variant i;
  subdivision = first_thrice p.subdivision q.subdivision r.subdivision i;
  region_override = first_thrice p.region_override q.region_override r.region_override i;
}
