-- The stages of a tag of one variant and one keyword: after a language part, and in a loop over the pieces.
use Rattle.std.proofs.Common.{◌≡◌, Bool, true, false, List, [], ◌∷◌, ◌++◌, Option, None, Some, refl, sym, ap, ◌∙◌, subst, append_assoc}
use Rattle.std.specs.Prelude.{if◌then◌else◌}
use Rattle.std.proofs.lemmas.Bool.{false_from_ne_true}
use Rattle.icu_locale_core_grammar.specs.declared.error.ParseError.{ParseError}
use Rattle.icu_locale_core_grammar.specs.Subtags.{Text, is_unicode}
use Rattle.icu_locale_core_grammar.specs.LanguagePart.{LanguageId}
use Rattle.icu_locale_core_grammar.specs.Stepping.{run}
use Rattle.icu_locale_core_grammar.specs.TagStages.{language_after}
use Rattle.icu_locale_core_grammar.specs.SingleVariant.{SingleMeaning, MeansSingle, HasSingleFault, SingleStage, InLanguage, AfterUnicode, has_short, kept_short, after_language, single_after, single_ends, single_fault}
use Rattle.icu_locale_core_grammar.proofs.SingletonLemmas.{unicode_single}
use Rattle.icu_locale_core_grammar.proofs.BodyReaders.{language_closed}
use Rattle.icu_locale_core_grammar.proofs.SingleReader.{single_reader}
use Rattle.icu_locale_core_grammar.proofs.CallerLemmas.{run_more, none_left, read_whole, single_refused, single_cut}
use Rattle.icu_locale_core_langid.specs.OneVariant.{kept_one, one_variant_after}

-- ---- after a language part

kept_there : (l : Option LanguageId) (o : Option (Option LanguageId)) (p : Text) (next : LanguageId) → kept_one o ≡ Some (Some next) → after_language l o p ≡ Some (InLanguage (Some next))
kept_there l None p next e = cc
kept_there l (Some None) p next e = cc
kept_there l (Some (Some id)) p next e = by_test (has_short id.variants) e
  where
    by_test : (b : Bool) → (if b then Some (Some id) else None) ≡ Some (Some next) → (if b then Some (InLanguage (Some id)) else None) ≡ Some (InLanguage (Some next))
    by_test true e = let same : id ≡ next = cc in ap (λ i. Some (InLanguage (Some i))) same
    by_test false e = cc

pub part_taken : (l : Option LanguageId) (p : Text) (next : LanguageId) → one_variant_after l p ≡ Some (Some next) → single_after (InLanguage l) p ≡ Some (InLanguage (Some next))
unfolding single_after
part_taken l p next e = kept_there l (language_after l p) p next e

long_refused : (m : Option LanguageId) → kept_one (Some m) ≡ None → kept_short m ≡ None
long_refused None e = refl
long_refused (Some id) e = by_test (has_short id.variants) e
  where
    by_test : (b : Bool) → (if b then Some (Some id) else None) ≡ None → (if b then Some (InLanguage (Some id)) else None) ≡ None
    by_test true e = cc
    by_test false e = refl

pub no_language : (p : Text) → one_variant_after None p ≡ None → single_after (InLanguage None) p ≡ None
unfolding single_after
no_language p e = by_step (language_after None p) e
  where
    by_step : (o : Option (Option LanguageId)) → kept_one o ≡ None → after_language None o p ≡ None
    by_step None none = refl
    by_step (Some m) none = long_refused m none

-- what is a piece of the language part is not `u`
no_unicode : (id : LanguageId) (p : Text) (m : Option LanguageId) → language_after (Some id) p ≡ Some m → is_unicode p ≡ false
no_unicode id p m e =
    false_from_ne_true (is_unicode p) (λ is. let f : Some m ≡ None = sym e ∙ language_closed (Some id) p (unicode_single p is) in cc)

part_refused : (id : LanguageId) (p : Text) → one_variant_after (Some id) p ≡ None → single_after (InLanguage (Some id)) p ≡ (if is_unicode p then Some (AfterUnicode id) else None)
unfolding single_after
part_refused id p e = by_step (language_after (Some id) p) refl e
  where
    by_step : (o : Option (Option LanguageId)) → language_after (Some id) p ≡ o → kept_one o ≡ None → after_language (Some id) o p ≡ (if is_unicode p then Some (AfterUnicode id) else None)
    by_step None e none = refl
    by_step (Some m) e none = long_refused m none ∙ sym (ap (λ b. if b then Some (AfterUnicode id) else None) (no_unicode id p m e))

pub unicode_opened : (id : LanguageId) (p : Text) → one_variant_after (Some id) p ≡ None → is_unicode p ≡ true → single_after (InLanguage (Some id)) p ≡ Some (AfterUnicode id)
unicode_opened id p e is = part_refused id p e ∙ ap (λ b. if b then Some (AfterUnicode id) else None) is

pub nothing_opened : (id : LanguageId) (p : Text) → one_variant_after (Some id) p ≡ None → is_unicode p ≡ false → single_after (InLanguage (Some id)) p ≡ None
nothing_opened id p e is = part_refused id p e ∙ ap (λ b. if b then Some (AfterUnicode id) else None) is

-- ---- a loop over the pieces

-- the stages took these pieces, from nothing, and reached this one
abbrev pub Reached : List Text → SingleStage → List Text → Type 0
Reached ps s left = (taken : List Text) × (ps ≡ taken ++ left) × (run single_after (Some (InLanguage None)) taken ≡ Some s)

module _ (ps left more : List Text) (s : SingleStage) (p : Text) (reached : Reached ps s left) (first : left ≡ p ∷ more) where
  pub reached_more : (t : SingleStage) → single_after s p ≡ Some t → Reached ps t more
  reached_more t next = (
    reached.0 ++ p ∷ [],
    reached.1 ∙ ap (λ l. reached.0 ++ l) first ∙ sym (append_assoc reached.0 (p ∷ []) more),
    run_more single_after (InLanguage None) s t reached.0 p reached.2 next,
  )

  pub stuck_at_piece : (e : ParseError) → (single_after s p ≡ None) × (e ≡ single_fault s (Some p)) → HasSingleFault ps e
  stuck_at_piece e stuck =
      subst (HasSingleFault ps) (sym stuck.1)
      (single_refused ps reached.0 more s p (reached.1 ∙ ap (λ l. reached.0 ++ l) first) reached.2 stuck.0)

module _ (ps left : List Text) (s : SingleStage) (reached : Reached ps s left) (past : left ≡ []) where
  all_taken : ps ≡ reached.0
  all_taken = none_left ps reached.0 (reached.1 ∙ ap (λ l. reached.0 ++ l) past)

  pub ends_there : (m : SingleMeaning) → single_ends s ≡ Some m → MeansSingle ps m
  ends_there m e = read_whole single_reader ps reached.0 s m all_taken reached.2 e

  pub stuck_at_end : (e : ParseError) → (single_ends s ≡ None) × (e ≡ single_fault s None) → HasSingleFault ps e
  stuck_at_end e stuck = subst (HasSingleFault ps) (sym stuck.1) (single_cut ps reached.0 s all_taken reached.2 stuck.0)
