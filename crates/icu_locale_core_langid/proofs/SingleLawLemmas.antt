-- In each mode a list of pieces has a meaning or a fault, one of them, and never both.
use Rattle.std.proofs.Common.{◌≡◌, true, false, Bool, List, [], ◌∷◌, ◌++◌, Option, None, Some, ◌⊎◌, inl, inr, sym, refl, ap, ◌∙◌, subst, append_assoc, append-nil}
use Rattle.icu_locale_core_grammar.specs.declared.error.ParseError.{ParseError}
use Rattle.icu_locale_core_grammar.specs.declared.error.ParseError.TheVariants.{InvalidLanguage, InvalidSubtag}
use Rattle.icu_locale_core_grammar.specs.Subtags.{Text}
use Rattle.icu_locale_core_grammar.specs.LanguagePart.{LanguageId, MeansLanguage}
use Rattle.icu_locale_core_grammar.specs.FaultyPiece.{first_piece, StopsAt, HasFault}
use Rattle.icu_locale_core_grammar.specs.PartialReading.{ReadsFront}
use Rattle.icu_locale_core_grammar.specs.Stepping.{run}
use Rattle.icu_locale_core_grammar.specs.TagStages.{has_none}
use Rattle.icu_locale_core_grammar.specs.SingleVariant.{SingleMeaning, MeansKeyword, HasSingleFault, single_name, has_short, single_of}
use Rattle.icu_locale_core_grammar.proofs.Runs as runs
use Rattle.icu_locale_core_grammar.proofs.FaultNames.{by_case}
use Rattle.icu_locale_core_grammar.proofs.FaultyPieceLemmas as faults
use Rattle.icu_locale_core_grammar.proofs.PartialReadingLemmas.{one_front_meaning}
use Rattle.icu_locale_core_grammar.proofs.SingleReader.{short_same, always_short, first_again, single_reader, single_answered}
use Rattle.icu_locale_core_grammar.proofs.CallerLemmas.{run_more}
use Rattle.icu_locale_core_langid.specs.declared.modes.ParserMode.{ParserMode}
use Rattle.icu_locale_core_langid.specs.declared.modes.ParserMode.TheVariants.{LanguageIdentifier, Locale, Partial}
use Rattle.icu_locale_core_langid.specs.OneVariant.{MeansOneVariant, one_variant_after}
use Rattle.icu_locale_core_langid.proofs.OneVariantReader.{one_variant_reader}
use Rattle.icu_locale_core_langid.specs.SingleModes.{language_of, MeansSingleInMode, HasSingleFaultInMode}
use Rattle.icu_locale_core_langid.specs.SingleLaws.{HasMeaningOrFault, HasOneMeaning, HasOneFault, HasNeverBoth, ModesAgree, KeywordlessAgree}
use Rattle.icu_locale_core_langid.proofs.SingleFrontLemmas.{StopsWith, front_left, no_language, whole_front, rest_refused}

-- ---- a language part of one variant, and a meaning without a keyword

abbrev bare : LanguageId → SingleMeaning
bare id = single_of id None

bare_part : (id : LanguageId) → has_short id.variants ≡ true → language_of (bare id) ≡ id
bare_part id short = λ i. record { language = id.language; script = id.script; region = id.region; variants = short_same id.variants short i }

bare_again : (m : SingleMeaning) → m.keyword ≡ None → bare (language_of m) ≡ m
bare_again m none = λ i. record { language = m.language; script = m.script; region = m.region; variant = first_again m.variant i; keyword = sym none i }

same_bare : (m n : SingleMeaning) → m.keyword ≡ None → n.keyword ≡ None → language_of m ≡ language_of n → m ≡ n
same_bare m n none also e = sym (bare_again m none) ∙ ap bare e ∙ bare_again n also

-- ---- each list stops somewhere

abbrev Stopped : List Text → Type 0
Stopped ps = (s : Option LanguageId) × (rest : List Text) × StopsWith ps s rest

stops_at : (taken ps : List Text) (s : Option LanguageId) (p : Text) (o : Option (Option LanguageId)) → run one_variant_after (Some None) taken ≡ Some s → one_variant_after s p ≡ o
    → ((t : Option LanguageId) → run one_variant_after (Some None) (taken ++ p ∷ []) ≡ Some t → Stopped ((taken ++ p ∷ []) ++ ps)) → Stopped (taken ++ p ∷ ps)
stops_at taken ps s p None e f onward = (s, p ∷ ps, record { took = (taken, refl, e); stuck = f })
stops_at taken ps s p (Some t) e f onward = subst Stopped (append_assoc taken (p ∷ []) ps) (onward t (run_more one_variant_after None s t taken p e f))

stops_from : (ps taken : List Text) (s : Option LanguageId) → run one_variant_after (Some None) taken ≡ Some s → Stopped (taken ++ ps)
stops_from [] taken s e = (s, [], record { took = (taken, refl, e); stuck = tt })
stops_from (p ∷ ps) taken s e = stops_at taken ps s p (one_variant_after s p) e refl (stops_from ps (taken ++ p ∷ []))

abbrev HasFront : List Text → Type 0
HasFront ps = ((id : LanguageId) × (rest : List Text) × ReadsFront MeansOneVariant ps id rest) ⊎ HasFault MeansOneVariant ps InvalidLanguage

front_or_fault : (ps : List Text) → HasFront ps
front_or_fault ps = let s = stops_from ps [] None refl in by_stage s.0 s.2
  where
    by_stage : {rest : List Text} (s : Option LanguageId) → StopsWith ps s rest → HasFront ps
    by_stage {rest} None stops = inr (no_language ps rest stops)
    by_stage {rest} (Some id) stops = inl (id, rest, front_left ps id rest stops)

-- ---- a meaning or a fault

abbrev IsAnswered : ParserMode → List Text → Type 0
IsAnswered mode ps = ((m : SingleMeaning) × MeansSingleInMode mode ps m) ⊎ ((e : ParseError) × HasSingleFaultInMode mode ps e)

bare_front : (ps : List Text) (id : LanguageId) (rest : List Text) → ReadsFront MeansOneVariant ps id rest → ReadsFront MeansOneVariant ps (language_of (bare id)) rest
bare_front ps id rest front = subst (λ i. ReadsFront MeansOneVariant ps i rest) (sym (bare_part id front.meant.short)) front

whole_answered : (ps : List Text) → HasFront ps → IsAnswered LanguageIdentifier ps
whole_answered ps (inr fault) = inr (InvalidLanguage, fault)
whole_answered ps (inl f) = by_rest (has_none f.1) refl
  where
    by_rest : (b : Bool) → has_none f.1 ≡ b → IsAnswered LanguageIdentifier ps
    by_rest true e = inl (bare f.0, (whole_front ps (language_of (bare f.0)) f.1 (bare_front ps f.0 f.1 f.2) e, refl))
    by_rest false e = inr (InvalidSubtag, rest_refused ps f.0 f.1 f.2 e)

partial_answered : (ps : List Text) → HasFront ps → IsAnswered Partial ps
partial_answered ps (inr fault) = inr (InvalidLanguage, (fault, refl))
partial_answered ps (inl f) = inl (bare f.0, ((f.1, bare_front ps f.0 f.1 f.2), refl))

pub modes_answered : HasMeaningOrFault
modes_answered LanguageIdentifier ps = whole_answered ps (front_or_fault ps)
modes_answered Locale ps = single_answered ps
modes_answered Partial ps = partial_answered ps (front_or_fault ps)

-- ---- one of them

pub modes_mean_one : HasOneMeaning
modes_mean_one LanguageIdentifier ps m n a b = same_bare m n a.1 b.1 (runs.one_meaning one_variant_reader ps (language_of m) (language_of n) a.0 b.0)
modes_mean_one Locale ps m n a b = runs.one_meaning single_reader ps m n a b
modes_mean_one Partial ps m n a b = same_bare m n a.1 b.1 (one_front_meaning one_variant_reader ps (language_of m) (language_of n) a.0.0 b.0.0 a.0.1 b.0.1)

one_single_fault : (ps : List Text) (e f : ParseError) → HasSingleFault ps e → HasSingleFault ps f → e ≡ f
one_single_fault ps e f a b =
    sym a.named ∙ ap (λ l. single_name l (first_piece a.rest)) (faults.one_front ps a.front b.front a.rest b.rest a.stops b.stops)
    ∙ ap (λ r. single_name b.front (first_piece r)) (faults.one_rest ps a.front b.front a.rest b.rest a.stops b.stops) ∙ b.named

pub modes_fault_one : HasOneFault
modes_fault_one LanguageIdentifier ps e f a b = faults.one_fault ps e f a b
modes_fault_one Locale ps e f a b = one_single_fault ps e f a b
modes_fault_one Partial ps e f a b = a.1 ∙ sym b.1

-- ---- never both

no_pieces : (id : LanguageId) → MeansOneVariant [] id → ⊥
no_pieces id a = let parts = a.means.parts in cc

-- a front that is read begins with the first piece
begun_front : (ps taken rest front left : List Text) (id : LanguageId) → ps ≡ taken ++ rest → MeansOneVariant taken id → StopsAt MeansOneVariant ps front left → front ≡ [] → ⊥
begun_front ps [] rest front left id parts meant stops none = no_pieces id meant
begun_front ps (q ∷ qs) rest front [] id parts meant stops none = let e : q ∷ (qs ++ rest) ≡ [] = sym parts ∙ stops.cut ∙ ap (λ l. l ++ []) none in cc
begun_front ps (q ∷ qs) rest front (p ∷ left) id parts meant stops none =
    let e : q ∷ (qs ++ rest) ≡ p ∷ left = sym parts ∙ stops.cut ∙ ap (λ l. l ++ (p ∷ left)) none in
    let same : q ≡ p = cc in
    let long : q ∷ qs ≡ (front ++ p ∷ []) ++ qs = ap (λ t. t ∷ qs) same ∙ sym (ap (λ l. (l ++ p ∷ []) ++ qs) none) in
    stops.stops (qs, (id, subst (λ l. MeansOneVariant l id) long meant))

never_both_partial : (ps : List Text) (id : LanguageId) (rest : List Text) → ReadsFront MeansOneVariant ps id rest → HasFault MeansOneVariant ps InvalidLanguage → ⊥
never_both_partial ps id rest front fault =
    begun_front ps front.taken rest fault.front fault.rest id front.parts front.meant fault.stops (by_case MeansOneVariant InvalidLanguage fault.front (first_piece fault.rest) fault.named)

pub modes_never_both : HasNeverBoth
modes_never_both LanguageIdentifier ps m e a b = faults.never_both ps (language_of m) e a.0 b
modes_never_both Locale ps m e a b = faults.stops_unaccepted ps b.front b.rest m b.stops a
modes_never_both Partial ps m e a b = never_both_partial ps (language_of m) a.0.0 a.0.1 (subst (HasFault MeansOneVariant ps) b.1 b.0)

-- ---- the modes agree

pub modes_same : ModesAgree
modes_same LanguageIdentifier ps m a = a
modes_same Locale ps m a = record { front = ps; last = []; parts = append-nil ps; language = a.0.means; keyword = a.1 }
modes_same Partial ps m a = (([], record { taken = ps; parts = sym (append-nil ps); meant = a.0; longest = tt }), a.1)

none_behind : (last : List Text) (keyword : Option (Text × Option Text)) → MeansKeyword last keyword → keyword ≡ None → last ≡ []
none_behind [] keyword a none = refl
none_behind (u ∷ []) keyword a none = absurd a
none_behind (u ∷ k ∷ []) keyword a none = let e = a.2 in cc
none_behind (u ∷ k ∷ v ∷ []) keyword a none = let e = a.3 in cc
none_behind (u ∷ k ∷ v ∷ w ∷ rest) keyword a none = absurd a

pub keywordless_same : KeywordlessAgree
keywordless_same ps m a none =
    let all : a.front ≡ ps = sym (append-nil a.front) ∙ ap (λ l. a.front ++ l) (sym (none_behind a.last m.keyword a.keyword none)) ∙ a.parts in
    (record { means = subst (λ l. MeansLanguage l (language_of m)) all a.language; short = always_short m.variant }, none)
