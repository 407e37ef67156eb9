-- Keywords, fields, values and private pieces are read right when they stand alone, and read back as they are printed.
use Rattle.std.proofs.Common.{◌≡◌, Bool, true, false, List, [], ◌∷◌, ◌++◌, Option, None, Some, map, flat_map, sym, refl, ap, ◌∙◌}
use Rattle.icu_locale_core_grammar.specs.Subtags.{Text, is_value, is_key, is_field_key, is_private_piece, lower}
use Rattle.icu_locale_core_grammar.specs.Collections.{Entry, set_of}
use Rattle.icu_locale_core_grammar.specs.Extensions.{spelled_entry, Headed, MeansHeaded}
use Rattle.icu_locale_core_grammar.specs.Meaning.{MeansAttributes, MeansUnicode, MeansTransform}
use Rattle.icu_locale_core_grammar.specs.Stepping.{run, IsReader, InHead, headed_ends}
use Rattle.icu_locale_core_grammar.specs.TagStages.{has_none}
use Rattle.icu_locale_core_grammar.specs.PartReaders.{MeansOwn, MeansEntries, MeansKeywords, MeansFields, MeansValue, nothing_after, nothing_ends, EntriesStage, entries_after, entries_of, entries_end, value_after, own_after}
use Rattle.icu_locale_core_grammar.proofs.SubtagLemmas.{key_no_value, field_key_no_value}
use Rattle.icu_locale_core_grammar.proofs.LanguageReader.{set_filled}
use Rattle.icu_locale_core_grammar.proofs.HeadedReader.{headed_reader}
use Rattle.icu_locale_core_grammar.proofs.ListReaders.{pieces_reader, put_value, fold-values, fold-pushed}

-- ---- entries

abbrev MeansNothing : List Text → Unit {0} → Type 0
MeansNothing ps h = ps ≡ []

nothing_found : (ps : List Text) (s h : Unit {0}) → run nothing_after (Some tt) ps ≡ Some s → nothing_ends s ≡ Some h → MeansNothing ps h
nothing_found [] s h e f = refl
nothing_found (p ∷ ps) s h e f = cc

nothing_reader : IsReader nothing_after tt nothing_ends MeansNothing
nothing_reader = record { found = nothing_found; only = λ ps m a. (tt, ap (run nothing_after (Some tt)) a, refl); goes_on = λ s. ([], s, s, refl, refl) }

ended_of : (o : Option (Headed (Unit {0}))) (es : List Entry) → entries_of o ≡ Some es → o ≡ Some (record { head = tt; entries = es })
ended_of None es e = cc
ended_of (Some h) es e = let same : h.entries ≡ es = cc in ap (λ l. Some (record { head = tt; entries = l })) same

module _ (test : Text → Bool) (needs : Bool) (no_value : (p : Text) → test p ≡ true → is_value p ≡ false) where
  whole : IsReader (entries_after test needs) (InHead tt) (headed_ends nothing_ends) (MeansHeaded MeansNothing test needs)
  whole = headed_reader nothing_after tt nothing_ends MeansNothing test needs nothing_reader no_value (λ s p e. refl)

  into : (ps : List Text) (h : Headed (Unit {0})) → MeansHeaded MeansNothing test needs ps h → MeansEntries test needs ps h.entries
  into ps h a = record { entries = a.entries; parts = ap (λ l. l ++ flat_map spelled_entry a.entries) (sym a.meant) ∙ a.parts; each = a.each; keyed = a.keyed }

  back : (ps : List Text) (es : List Entry) → MeansEntries test needs ps es → MeansHeaded MeansNothing test needs ps (record { head = tt; entries = es })
  back ps es a = record { head = []; entries = a.entries; parts = a.parts; meant = refl; each = a.each; keyed = a.keyed }

  found : (ps : List Text) (s : EntriesStage) (es : List Entry) → run (entries_after test needs) (Some (InHead tt)) ps ≡ Some s → entries_end s ≡ Some es → MeansEntries test needs ps es
  found ps s es e f = into ps (record { head = tt; entries = es }) (whole.found ps s (record { head = tt; entries = es }) e (ended_of (headed_ends nothing_ends s) es f))

  only : (ps : List Text) (es : List Entry) → MeansEntries test needs ps es → (s : EntriesStage) × (run (entries_after test needs) (Some (InHead tt)) ps ≡ Some s) × (entries_end s ≡ Some es)
  only ps es a =
      let r = whole.only ps (record { head = tt; entries = es }) (back ps es a) in
      (r.0, r.1, ap entries_of r.2)

  pub entries_reader : IsReader (entries_after test needs) (InHead tt) entries_end (MeansEntries test needs)
  entries_reader = record { found = found; only = only; goes_on = λ s. let w = whole.goes_on s in (w.0, w.1, w.2.entries, w.3, ap entries_of w.4) }

pub keywords_reader : IsReader (entries_after is_key false) (InHead tt) entries_end MeansKeywords
keywords_reader = entries_reader is_key false key_no_value

pub fields_reader : IsReader (entries_after is_field_key true) (InHead tt) entries_end MeansFields
fields_reader = entries_reader is_field_key true field_key_no_value

-- ---- keywords are what may be after `u` without an attribute, fields what may be after `t` without a language

no_attributes : (ps set : List Text) → MeansAttributes ps set → set ≡ [] → ps ≡ []
no_attributes [] set a e = refl
no_attributes (p ∷ ps) set a e =
    let f : has_none (set_of (map lower (p ∷ ps))) ≡ false = set_filled (lower p) (map lower ps) in
    let g : set_of (map lower (p ∷ ps)) ≡ [] = a.meant ∙ e in
    let h : has_none (set_of (map lower (p ∷ ps))) ≡ true = ap has_none g in cc

pub keywords_after : (ps : List Text) (es : List Entry) → MeansKeywords ps es → MeansUnicode ps (record { head = []; entries = es })
keywords_after ps es a = record { head = []; entries = a.entries; parts = a.parts; meant = record { each = tt; meant = refl }; each = a.each; keyed = a.keyed }

pub keywords_alone : (ps : List Text) (es : List Entry) → MeansUnicode ps (record { head = []; entries = es }) → MeansKeywords ps es
keywords_alone ps es a = record { entries = a.entries; parts = ap (λ l. l ++ flat_map spelled_entry a.entries) (sym (no_attributes a.head [] a.meant refl)) ∙ a.parts; each = a.each; keyed = a.keyed }

pub fields_after : (ps : List Text) (es : List Entry) → MeansFields ps es → MeansTransform ps (record { head = None; entries = es })
fields_after ps es a = record { head = []; entries = a.entries; parts = a.parts; meant = refl; each = a.each; keyed = a.keyed }

pub fields_alone : (ps : List Text) (es : List Entry) → MeansTransform ps (record { head = None; entries = es }) → MeansFields ps es
fields_alone ps es a = record { entries = a.entries; parts = ap (λ l. l ++ flat_map spelled_entry a.entries) (sym a.meant) ∙ a.parts; each = a.each; keyed = a.keyed }

-- ---- values and private pieces

pub value_reader : IsReader value_after [] Some MeansValue
value_reader = pieces_reader is_value put_value [] MeansValue (λ ps m each e. record { each = each; meant = sym (fold-values [] ps) ∙ e }) (λ ps m a. (a.each, fold-values [] ps ∙ a.meant))

pub own_reader : IsReader own_after [] Some MeansOwn
own_reader = pieces_reader is_private_piece (λ own p. own ++ lower p ∷ []) [] MeansOwn (λ ps m each e. record { each = each; meant = sym (fold-pushed [] ps) ∙ e }) (λ ps m a. (a.each, fold-pushed [] ps ∙ a.meant))
