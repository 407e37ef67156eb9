-- Reading a singleton, a head and entries: amid the loop, where a piece is refused, and at the end.
use Rattle.std.proofs.Common.{◌≡◌, Bool, false, List, [], ◌∷◌, ◌++◌, Option, None, Some, inl, inr, sym, ap, ◌∙◌}
use Rattle.icu_locale_core_grammar.specs.declared.error.ParseError.{ParseError}
use Rattle.icu_locale_core_grammar.specs.Subtags.{Text, spells}
use Rattle.icu_locale_core_grammar.specs.PartReaders.{IsExtension}
use Rattle.icu_locale_core_grammar.specs.Stepping.{run, IsReader}
use Rattle.icu_locale_core_grammar.proofs.CallerLemmas.{none_left}
use Rattle.icu_locale_core_grammar.proofs.Runs.{run_joined}
use Rattle.icu_locale_core_subtag_lists.specs.Reading.{IsRefused}
use Rattle.icu_locale_core_keywords_fields.proofs.ReadingLemmas.{IsReading, reading_goes_on}
use Rattle.icu_locale_core_langid.specs.Allocation.{grows_along}
use Rattle.icu_locale_core_langid.proofs.AllocationLemmas.{no_growth, no_growth_at_end}
use Rattle.icu_locale_core_extensions.specs.Allocation.{grows_after}
use Rattle.icu_locale_core_extensions.specs.HeadedReading.{EndsAs}
use Rattle.icu_locale_core_extensions.specs.Opening.{Opens}
use Rattle.icu_locale_core_extensions.proofs.AllocationLemmas.{growth_after}
use Rattle.icu_locale_core_extensions.proofs.OpeningLemmas.{meant_after}

-- ---- amid the loop

-- after the singleton, what was taken so far led to the stage
pub record IsReadingAfter {S : Type 0} (singleton : Text) (step : S → Text → Option S) (start : S) (ps left : List Text) (s : S) : Type 0 where
  pub body : List Text
  pub opens : Opens singleton ps body
  pub reading : IsReading step start body left s

module _ {S : Type 0} (singleton : Text) (step : S → Text → Option S) (start : S) (ps : List Text) where
  pub after_goes_on : (now left : List Text) (p : Text) (s t : S) → now ≡ p ∷ left → IsReadingAfter singleton step start ps now s → step s p ≡ Some t
      → IsReadingAfter singleton step start ps left t
  after_goes_on now left p s t cut so_far e =
      record { body = so_far.body; opens = so_far.opens; reading = reading_goes_on step start so_far.body now left p s t cut so_far.reading e }

  -- where the pieces after the singleton may not allocate, the next one does not, nor does the end
  module _ (grows : S → Text → Bool) (keeps : S → Bool) where
    abbrev GrowsNot : Type 0
    GrowsNot = grows_after (spells singleton) (λ qs. grows_along step grows keeps (Some start) qs) ps ≡ false

    body_grows_not : (left : List Text) (s : S) → (so_far : IsReadingAfter singleton step start ps left s) → GrowsNot → grows_along step grows keeps (Some start) so_far.body ≡ false
    body_grows_not left s so_far none =
        growth_after (spells singleton) (λ qs. grows_along step grows keeps (Some start) qs) ps so_far.body so_far.opens.first so_far.opens.parts so_far.opens.is none

    pub next_grows_not : (now left : List Text) (p : Text) (s : S) → now ≡ p ∷ left → IsReadingAfter singleton step start ps now s → GrowsNot → grows s p ≡ false
    next_grows_not now left p s cut so_far none =
        no_growth step grows keeps start s so_far.body so_far.reading.taken now left p so_far.reading.parts cut so_far.reading.reached (body_grows_not now s so_far none)

    pub end_grows_not : (left : List Text) (s : S) → left ≡ [] → IsReadingAfter singleton step start ps left s → GrowsNot → keeps s ≡ false
    end_grows_not left s none_left so_far none =
        no_growth_at_end step grows keeps start s so_far.body so_far.reading.taken left so_far.reading.parts none_left so_far.reading.reached (body_grows_not left s so_far none)

-- ---- what is found

module _ {S M : Type 0} (step : S → Text → Option S) (start : S) (ends : S → Option M) (body : List Text) where
  all_taken : (left : List Text) (s : S) → left ≡ [] → IsReading step start body left s → run step (Some start) body ≡ Some s
  all_taken left s none so_far =
      ap (λ l. run step (Some start) l) (none_left body so_far.taken (so_far.parts ∙ ap (λ l. so_far.taken ++ l) none)) ∙ so_far.reached

  no_end_after : (now left : List Text) (p : Text) (s : S) → now ≡ p ∷ left → IsReading step start body now s → step s p ≡ None → (m : M) → EndsAs step start ends body m → ⊥
  no_end_after now left p s cut so_far none m e =
      let stuck : run step (Some start) body ≡ None =
      ap (λ l. run step (Some start) l) (so_far.parts ∙ ap (λ l. so_far.taken ++ l) cut)
      ∙ run_joined step start s None so_far.taken (p ∷ left) so_far.reached (ap (λ o. run step o left) none) in
      cc (stuck, e.1)

  no_end_here : (left : List Text) (s : S) → left ≡ [] → IsReading step start body left s → None ≡ ends s → (m : M) → EndsAs step start ends body m → ⊥
  no_end_here left s none so_far cut m e =
      let same : e.0 ≡ s = cc (e.1, all_taken left s none so_far) in
      cc (ap ends same, e.2, cut)

module _ {S M : Type 0} (singleton : Text) (step : S → Text → Option S) (start : S) (ends : S → Option M) (ps : List Text) where
  -- the text read as an extension
  abbrev Reads : M → Type 0
  Reads m = IsExtension (spells singleton) (EndsAs step start ends) ps m

  pub after_read : (left : List Text) (s : S) (m : M) → left ≡ [] → IsReadingAfter singleton step start ps left s → Some m ≡ ends s → Reads m
  after_read left s m none so_far e =
      let o = so_far.opens in
      record { singleton = o.first; body = so_far.body; parts = sym o.parts; is = o.is; filled = o.filled; meant = (s, all_taken step start ends so_far.body left s none so_far.reading, sym e) }

  pub after_refused : (now left : List Text) (p : Text) (s : S) → now ≡ p ∷ left → IsReadingAfter singleton step start ps now s → step s p ≡ None → (m : M) → Reads m → ⊥
  after_refused now left p s cut so_far none m r =
      no_end_after step start ends so_far.body now left p s cut so_far.reading none m (meant_after singleton (EndsAs step start ends) ps so_far.body m so_far.opens r)

  pub after_cut : (left : List Text) (s : S) → left ≡ [] → IsReadingAfter singleton step start ps left s → None ≡ ends s → (m : M) → Reads m → ⊥
  after_cut left s none so_far cut m r =
      no_end_here step start ends so_far.body left s none so_far.reading cut m (meant_after singleton (EndsAs step start ends) ps so_far.body m so_far.opens r)

-- ---- what a right reader finds is what the grammar means

module _ {S M : Type 0} {step : S → Text → Option S} {start : S} {ends : S → Option M} {Means : List Text → M → Type 0} (right : IsReader step start ends Means) (opening : Text → Bool) (ps : List Text) where
  pub found_meant : (m : M) → IsExtension opening (EndsAs step start ends) ps m → IsExtension opening Means ps m
  found_meant m r =
      record { singleton = r.singleton; body = r.body; parts = r.parts; is = r.is; filled = r.filled; meant = right.found r.body r.meant.0 m r.meant.1 r.meant.2 }

  meant_found : (m : M) → IsExtension opening Means ps m → IsExtension opening (EndsAs step start ends) ps m
  meant_found m r = record { singleton = r.singleton; body = r.body; parts = r.parts; is = r.is; filled = r.filled; meant = right.only r.body m r.meant }

  pub refused_unmeant : (e : ParseError) → IsRefused (IsExtension opening (EndsAs step start ends) ps) e → IsRefused (IsExtension opening Means ps) e
  refused_unmeant e (inl f) = inl f
  refused_unmeant e (inr f) = inr (f.0, λ m r. f.1 m (meant_found m r))
