-- Entries and values alone: where nothing of the pieces is kept, no stage that is reached takes memory.
use Rattle.std.proofs.Common.{◌≡◌, Bool, true, false, not, ◌&&◌, ◌||◌, List, [], ◌∷◌, ◌++◌, Option, None, Some, refl, sym, ap, ◌∙◌, subst, append-nil}
use Rattle.std.specs.Prelude.{if◌then◌else◌}
use Rattle.icu_locale_core_grammar.specs.Subtags.{Text, is_value, is_true, lower}
use Rattle.icu_locale_core_grammar.specs.Collections.{put_first}
use Rattle.icu_locale_core_grammar.specs.Pieces.{pieces}
use Rattle.icu_locale_core_grammar.specs.PartReaders.{listed, EntriesStage, entries_after, value_after}
use Rattle.icu_locale_core_grammar.specs.Stepping.{run, InHead, InEntry, headed_after}
use Rattle.icu_locale_core_grammar.proofs.CallerLemmas.{none_left}
use Rattle.icu_locale_core_grammar.proofs.Runs.{first_step}
use Rattle.icu_locale_core_keywords_fields.specs.Allocation.{begins_entry, keeps_entry, keeps_value, grows_at, keeps_last, value_grows}
use Rattle.icu_locale_core_keywords_fields.proofs.ReadingLemmas.{IsReading, was_value}

module _ (test : Text → Bool) (needs : Bool) (no_value : (t : Text) → test t ≡ true → is_value t ≡ false) where
  abbrev after : EntriesStage → Text → Option EntriesStage
  after = entries_after test needs

  -- the stage after a first key
  abbrev opened : Text → EntriesStage
  opened key = InEntry tt [] (lower key, []) (not needs)

  abbrev KeepsNone : List Text → Type 0
  KeepsNone ps = begins_entry test needs ps ≡ false

  -- ---- along the pieces after a first key

  first_is_key : (p : Text) (s : EntriesStage) → after (InHead tt) p ≡ Some s → (test p ≡ true) × (s ≡ opened p)
  unfolding headed_after
  first_is_key p s e = by (test p) refl e
    where
      by : (b : Bool) → test p ≡ b → (if b then Some (opened p) else None) ≡ Some s → (test p ≡ true) × (s ≡ opened p)
      by true is f = let same : opened p ≡ s = cc in (is, sym same)
      by false is f = cc

  -- an entry that keeps nothing yet, and what may be kept of the pieces that are left
  record IsBare (left : List Text) (s : EntriesStage) : Type 0 where
    key : Text
    full : Bool
    same : s ≡ InEntry tt [] (key, []) full
    none : keeps_entry test full left ≡ false

  next_bare : (key p : Text) (full : Bool) (ps : List Text) (s : EntriesStage) → after (InEntry tt [] (key, []) full) p ≡ Some s → keeps_entry test full (p ∷ ps) ≡ false → IsBare ps s
  unfolding headed_after
  next_bare key p full ps s e none = by (is_value p) (is_true p) (full && test p) e none
    where
      by : (a b c : Bool)
          → (if a then Some (InEntry tt [] (key, (if b then [] else [] ++ lower p ∷ [])) true) else (if c then Some (InEntry tt (put_first (key, []) []) (lower p, []) (not needs)) else None)) ≡ Some s
          → (if a then not b || keeps_entry test true ps else c) ≡ false → IsBare ps s
      by true true c f g = let same : InEntry tt [] (key, []) true ≡ s = cc in record { key = key; full = true; same = sym same; none = g }
      by true false c f g = cc
      by false b true f g = cc
      by false b false f g = cc

  bare_along : (taken left : List Text) (t s : EntriesStage) → IsBare (taken ++ left) t → run after (Some t) taken ≡ Some s → IsBare left s
  bare_along [] left t s bare reached = let same : t ≡ s = cc in subst (IsBare left) same bare
  bare_along (p ∷ taken) left t s bare reached =
      let next = first_step after t s p taken reached in
      bare_along taken left next.0 s
      (next_bare bare.key p bare.full (taken ++ left) next.0 (subst (λ u. after u p ≡ Some next.0) bare.same next.1) bare.none) next.2

  bare_first : (key : Text) (taken left : List Text) (s : EntriesStage) → run after (Some (InHead tt)) (key ∷ taken) ≡ Some s → KeepsNone (key ∷ taken ++ left) → IsBare left s
  bare_first key taken left s reached none =
      let first = first_step after (InHead tt) s key taken reached in
      let is_key = first_is_key key first.0 first.1 in
      bare_along taken left first.0 s
      (record { key = lower key; full = not needs; same = is_key.1; none = sym (ap (λ b. b && keeps_entry test (not needs) (taken ++ left)) is_key.0) ∙ none }) first.2

  -- ---- so nothing is taken

  bare_grows_not : (left : List Text) (p : Text) (s : EntriesStage) → IsBare (p ∷ left) s → grows_at (λ h q. false) test s p ≡ false
  bare_grows_not left p s bare = subst (λ t. grows_at (λ h q. false) test t p ≡ false) (sym bare.same) (by (is_value p) (is_true p) (test p) refl refl bare.full bare.none)
    where
      by : (a b c : Bool) → is_value p ≡ a → test p ≡ c → (f : Bool) → (if a then not b || keeps_entry test true left else f && c) ≡ false → ((a && not b) || (f && c)) ≡ false
      by true b true is key f none = let no : is_value p ≡ false = no_value p key in cc
      by true true false is key true none = refl
      by true true false is key false none = refl
      by true false false is key f none = cc
      by false b c is key f none = none

  grows_not : (taken left : List Text) (p : Text) (s : EntriesStage) → run after (Some (InHead tt)) taken ≡ Some s → KeepsNone (taken ++ p ∷ left) → grows_at (λ h q. false) test s p ≡ false
  grows_not [] left p s reached none =
      let same : InHead tt ≡ s = cc in
      subst (λ t. grows_at (λ h q. false) test t p ≡ false) same refl
  grows_not (key ∷ taken) left p s reached none = bare_grows_not left p s (bare_first key taken (p ∷ left) s reached none)

  keeps_not : (taken : List Text) (s : EntriesStage) → run after (Some (InHead tt)) taken ≡ Some s → KeepsNone taken → keeps_last s ≡ false
  keeps_not [] s reached none =
      let same : InHead tt ≡ s = cc in
      subst (λ t. keeps_last t ≡ false) same refl
  keeps_not (key ∷ taken) s reached none =
      let bare = bare_first key taken [] s reached (subst KeepsNone (sym (append-nil (key ∷ taken))) none) in
      subst (λ t. keeps_last t ≡ false) (sym bare.same) bare.none

  -- ---- amid the reading of a text, and at its end

  begins_listed : (text : Text) → KeepsNone (pieces text) → KeepsNone (listed text)
  begins_listed [] none = refl
  begins_listed (b ∷ bs) none = none

  pub no_growth : (text : Text) (now left : List Text) (p : Text) (s : EntriesStage) → now ≡ p ∷ left → IsReading after (InHead tt) (listed text) now s
      → KeepsNone (pieces text) → grows_at (λ h q. false) test s p ≡ false
  no_growth text now left p s cut so_far none =
      grows_not so_far.taken left p s so_far.reached (subst KeepsNone (so_far.parts ∙ ap (λ l. so_far.taken ++ l) cut) (begins_listed text none))

  pub none_kept : (text : Text) (left : List Text) (s : EntriesStage) → left ≡ [] → IsReading after (InHead tt) (listed text) left s
      → KeepsNone (pieces text) → keeps_last s ≡ false
  none_kept text left s none_is_left so_far none =
      keeps_not so_far.taken s so_far.reached (subst KeepsNone (none_left (listed text) so_far.taken (so_far.parts ∙ ap (λ l. so_far.taken ++ l) none_is_left)) (begins_listed text none))

-- ---- a value

value_grows_not : (vs taken left : List Text) (p : Text) (s : List Text) → run value_after (Some vs) taken ≡ Some s → keeps_value (taken ++ p ∷ left) ≡ false → value_grows p ≡ false
value_grows_not vs [] left p s reached none = by (is_value p) (is_true p) none
  where
    by : (a b : Bool) → (a && (not b || keeps_value left)) ≡ false → (a && not b) ≡ false
    by true true f = refl
    by true false f = cc
    by false b f = refl
value_grows_not vs (q ∷ taken) left p s reached none =
    let next = first_step value_after vs s q taken reached in
    by (is_value q) (is_true q) (was_value q vs next.0 next.1) none (value_grows_not next.0 taken left p s next.2)
  where
    by : (a b : Bool) → a ≡ true → (a && (not b || keeps_value (taken ++ p ∷ left))) ≡ false → (keeps_value (taken ++ p ∷ left) ≡ false → value_grows p ≡ false) → value_grows p ≡ false
    by true true e f more = more f
    by true false e f more = cc
    by false b e f more = cc

value_listed : (text : Text) → keeps_value (pieces text) ≡ false → keeps_value (listed text) ≡ false
value_listed [] none = refl
value_listed (b ∷ bs) none = none

pub no_piece_kept : (text : Text) (now left : List Text) (p : Text) (s : List Text) → now ≡ p ∷ left → IsReading value_after [] (listed text) now s → keeps_value (pieces text) ≡ false → value_grows p ≡ false
no_piece_kept text now left p s cut so_far none =
    value_grows_not [] so_far.taken left p s so_far.reached (subst (λ l. keeps_value l ≡ false) (so_far.parts ∙ ap (λ l. so_far.taken ++ l) cut) (value_listed text none))
