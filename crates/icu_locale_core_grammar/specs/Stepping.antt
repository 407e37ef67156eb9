-- Reading pieces one at a time: a step gives the next stage or none, and a stage may be an end with a meaning.
-- Defined in docs/tags.md, "Stages"; that the steps read the grammar and no more is the law of every reader.
-- Cited by the functions that read tags, and by the laws on reading.
use Rattle.std.specs.Prelude.{◌≡◌, Bool, true, not, ◌&&◌, List, [], ◌∷◌, ◌++◌, Option, None, Some, is_some, option_map, if◌then◌else◌}
use Rattle.icu_locale_core_grammar.specs.declared.error.ParseError.{ParseError}
use Rattle.icu_locale_core_grammar.specs.declared.error.ParseError.TheVariants.{InvalidLanguage, InvalidSubtag, InvalidExtension, DuplicatedExtension}
use Rattle.icu_locale_core_grammar.specs.Subtags.{Text, is_value, is_true, is_singleton, lower}
use Rattle.icu_locale_core_grammar.specs.Collections.{Entry, contains_text, put_first}
use Rattle.icu_locale_core_grammar.specs.Extensions.{Headed, Whole}

-- ---- steps

-- the stage after the pieces
abbrev pub run : {S : Type 0} → (S → Text → Option S) → Option S → List Text → Option S
run step None ps = None
run step (Some s) [] = Some s
run step (Some s) (p ∷ ps) = run step (step s p) ps

-- each stage can be brought to an end
abbrev pub CanEnd : {S M : Type 0} → (S → Text → Option S) → (S → Option M) → Type 0
CanEnd {S} {M} step ends = (s : S) → (more : List Text) × (t : S) × (m : M) × (run step (Some s) more ≡ Some t) × (ends t ≡ Some m)

-- the steps read this grammar: what they find is meant, what is meant they find, and each stage goes on to some end
pub record IsReader {S M : Type 0} (step : S → Text → Option S) (start : S) (ends : S → Option M) (Means : List Text → M → Type 0) : Type 0 where
  pub found : (ps : List Text) (s : S) (m : M) → run step (Some start) ps ≡ Some s → ends s ≡ Some m → Means ps m
  pub only : (ps : List Text) (m : M) → Means ps m → (s : S) × (run step (Some start) ps ≡ Some s) × (ends s ≡ Some m)
  pub goes_on : CanEnd step ends

-- ---- a head, and then entries

-- `InEntry`: the head, the entries before, the entry that is read, and whether it may end
pub data HeadedStage (S H : Type 0) : Type 0 where
  InHead : S → HeadedStage S H
  InEntry : H → List Entry → Entry → Bool → HeadedStage S H

-- the entry with one more piece of its value
abbrev pub with_value : Entry → Text → Entry
with_value e p = (e.0, (if is_true p then e.1 else e.1 ++ lower p ∷ []))

module _ {S H : Type 0} (step : S → Text → Option S) (ends : S → Option H) (is_key : Text → Bool) (needs : Bool) where
  -- a key opens the first entry where the head may end
  abbrev pub after_head : Option S → Option H → Text → Option (HeadedStage S H)
  after_head (Some s) h p = Some (InHead s)
  after_head None (Some h) p = if is_key p then Some (InEntry h [] (lower p, []) (not needs)) else None
  after_head None None p = None

  unfoldable pub headed_after : HeadedStage S H → Text → Option (HeadedStage S H)
  headed_after (InHead s) p = after_head (step s p) (ends s) p
  headed_after (InEntry h es e full) p =
      if is_value p then Some (InEntry h es (with_value e p) true)
      else (if full && is_key p then Some (InEntry h (put_first e es) (lower p, []) (not needs)) else None)

-- the meaning of a head that may end, or of a last entry that may
abbrev pub headed_ends : {S H : Type 0} → (S → Option H) → HeadedStage S H → Option (Headed H)
headed_ends ends (InHead s) = option_map (λ h. record { head = h; entries = [] }) (ends s)
headed_ends ends (InEntry h es e full) = if full then Some (record { head = h; entries = put_first e es }) else None

-- ---- a front, blocks, a private part

-- `AtBlock`: a singleton has come; the list is of the earlier ones, in lower case. `InBlock`: at least one piece after
-- it
pub data WholeStage (L I E B : Type 0) : Type 0 where
  InFront : L → WholeStage L I E B
  AtBlock : I → List Text → E → Text → B → WholeStage L I E B
  InBlock : I → List Text → E → Text → B → WholeStage L I E B
  InPrivate : I → E → List Text → WholeStage L I E B

module _ {L I E B V : Type 0} (step_front : L → Text → Option L) (front_ends : L → Option I) (step_body : B → Text → Option B)
    (body_ends : B → Option V) (opens : Text → Option B) (put : Text → V → E → E) (none : E) (is_x is_own : Text → Bool) where
  -- a singleton that has not come yet opens a block, which begins with the stage `b`
  abbrev pub opened : I → List Text → E → Text → Option B → Option (WholeStage L I E B)
  opened i seen e k None = None
  opened i seen e k (Some b) = Some (AtBlock i seen e k b)

  -- what comes after a part that may end
  abbrev pub next_part : I → List Text → E → Text → Option (WholeStage L I E B)
  next_part i seen e p =
      if is_x p then Some (InPrivate i e [])
      else (if contains_text (lower p) seen then None else opened i seen e (lower p) (opens p))

  abbrev pub after_front : Option L → Option I → Text → Option (WholeStage L I E B)
  after_front (Some l) i p = Some (InFront l)
  after_front None (Some i) p = next_part i [] none p
  after_front None None p = None

  abbrev pub at_block : I → List Text → E → Text → Option B → Option (WholeStage L I E B)
  at_block i seen e k None = None
  at_block i seen e k (Some b) = Some (InBlock i seen e k b)

  abbrev pub after_block : I → List Text → E → Text → Option B → Option V → Text → Option (WholeStage L I E B)
  after_block i seen e k (Some b) v p = Some (InBlock i seen e k b)
  after_block i seen e k None (Some v) p = next_part i (seen ++ k ∷ []) (put k v e) p
  after_block i seen e k None None p = None

  unfoldable pub whole_after : WholeStage L I E B → Text → Option (WholeStage L I E B)
  whole_after (InFront l) p = after_front (step_front l p) (front_ends l) p
  whole_after (AtBlock i seen e k b) p = at_block i seen e k (step_body b p)
  whole_after (InBlock i seen e k b) p = after_block i seen e k (step_body b p) (body_ends b) p
  whole_after (InPrivate i e own) p = if is_own p then Some (InPrivate i e (own ++ lower p ∷ [])) else None

-- the meaning of a private part with at least one piece
abbrev pub private_ends : {I E : Type 0} → I → E → List Text → Option (Whole I E)
private_ends i e [] = None
private_ends i e (w ∷ ws) = Some (record { language = i; extensions = e; private_use = w ∷ ws })

abbrev pub whole_ends : {L I E B V : Type 0} → (L → Option I) → (B → Option V) → (Text → V → E → E) → E → WholeStage L I E B → Option (Whole I E)
whole_ends front_ends body_ends put none (InFront l) = option_map (λ i. record { language = i; extensions = none; private_use = [] }) (front_ends l)
whole_ends front_ends body_ends put none (AtBlock i seen e k b) = None
whole_ends front_ends body_ends put none (InBlock i seen e k b) = option_map (λ v. record { language = i; extensions = put k v e; private_use = [] }) (body_ends b)
whole_ends front_ends body_ends put none (InPrivate i e own) = private_ends i e own

-- ---- the fault at a stage

-- a singleton that is there already comes where the block may end
abbrev pub is_repeated : {V : Type 0} → List Text → Option V → Text → Bool
is_repeated seen v p = is_some v && (is_singleton p && contains_text (lower p) seen)

-- the fault of a stage that does not go on with the piece at the place, or may not end; `fresh`: nothing was read
abbrev pub stage_fault : {L I E B V : Type 0} → (B → Option V) → (L → Bool) → WholeStage L I E B → Option Text → ParseError
stage_fault body_ends fresh (InFront l) place = if fresh l then InvalidLanguage else InvalidSubtag
stage_fault body_ends fresh (AtBlock i seen e k b) place = InvalidExtension
stage_fault body_ends fresh (InBlock i seen e k b) None = InvalidExtension
stage_fault body_ends fresh (InBlock i seen e k b) (Some p) =
    if is_repeated (seen ++ k ∷ []) (body_ends b) p then DuplicatedExtension else InvalidExtension
stage_fault body_ends fresh (InPrivate i e own) place = InvalidExtension
