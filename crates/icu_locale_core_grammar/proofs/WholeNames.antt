-- The fault of a stage that does not go on has the name of its place.
use Rattle.std.proofs.Common.{◌≡◌, Bool, true, false, ◌&&◌, ◌||◌, List, [], ◌∷◌, ◌++◌, Option, None, Some, ◌⊎◌, inl, inr, map, flat_map, option_map, is_some, sym, refl, ap, ◌∙◌, subst}
use Rattle.std.specs.Prelude.{if◌then◌else◌}
use Rattle.std.specs.List.{list_any}
use Rattle.std.proofs.lemmas.List.{map-append}
use Rattle.std.proofs.lemmas.List.Folds.{list_any-append}
use Rattle.std.proofs.lemmas.Bool.{or_cases, or_left, or_right, or_from, and_parts, and_from, false_from_ne_true}
use Rattle.icu_locale_core_grammar.specs.declared.error.ParseError.TheVariants.{InvalidLanguage, InvalidSubtag, InvalidExtension, DuplicatedExtension}
use Rattle.icu_locale_core_grammar.specs.Subtags.{Text, is_single, is_singleton, same_text, lower}
use Rattle.icu_locale_core_grammar.specs.Collections.{contains_text}
use Rattle.icu_locale_core_grammar.specs.Extensions.{Block, spelled_block, block_key, Whole}
use Rattle.icu_locale_core_grammar.specs.FaultyPiece.{IsAccepted, IsDuplicate, IsNamed}
use Rattle.icu_locale_core_grammar.specs.Stepping.{run, WholeStage, InFront, AtBlock, InBlock, InPrivate, opened, next_part, after_block, whole_after, whole_ends, is_repeated, stage_fault}
use Rattle.icu_locale_core_grammar.specs.TagStages.{has_none}
use Rattle.icu_locale_core_grammar.proofs.ListLemmas.{mapped_some}
use Rattle.icu_locale_core_grammar.proofs.CollectionLemmas.{contains-append}
use Rattle.icu_locale_core_grammar.proofs.FaultNames.{IsNamedByCase, from_case}
use Rattle.icu_locale_core_grammar.proofs.Runs.{first_step, accepted_ends}
use Rattle.icu_locale_core_grammar.proofs.WholeMeaning.{MeansWhole}
use Rattle.icu_locale_core_grammar.proofs.WholeParts.{AreParts}
use Rattle.icu_locale_core_grammar.proofs.WholeFound.{InBlocks, InBody, Stands, stands, ends_well}
use Rattle.icu_locale_core_grammar.proofs.WholeReader.{whole_reader}

-- ---- what is among the pieces

any_after : (front middle tail : List Text) (test : Text → Bool) → list_any test tail ≡ true → list_any test (front ++ (middle ++ tail)) ≡ true
any_after front middle tail test e =
    list_any-append test front (middle ++ tail)
    ∙ or_right (list_any test front) (list_any test (middle ++ tail)) (list_any-append test middle tail ∙ or_right (list_any test middle) (list_any test tail) e)

within_middle : (t : Text) (front middle tail : List Text) → (contains_text t (map lower middle) || contains_text t (map lower tail)) ≡ true → contains_text t (map lower (front ++ (middle ++ tail))) ≡ true
within_middle t front middle tail e =
    ap (contains_text t) (map-append lower front (middle ++ tail)) ∙ contains-append t (map lower front) (map lower (middle ++ tail))
    ∙ or_right (contains_text t (map lower front)) (contains_text t (map lower (middle ++ tail))) (ap (contains_text t) (map-append lower middle tail) ∙ contains-append t (map lower middle) (map lower tail) ∙ e)

-- a key of a block is among the pieces, but for its case
key_within : {V : Type 0} (t : Text) (bs : List (Block V)) → contains_text t (map block_key bs) ≡ true → contains_text t (map lower (flat_map spelled_block bs)) ≡ true
key_within t [] e = e
key_within t (b ∷ bs) e = by_case (or_cases (same_text t (block_key b)) (contains_text t (map block_key bs)) e) (key_within t bs)
  where
    rest : contains_text t (map lower (b.body ++ flat_map spelled_block bs)) ≡ (contains_text t (map lower b.body) || contains_text t (map lower (flat_map spelled_block bs)))
    rest = ap (contains_text t) (map-append lower b.body (flat_map spelled_block bs)) ∙ contains-append t (map lower b.body) (map lower (flat_map spelled_block bs))

    by_case : (same_text t (block_key b) ≡ true) ⊎ (contains_text t (map block_key bs) ≡ true) → (contains_text t (map block_key bs) ≡ true → contains_text t (map lower (flat_map spelled_block bs)) ≡ true)
        → (same_text t (block_key b) || contains_text t (map lower (b.body ++ flat_map spelled_block bs))) ≡ true
    by_case (inl f) more = or_left (same_text t (block_key b)) _ f
    by_case (inr f) more = or_right (same_text t (block_key b)) _ (rest ∙ or_right (contains_text t (map lower b.body)) _ (more f))

not_both : (b : Bool) → b ≡ true → b ≡ false → ⊥
not_both b e f = let g : true ≡ false = sym e ∙ f in cc

is_there : {A : Type 0} (o : Option A) → is_some o ≡ true → (a : A) × (o ≡ Some a)
is_there None e = cc
is_there (Some a) e = (a, refl)

module _ {L I E B V : Type 0} (step_front : L → Text → Option L) (start : L) (front_ends : L → Option I) (MeansFront : List Text → I → Type 0)
    (step_body : B → Text → Option B) (body_ends : B → Option V) (opens : Text → Option B) (MeansBody : Text → List Text → V → Type 0)
    (put : Text → V → E → E) (none : E) (is_x is_own : Text → Bool)
    (sound : AreParts step_front start front_ends MeansFront step_body body_ends opens MeansBody is_x is_own)
    (fresh : L → Bool) (fresh_is : (taken : List Text) (l : L) → run step_front (Some start) taken ≡ Some l → fresh l ≡ has_none taken)
    (any_opens : (p : Text) → is_singleton p ≡ true → is_x p ≡ false → (b : B) × (opens p ≡ Some b))
    (any_own : (p : Text) → is_singleton p ≡ true → is_own p ≡ true)
    (singleton_single : (p : Text) → is_singleton p ≡ true → is_single p ≡ true) where
  abbrev Stage : Type 0
  Stage = WholeStage L I E B

  abbrev after : Stage → Text → Option Stage
  after = whole_after step_front front_ends step_body body_ends opens put none is_x is_own

  abbrev ends : Stage → Option (Whole I E)
  ends = whole_ends front_ends body_ends put none

  abbrev Meant : List Text → Whole I E → Type 0
  Meant = MeansWhole (record { means_front = MeansFront; means_body = MeansBody; put = put; none = none; begins_private = is_x; is_private_piece = is_own })

  abbrev Blocks : List Text → I → List Text → E → List Text → Type 0
  Blocks = InBlocks step_front start front_ends MeansFront step_body body_ends opens MeansBody put none is_x is_own sound

  abbrev Body : List Text → I → List Text → E → Text → B → Type 0
  Body = InBody step_front start front_ends MeansFront step_body body_ends opens MeansBody put none is_x is_own sound

  abbrev Is : List Text → Stage → Type 0
  Is = Stands step_front start front_ends MeansFront step_body body_ends opens MeansBody put none is_x is_own sound

  abbrev Stuck : Stage → Option Text → Type 0
  Stuck s (Some p) = after s p ≡ None
  Stuck s None = ends s ≡ None

  -- ---- a front has no piece of one character, and all else has one

  front_plain : (ps : List Text) (l u : L) → run step_front (Some l) ps ≡ Some u → list_any is_single ps ≡ false
  front_plain [] l u e = refl
  front_plain (p ∷ ps) l u e =
      let f = first_step step_front l u p ps e in
      let no : is_single p ≡ true → ⊥ = λ g. let h : Some f.0 ≡ None = sym f.1 ∙ sound.front_closed l p g in cc in
      or_from (is_single p) (list_any is_single ps) (false_from_ne_true (is_single p) no) (front_plain ps f.0 u f.2)

  tail_single : (taken : List Text) (i : I) (seen : List Text) (e : E) (s : Text) (ps : List Text) → Blocks taken i seen e (s ∷ ps) → is_single s ≡ true → list_any is_single taken ≡ true
  tail_single taken i seen e s ps b f =
      subst (λ l. list_any is_single l ≡ true) b.parts (any_after b.front (flat_map spelled_block b.blocks) (s ∷ ps) is_single (or_left (is_single s) (list_any is_single ps) f))

  -- ---- names

  named_front : (taken : List Text) (l : L) (place : Option Text) (b : Bool) → run step_front (Some start) taken ≡ Some l → fresh l ≡ b → has_none taken ≡ b
      → IsNamedByCase Meant (if b then InvalidLanguage else InvalidSubtag) taken place
  named_front [] l place true e f g = refl
  named_front [] l place false e f g = cc
  named_front (p ∷ ps) l place true e f g = cc
  named_front (p ∷ ps) l place false e f g = ((λ h. cc), front_plain (p ∷ ps) start l e)

  not_accepted_at : (taken : List Text) (i : I) (seen : List Text) (e : E) (k : Text) (b : B) → run after (Some (InFront start)) taken ≡ Some (AtBlock i seen e k b) → IsAccepted Meant taken → ⊥
  not_accepted_at taken i seen e k b r a =
      let f = accepted_ends (whole_reader step_front start front_ends MeansFront step_body body_ends opens MeansBody put none is_x is_own sound) taken (AtBlock i seen e k b) a.0 r a.1 in cc

  at_no_duplicate : (taken : List Text) (i : I) (seen : List Text) (e : E) (k : Text) (b : B) (place : Option Text) → run after (Some (InFront start)) taken ≡ Some (AtBlock i seen e k b) → IsDuplicate Meant taken place → ⊥
  at_no_duplicate taken i seen e k b None r d = d
  at_no_duplicate taken i seen e k b (Some p) r d = not_accepted_at taken i seen e k b r d.0

  -- after a body that may end, a singleton that has not come goes on
  goes_on_with : (i : I) (seen : List Text) (e : E) (k : Text) (b : B) (v : V) (p : Text) (x : Bool) → body_ends b ≡ Some v → is_singleton p ≡ true → contains_text (lower p) (seen ++ k ∷ []) ≡ false → is_x p ≡ x
      → after (InBlock i seen e k b) p ≡ None → ⊥
  unfolding whole_after
  goes_on_with i seen e k b v p x f g new is stuck = by_x x is
    where
      inner : Option Stage
      inner = if contains_text (lower p) (seen ++ k ∷ []) then None else opened step_front front_ends step_body body_ends opens put none is_x is_own i (seen ++ k ∷ []) (put k v e) (lower p) (opens p)

      onward : after (InBlock i seen e k b) p ≡ next_part step_front front_ends step_body body_ends opens put none is_x is_own i (seen ++ k ∷ []) (put k v e) p
      onward =
          ap (λ o. after_block step_front front_ends step_body body_ends opens put none is_x is_own i seen e k o (body_ends b) p) (sound.body_closed b p (singleton_single p g))
          ∙ ap (λ o. after_block step_front front_ends step_body body_ends opens put none is_x is_own i seen e k None o p) f

      by_x : (x : Bool) → is_x p ≡ x → ⊥
      by_x true q =
          let h : None ≡ Some (InPrivate i (put k v e) []) = sym stuck ∙ onward ∙ ap (λ c. if c then Some (InPrivate i (put k v e) []) else (if contains_text (lower p) (seen ++ k ∷ []) then None else opened step_front front_ends step_body body_ends opens put none is_x is_own i (seen ++ k ∷ []) (put k v e) (lower p) (opens p))) q in cc
      by_x false q =
          let o = any_opens p g q in
          let h : None ≡ Some (AtBlock i (seen ++ k ∷ []) (put k v e) (lower p) o.0) =
          sym stuck ∙ onward
          ∙ ap (λ c. if c then Some (InPrivate i (put k v e) []) else (if contains_text (lower p) (seen ++ k ∷ []) then None else opened step_front front_ends step_body body_ends opens put none is_x is_own i (seen ++ k ∷ []) (put k v e) (lower p) (opens p))) q
          ∙ ap (λ c. if c then None else opened step_front front_ends step_body body_ends opens put none is_x is_own i (seen ++ k ∷ []) (put k v e) (lower p) (opens p)) new
          ∙ ap (opened step_front front_ends step_body body_ends opens put none is_x is_own i (seen ++ k ∷ []) (put k v e) (lower p)) o.1 in cc

  repeated_within : (taken : List Text) (i : I) (seen : List Text) (e : E) (k : Text) (b : B) (t : Text) → Body taken i seen e k b → contains_text t (seen ++ k ∷ []) ≡ true → contains_text t (map lower taken) ≡ true
  repeated_within taken i seen e k b t s f =
      subst (λ l. contains_text t (map lower l) ≡ true) s.blocks.parts
      (within_middle t s.blocks.front (flat_map spelled_block s.blocks.blocks) (s.singleton ∷ s.first ∷ s.rest) (by_case (or_cases (contains_text t seen) (contains_text t (k ∷ [])) (sym (contains-append t seen (k ∷ [])) ∙ f))))
    where
      by_case : (contains_text t seen ≡ true) ⊎ (contains_text t (k ∷ []) ≡ true) → (contains_text t (map lower (flat_map spelled_block s.blocks.blocks)) || contains_text t (map lower (s.singleton ∷ s.first ∷ s.rest))) ≡ true
      by_case (inl g) = or_left (contains_text t (map lower (flat_map spelled_block s.blocks.blocks))) _ (key_within t s.blocks.blocks (ap (contains_text t) s.blocks.keys ∙ g))
      by_case (inr g) = or_right (contains_text t (map lower (flat_map spelled_block s.blocks.blocks))) _ (or_left (same_text t (lower s.singleton)) _ (ap (same_text t) s.key ∙ is_key (or_cases (same_text t k) false g)))
        where
          is_key : (same_text t k ≡ true) ⊎ (false ≡ true) → same_text t k ≡ true
          is_key (inl h) = h
          is_key (inr h) = cc

  body_accepted : (taken : List Text) (i : I) (seen : List Text) (e : E) (k : Text) (b : B) (v : V) → Body taken i seen e k b → body_ends b ≡ Some v → IsAccepted Meant taken
  body_accepted taken i seen e k b v s f = (
    record { language = i; extensions = put k v e; private_use = [] },
    ends_well step_front start front_ends MeansFront step_body body_ends opens MeansBody put none is_x is_own sound taken (InBlock i seen e k b) _ s
        (ap (option_map (λ w. record { language = i; extensions = put k w e; private_use = [] })) f),
  )

  -- what the end of a reached block says of its pieces
  end_of_body : (taken : List Text) (i : I) (seen : List Text) (e : E) (k : Text) (b : B) → run after (Some (InFront start)) taken ≡ Some (InBlock i seen e k b) → IsAccepted Meant taken → (v : V) × (body_ends b ≡ Some v)
  end_of_body taken i seen e k b r a =
      let f = accepted_ends (whole_reader step_front start front_ends MeansFront step_body body_ends opens MeansBody put none is_x is_own sound) taken (InBlock i seen e k b) a.0 r a.1 in
      let g = mapped_some (λ v. record { language = i; extensions = put k v e; private_use = [] }) (body_ends b) a.0 f in
      (g.0, g.1)

  named_block : (taken : List Text) (i : I) (seen : List Text) (e : E) (k : Text) (b : B) (p : Text) (x : Bool) → run after (Some (InFront start)) taken ≡ Some (InBlock i seen e k b) → Body taken i seen e k b → list_any is_single taken ≡ true
      → is_repeated (seen ++ k ∷ []) (body_ends b) p ≡ x → after (InBlock i seen e k b) p ≡ None → IsNamedByCase Meant (if x then DuplicatedExtension else InvalidExtension) taken (Some p)
  named_block taken i seen e k b p true r s single f stuck =
      let fs = and_parts (is_some (body_ends b)) (is_singleton p && contains_text (lower p) (seen ++ k ∷ [])) f in
      let gs = and_parts (is_singleton p) (contains_text (lower p) (seen ++ k ∷ [])) fs.1 in
      let v = is_there (body_ends b) fs.0 in
      (single, (body_accepted taken i seen e k b v.0 s v.1, gs.0, repeated_within taken i seen e k b (lower p) s gs.1))
  named_block taken i seen e k b p false r s single f stuck = (single, no_duplicate)
    where
      no_duplicate : IsDuplicate Meant taken (Some p) → ⊥
      no_duplicate d =
          let v = end_of_body taken i seen e k b r d.0 in
          let new : contains_text (lower p) (seen ++ k ∷ []) ≡ true → ⊥ =
          λ g. not_both (is_repeated (seen ++ k ∷ []) (body_ends b) p) (and_from (is_some (body_ends b)) (is_singleton p && contains_text (lower p) (seen ++ k ∷ [])) (ap is_some v.1) (and_from (is_singleton p) (contains_text (lower p) (seen ++ k ∷ [])) d.1 g)) f in
          goes_on_with i seen e k b v.0 p (is_x p) v.1 d.1 (false_from_ne_true (contains_text (lower p) (seen ++ k ∷ [])) new) refl stuck

  own_no_duplicate : (taken : List Text) (i : I) (e : E) (own : List Text) (place : Option Text) → Stuck (InPrivate i e own) place → IsDuplicate Meant taken place → ⊥
  unfolding whole_after
  own_no_duplicate taken i e own None stuck d = d
  own_no_duplicate taken i e own (Some p) stuck d =
      let h : None ≡ Some (InPrivate i e (own ++ lower p ∷ [])) = sym stuck ∙ ap (λ c. if c then Some (InPrivate i e (own ++ lower p ∷ [])) else None) (any_own p d.1) in cc

  -- a stage that is reached and does not go on with the place is named by it
  pub named : (taken : List Text) (s : Stage) (place : Option Text) → run after (Some (InFront start)) taken ≡ Some s → Stuck s place → IsNamed Meant (stage_fault body_ends fresh s place) taken place
  named taken s place r stuck =
      from_case Meant (stage_fault body_ends fresh s place) taken place
      (by_stage s place r (stands step_front start front_ends MeansFront step_body body_ends opens MeansBody put none is_x is_own sound taken s r) stuck)
    where
      by_stage : (s : Stage) (place : Option Text) → run after (Some (InFront start)) taken ≡ Some s → Is taken s → Stuck s place → IsNamedByCase Meant (stage_fault body_ends fresh s place) taken place
      by_stage (InFront l) place r is stuck = named_front taken l place (fresh l) is refl (sym (fresh_is taken l is))
      by_stage (AtBlock i seen e k b) place r is stuck =
          (tail_single taken i seen e is.singleton [] is.blocks (sound.opens_single is.singleton b is.opening), at_no_duplicate taken i seen e k b place r)
      by_stage (InBlock i seen e k b) None r is stuck =
          (tail_single taken i seen e is.singleton (is.first ∷ is.rest) is.blocks (sound.opens_single is.singleton is.begun is.opening), λ d. d)
      by_stage (InBlock i seen e k b) (Some p) r is stuck =
          named_block taken i seen e k b p (is_repeated (seen ++ k ∷ []) (body_ends b) p) r is
          (tail_single taken i seen e is.singleton (is.first ∷ is.rest) is.blocks (sound.opens_single is.singleton is.begun is.opening)) refl stuck
      by_stage (InPrivate i e own) place r is stuck =
          (tail_single taken i is.seen e is.x is.pieces is.blocks (sound.x_single is.x is.is), own_no_duplicate taken i e own place stuck)
