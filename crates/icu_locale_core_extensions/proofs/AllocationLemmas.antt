-- An extension that stands alone: where a step or its end may allocate, its text says so.
use Rattle.std.proofs.Common.{◌≡◌, Bool, true, false, ◌&&◌, ◌||◌, List, [], ◌∷◌, None, Some, refl, sym, ap, ◌∙◌}
use Rattle.std.specs.Prelude.{if◌then◌else◌}
use Rattle.icu_locale_core_grammar.specs.Subtags.{Text, is_other_piece, lower}
use Rattle.icu_locale_core_grammar.specs.TagStages.{other_after}
use Rattle.icu_locale_core_subtag_lists.specs.Reading.{begins, begins_after}
use Rattle.icu_locale_core_langid.specs.Allocation.{grows_along}
use Rattle.icu_locale_core_extensions.specs.Allocation.{grows_after}

-- after the singleton is what is read
pub growth_after : (opens : Text → Bool) (may_grow : List Text → Bool) (ps body : List Text) (first : Text) → ps ≡ first ∷ body → opens first ≡ true
    → grows_after opens may_grow ps ≡ false → may_grow body ≡ false
growth_after opens may_grow ps body first parts is none =
    sym (ap (λ b. b && may_grow body) is) ∙ (sym (ap (grows_after opens may_grow) parts) ∙ none)

pub begins_body : (opens test : Text → Bool) (ps body : List Text) (first : Text) → ps ≡ first ∷ body → opens first ≡ true → begins_after opens test ps ≡ false → begins test body ≡ false
begins_body opens test ps body first parts is none =
    sym (ap (λ b. b && begins test body) is) ∙ (sym (ap (begins_after opens test) parts) ∙ none)

-- any other extension allocates for its first piece, or not at all
pub no_other_growth : (body : List Text) → begins is_other_piece body ≡ false → grows_along other_after (λ own p. is_other_piece p) (λ own. false) (Some []) body ≡ false
no_other_growth [] none = refl
no_other_growth (p ∷ ps) none =
    ap (λ b. b || grows_along other_after (λ own q. is_other_piece q) (λ own. false) (if b then Some (lower p ∷ []) else None) ps) none
