-- Known values: sets without one of their texts, and what a set prints.
use Rattle.std.proofs.Common.{◌≡◌, [], ◌∷◌, refl}
use Rattle.std.specs.Prelude.{codes}
use Rattle.icu_locale_core_grammar.specs.Collections.{set_of}
use Rattle.icu_locale_core_grammar.specs.Pieces.{joined_text}
use Rattle.icu_locale_core_subtag_lists.specs.SubtagSets.{remove_text}

taken_from_between : remove_text (codes "b") (codes "a" ∷ codes "b" ∷ codes "c" ∷ []) ≡ codes "a" ∷ codes "c" ∷ []
taken_from_between = refl

taken_alone : remove_text (codes "a") (codes "a" ∷ []) ≡ []
taken_alone = refl

-- a text that is not there, though one there begins with it
not_taken : remove_text (codes "a") (codes "aa" ∷ codes "b" ∷ []) ≡ codes "aa" ∷ codes "b" ∷ []
not_taken = refl

-- the variants of `de-valencia-1996`, and the attributes of `u-foo-bar-foo`
variants_printed : joined_text (set_of (codes "valencia" ∷ codes "1996" ∷ [])) ≡ codes "1996-valencia"
variants_printed = refl

attributes_printed : joined_text (set_of (codes "foo" ∷ codes "bar" ∷ codes "foo" ∷ [])) ≡ codes "bar-foo"
attributes_printed = refl

one_printed : joined_text (set_of (codes "fonipa" ∷ [])) ≡ codes "fonipa"
one_printed = refl

none_printed : joined_text (set_of []) ≡ []
none_printed = refl
