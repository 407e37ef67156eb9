-- The text of a small book, of locales and parents that are known: `specs/SelectedText.antt`.
use Rattle.std.proofs.Common.{◌≡◌, List, [], ◌∷◌, ◌++◌, map, refl, ap, ap₂, ◌∙◌, sym}
use Rattle.std.specs.Prelude.{reverse}
use Rattle.std.proofs.lemmas.List.{map-append, reverse-append}
use Rattle.std.specs.List.{filter_map}
use Rattle.std.specs.Str.Lines.{lines}
use Rattle.icu_locale_core.specs.DataText.{data_text}
use Rattle.icu_locale_core.specs.Subtags.{Text}
use Rattle.icu_locale_core.specs.TagPreferences.{Preferences, language_priority}
use Rattle.locale_numbers_book.specs.BookText.{Line}
use Rattle.locale_numbers_book.specs.SelectedText.{chain_by, listed, selected_by, selected_text, systems_asked}
use Rattle.locale_numbers_book.specs.declared.texts.BookTexts.{BookTexts}

pub small_same : (texts : BookTexts) (p : Preferences) (locales : List Text) (parents : List Line)
    → locales ≡ map data_text (chain_by (lines texts.numbers.parents.now) (language_priority p.locale))
    → parents ≡ reverse (filter_map (listed (lines texts.numbers.parents.now)) (chain_by (lines texts.numbers.parents.now) (language_priority p.locale)))
    → selected_by texts locales (systems_asked p.numbering_system) parents ≡ selected_text texts p
small_same texts p locales parents named listed = ap₂ (λ (ls : List Text) (ps : List Line). selected_by texts ls (systems_asked p.numbering_system) ps) named listed

pub reversed : {A B : Type 0} (f : A → B) (xs : List A) → map f (reverse xs) ≡ reverse (map f xs)
reversed f [] = refl
reversed f (x ∷ xs) =
    ap (map f) (reverse-append (x ∷ []) xs)
    ∙ map-append f (reverse xs) (x ∷ [])
    ∙ ap (λ ys. ys ++ f x ∷ []) (reversed f xs)
    ∙ sym (reverse-append (f x ∷ []) (map f xs))
