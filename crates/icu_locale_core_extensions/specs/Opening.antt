-- A text taken apart into a singleton and the pieces after it.
-- Defined in docs/tags.md, "Parts read alone".
-- Cited by the readers of extensions that are read with their singleton.
use Rattle.std.specs.Prelude.{◌≡◌, ◌≢◌, true, List, [], ◌∷◌}
use Rattle.icu_locale_core_grammar.specs.Subtags.{Text, spells, is_other, lower}

-- a singleton, in either case, and at least one piece after it
pub record Opens (singleton : Text) (ps body : List Text) : Type 0 where
  pub first : Text
  pub parts : ps ≡ first ∷ body
  pub is : spells singleton first ≡ true
  pub filled : body ≢ []

-- a singleton that has no rule of its own, in lower case, and at least one piece after it
pub record OpensOther (ps : List Text) (singleton : Text) (body : List Text) : Type 0 where
  pub first : Text
  pub parts : ps ≡ first ∷ body
  pub is : is_other first ≡ true
  pub lowered : lower first ≡ singleton
  pub filled : body ≢ []
