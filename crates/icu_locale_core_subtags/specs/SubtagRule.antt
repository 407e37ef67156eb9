-- A rule of subtags: which texts it accepts, in either case, and the case that it gives them.
-- Defined in docs/tags.md, "Subtags as values".
-- Cited by the trait `SubtagRule`, so it holds of every type of subtag.
use Rattle.std.specs.Prelude.{◌≡◌, ℕ, ◌<◌, ◌≤◌, Bool, true, length}
use Rattle.icu_locale_core_grammar.specs.Subtags.{Text, is_plain, lower}

-- accepted texts are short words of letters and digits, and the normal case changes only case, once
pub record IsSubtagRule (capacity : ℕ) (accepts : Text → Bool) (normal : Text → Text) : Type 0 where
  pub some : (t : Text) → accepts t ≡ true → 0 < length t
  pub short : (t : Text) → accepts t ≡ true → length t ≤ capacity
  pub plain : (t : Text) → accepts t ≡ true → is_plain t ≡ true
  pub stays : (t : Text) → accepts t ≡ true → accepts (normal t) ≡ true
  pub settles : (t : Text) → normal (normal t) ≡ normal t
  pub recased : (t : Text) → lower (normal t) ≡ lower t
