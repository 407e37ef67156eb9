-- The parents of locales, and the chains that they make: after each locale its listed parent, or else the locale cut by one part.
-- Defined in docs/books.md, "Parents".
-- Cited by `Parents`, by the parents of a book, and by the choice of tables.
use Rattle.std.specs.Prelude.{◌≡◌, ◌↔◌, Bool, true, ℕ, ◌+◌, ◌*◌, List, [], ◌∷◌, ◌++◌, length, Option, None}
use Rattle.std.specs.List.{list_any}
use Rattle.std.specs.Map.{lookup}
use Rattle.std.specs.Option.{option_or}
use Rattle.icu_locale_core.specs.TagPreferences.{DataLocaleMeaning}
use Rattle.icu_locale_core.specs.DataLocales.{truncated}
pub use Rattle.icu_locale_core.specs.SamePreferences.{same_data as same_data_locale}
use Rattle.icu_decimal_chains.specs.Chains.{ComesBack, chain}

-- a locale and its parent
abbrev pub Entry : Type 0
Entry = DataLocaleMeaning × DataLocaleMeaning

abbrev pub listed_parent : List Entry → DataLocaleMeaning → Option DataLocaleMeaning
listed_parent entries locale = lookup (same_data_locale locale) entries

-- the step
abbrev pub parent_step : List Entry → DataLocaleMeaning → Option DataLocaleMeaning
parent_step entries locale = option_or (listed_parent entries locale) (truncated locale)

-- the bound on steps: no chain that ends has more
abbrev pub most_steps : List Entry → ℕ
most_steps entries = 5 * length entries + 4

abbrev pub parents_chain : List Entry → DataLocaleMeaning → List DataLocaleMeaning
parents_chain entries locale = chain (parent_step entries) (most_steps entries) locale

-- the chain of the start meets the goal
abbrev pub leads_to : List Entry → DataLocaleMeaning → DataLocaleMeaning → Bool
leads_to entries start goal = list_any (λ x. same_data_locale x goal) (parents_chain entries start)

-- under the entries up to this one, the chain from its locale comes back to it
abbrev pub ClosesCycle : List Entry → Entry → Type 0
ClosesCycle before entry = ComesBack (parent_step (before ++ entry ∷ [])) entry.0

-- no locale is twice, and no entry closes a cycle
pub record IsParents (entries : List Entry) : Type 0 where
  pub once : (before : List Entry) (entry : Entry) (behind : List Entry) → entries ≡ before ++ entry ∷ behind → listed_parent before entry.0 ≡ None
  pub open_ended : (before : List Entry) (entry : Entry) (behind : List Entry) → entries ≡ before ++ entry ∷ behind → ¬ (ClosesCycle before entry)

-- the test by the chain of the parent, under the entries before, finds a cycle where there is one
abbrev pub CyclesAreMet : Type 0
CyclesAreMet = (entries : List Entry) → IsParents entries → (entry : Entry) → listed_parent entries entry.0 ≡ None
    → (leads_to entries entry.1 entry.0 ≡ true) ↔ ClosesCycle entries entry
