-- Chains of parents at known values.
use Rattle.std.proofs.Common.{◌≡◌, [], ◌∷◌, Option, None, Some, codes, refl}
use Rattle.icu_locale_core.specs.Subtags.{Text}
use Rattle.icu_locale_core.specs.TagPreferences.{DataLocaleMeaning}
use Rattle.locale_numbers_parents.specs.Parents.{most_steps, parents_chain, ClosesCycle}

abbrev region_of : Text → Option Text → DataLocaleMeaning
region_of language region = record { language = language; script = None; region = region; variant = None; subdivision = None }

abbrev en : DataLocaleMeaning
en = region_of (codes "en") None

abbrev en_US : DataLocaleMeaning
en_US = region_of (codes "en") (Some (codes "US"))

abbrev en_AU : DataLocaleMeaning
en_AU = region_of (codes "en") (Some (codes "AU"))

abbrev en_001 : DataLocaleMeaning
en_001 = region_of (codes "en") (Some (codes "001"))

abbrev xx : DataLocaleMeaning
xx = region_of (codes "xx") None

-- no entry: only truncation
only_cut : parents_chain [] en_US ≡ en_US ∷ en ∷ []
only_cut = refl

-- a bare language ends the chain: `und` does not follow
bare_ends : parents_chain [] xx ≡ xx ∷ []
bare_ends = refl

listed_first : parents_chain ((en_AU, en_001) ∷ (en_001, en) ∷ []) en_AU ≡ en_AU ∷ en_001 ∷ en ∷ []
listed_first = refl

bare_goes_on : parents_chain ((xx, en) ∷ []) xx ≡ xx ∷ en ∷ []
bare_goes_on = refl

-- [["en","en"]]
own_parent : ClosesCycle [] (en, en)
own_parent = (0, refl)

-- [["en","en-US"]]
by_cutting : ClosesCycle [] (en, en_US)
by_cutting = (1, refl)

-- [["en-AU","en-001"],["en-001","en-AU"]]
two_of_each_other : ClosesCycle ((en_AU, en_001) ∷ []) (en_001, en_AU)
two_of_each_other = (1, refl)

-- a bare language that is listed leads on, to another language or to `und`
to_undetermined : parents_chain ((xx, region_of (codes "und") None) ∷ []) xx ≡ xx ∷ region_of (codes "und") None ∷ []
to_undetermined = refl

-- five for each entry, and four
steps_of_two : most_steps ((en_AU, en_001) ∷ (en_001, en) ∷ []) ≡ 14
steps_of_two = refl
