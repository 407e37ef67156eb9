-- Parents make chains that end: `specs/Parents.antt`.
use Rattle.std.proofs.Common.{◌≡◌, ◌≤◌, true, false, List, [], ◌∷◌, ◌++◌, length, None, refl, sym, subst, inl, inr, append_assoc}
use Rattle.std.proofs.lemmas.Bool.{cases_Bool}
use Rattle.std.proofs.lemmas.List.{append-nil}
use Rattle.icu_locale_core.specs.TagPreferences.{DataLocaleMeaning}
use Rattle.icu_locale_core.specs.DataLocales.{truncated}
use Rattle.icu_locale_core.proofs.SameLemmas.{same_data_locales}
use Rattle.icu_decimal_chains.specs.Chains.{Follows, walk}
use Rattle.icu_decimal_chains.proofs.NextLemmas.{comes_back, stays_away}
use Rattle.locale_numbers_parents.specs.Parents.{Entry, listed_parent, parent_step, most_steps, leads_to, ClosesCycle, CyclesAreMet, IsParents, same_data_locale}
use Rattle.locale_numbers_parents.proofs.PlaceLemmas.{size, small, falls}
use Rattle.locale_numbers_parents.proofs.PairsLemmas.{Ends, there, elsewhere, more_end, at_most, none_ends, walk_is, last_split}

abbrev AllEnd : List Entry → Type 0
AllEnd entries = Ends same_data_locale same_data_locales truncated entries

ends_from : (done left : List Entry) → IsParents (done ++ left) → AllEnd done → AllEnd (done ++ left)
ends_from done [] is ends = subst AllEnd (sym (append-nil done)) ends
ends_from done (e ∷ left) is ends =
    let more : AllEnd (done ++ e ∷ []) = more_end same_data_locale same_data_locales truncated done e.0 e.1 (is.once done e left refl) ends (is.open_ended done e left refl) in
    let moved : (done ++ e ∷ []) ++ left ≡ done ++ e ∷ left = append_assoc done (e ∷ []) left in
    subst AllEnd moved (ends_from (done ++ e ∷ []) left (subst IsParents (sym moved) is) more)

pub all_end : (entries : List Entry) → IsParents entries → AllEnd entries
all_end entries is = ends_from [] entries is (none_ends same_data_locale same_data_locales truncated size small falls)

pub cuts_none : (entries : List Entry) → IsParents entries → (l : DataLocaleMeaning) → Follows (parent_step entries) l (walk (parent_step entries) (most_steps entries) l)
cuts_none entries is l = walk_is same_data_locale same_data_locales truncated size small falls entries (all_end entries is) l

pub no_longer : (entries : List Entry) (l : DataLocaleMeaning) (xs : List DataLocaleMeaning) → Follows (parent_step entries) l xs → length xs ≤ most_steps entries
no_longer entries l xs f = at_most same_data_locale same_data_locales truncated size small falls entries l xs f

pub no_parents : IsParents []
no_parents = record { once = λ before e behind h. absurd (apart before e behind h); open_ended = λ before e behind h. absurd (apart before e behind h) }
  where
    apart : (before : List Entry) (e : Entry) (behind : List Entry) → [] ≡ before ++ e ∷ behind → ⊥
    apart [] e behind h = cc
    apart (b ∷ bs) e behind h = cc

pub one_more : (entries : List Entry) (e : Entry) → IsParents entries → listed_parent entries e.0 ≡ None → ¬ (ClosesCycle entries e) → IsParents (entries ++ e ∷ [])
one_more entries e is absent away = record {
  once = λ before x behind h. elim (last_split entries e before x behind h) as (λ _. listed_parent before x.0 ≡ None) [
    | inl same ↦ rw (same.0, same.1) absent
    | inr rest ↦ is.once before x rest.0 rest.1
  ];
  open_ended = λ before x behind h. elim (last_split entries e before x behind h) as (λ _. ¬ (ClosesCycle before x)) [
    | inl same ↦ subst (λ (b : List Entry). ¬ (ClosesCycle b x)) (sym same.0) (subst (λ (y : Entry). ¬ (ClosesCycle entries y)) (sym same.1) away)
    | inr rest ↦ is.open_ended before x rest.0 rest.1
  ];
}

-- the test of an entry is right, both ways
module _ (entries : List Entry) (k p : DataLocaleMeaning) (absent : listed_parent entries k ≡ None) (f : Follows (parent_step entries) p (walk (parent_step entries) (most_steps entries) p)) where
  pub closes : leads_to entries p k ≡ true → ClosesCycle entries (k, p)
  closes h = comes_back same_data_locale same_data_locales (parent_step entries) (parent_step (entries ++ (k, p) ∷ [])) k p
      (there same_data_locale same_data_locales truncated entries k p absent) (elsewhere same_data_locale same_data_locales truncated entries k p)
      (walk (parent_step entries) (most_steps entries) p) f h

  pub stays_open : leads_to entries p k ≡ false → ¬ (ClosesCycle entries (k, p))
  stays_open h = stays_away same_data_locale same_data_locales (parent_step entries) (parent_step (entries ++ (k, p) ∷ [])) k p
      (there same_data_locale same_data_locales truncated entries k p absent) (elsewhere same_data_locale same_data_locales truncated entries k p)
      (walk (parent_step entries) (most_steps entries) p) f h

pub are_met : CyclesAreMet
are_met entries is e absent = (
  closes entries e.0 e.1 absent (cuts_none entries is e.1),
  λ back. elim (cases_Bool (leads_to entries e.1 e.0)) [
    | inl met ↦ met
    | inr away ↦ absurd (stays_open entries e.0 e.1 absent (cuts_none entries is e.1) away back)
  ],
)
