use Rattle.std.proofs.Common.{◌≡◌, ℕ, Bor, List, ◌++◌, map, string_bytes, ap, ◌∙◌, subst}
use Rattle.std.specs.Prelude.{OnOk, reverse}
use Rattle.std.specs.List.{filter_map}
use Rattle.std.specs.Str.Lines.{lines}
use Rattle.icu_locale_core.specs.DataText.{data_text}
use Rattle.icu_locale_core.specs.TagPreferences.{DataLocaleMeaning, Preferences, language_priority}
use Rattle.locale_numbers_book.specs.SelectedText.{chain_by, listed, selected_text}
use Rattle.locale_numbers_book.proofs.SmallBookLemmas.{reversed, small_same}
use Rattle.locale_numbers_book.proofs.texts.small_book.put_small.Goals as goal

pub returns : goal.returns
returns c =
    let p : Preferences = record { locale = c.preferences.inside.locale_preferences; numbering_system = c.preferences.inside.numbering_system } in
    let parents : List (List ℕ) = lines c.args.texts.now.numbers.parents.now in
    let start : DataLocaleMeaning = c.to_data_locale_language_priority-start.result in
    let is : start ≡ language_priority p.locale = c.to_data_locale_language_priority-start.ensures in
    let named : map string_bytes c.as_slice.result.now ≡ map data_text (chain_by parents (language_priority p.locale)) =
    ap (map string_bytes) c.as_slice.ensures.value
    ∙ c.in_ok-put_chain.ensures.names
    ∙ ap (λ xs. map string_bytes xs ++ map data_text (chain_by parents start)) c.requires.locales
    ∙ ap (λ (d : DataLocaleMeaning). map data_text (chain_by parents d)) is in
    let stands : map (λ (line : Bor (List ℕ)). line.now) c.as_slice-2.result.now ≡ reverse (filter_map (listed parents) (chain_by parents (language_priority p.locale))) =
    ap (map (λ (line : Bor (List ℕ)). line.now)) c.as_slice-2.ensures.value
    ∙ ap (map (λ (line : Bor (List ℕ)). line.now)) c.reverse.ensures.items
    ∙ reversed (λ (line : Bor (List ℕ)). line.now) c.put_chain.new.entries.items
    ∙ ap reverse
    (c.in_ok-put_chain.ensures.entries
    ∙ ap (λ (xs : List (Bor (List ℕ))). map (λ (line : Bor (List ℕ)). line.now) xs ++ filter_map (listed parents) (chain_by parents start)) c.requires.parents
    ∙ ap (λ (d : DataLocaleMeaning). filter_map (listed parents) (chain_by parents d)) is) in
    subst (λ (q : Preferences). OnOk c.put_preferred.result (string_bytes c.put_preferred.new.out ≡ string_bytes c.args.out.now ++ selected_text c.args.texts.now q)) c.preferences.view_is
    (subst (λ (text : List ℕ). OnOk c.put_preferred.result (string_bytes c.put_preferred.new.out ≡ string_bytes c.args.out.now ++ text))
    (small_same c.args.texts.now p (map string_bytes c.as_slice.result.now) (map (λ (line : Bor (List ℕ)). line.now) c.as_slice-2.result.now) named stands) c.put_preferred.ensures)
