-- The text of a data locale, part by part.
use Rattle.std.proofs.Common.{◌≡◌, ◌+◌, List, [], ◌++◌, Option, None, Some, length, refl, ap, ◌∙◌, append_assoc, append-nil, length-append, arith}
use Rattle.std.specs.Prelude.{flat_map, option_to_list}
use Rattle.std.proofs.lemmas.List.Concat.{flat_map-append}
use Rattle.writeable.specs.AnnotatedText.{bytes}
use Rattle.icu_locale_core_grammar.specs.Subtags.{Text}
use Rattle.icu_locale_core_grammar.specs.Pieces.{hyphened}
use Rattle.icu_locale_core_grammar.specs.NormalText.{block_pieces, unicode_block}
use Rattle.icu_locale_core_grammar.specs.TagPreferences.{Subdivision, subdivision_text, DataLocaleMeaning}
use Rattle.icu_locale_core_subtag_lists.proofs.PrintingLemmas.{bytes_joined, no_bytes}
use Rattle.icu_locale_core.specs.DataExtensions.{data_unicode}
use Rattle.icu_locale_core.specs.DataText.{data_text, piece_tail, keyword_head, subdivision_tail, data_events, data_length}

-- ---- the subdivision

pub subdivision_events : (s : Subdivision) → bytes (subdivision_tail (Some s)) ≡ bytes keyword_head ++ bytes (subdivision_text s)
subdivision_events s = bytes_joined keyword_head (subdivision_text s)

pub no_subdivision_events : bytes (subdivision_tail None) ≡ []
no_subdivision_events = no_bytes

pub subdivision_length : (s : Subdivision) → length (subdivision_tail (Some s)) ≡ length (subdivision_text s) + 6
subdivision_length s = let e : length (keyword_head ++ subdivision_text s) ≡ length (subdivision_text s) + 6 = omega (arith, length-append keyword_head (subdivision_text s)) in e

keyword_text : (s : Option Subdivision) → flat_map hyphened (block_pieces (unicode_block (data_unicode s) ++ []) ++ []) ≡ subdivision_tail s
keyword_text None = refl
keyword_text (Some s) = ap (λ l. keyword_head ++ l) (append-nil (subdivision_text s))

-- ---- the whole text

regroup : (a b c k : Text) → (a ++ (b ++ c)) ++ k ≡ a ++ (b ++ (c ++ k))
regroup a b c k = append_assoc a (b ++ c) k ∙ ap (λ l. a ++ l) (append_assoc b c k)

module _ (d : DataLocaleMeaning) where
  abbrev script : List Text
  script = option_to_list d.script

  abbrev region : List Text
  region = option_to_list d.region

  abbrev variant : List Text
  variant = option_to_list d.variant

  abbrev extensions : List Text
  extensions = block_pieces (unicode_block (data_unicode d.subdivision) ++ []) ++ []

  front_joined : flat_map hyphened (script ++ (region ++ variant)) ≡ piece_tail d.script ++ (piece_tail d.region ++ piece_tail d.variant)
  front_joined = flat_map-append hyphened script (region ++ variant) ∙ ap (λ l. piece_tail d.script ++ l) (flat_map-append hyphened region variant)

  text_joined : data_text d ≡ d.language ++ (piece_tail d.script ++ (piece_tail d.region ++ (piece_tail d.variant ++ subdivision_tail d.subdivision)))
  text_joined =
      ap (λ l. d.language ++ l)
      (flat_map-append hyphened (script ++ (region ++ variant)) extensions
      ∙ (λ i. front_joined i ++ keyword_text d.subdivision i)
      ∙ regroup (piece_tail d.script) (piece_tail d.region) (piece_tail d.variant) (subdivision_tail d.subdivision))

  pub events_joined : bytes (data_text d) ≡ data_events d
  events_joined =
      let variant_on = piece_tail d.variant ++ subdivision_tail d.subdivision in
      let region_on = piece_tail d.region ++ variant_on in
      ap bytes text_joined ∙ bytes_joined d.language (piece_tail d.script ++ region_on)
      ∙ ap (λ l. bytes d.language ++ l)
      (bytes_joined (piece_tail d.script) region_on
      ∙ ap (λ l. bytes (piece_tail d.script) ++ l)
      (bytes_joined (piece_tail d.region) variant_on ∙ ap (λ l. bytes (piece_tail d.region) ++ l) (bytes_joined (piece_tail d.variant) (subdivision_tail d.subdivision))))

  pub length_joined : length (data_text d) ≡ data_length d
  length_joined =
      let variant_on = piece_tail d.variant ++ subdivision_tail d.subdivision in
      let region_on = piece_tail d.region ++ variant_on in
      ap length text_joined ∙ length-append d.language (piece_tail d.script ++ region_on)
      ∙ ap (λ n. length d.language + n)
      (length-append (piece_tail d.script) region_on
      ∙ ap (λ n. length (piece_tail d.script) + n)
      (length-append (piece_tail d.region) variant_on ∙ ap (λ n. length (piece_tail d.region) + n) (length-append (piece_tail d.variant) (subdivision_tail d.subdivision))))

-- what is written part by part, of a data locale whose language is this text
pub events_told : (text : Text) (own d : DataLocaleMeaning) → own ≡ d → text ≡ own.language
    → bytes text ++ (bytes (piece_tail own.script) ++ (bytes (piece_tail own.region) ++ (bytes (piece_tail own.variant) ++ bytes (subdivision_tail own.subdivision)))) ≡ data_events d
events_told text own d is told =
    (λ i. bytes (told i) ++ (bytes (piece_tail own.script) ++ (bytes (piece_tail own.region) ++ (bytes (piece_tail own.variant) ++ bytes (subdivision_tail own.subdivision)))))
    ∙ ap data_events is
