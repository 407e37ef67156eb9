-- The text of one extension, as it is written.
use Rattle.std.proofs.Common.{◌≡◌, Bool, true, false, ◌&&◌, eqb, List, [], ◌∷◌, ◌++◌, Option, None, Some, length, refl, ap, ◌∙◌, append-nil, arith}
use Rattle.std.specs.Prelude.{flat_map}
use Rattle.std.proofs.lemmas.Bool.{eqb-true}
use Rattle.std.proofs.lemmas.List.Concat.{flat_map-append}
use Rattle.writeable.specs.AnnotatedText.{bytes}
use Rattle.icu_locale_core_grammar.specs.Subtags.{Text, private_text}
use Rattle.icu_locale_core_grammar.specs.Collections.{Entry}
use Rattle.icu_locale_core_grammar.specs.LanguagePart.{LanguageId}
use Rattle.icu_locale_core_grammar.specs.Meaning.{Part, UnicodeMeaning, TransformMeaning}
use Rattle.icu_locale_core_grammar.specs.Meaning as meaning
use Rattle.icu_locale_core_grammar.specs.NormalText.{inner_pieces, entry_pieces, unicode_pieces, transform_pieces, private_pieces}
use Rattle.icu_locale_core_grammar.specs.Pieces.{hyphen, hyphened}
use Rattle.icu_locale_core_grammar.specs.TagStages.{has_none}
use Rattle.icu_locale_core_subtag_lists.proofs.PrintingLemmas.{bytes_joined, no_bytes}
use Rattle.icu_locale_core_keywords_fields.specs.EntryText.{hyphened_entries}
use Rattle.icu_locale_core_extensions.specs.ExtensionText.{own_pieces, placed}
use Rattle.icu_locale_core_extensions.specs.ExtensionsValue.{is_empty_unicode, is_empty_transform}

-- ---- any extension

-- its pieces, where there are some after the singleton
pub shown : (s : Text) (ps : List Text) (v : Part) → has_none ps ≡ false → own_pieces s ps v ≡ s ∷ ps
shown s [] v some = cc
shown s (p ∷ ps) v some = append-nil (s ∷ p ∷ ps)

-- and where there are none
pub unshown : (s : Text) (ps : List Text) (v : Part) → has_none ps ≡ true → own_pieces s ps v ≡ []
unshown s [] v none = refl
unshown s (p ∷ ps) v none = cc

module _ (s : Text) (ps : List Text) where
  pub beginning_events : bytes (placed true (s ∷ ps)) ≡ bytes s ++ bytes (flat_map hyphened ps)
  beginning_events = bytes_joined s (flat_map hyphened ps)

  pub hyphened_events : bytes (placed false (s ∷ ps)) ≡ bytes (hyphen ∷ []) ++ (bytes s ++ bytes (flat_map hyphened ps))
  hyphened_events = bytes_joined (hyphen ∷ []) (s ++ flat_map hyphened ps) ∙ ap (λ l. bytes (hyphen ∷ []) ++ l) beginning_events

pub nothing_placed : (b : Bool) → bytes (placed b []) ≡ []
nothing_placed true = no_bytes
nothing_placed false = no_bytes

-- ---- whether there are pieces

pub by_length : (ps : List Text) → eqb (length ps) 0 ≡ has_none ps
by_length [] = refl
by_length (p ∷ ps) = not_zero (eqb (length (p ∷ ps)) 0) refl
  where
    not_zero : (b : Bool) → eqb (length (p ∷ ps)) 0 ≡ b → b ≡ false
    not_zero true e = let wrong : length (p ∷ ps) ≡ 0 = eqb-true (length (p ∷ ps)) 0 e in absurd (omega (arith, wrong))
    not_zero false e = refl

entries_by_length : (e : Entry) (es : List Entry) → eqb (length (e ∷ es)) 0 ≡ false
entries_by_length e es = not_zero (eqb (length (e ∷ es)) 0) refl
  where
    not_zero : (b : Bool) → eqb (length (e ∷ es)) 0 ≡ b → b ≡ false
    not_zero true f = let wrong : length (e ∷ es) ≡ 0 = eqb-true (length (e ∷ es)) 0 f in absurd (omega (arith, wrong))
    not_zero false f = refl

pub no_unicode_piece : (u : UnicodeMeaning) → is_empty_unicode u ≡ has_none (unicode_pieces u)
no_unicode_piece u = by_parts u.head u.entries
  where
    by_parts : (head : List Text) (es : List Entry) → (eqb (length head) 0 && eqb (length es) 0) ≡ has_none (head ++ entry_pieces false es)
    by_parts [] [] = refl
    by_parts [] (e ∷ es) = entries_by_length e es
    by_parts (p ∷ ps) es = ap (λ b. b && eqb (length es) 0) (by_length (p ∷ ps))

pub no_transform_piece : (t : TransformMeaning) → is_empty_transform t ≡ has_none (transform_pieces t)
no_transform_piece t = by_parts t.head t.entries
  where
    by_parts : (head : Option LanguageId) (es : List Entry) → is_empty_transform (record { head = head; entries = es }) ≡ has_none (inner_pieces head ++ entry_pieces true es)
    by_parts None [] = refl
    by_parts None (e ∷ es) = entries_by_length e es
    by_parts (Some id) es = refl

-- ---- the pieces of each kind

pub unicode_tail_events : (u : UnicodeMeaning) → bytes (flat_map hyphened (unicode_pieces u)) ≡ bytes (flat_map hyphened u.head) ++ bytes (hyphened_entries false u.entries)
unicode_tail_events u =
    ap bytes (flat_map-append hyphened u.head (entry_pieces false u.entries)) ∙ bytes_joined (flat_map hyphened u.head) (hyphened_entries false u.entries)

pub transform_tail_events : (t : TransformMeaning)
    → bytes (flat_map hyphened (transform_pieces t)) ≡ bytes (flat_map hyphened (inner_pieces t.head)) ++ bytes (hyphened_entries true t.entries)
transform_tail_events t =
    ap bytes (flat_map-append hyphened (inner_pieces t.head) (entry_pieces true t.entries)) ∙ bytes_joined (flat_map hyphened (inner_pieces t.head)) (hyphened_entries true t.entries)

pub no_language_events : bytes (flat_map hyphened (inner_pieces None)) ≡ []
no_language_events = no_bytes

-- private pieces are like those of an extension
pub private_block : (own : List Text) → own_pieces private_text own (meaning.Part.other own) ≡ private_pieces own
private_block [] = refl
private_block (w ∷ ws) = append-nil (private_text ∷ w ∷ ws)
