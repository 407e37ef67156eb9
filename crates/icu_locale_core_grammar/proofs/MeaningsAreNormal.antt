-- The meaning of any list of pieces is in normal form.
use Rattle.std.proofs.Common.{◌≡◌, ◌≢◌, Bool, true, false, not, List, [], ◌∷◌, Option, None, Some, IfSome, map, filter, cond, option_map, sym, refl, ◌∙◌, subst}
use Rattle.std.specs.List.{AllByRecursion}
use Rattle.std.specs.Char.{to_ascii_lowercase, to_ascii_uppercase}
use Rattle.icu_locale_core_grammar.specs.Subtags.{Text, is_language, is_script, is_region, is_variant, is_attribute, is_key, is_field_key, is_value, is_true, is_other, is_other_piece, is_private_piece, true_text, lower, title, upper}
use Rattle.icu_locale_core_grammar.specs.Collections.{Entry, Each, Rises, map_of}
use Rattle.icu_locale_core_grammar.specs.LanguagePart.{LanguageId, MeansLanguage, MeansInner}
use Rattle.icu_locale_core_grammar.specs.Extensions.{value_meaning, entry_meaning, IsEntry, Block, block_key}
use Rattle.icu_locale_core_grammar.specs.Meaning.{MeansAttributes, MeansUnicode, MeansTransform, MeansOther, UnicodeMeaning, TransformMeaning, Part, unicode, transform, other, MeansPart, ExtensionMeanings, no_extensions, put_part, IsExtension, IsPrivatePart, TagMeaning, MeansTag}
use Rattle.icu_locale_core_grammar.specs.WellFormed.{IsNormalPiece, AreLower, IsNormalLanguage, IsNormalValue, IsNormalEntry, AreNormalEntries, IsNormalUnicode, IsNormalTransform, IsNormalOther, AreNormalExtensions, IsNormalTag}
use Rattle.icu_locale_core_grammar.proofs.CaseLemmas.{lower_keeps, upper_keeps, characters_changed, language_changed, region_changed, variant_changed, key_changed, field_key_changed, script_titled, lower-lower, title-title, upper-upper, spells_lower, other_lower}
use Rattle.icu_locale_core_grammar.proofs.SetLemmas.{Rises-set_of}
use Rattle.icu_locale_core_grammar.proofs.WholeMeaning.{blocks_meaning}
use Rattle.icu_locale_core_grammar.proofs.MapLemmas.{each_in_set, each_in_map, each_put, Rises-map_of, Rises-put, rises_none}

-- ---- pieces in lower case

lower_piece : (test : Text → Bool) → ((p : Text) → test (lower p) ≡ test p) → (p : Text) → test p ≡ true → IsNormalPiece test lower (lower p)
lower_piece test same p e = record { is = same p ∙ e; same = lower-lower p }

lower_pieces : (test : Text → Bool) → ((p : Text) → test (lower p) ≡ test p) → (ps : List Text) → Each test ps → AreLower test (map lower ps)
lower_pieces test same [] each = tt
lower_pieces test same (p ∷ ps) each = (lower_piece test same p each.0, lower_pieces test same ps each.1)

-- ---- the language part

script_normal : (s : Option Text) → IfSome s (λ p. is_script p ≡ true) → IfSome (option_map title s) (IsNormalPiece is_script title)
script_normal None is = tt
script_normal (Some p) is = record { is = script_titled p ∙ is; same = title-title p }

region_normal : (s : Option Text) → IfSome s (λ p. is_region p ≡ true) → IfSome (option_map upper s) (IsNormalPiece is_region upper)
region_normal None is = tt
region_normal (Some p) is = record { is = region_changed to_ascii_uppercase upper_keeps p ∙ is; same = upper-upper p }

pub language_normal : (ps : List Text) (id : LanguageId) → MeansLanguage ps id → IsNormalLanguage id
language_normal ps id a =
    let w = a.written in
    subst IsNormalLanguage a.meant (record {
      language = lower_piece is_language (language_changed to_ascii_lowercase lower_keeps) w.language a.sound.language;
      script = script_normal w.script a.sound.script;
      region = region_normal w.region a.sound.region;
      variants = each_in_set (IsNormalPiece is_variant lower) (map lower w.variants) (lower_pieces is_variant (variant_changed to_ascii_lowercase lower_keeps) w.variants a.sound.variants);
      rises = Rises-set_of (map lower w.variants);
    })

inner_normal : (ps : List Text) (id : Option LanguageId) → MeansInner ps id → IfSome id IsNormalLanguage
inner_normal ps None a = tt
inner_normal ps (Some id) a = language_normal ps id a

-- ---- entries

values_normal : (vs : List Text) → Each is_value vs → AllByRecursion IsNormalValue (value_meaning vs)
values_normal [] each = tt
values_normal (v ∷ vs) each = by_test (is_true v) refl (values_normal vs each.1)
  where
    by_test : (b : Bool) → is_true v ≡ b → AllByRecursion IsNormalValue (value_meaning vs) → AllByRecursion IsNormalValue (map lower (cond (not b) (v ∷ filter (λ w. not (is_true w)) vs) (filter (λ w. not (is_true w)) vs)))
    by_test true e more = more
    by_test false e more = (record { piece = lower_piece is_value (characters_changed to_ascii_lowercase lower_keeps 3 8) v each.0; shown = spells_lower true_text v ∙ e }, more)

entries_normal : (test : Text → Bool) (needs : Bool) → ((p : Text) → test (lower p) ≡ test p) → (es : List Entry) → AllByRecursion (IsEntry test needs) es → AllByRecursion (IsNormalEntry test) (map entry_meaning es)
entries_normal test needs same [] each = tt
entries_normal test needs same (e ∷ es) each = (record { key = lower_piece test same e.0 each.0.key; values = values_normal e.1 each.0.values }, entries_normal test needs same es each.1)

map_normal : (test : Text → Bool) (needs : Bool) → ((p : Text) → test (lower p) ≡ test p) → (es : List Entry) → AllByRecursion (IsEntry test needs) es → AreNormalEntries test (map_of (map entry_meaning es))
map_normal test needs same es each = record { each = each_in_map (IsNormalEntry test) (map entry_meaning es) (entries_normal test needs same es each); rises = Rises-map_of (map entry_meaning es) }

-- ---- extensions

attributes_normal : (ps set : List Text) → MeansAttributes ps set → AreLower is_attribute set × Rises set
attributes_normal ps set a = (
  subst (AreLower is_attribute) a.meant (each_in_set (IsNormalPiece is_attribute lower) (map lower ps) (lower_pieces is_attribute (characters_changed to_ascii_lowercase lower_keeps 3 8) ps a.each)),
  subst Rises a.meant (Rises-set_of (map lower ps)),
)

pub unicode_normal : (ps : List Text) (u : UnicodeMeaning) → MeansUnicode ps u → IsNormalUnicode u
unicode_normal ps u a =
    let f = attributes_normal a.head u.head a.meant in
    record { attributes = f.0; rises = f.1; keywords = subst (AreNormalEntries is_key) a.keyed (map_normal is_key false (key_changed to_ascii_lowercase lower_keeps) a.entries a.each) }

pub transform_normal : (ps : List Text) (t : TransformMeaning) → MeansTransform ps t → IsNormalTransform t
transform_normal ps t a =
    record { language = inner_normal a.head t.head a.meant; fields = subst (AreNormalEntries is_field_key) a.keyed (map_normal is_field_key true (field_key_changed to_ascii_lowercase lower_keeps) a.entries a.each) }

other_pieces_normal : (ps own : List Text) → MeansOther ps own → AreLower is_other_piece own
other_pieces_normal ps own a = subst (AreLower is_other_piece) a.meant (lower_pieces is_other_piece (characters_changed to_ascii_lowercase lower_keeps 2 8) ps a.each)

-- pieces that are there mean pieces that are there
still_filled : (ps own : List Text) → ps ≢ [] → map lower ps ≡ own → own ≢ []
still_filled [] own filled e = absurd (filled refl)
still_filled (p ∷ ps) own filled e = λ f. let g : lower p ∷ map lower ps ≡ [] = e ∙ f in cc

part_put : (s : Text) (ps : List Text) (v : Part) (e : ExtensionMeanings) → MeansPart s ps v → ps ≢ [] → AreNormalExtensions e → AreNormalExtensions (put_part (lower s) v e)
part_put s ps (unicode u) e a filled n = record { unicode = unicode_normal ps u a.1; transform = n.transform; others = n.others }
part_put s ps (transform t) e a filled n = record { unicode = n.unicode; transform = transform_normal ps t a.1; others = n.others }
part_put s ps (other own) e a filled n =
    let here : IsNormalOther (lower s, own) = record { singleton = lower_piece is_other other_lower s a.0; pieces = other_pieces_normal ps own a.1; filled = still_filled ps own filled a.1.meant } in
    record {
      unicode = n.unicode;
      transform = n.transform;
      others = record { each = each_put IsNormalOther (lower s, own) e.others here n.others.each; rises = Rises-put (lower s, own) e.others n.others.rises };
    }

blocks_normal : (bs : List (Block Part)) (e : ExtensionMeanings) → AllByRecursion IsExtension bs → AreNormalExtensions e → AreNormalExtensions (blocks_meaning put_part e bs)
blocks_normal [] e each n = n
blocks_normal (b ∷ bs) e each n = blocks_normal bs (put_part (block_key b) b.value e) each.1 (part_put b.singleton b.body b.value e each.0.meant each.0.filled n)

none_normal : AreNormalExtensions no_extensions
none_normal = record {
  unicode = record { attributes = tt; rises = rises_none; keywords = record { each = tt; rises = rises_none } };
  transform = record { language = tt; fields = record { each = tt; rises = rises_none } };
  others = record { each = tt; rises = rises_none };
}

own_normal : (last own : List Text) → IsPrivatePart last own → AreLower is_private_piece own
own_normal [] own private = subst (AreLower is_private_piece) (sym private) tt
own_normal (x ∷ ps) own private = subst (AreLower is_private_piece) private.3 (lower_pieces is_private_piece (characters_changed to_ascii_lowercase lower_keeps 1 8) ps private.2)

pub meaning_normal : (ps : List Text) (m : TagMeaning) → MeansTag ps m → IsNormalTag m
meaning_normal ps m a = record {
  language = language_normal a.front m.language a.meant;
  extensions = subst AreNormalExtensions a.together (blocks_normal a.blocks no_extensions a.each none_normal);
  private_use = own_normal a.last m.private_use a.private;
}
