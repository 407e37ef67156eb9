-- What a text asks for where it is a tag, and where it is not one: `specs/Wanted.antt`.
use Rattle.std.proofs.Common.{◌≡◌, Bool, true, false, cond, not, List, [], ◌∷◌, Option, Some, None, refl, sym, ap, ◌∙◌, subst}
use Rattle.std.specs.Prelude.{IfSome, if◌then◌else◌, option_map, option_and_then, option_to_list}
use Rattle.icu_locale_core.specs.declared.ParseError.{ParseError}
use Rattle.icu_locale_core.specs.Subtags.{Text, is_true, lower, same_text, true_text}
use Rattle.icu_locale_core.specs.Pieces.{pieces}
use Rattle.icu_locale_core.specs.Meaning.{TagMeaning, MeansTag}
use Rattle.icu_locale_core.specs.FaultyPiece.{HasFault}
use Rattle.icu_locale_core.specs.SingleVariant.{MeansKeyword, SingleMeaning, MeansSingle, keyword_entries, piece_meaning, single_tag}
use Rattle.icu_locale_core.specs.TagPreferences.{keyword_piece, numbering_key, one_piece, preferences_of}
use Rattle.icu_locale_core.specs.Values.{without_true}
use Rattle.icu_locale_core.proofs.CaseLemmas.{lower-lower}
use Rattle.icu_locale_core.proofs.SingleTags.{single_is_tag}
use Rattle.locale_numbers_tables.proofs.TagLemmas.{tag_read, tag_faulty}
use Rattle.locale_numbers_book.specs.Wanted.{wanted_of}

pub asks_of : (text : Text) (tag : TagMeaning) → MeansTag (pieces text) tag → wanted_of text ≡ Some (preferences_of tag)
asks_of text tag means = ap (option_map preferences_of) (tag_read (pieces text) tag means)

pub asks_nothing : (text : Text) (e : ParseError) → HasFault MeansTag (pieces text) e → wanted_of text ≡ None
asks_nothing text e fault = ap (option_map preferences_of) (tag_faulty (pieces text) e fault)

pub asks_in : (text : Text) (m : SingleMeaning) → MeansSingle (pieces text) m → wanted_of text ≡ Some (preferences_of (single_tag m))
asks_in text m means = asks_of text (single_tag m) (single_is_tag (pieces text) m means)

-- ---- a system by its subtag

named_by : (b : Bool) (s p : Text) → b ≡ false → one_piece (cond (not b) (s ∷ []) []) ≡ Some p → Some p ≡ Some s
named_by false s p other is = sym is
named_by true s p other is = cc

-- a subtag that is not `true` names the system that a value of it states
pub system_named : (s p : Text) → is_true s ≡ false → one_piece (without_true (s ∷ [])) ≡ Some p → Some p ≡ Some s
system_named s p other is = named_by (is_true s) s p other is

refused_by : (b : Bool) (s : Text) → b ≡ false → one_piece (cond (not b) (s ∷ []) []) ≡ None → ⊥
refused_by false s other is = cc
refused_by true s other is = cc

pub system_refused : (s : Text) → is_true s ≡ false → one_piece (without_true (s ∷ [])) ≡ None → ⊥
system_refused s other is = refused_by (is_true s) s other is

-- ---- the system of a tag of one keyword

entry_piece : (b : Bool) (o : Option Text) → IfSome o (λ s. is_true s ≡ false)
    → IfSome (option_and_then one_piece (if b then Some (option_to_list o) else None)) (λ s. is_true s ≡ false)
entry_piece true None other = tt
entry_piece true (Some s) other = other
entry_piece false o other = tt

piece_kept : (b : Bool) (v : Text) → is_true v ≡ b → IfSome (if b then None else Some (lower v)) (λ s. is_true s ≡ false)
piece_kept true v is = tt
piece_kept false v is = ap (same_text true_text) (lower-lower v) ∙ is

keyword_system : (last : List Text) (keyword : Option (Text × Option Text)) → MeansKeyword last keyword
    → IfSome (keyword_piece numbering_key (keyword_entries keyword)) (λ s. is_true s ≡ false)
keyword_system [] keyword means = subst (λ k. IfSome (keyword_piece numbering_key (keyword_entries k)) (λ s. is_true s ≡ false)) (sym means) tt
keyword_system (u ∷ []) keyword means = absurd means
keyword_system (u ∷ k ∷ []) keyword means =
    subst (λ k. IfSome (keyword_piece numbering_key (keyword_entries k)) (λ s. is_true s ≡ false)) (sym means.2)
    (entry_piece (same_text numbering_key (lower k)) None tt)
keyword_system (u ∷ k ∷ v ∷ []) keyword means =
    subst (λ k. IfSome (keyword_piece numbering_key (keyword_entries k)) (λ s. is_true s ≡ false)) (sym means.3)
    (entry_piece (same_text numbering_key (lower k)) (piece_meaning v) (piece_kept (is_true v) v refl))
keyword_system (u ∷ k ∷ v ∷ w ∷ rest) keyword means = absurd means

-- it is not `true`
pub single_system : (ps : List Text) (m : SingleMeaning) → MeansSingle ps m
    → IfSome (preferences_of (single_tag m)).numbering_system (λ s. is_true s ≡ false)
single_system ps m means = keyword_system means.last m.keyword means.keyword
