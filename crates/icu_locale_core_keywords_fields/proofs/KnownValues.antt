-- The definitions at known keywords, fields and values.
use Rattle.std.proofs.Common.{◌≡◌, true, false, [], ◌∷◌, None, Some, codes, refl}
use Rattle.std.specs.declared.cmp.Ordering.TheVariants.{Less, Greater}
use Rattle.icu_locale_core_grammar.specs.Subtags.{is_key, is_field_key}
use Rattle.icu_locale_core_grammar.specs.Collections.{Entry}
use Rattle.icu_locale_core_grammar.specs.Meaning.{keyword_needs_value, field_needs_value}
use Rattle.icu_locale_core_grammar.specs.Pieces.{pieces}
use Rattle.icu_locale_core_grammar.specs.TagOrder.{texts_cmp, entries_cmp}
use Rattle.icu_locale_core_keywords_fields.specs.Allocation.{begins_entry, keeps_value}
use Rattle.icu_locale_core_keywords_fields.specs.EntryChanges.{set_entry, without_key, joined_maps}
use Rattle.icu_locale_core_keywords_fields.specs.EntryText.{value_text, entries_text, hyphened_entries}
use Rattle.icu_locale_core_keywords_fields.specs.Values.{without_true, with_subtag}
use Rattle.icu_locale_core_grammar.specs.TagPreferences.{one_piece}

abbrev buddhist : Entry
buddhist = (codes "ca", codes "buddhist" ∷ [])

abbrev thai : Entry
thai = (codes "nu", codes "thai" ∷ [])

abbrev latn : Entry
latn = (codes "nu", codes "latn" ∷ [])

abbrev phonebook : Entry
phonebook = (codes "co", codes "phonebk" ∷ [])

-- ---- memory

-- what is kept of these pieces is nothing
pub fault_after_key : begins_entry is_key keyword_needs_value (pieces (codes "nu-toolongpiece")) ≡ false
fault_after_key = refl

pub empty_after_key : begins_entry is_key keyword_needs_value (pieces (codes "nu-")) ≡ false
empty_after_key = refl

pub fault_after_true : begins_entry is_field_key field_needs_value (pieces (codes "m0-true-toolongpiece")) ≡ false
fault_after_true = refl

pub only_true : keeps_value (pieces (codes "true")) ≡ false
only_true = refl

-- and of these something
pub key_kept : begins_entry is_key keyword_needs_value (pieces (codes "nu")) ≡ true
key_kept = refl

pub true_ends_field : begins_entry is_field_key field_needs_value (pieces (codes "m0-true")) ≡ true
true_ends_field = refl

pub kept_before_fault : begins_entry is_key keyword_needs_value (pieces (codes "nu-thai-toolongpiece")) ≡ true
kept_before_fault = refl

pub value_kept : keeps_value (pieces (codes "true-abc")) ≡ true
value_kept = refl

-- ---- changes

-- a value takes the place of the one that stood there
pub value_replaced : set_entry latn (buddhist ∷ thai ∷ []) ≡ buddhist ∷ latn ∷ []
value_replaced = refl

-- or goes where its key does
pub value_between : set_entry phonebook (buddhist ∷ thai ∷ []) ≡ buddhist ∷ phonebook ∷ thai ∷ []
value_between = refl

pub value_alone : set_entry thai [] ≡ thai ∷ []
value_alone = refl

pub key_taken : without_key (codes "ca") (buddhist ∷ thai ∷ []) ≡ thai ∷ []
key_taken = refl

pub no_key_taken : without_key (codes "co") (buddhist ∷ thai ∷ []) ≡ buddhist ∷ thai ∷ []
no_key_taken = refl

-- of equal keys the first map's counts
pub joined_with : joined_maps (phonebook ∷ latn ∷ []) (buddhist ∷ thai ∷ []) ≡ buddhist ∷ phonebook ∷ latn ∷ []
joined_with = refl

-- ---- values

pub true_left_out : without_true (codes "abc" ∷ codes "true" ∷ codes "TRUE" ∷ codes "def" ∷ []) ≡ codes "abc" ∷ codes "def" ∷ []
true_left_out = refl

pub true_pushed : with_subtag (codes "abc" ∷ []) (codes "true") ≡ codes "abc" ∷ []
true_pushed = refl

pub one_alone : one_piece (codes "thai" ∷ []) ≡ Some (codes "thai")
one_alone = refl

pub not_alone : one_piece (codes "islamic" ∷ codes "civil" ∷ []) ≡ None
not_alone = refl

-- ---- texts

pub keywords_shown : entries_text false (buddhist ∷ thai ∷ []) ≡ codes "ca-buddhist-nu-thai"
keywords_shown = refl

pub keyword_without_value : entries_text false ((codes "kn", []) ∷ []) ≡ codes "kn"
keyword_without_value = refl

pub field_without_value : entries_text true ((codes "m0", []) ∷ []) ≡ codes "m0-true"
field_without_value = refl

pub fields_after : hyphened_entries true ((codes "h0", codes "hybrid" ∷ []) ∷ (codes "m0", []) ∷ []) ≡ codes "-h0-hybrid-m0-true"
fields_after = refl

pub nothing_shown : entries_text true [] ≡ []
nothing_shown = refl

pub value_shown : value_text false (codes "islamic" ∷ codes "civil" ∷ []) ≡ codes "islamic-civil"
value_shown = refl

pub empty_values : value_text false [] ≡ []
empty_values = refl

pub empty_field : value_text true [] ≡ codes "true"
empty_field = refl

-- ---- orders

-- a beginning comes first
pub beginning_first : texts_cmp (codes "abc" ∷ []) (codes "abc" ∷ codes "def" ∷ []) ≡ Less
beginning_first = refl

-- keys before values
pub key_decides : entries_cmp (thai ∷ []) (buddhist ∷ latn ∷ []) ≡ Greater
key_decides = refl

pub value_decides : entries_cmp (buddhist ∷ latn ∷ []) (buddhist ∷ thai ∷ []) ≡ Less
value_decides = refl
