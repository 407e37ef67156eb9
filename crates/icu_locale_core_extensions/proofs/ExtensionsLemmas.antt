-- Extensions without anything in them are no extension.
use Rattle.std.proofs.Common.{◌≡◌, ◌↔◌, Bool, true, eqb, ◌&&◌, List, [], Option, None, Some, IsTrue, length, refl, sym, ap, ◌∙◌}
use Rattle.std.specs.Prelude.{is_none}
use Rattle.std.proofs.lemmas.Bool.{and_parts, eqb-true}
use Rattle.std.proofs.lemmas.List.{nil_from_length}
use Rattle.icu_locale_core_extensions.specs.ExtensionsValue.{ExtensionsValue, nothing, is_empty_unicode, is_empty_transform, is_empty_extensions}

no_list : {A : Type 0} (xs : List A) → eqb (length xs) 0 ≡ true → xs ≡ []
no_list xs empty = nil_from_length xs (eqb-true (length xs) 0 empty)

no_option : {A : Type 0} (o : Option A) → is_none o ≡ true → o ≡ None
no_option None empty = refl
no_option (Some x) empty = cc

empty_is_nothing : (e : ExtensionsValue) → is_empty_extensions e ≡ true → e ≡ nothing
empty_is_nothing e empty =
    let own_and_others = eqb (length e.own) 0 && eqb (length e.blocks.others) 0 in
    let first = and_parts (is_empty_unicode e.blocks.unicode) (is_empty_transform e.blocks.transform && own_and_others) empty in
    let second = and_parts (is_empty_transform e.blocks.transform) own_and_others first.1 in
    let third = and_parts (eqb (length e.own) 0) (eqb (length e.blocks.others) 0) second.1 in
    let unicode = and_parts (eqb (length e.blocks.unicode.head) 0) (eqb (length e.blocks.unicode.entries) 0) first.0 in
    let transform = and_parts (is_none e.blocks.transform.head) (eqb (length e.blocks.transform.entries) 0) second.0 in
    let attributes = no_list e.blocks.unicode.head unicode.0 in
    let keywords = no_list e.blocks.unicode.entries unicode.1 in
    let language = no_option e.blocks.transform.head transform.0 in
    let fields = no_list e.blocks.transform.entries transform.1 in
    let own = no_list e.own third.0 in
    let others = no_list e.blocks.others third.1 in
    λ i. record {
      blocks = record { unicode = record { head = attributes i; entries = keywords i }; transform = record { head = language i; entries = fields i }; others = others i };
      own = own i;
    }

pub empty_iff : (e : ExtensionsValue) (b : Bool) → b ≡ is_empty_extensions e → IsTrue b ↔ (e ≡ nothing)
empty_iff e b is = (λ none. empty_is_nothing e (sym is ∙ none), λ same. is ∙ ap is_empty_extensions same)
