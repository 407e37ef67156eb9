-- A text compared with a normal text, and that a text of letters, digits and hyphens is UTF-8.
use Rattle.std.proofs.Common.{◌≡◌, ℕ, zero, suc, ◌<◌, Bool, true, false, List, [], ◌∷◌, Result, Ok, Err, IsOk, IfOk, IsErrOf, flat_map, sym, ap, ◌∙◌, subst, lit<, arith}
use Rattle.std.specs.Prelude.{IsTrue, ◌↔◌, ◌≢◌}
use Rattle.std.specs.declared.borrow.CowStr.{CowStr}
use Rattle.std.proofs.lemmas.Result.{IfOk-weaker}
use Rattle.std.specs.Ordering.{is_eq}
use Rattle.std.specs.declared.cmp.Ordering.{Ordering}
use Rattle.std.specs.Cmp.Lexicographic.{texts_ties}
use Rattle.std.proofs.lemmas.Bool.{false≢true}
use Rattle.std.specs.Char.{is_ascii_alphanumeric}
use Rattle.std.specs.Str.{IsAscii, IsUtf8}
use Rattle.std.proofs.lemmas.Bool.{and_parts}
use Rattle.std.proofs.lemmas.Bool.Decides.{nat_tests}
use Rattle.std.proofs.lemmas.Str.{IsUtf8-nil, IsUtf8-append, IsUtf8-from_ascii}
use Rattle.writeable.specs.AnnotatedText.{bytes, text_of}
use Rattle.writeable.specs.Order.{byte_order}
use Rattle.writeable.proofs.AnnotatedTextLemmas.{text_of_bytes}
use Rattle.icu_locale_core_grammar.specs.declared.error.ParseError.{ParseError}
use Rattle.icu_locale_core_grammar.specs.declared.error.ParseError.TheVariants.{Memory}
use Rattle.icu_locale_core_langid.specs.NormalizedText.{IsNormalized}
use Rattle.icu_locale_core_grammar.specs.Subtags.{Text, is_plain, same_text}
use Rattle.icu_locale_core_grammar.specs.Pieces.{pieces, hyphened, joined_text}
use Rattle.icu_locale_core_grammar.specs.Collections.{Each}
use Rattle.icu_locale_core_grammar.proofs.PlainPieces.{joined-pieces}
use Rattle.icu_locale_core_grammar.proofs.CollectionLemmas.{same_text_equal, same_text_refl}

-- two texts that tie in byte order are one
pub tied_are_same : (r : Bool) (o : Ordering) (normal text : Text) → o ≡ byte_order normal text → r ≡ is_eq o → IsTrue r ↔ (text ≡ normal)
tied_are_same r o normal text order is =
    let same = is ∙ ap is_eq order ∙ sym (texts_ties normal text) in
    ((λ yes. sym (same_text_equal normal text (sym same ∙ yes))), (λ e. same ∙ subst (λ t. same_text normal t ≡ true) (sym e) (same_text_refl normal)))

pub not_same : (r : Bool) (normal text : Text) → IsTrue r ↔ (text ≡ normal) → r ≡ false → text ≡ normal → ⊥
not_same r normal text both denied e = false≢true (sym denied ∙ both.1 e)

-- ---- the text of a value that was read

module _ {A M : Type 0} (Means : M → Type 0) (normal : M → Text) (input : Text) (m : M) (meant : Means m) (r : Result (CowStr A) ParseError) where
  pub normalized : IfOk r (IsNormalized input (text_of (bytes (normal m)))) → IfOk r (λ text. (n : M) × Means n × IsNormalized input (normal n) text)
  normalized is =
      IfOk-weaker r (IsNormalized input (normal m)) (λ text. (n : M) × Means n × IsNormalized input (normal n) text) (λ text same. (m, meant, same))
      (subst (λ t. IfOk r (IsNormalized input t)) (text_of_bytes (normal m)) is)

  -- memory is wanted for a new text alone
  pub wanted : IsUtf8 input → (IsUtf8 input → input ≡ text_of (bytes (normal m)) → IsOk r) → IsErrOf r Memory → (n : M) × Means n × (input ≢ normal n)
  wanted utf8 succeeds memory = (m, meant, λ e. never r (succeeds utf8 (e ∙ sym (text_of_bytes (normal m)))) memory)
    where
      never : (s : Result (CowStr A) ParseError) → IsOk s → IsErrOf s Memory → ⊥
      never (Ok text) ok memory = cc
      never (Err error) ok memory = absurd (false≢true ok)

-- ---- letters, digits and hyphens are UTF-8

character_below : (c : ℕ) → is_ascii_alphanumeric c ≡ true → c < 128
character_below c is = grind (arith, nat_tests)

plain_ascii : (p : Text) → is_plain p ≡ true → IsAscii p
plain_ascii [] is k = lit< tt
plain_ascii (c ∷ cs) is zero = character_below c (and_parts (is_ascii_alphanumeric c) (is_plain cs) is).0
plain_ascii (c ∷ cs) is (suc k) = plain_ascii cs (and_parts (is_ascii_alphanumeric c) (is_plain cs) is).1 k

hyphened_ascii : (p : Text) → is_plain p ≡ true → IsAscii (hyphened p)
hyphened_ascii p is zero = lit< tt
hyphened_ascii p is (suc k) = plain_ascii p is k

after_utf8 : (ps : List Text) → Each is_plain ps → IsUtf8 (flat_map hyphened ps)
after_utf8 [] each = IsUtf8-nil
after_utf8 (p ∷ ps) each = IsUtf8-append (hyphened p) (flat_map hyphened ps) (IsUtf8-from_ascii (hyphened p) (hyphened_ascii p each.0)) (after_utf8 ps each.1)

joined_utf8 : (ps : List Text) → Each is_plain ps → IsUtf8 (joined_text ps)
joined_utf8 [] each = IsUtf8-nil
joined_utf8 (p ∷ ps) each = IsUtf8-append p (flat_map hyphened ps) (IsUtf8-from_ascii p (plain_ascii p each.0)) (after_utf8 ps each.1)

pub plain_utf8 : (text : Text) → Each is_plain (pieces text) → IsUtf8 text
plain_utf8 text each = subst IsUtf8 (joined-pieces text) (joined_utf8 (pieces text) each)
