-- The text of a language identifier, part by part.
use Rattle.std.proofs.Common.{◌≡◌, ◌+◌, List, [], ◌∷◌, ◌++◌, map, length, refl, sym, ap, subst, ◌∙◌, append-nil, append_assoc, length-append, arith}
use Rattle.std.specs.Prelude.{flat_map, option_to_list}
use Rattle.writeable.specs.AnnotatedText.{bytes}
use Rattle.std.specs.Char.{to_ascii_lowercase}
use Rattle.std.proofs.lemmas.List.{map-append, length-map}
use Rattle.icu_locale_core_grammar.specs.Subtags.{Text, is_variant, lower}
use Rattle.icu_locale_core_grammar.specs.LanguagePart.{LanguageId, MeansLanguage}
use Rattle.icu_locale_core_grammar.specs.NormalText.{language_pieces}
use Rattle.icu_locale_core_grammar.specs.WellFormed.{IsNormalLanguage}
use Rattle.icu_locale_core_grammar.proofs.NormalBodies.{pieces_stay, language_means}
use Rattle.icu_locale_core_grammar.proofs.PartPlain.{language_is_plain}
use Rattle.icu_locale_core_grammar.proofs.PlainPieces.{pieces-joined}
use Rattle.icu_locale_core_grammar.specs.Pieces.{hyphen, hyphened, pieces}
use Rattle.icu_locale_core_subtag_lists.proofs.PrintingLemmas.{bytes_joined, no_bytes}
use Rattle.icu_locale_core_langid.specs.LanguageText.{language_text, language_events, inner_text, inner_events}

-- ---- an optional piece

pub one_piece_events : (p : Text) → bytes (flat_map hyphened (p ∷ [])) ≡ bytes (hyphen ∷ []) ++ bytes p
one_piece_events p = ap bytes (append-nil (hyphened p)) ∙ bytes_joined (hyphen ∷ []) p

pub no_piece_events : bytes (flat_map hyphened []) ≡ []
no_piece_events = no_bytes

pub one_piece_length : (p : Text) → length (flat_map hyphened (p ∷ [])) ≡ length p + 1
one_piece_length p = ap length (append-nil (hyphened p)) ∙ (let e : length (hyphened p) ≡ length p + 1 = omega arith in e)

-- ---- the whole text

hyphened_joined : (ps qs : List Text) → flat_map hyphened (ps ++ qs) ≡ flat_map hyphened ps ++ flat_map hyphened qs
hyphened_joined [] qs = refl
hyphened_joined (p ∷ ps) qs = ap (λ l. hyphened p ++ l) (hyphened_joined ps qs) ∙ sym (append_assoc (hyphened p) (flat_map hyphened ps) (flat_map hyphened qs))

pub events_joined : (id : LanguageId) → bytes (language_text id) ≡ language_events id
events_joined id =
    let script = flat_map hyphened (option_to_list id.script) in
    let region = flat_map hyphened (option_to_list id.region) in
    let variants = flat_map hyphened id.variants in
    let split : flat_map hyphened (option_to_list id.script ++ (option_to_list id.region ++ id.variants)) ≡ script ++ (region ++ variants) =
    hyphened_joined (option_to_list id.script) (option_to_list id.region ++ id.variants) ∙ ap (λ l. script ++ l) (hyphened_joined (option_to_list id.region) id.variants) in
    ap (λ l. bytes (id.language ++ l)) split ∙ bytes_joined id.language (script ++ (region ++ variants))
    ∙ ap (λ l. bytes id.language ++ l) (bytes_joined script (region ++ variants) ∙ ap (λ l. bytes script ++ l) (bytes_joined region variants))

-- ---- the text read again

pub text_reads_back : (id : LanguageId) → IsNormalLanguage id → MeansLanguage (pieces (language_text id)) id
text_reads_back id normal =
    let means : MeansLanguage (language_pieces id) id = language_means id normal in
    subst (λ l. MeansLanguage l id)
    (sym (pieces-joined id.language (option_to_list id.script ++ (option_to_list id.region ++ id.variants)) (language_is_plain (language_pieces id) id means))) means

-- ---- the text within `t`

pub inner_joined : (id : LanguageId) → IsNormalLanguage id → bytes (inner_text id) ≡ inner_events id
inner_joined id normal =
    let script = map lower (option_to_list id.script) in
    let region = map lower (option_to_list id.region) in
    let lowered : map lower (language_pieces id) ≡ id.language ∷ (script ++ (region ++ id.variants)) =
    (λ i. normal.language.same i ∷ map-append lower (option_to_list id.script) (option_to_list id.region ++ id.variants) i)
    ∙ ap (λ l. id.language ∷ (script ++ l)) (map-append lower (option_to_list id.region) id.variants ∙ ap (λ l. region ++ l) (pieces_stay is_variant id.variants normal.variants)) in
    let split : flat_map hyphened (script ++ (region ++ id.variants)) ≡ flat_map hyphened script ++ (flat_map hyphened region ++ flat_map hyphened id.variants) =
    hyphened_joined script (region ++ id.variants) ∙ ap (λ l. flat_map hyphened script ++ l) (hyphened_joined region id.variants) in
    ap (λ l. bytes (flat_map hyphened l)) lowered ∙ ap (λ l. bytes (hyphened id.language ++ l)) split
    ∙ bytes_joined (hyphened id.language) (flat_map hyphened script ++ (flat_map hyphened region ++ flat_map hyphened id.variants))
    ∙ (λ i. bytes_joined (hyphen ∷ []) id.language i
    ++ (bytes_joined (flat_map hyphened script) (flat_map hyphened region ++ flat_map hyphened id.variants) ∙ ap (λ l. bytes (flat_map hyphened script) ++ l) (bytes_joined (flat_map hyphened region) (flat_map hyphened id.variants))) i)

lowered_length : (ps : List Text) → length (flat_map hyphened (map lower ps)) ≡ length (flat_map hyphened ps)
lowered_length [] = refl
lowered_length (p ∷ ps) =
    length-append (hyphened (lower p)) (flat_map hyphened (map lower ps))
    ∙ (λ i. (let e : length (hyphened (lower p)) ≡ length (hyphened p) = omega (arith, length-map p to_ascii_lowercase) in e) i + lowered_length ps i)
    ∙ sym (length-append (hyphened p) (flat_map hyphened ps))

-- one hyphen more
pub inner_length : (id : LanguageId) → length (inner_text id) ≡ length (language_text id) + 1
inner_length id = lowered_length (language_pieces id) ∙ (let e : length (flat_map hyphened (language_pieces id)) ≡ length (language_text id) + 1 = omega arith in e)
