-- The blanks at the ends of a text of words.
use Rattle.std.proofs.Common.{◌≡◌, ◌≢◌, ℕ, ◌+◌, ◌-◌, Bool, true, false, cond, List, [], ◌∷◌, ◌++◌, length, length-append, take, drop, reverse, refl, sym, ap, ◌∙◌, arith}
use Rattle.std.proofs.lemmas.List.{reverse-append, reverse-reverse, take-append-drop, take_at, drop_at}
use Rattle.std.proofs.lemmas.Str.{encodes-append, encodes-chars}
use Rattle.std.specs.Str.{IsUtf8, chars, encode_utf8_all}
use Rattle.writeable.specs.AnnotatedText.{Event, bytes, text_of}
use Rattle.writeable.specs.PartName.{PartName}
use Rattle.writeable.specs.SinkLaws.{text_of_joined}
use Rattle.writeable.proofs.AnnotatedTextLemmas.{text_of_bytes}
use Rattle.icu_decimal_plain.specs.Affixes.{as_part}
use Rattle.icu_decimal_plain.proofs.TextLemmas.{text_of_part}
use Rattle.icu_dimension_words.specs.WordSides.{blanks_after, blanks_before, inner_events, is_blank, past_blanks, side_events}

-- ---- steps of the loops

pub blank_more : (cs rest whole : List ℕ) (c : ℕ) → cs ≡ c ∷ rest → is_blank c ≡ true → past_blanks cs ≡ whole → past_blanks rest ≡ whole
blank_more cs rest whole c is blank before = sym (ap past_blanks is ∙ ap (λ b. cond b (past_blanks rest) (c ∷ rest)) blank) ∙ before

pub blank_stops : (cs rest whole : List ℕ) (c : ℕ) → cs ≡ c ∷ rest → is_blank c ≡ false → past_blanks cs ≡ whole → cs ≡ whole
blank_stops cs rest whole c is other before = is ∙ sym (ap past_blanks is ∙ ap (λ b. cond b (past_blanks rest) (c ∷ rest)) other) ∙ before

pub blank_end : (cs whole : List ℕ) → cs ≡ [] → past_blanks cs ≡ whole → cs ≡ whole
blank_end cs whole is before = is ∙ sym (ap past_blanks is) ∙ before

-- ---- where a text is cut

-- blanks before what follows them
record Front (cs : List ℕ) : Type 0 where
  pub blanks : List ℕ
  pub whole : cs ≡ blanks ++ past_blanks cs

front_with : (c : ℕ) (cs : List ℕ) (b : Bool) → is_blank c ≡ b → Front cs → Front (c ∷ cs)
front_with c cs true e more =
    record { blanks = c ∷ more.blanks; whole = ap (λ l. c ∷ l) more.whole ∙ ap (λ b. (c ∷ more.blanks) ++ cond b (past_blanks cs) (c ∷ cs)) (sym e) }
front_with c cs false e more = record { blanks = []; whole = ap (λ b. cond b (past_blanks cs) (c ∷ cs)) (sym e) }

front_of : (cs : List ℕ) → Front cs
front_of [] = record { blanks = []; whole = refl }
front_of (c ∷ cs) = front_with c cs (is_blank c) refl (front_of cs)

-- a text is blanks and what is past them
pub front_cut : (text inner : List ℕ) → IsUtf8 text → IsUtf8 inner → chars inner ≡ past_blanks (chars text) → ((front : List ℕ) → text ≢ front ++ inner) → ⊥
front_cut text inner whole utf8 is none =
    let front = front_of (chars text) in
    none (encode_utf8_all front.blanks)
    (sym (encodes-chars text whole) ∙ ap encode_utf8_all front.whole ∙ encodes-append front.blanks (past_blanks (chars text)) ∙ ap (λ cs. encode_utf8_all front.blanks ++ encode_utf8_all cs) (sym is)
    ∙ ap (λ l. encode_utf8_all front.blanks ++ l) (encodes-chars inner utf8))

pub back_cut : (text inner : List ℕ) → IsUtf8 text → IsUtf8 inner → reverse (chars inner) ≡ past_blanks (reverse (chars text)) → ((rest : List ℕ) → text ≢ inner ++ rest) → ⊥
back_cut text inner whole utf8 is none =
    let front = front_of (reverse (chars text)) in
    let turned : chars text ≡ chars inner ++ reverse front.blanks =
    sym (reverse-reverse (chars text)) ∙ ap reverse (front.whole ∙ ap (λ l. front.blanks ++ l) (sym is)) ∙ reverse-append front.blanks (reverse (chars inner)) ∙ ap (λ l. l ++ reverse front.blanks) (reverse-reverse (chars inner)) in
    none (encode_utf8_all (reverse front.blanks))
    (sym (encodes-chars text whole) ∙ ap encode_utf8_all turned ∙ encodes-append (chars inner) (reverse front.blanks) ∙ ap (λ l. l ++ encode_utf8_all (reverse front.blanks)) (encodes-chars inner utf8))

-- as many bytes as the blanks have
before_is : (text front inner : List ℕ) → IsUtf8 inner → chars inner ≡ past_blanks (chars text) → text ≡ front ++ inner → blanks_before text ≡ length front
before_is text front inner utf8 is whole =
    let same : encode_utf8_all (past_blanks (chars text)) ≡ inner = ap encode_utf8_all (sym is) ∙ encodes-chars inner utf8 in
    let size : length text ≡ length front + length inner = ap length whole ∙ length-append front inner in
    ap (λ l. length text - length l) same ∙ omega (arith, size)

pub taken_before : (text front inner : List ℕ) → IsUtf8 inner → chars inner ≡ past_blanks (chars text) → text ≡ front ++ inner → front ≡ take (blanks_before text) text
taken_before text front inner utf8 is whole =
    sym (ap (λ n. take n text) (before_is text front inner utf8 is whole) ∙ ap (take (length front)) whole ∙ take_at front inner (length front) refl)

pub dropped_before : (text front inner : List ℕ) → IsUtf8 inner → chars inner ≡ past_blanks (chars text) → text ≡ front ++ inner → inner ≡ drop (blanks_before text) text
dropped_before text front inner utf8 is whole =
    sym (ap (λ n. drop n text) (before_is text front inner utf8 is whole) ∙ ap (drop (length front)) whole ∙ drop_at front inner (length front) refl)

after_is : (text inner : List ℕ) → IsUtf8 inner → reverse (chars inner) ≡ past_blanks (reverse (chars text)) → blanks_after text ≡ length inner
after_is text inner utf8 is =
    ap length (ap (λ l. encode_utf8_all (reverse l)) (sym is) ∙ ap encode_utf8_all (reverse-reverse (chars inner)) ∙ encodes-chars inner utf8)

pub taken_after : (text inner rest : List ℕ) → IsUtf8 inner → reverse (chars inner) ≡ past_blanks (reverse (chars text)) → text ≡ inner ++ rest → inner ≡ take (blanks_after text) text
taken_after text inner rest utf8 is whole =
    sym (ap (λ n. take n text) (after_is text inner utf8 is) ∙ ap (take (length inner)) whole ∙ take_at inner rest (length inner) refl)

pub dropped_after : (text inner rest : List ℕ) → IsUtf8 inner → reverse (chars inner) ≡ past_blanks (reverse (chars text)) → text ≡ inner ++ rest → rest ≡ drop (blanks_after text) text
dropped_after text inner rest utf8 is whole =
    sym (ap (λ n. drop n text) (after_is text inner utf8 is) ∙ ap (drop (length inner)) whole ∙ drop_at inner rest (length inner) refl)

-- ---- the text

-- two texts one after another
both_texts : (first second : List Event) (one other : List ℕ) → text_of first ≡ one → text_of second ≡ other → text_of (first ++ second) ≡ one ++ other
both_texts first second one other same alike =
    text_of_joined first second ∙ ap (λ text. text ++ text_of second) same ∙ ap (λ text. one ++ text) alike

inner_is_text : (part : PartName) (text : List ℕ) → text_of (inner_events part text) ≡ text
inner_is_text part text =
    both_texts (as_part part (take (blanks_after text) text)) (bytes (drop (blanks_after text) text)) (take (blanks_after text) text) (drop (blanks_after text) text) (text_of_part part (take (blanks_after text) text)) (text_of_bytes (drop (blanks_after text) text))
    ∙ take-append-drop (blanks_after text) text

pub side_is_text : (part : PartName) (text : List ℕ) → text_of (side_events part text) ≡ text
unfolding side_events
side_is_text part text =
    both_texts (bytes (take (blanks_before text) text)) (inner_events part (drop (blanks_before text) text)) (take (blanks_before text) text) (drop (blanks_before text) text) (text_of_bytes (take (blanks_before text) text)) (inner_is_text part (drop (blanks_before text) text))
    ∙ take-append-drop (blanks_before text) text
