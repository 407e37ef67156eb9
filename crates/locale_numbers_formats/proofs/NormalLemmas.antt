-- The events of the normal text of a skeleton, piece by piece.
use Rattle.std.proofs.Common.{◌≡◌, ℕ, zero, suc, ◌+◌, ◌-◌, List, [], ◌∷◌, ◌++◌, Bool, true, false, ◌||◌, is_some, map, option_map, Option, Some, None, refl, sym, ap, subst, ◌∙◌, append-nil, ◌<◌, ◌≤◌, arith, length, drop, get_or}
use Rattle.std.proofs.lemmas.List.{drop_all, drop_more}
use Rattle.writeable.specs.AnnotatedText.{Event, bytes}
use Rattle.writeable.specs.Taking.{HasBegun, IsWriting}
use Rattle.writeable.proofs.WritingLemmas.{writing_goes_on, writing_stops}
pub use Rattle.writeable.proofs.AnnotatedTextLemmas.{bytes_joined, no_bytes}
use Rattle.locale_numbers_formats.specs.NormalText.{gap, joined, marks, at_signs, at_sign_events, word_after, word_events, word_of}
use Rattle.locale_numbers_formats.specs.declared.normal_text.NormalWord.{NormalWord}

pub no_gap : bytes (gap false) ≡ []
no_gap = no_bytes

pub no_word : (spaced : Bool) (word : Option NormalWord) → word ≡ None → bytes (word_after spaced (option_map word_of word)) ≡ []
no_word spaced None none = no_bytes
no_word spaced (Some word) none = absurd (cc)

-- a word without digits
pub fixed_is : (word : List ℕ) → word ++ ([] ++ ([] ++ [])) ≡ word
fixed_is word = append-nil word

at_sign_events_are : (w : NormalWord) → bytes (w.middle.now ++ (marks w.last (48 ∷ []) ++ at_signs w.signs w.others w.behind.now)) ≡ at_sign_events w
at_sign_events_are w =
    bytes_joined w.middle.now (last ++ (signs ++ (others ++ w.behind.now)))
    ∙ ap (λ (es : List Event). bytes w.middle.now ++ es) (bytes_joined last (signs ++ (others ++ w.behind.now))
    ∙ ap (λ (es : List Event). bytes last ++ es) (bytes_joined signs (others ++ w.behind.now)
    ∙ ap (λ (es : List Event). bytes signs ++ es) (bytes_joined others w.behind.now)))
  where
    last : List ℕ
    last = marks w.last (48 ∷ [])

    signs : List ℕ
    signs = marks w.signs (64 ∷ [])

    others : List ℕ
    others = marks w.others (35 ∷ [])

pub word_events_are : (spaced : Bool) (w : NormalWord) → bytes (word_after spaced (option_map word_of (Some w))) ≡ word_events spaced w
word_events_are spaced w =
    bytes_joined (gap spaced) (word_of w)
    ∙ ap (λ (es : List Event). bytes (gap spaced) ++ es) (bytes_joined w.front.now (exponents ++ (zeros ++ (hashes ++ rest)))
    ∙ ap (λ (es : List Event). bytes w.front.now ++ es) (bytes_joined exponents (zeros ++ (hashes ++ rest))
    ∙ ap (λ (es : List Event). bytes exponents ++ es) (bytes_joined zeros (hashes ++ rest)
    ∙ ap (λ (es : List Event). bytes zeros ++ es) (bytes_joined hashes rest
    ∙ ap (λ (es : List Event). bytes hashes ++ es) (at_sign_events_are w)))))
  where
    exponents : List ℕ
    exponents = marks w.exponents (101 ∷ [])

    zeros : List ℕ
    zeros = marks w.zeros (48 ∷ [])

    hashes : List ℕ
    hashes = marks w.hashes (35 ∷ [])

    rest : List ℕ
    rest = w.middle.now ++ (marks w.last (48 ∷ []) ++ at_signs w.signs w.others w.behind.now)

-- one mark more
marks_suc : (left : ℕ) (mark : List ℕ) → marks (suc left) mark ≡ mark ++ marks left mark
marks_suc left mark = refl

pub marks_next : (left : ℕ) (mark : List ℕ) → 0 < left → bytes (marks left mark) ≡ bytes mark ++ bytes (marks (left - 1) mark)
marks_next zero mark some = absurd (omega (arith, some))
marks_next (suc left) mark some =
    let one : left ≡ suc left - 1 = omega arith in
    ap bytes (marks_suc left mark) ∙ bytes_joined mark (marks left mark) ∙ ap (λ (n : ℕ). bytes mark ++ bytes (marks n mark)) one

pub no_marks : (left : ℕ) (mark : List ℕ) → left ≤ 0 → bytes (marks left mark) ≡ []
no_marks zero mark none = no_bytes
no_marks (suc left) mark none = absurd (omega (arith, none))

-- one word more
words_cons : (spaced : Bool) (word : Option NormalWord) (words : List (Option NormalWord))
    → bytes (joined spaced (map (option_map word_of) (word ∷ words)))
    ≡ bytes (word_after spaced (option_map word_of word)) ++ bytes (joined (spaced || is_some word) (map (option_map word_of) words))
words_cons spaced None words = bytes_joined (word_after spaced None) (joined (spaced || false) (map (option_map word_of) words))
words_cons spaced (Some word) words = bytes_joined (word_after spaced (Some (word_of word))) (joined (spaced || true) (map (option_map word_of) words))

words_next : (spaced : Bool) (words : List (Option NormalWord)) (i : ℕ) (d : Option NormalWord) → i < length words
    → bytes (joined spaced (map (option_map word_of) (drop i words)))
    ≡ bytes (word_after spaced (option_map word_of (get_or words i d))) ++ bytes (joined (spaced || is_some (get_or words i d)) (map (option_map word_of) (drop (i + 1) words)))
words_next spaced words i d within =
    ap (λ (ws : List (Option NormalWord)). bytes (joined spaced (map (option_map word_of) ws))) (drop_more words i d within)
    ∙ words_cons spaced (get_or words i d) (drop (i + 1) words)

module _ {S : Type 0} (takes : S → List Event → S → Type 0) (refused : S → Bool)
    (joins : (s t u : S) (first second : List Event) → takes s first t → refused t ≡ false → takes t second u → takes s (first ++ second) u)
    (s : S) (es : List Event) (t u : S) (spaced : Bool) (words : List (Option NormalWord)) (i : ℕ) (d : Option NormalWord) (within : i < length words)
    (writing : IsWriting takes refused s es t (bytes (joined spaced (map (option_map word_of) (drop i words))))) where
  -- a word more is written
  pub words_go_on : (b : Bool) → takes t (bytes (word_after spaced (option_map word_of (get_or words i d)))) u → refused u ≡ false → b ≡ (spaced || is_some (get_or words i d))
      → IsWriting takes refused s es u (bytes (joined b (map (option_map word_of) (drop (i + 1) words))))
  words_go_on b taken going is =
      subst (λ (c : Bool). IsWriting takes refused s es u (bytes (joined c (map (option_map word_of) (drop (i + 1) words))))) (sym is)
      (writing_goes_on takes refused joins s es t u (bytes (word_after spaced (option_map word_of (get_or words i d))))
      (bytes (joined (spaced || is_some (get_or words i d)) (map (option_map word_of) (drop (i + 1) words))))
      (subst (λ (rest : List Event). IsWriting takes refused s es t rest) (words_next spaced words i d within) writing) taken going)

  -- a word is refused
  pub words_stop : (lacks_room : S → List Event → Type 0) → ((v : S) (first second : List Event) → lacks_room v first → lacks_room v (first ++ second))
      → HasBegun takes lacks_room t (bytes (word_after spaced (option_map word_of (get_or words i d)))) u → HasBegun takes lacks_room s es u
  words_stop lacks_room lacks_more begun =
      writing_stops takes refused joins lacks_room lacks_more s es t u (bytes (word_after spaced (option_map word_of (get_or words i d))))
      (bytes (joined (spaced || is_some (get_or words i d)) (map (option_map word_of) (drop (i + 1) words))))
      (subst (λ (rest : List Event). IsWriting takes refused s es t rest) (words_next spaced words i d within) writing) begun

pub no_words_left : (spaced : Bool) (words : List (Option NormalWord)) (i : ℕ) → length words ≤ i → bytes (joined spaced (map (option_map word_of) (drop i words))) ≡ []
no_words_left spaced words i past = ap (λ (ws : List (Option NormalWord)). bytes (joined spaced (map (option_map word_of) ws))) (drop_all i words past) ∙ no_bytes
