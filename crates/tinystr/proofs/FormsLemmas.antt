-- Forms one after another: one more at the front, and the first taken off.
use Rattle.std.proofs.Common.{◌≡◌, ℕ, ◌+◌, ◌-◌, ◌%◌, ◌<◌, ◌≤◌, List, [], ◌∷◌, ◌++◌, length, take, drop, replicate, refl, sym, ap, arith, ◌∙◌}
use Rattle.std.specs.List.{AllByRecursion, flat_map}
use Rattle.std.proofs.Math.Nat.{add-mod_left, zero-mod}
use Rattle.std.proofs.lemmas.List.{length-append, length-replicate, take_at, drop_at, take-append-drop}
use Rattle.tinystr.specs.SmallText.{NUL, IsSmall, IsForm, padded, text_of}
use Rattle.tinystr.specs.Forms.{AreForms}
use Rattle.tinystr.proofs.SmallTextLemmas.{IsForm-padded, length-text_of}

pub length-padded : (n : ℕ) (text : List ℕ) → length text ≤ n → length (padded n text) ≡ n
unfolding padded
length-padded n text short =
    let sum : length (text ++ replicate (n - length text) NUL) ≡ length text + (n - length text) =
    length-append text (replicate (n - length text) NUL) ∙ ap (λ k. length text + k) (length-replicate (n - length text) NUL) in
    sum ∙ omega arith

pub length-form : (n : ℕ) (bytes : List ℕ) → IsForm n bytes → length bytes ≡ n
length-form n bytes form = ap length form.rest ∙ length-padded n (text_of bytes) form.small.short

-- the first bytes, as many as the text has
pub text_taken : (bytes : List ℕ) (len : ℕ) → len ≡ length (text_of bytes) → take len bytes ≡ text_of bytes
text_taken bytes len e = ap (λ k. take k bytes) (e ∙ length-text_of bytes)

pub forms_nil : (n : ℕ) → AreForms n []
forms_nil n = record { texts = []; small = tt; joined = refl }

pub forms_cons : (n : ℕ) (form more all : List ℕ) → IsForm n form → all ≡ form ++ more → AreForms n more → AreForms n all
forms_cons n form more all is e forms = record {
  texts = text_of form ∷ forms.texts;
  small = (is.small, forms.small);
  joined = e ∙ ap (λ l. l ++ more) is.rest ∙ ap (λ l. padded n (text_of form) ++ l) forms.joined;
}

-- the first form, and those after it
pub record Uncons (n : ℕ) (bytes : List ℕ) : Type 0 where
  pub first : IsForm n (take n bytes)
  pub more : AreForms n (drop n bytes)

uncons_texts : (n : ℕ) (bytes : List ℕ) (texts : List (List ℕ)) → 0 < n → n ≤ length bytes → AllByRecursion (IsSmall n) texts
    → bytes ≡ flat_map (padded n) texts → Uncons n bytes
uncons_texts n bytes [] some room small e = let none : length bytes ≡ 0 = ap length e in absurd (omega arith)
uncons_texts n bytes (t ∷ ts) some room small e =
    let long = length-padded n t small.0.short in
    let front : take n bytes ≡ padded n t = ap (take n) e ∙ take_at (padded n t) (flat_map (padded n) ts) n long in
    let behind : drop n bytes ≡ flat_map (padded n) ts = ap (drop n) e ∙ drop_at (padded n t) (flat_map (padded n) ts) n long in
    record {
      first = rw front (IsForm-padded n t small.0);
      more = record { texts = ts; small = small.1; joined = behind };
    }

pub forms_uncons : (n : ℕ) (bytes : List ℕ) → 0 < n → n ≤ length bytes → AreForms n bytes → Uncons n bytes
forms_uncons n bytes some room forms = uncons_texts n bytes forms.texts some room forms.small forms.joined

whole_texts : (n : ℕ) (bytes : List ℕ) (texts : List (List ℕ)) → AllByRecursion (IsSmall n) texts → bytes ≡ flat_map (padded n) texts
    → length bytes % n ≡ 0
whole_texts n bytes [] small e = ap (λ l. length l % n) e ∙ zero-mod n
whole_texts n bytes (t ∷ ts) small e =
    let sum : length bytes ≡ n + length (flat_map (padded n) ts) =
    ap length e ∙ length-append (padded n t) (flat_map (padded n) ts) ∙ ap (λ k. k + length (flat_map (padded n) ts)) (length-padded n t small.0.short) in
    ap (λ k. k % n) sum ∙ add-mod_left n (length (flat_map (padded n) ts)) ∙ whole_texts n (flat_map (padded n) ts) ts small.1 refl

pub forms_whole : (n : ℕ) (bytes : List ℕ) → AreForms n bytes → length bytes % n ≡ 0
forms_whole n bytes forms = whole_texts n bytes forms.texts forms.small forms.joined

-- a count that n divides is 0 or at least n, and without n of them n divides it still
pub room_for_one : (n k : ℕ) → 0 < n → 0 < k → k % n ≡ 0 → n ≤ k
room_for_one n k some more whole = grind arith

pub whole_behind : (n k : ℕ) → n ≤ k → k % n ≡ 0 → (k - n) % n ≡ 0
whole_behind n k room whole =
    let sum : n + (k - n) ≡ k = omega arith in
    sym (add-mod_left n (k - n)) ∙ ap (λ j. j % n) sum ∙ whole

-- bytes whose first form is taken off are forms exactly where the rest are
pub forms_after : (n : ℕ) (bytes : List ℕ) → 0 < n → n ≤ length bytes → AreForms n bytes → AreForms n (drop n bytes)
forms_after n bytes some room forms = (forms_uncons n bytes some room forms).more

pub forms_before : (n : ℕ) (bytes : List ℕ) → IsForm n (take n bytes) → AreForms n (drop n bytes) → AreForms n bytes
forms_before n bytes form more = forms_cons n (take n bytes) (drop n bytes) bytes form (sym (take-append-drop n bytes)) more
