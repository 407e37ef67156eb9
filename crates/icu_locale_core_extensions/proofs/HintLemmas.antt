-- What counting the bytes of a text, as it is written, says of a hint of its length.
use Rattle.std.proofs.Common.{◌≡◌, ℕ, ◌-◌, ◌<◌, ◌^◌, false, None, Some, length, ap, ◌∙◌, arith}
use Rattle.writeable.specs.AnnotatedText.{bytes, text_of}
use Rattle.writeable.specs.HeldCount.{HeldCount, Counts, PassesLimit}
use Rattle.writeable.specs.LengthHint.{IsWithinHint}
use Rattle.writeable.specs.Taking.{HasBegun}
use Rattle.writeable.specs.declared.length_hint.LengthHint.{LengthHint}
use Rattle.writeable.proofs.AnnotatedTextLemmas.{text_of_bytes}
use Rattle.icu_locale_core_grammar.specs.Subtags.{Text}
use Rattle.icu_locale_core_langid.proofs.CountingLemmas.{counted_all, counted_short}

-- the three clauses of a hint that is exact where a `usize` holds the length
pub record IsHintOf (h : LengthHint) (text : Text) : Type 0 where
  pub within : IsWithinHint h (length (text_of (bytes text)))
  pub low : length text < 2 ^ 64 → h.low ≡ length text
  pub high : length text < 2 ^ 64 → h.high ≡ Some (length text)

module _ (h : LengthHint) (s t : HeldCount) (text : Text) (start : s ≡ record { count = 0; refused = false }) where
  pub exact_hint : (n : ℕ) → Counts s (bytes text) t → n ≡ t.count → n < 2 ^ 64 → h.low ≡ n → h.high ≡ Some n → IsHintOf h text
  exact_hint n counts is fits low high =
      let told = counted_all s t text n start counts is fits in
      let same : length (text_of (bytes text)) ≡ length text = ap length (text_of_bytes text) in
      let whole : n ≡ length text = told.1 in
      record {
        within = record { low = omega (arith, low, whole, same); high = rw high (omega (arith, whole, same)) };
        low = λ few. low ∙ whole;
        high = λ few. high ∙ ap Some whole;
      }

  pub open_hint : HasBegun Counts PassesLimit s (bytes text) t → h.low ≡ 2 ^ 64 - 1 → h.high ≡ None → IsHintOf h text
  open_hint begun low high =
      let short = counted_short s t text start begun in
      let same : length (text_of (bytes text)) ≡ length text = ap length (text_of_bytes text) in
      record {
        within = record { low = omega (arith, low, short, same); high = rw high tt };
        low = λ few. absurd (short few);
        high = λ few. absurd (short few);
      }
