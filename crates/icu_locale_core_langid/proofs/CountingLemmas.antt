-- A count of all bytes of a text is its length, and where it stops short the length is beyond every count.
use Rattle.std.proofs.Common.{◌≡◌, ℕ, ◌+◌, ◌<◌, ◌≤◌, ◌^◌, false, length, ap, arith, subst}
use Rattle.writeable.specs.AnnotatedText.{bytes, text_of}
use Rattle.writeable.specs.HeldCount.{HeldCount, Counts, PassesLimit, count_limit}
use Rattle.writeable.specs.Taking.{HasBegun}
use Rattle.writeable.proofs.AnnotatedTextLemmas.{text_of_bytes}
use Rattle.writeable.proofs.LawsLemmas.{count_refused}
use Rattle.icu_locale_core_grammar.specs.Subtags.{Text}

module _ (s t : HeldCount) (text : Text) where
  pub counted_all : (n : ℕ) → s ≡ record { count = 0; refused = false } → Counts s (bytes text) t → n ≡ t.count → n < 2 ^ 64 → (length text < 2 ^ 64) × (n ≡ length text)
  counted_all n start counts is fits =
      let none : s.count ≡ 0 = ap (λ h. h.count) start in
      let all : length (text_of (bytes text)) ≡ length text = ap length (text_of_bytes text) in
      let whole : n ≡ length text = omega (arith, is, counts.count, none, all) in
      (subst (λ m. m < 2 ^ 64) whole fits, whole)

  pub counted_short : s ≡ record { count = 0; refused = false } → HasBegun Counts PassesLimit s (bytes text) t → length text < 2 ^ 64 → ⊥
  unfolding count_limit
  counted_short start begun fits =
      let past : count_limit ≤ s.count + length (text_of (bytes text)) = count_refused s t (bytes text) begun in
      let none : s.count ≡ 0 = ap (λ h. h.count) start in
      let all : length (text_of (bytes text)) ≡ length text = ap length (text_of_bytes text) in
      omega (arith, past, none, all, fits)
