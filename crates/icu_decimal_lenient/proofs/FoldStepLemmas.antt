-- One character of a text, folded, and the rest.
use Rattle.std.proofs.Common.{◌≡◌, ℕ, ◌+◌, List, [], ◌∷◌, ◌++◌, Option, None, Some, sym, ap, ◌∙◌, append_assoc, arith}
use Rattle.std.proofs.lemmas.List.{append-nil}
use Rattle.std.specs.List.{cons_option}
use lib.Utf8.{encode, encodes}
use Rattle.fixed_decimal.specs.NumberText.{character}
use Rattle.icu_decimal_reading.specs.Readable.{digit_of}
use Rattle.icu_decimal_lenient.specs.Folding.{fold_digit, fold_mark, fold_of, folded_chars}

-- ---- a character

pub digit_folds : (ds : List ℕ) (c d e : ℕ) → Some d ≡ digit_of ds c → e ≡ d + 48 → Some e ≡ fold_of ds c
unfolding fold_of
digit_folds ds c d e is plain = let same : e ≡ character d = omega (arith, plain) in ap Some same ∙ ap (λ o. fold_digit o c) is

pub other_folds : (ds : List ℕ) (c : ℕ) (o : Option ℕ) → None ≡ digit_of ds c → o ≡ fold_mark c → o ≡ fold_of ds c
unfolding fold_of
other_folds ds c o is plain = plain ∙ ap (λ p. fold_digit p c) is

-- ---- the first one of a text

pub split_here : (ds cs rest whole : List ℕ) (c f : ℕ) → cs ≡ c ∷ rest → Some f ≡ fold_of ds c → folded_chars ds cs ≡ whole → whole ≡ f ∷ folded_chars ds rest
split_here ds cs rest whole c f is folds before =
    sym before ∙ ap (folded_chars ds) is ∙ ap (λ o. cons_option o (folded_chars ds rest)) (sym folds)

pub split_more : (ds cs rest whole : List ℕ) (c : ℕ) → cs ≡ c ∷ rest → None ≡ fold_of ds c → folded_chars ds cs ≡ whole → folded_chars ds rest ≡ whole
split_more ds cs rest whole c is folds before =
    sym (ap (folded_chars ds) is ∙ ap (λ o. cons_option o (folded_chars ds rest)) (sym folds)) ∙ before

pub split_end : (ds cs whole : List ℕ) → cs ≡ [] → folded_chars ds cs ≡ whole → whole ≡ []
split_end ds cs whole is before = sym before ∙ ap (folded_chars ds) is

-- ---- put after a text

pub fold_more : (ds cs rest out after whole : List ℕ) (f : ℕ) → folded_chars ds cs ≡ f ∷ folded_chars ds rest → out ++ encodes (folded_chars ds cs) ≡ whole → after ≡ out ++ encode f → after ++ encodes (folded_chars ds rest) ≡ whole
fold_more ds cs rest out after whole f is before put =
    ap (λ bytes. bytes ++ encodes (folded_chars ds rest)) put ∙ append_assoc out (encode f) (encodes (folded_chars ds rest))
    ∙ sym (ap (λ t. out ++ encodes t) is) ∙ before

pub fold_end : (ds cs out whole : List ℕ) → folded_chars ds cs ≡ [] → out ++ encodes (folded_chars ds cs) ≡ whole → out ≡ whole
fold_end ds cs out whole is before = sym (append-nil out) ∙ sym (ap (λ t. out ++ encodes t) is) ∙ before
