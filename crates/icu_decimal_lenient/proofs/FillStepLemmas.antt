-- One character of a text that is filled, and the rest.
use Rattle.std.proofs.Common.{◌≡◌, ℕ, ◌&&◌, Bool, true, false, cond, List, [], ◌∷◌, ◌++◌, Option, None, Some, is_none, is_some, refl, sym, ap, ◌∙◌, append_assoc}
use Rattle.std.proofs.lemmas.Bool.{eq-eqb, ne_eqb}
use Rattle.std.proofs.lemmas.List.{append-nil}
use Rattle.std.specs.List.{list_all}
use lib.Utf8.{encode, encodes}
use Rattle.icu_decimal_lenient.specs.Folding.{plain_digits}
use Rattle.icu_decimal_lenient.specs.LenientReading.{filled, past_separator, with_zero, without_point}
use Rattle.icu_decimal_reading.specs.PlainReading.{begins_fraction}
use Rattle.icu_decimal_reading.specs.Readable.{digit_of}

-- ---- past a separator

pub past_more : (all wanted cs more rest whole : List ℕ) (p c : ℕ) → wanted ≡ p ∷ more → cs ≡ c ∷ rest → c ≡ p → past_separator all wanted cs ≡ whole → past_separator all more rest ≡ whole
past_more all wanted cs more rest whole p c is are same before =
    sym (ap (λ t. past_separator all t cs) is ∙ ap (past_separator all (p ∷ more)) are ∙ ap (λ b. cond b (past_separator all more rest) all) (eq-eqb p c (sym same))) ∙ before

pub past_apart : (all wanted cs more rest whole : List ℕ) (p c : ℕ) → wanted ≡ p ∷ more → cs ≡ c ∷ rest → (c ≡ p → ⊥) → past_separator all wanted cs ≡ whole → all ≡ whole
past_apart all wanted cs more rest whole p c is are apart before =
    sym (ap (λ t. past_separator all t cs) is ∙ ap (past_separator all (p ∷ more)) are ∙ ap (λ b. cond b (past_separator all more rest) all) (ne_eqb p c (λ same. apart (sym same)))) ∙ before

pub past_short : (all wanted cs more whole : List ℕ) (p : ℕ) → wanted ≡ p ∷ more → cs ≡ [] → past_separator all wanted cs ≡ whole → all ≡ whole
past_short all wanted cs more whole p is are before = sym (ap (λ t. past_separator all t cs) is ∙ ap (past_separator all (p ∷ more)) are) ∙ before

pub past_end : (all wanted cs whole : List ℕ) → wanted ≡ [] → past_separator all wanted cs ≡ whole → cs ≡ whole
past_end all wanted cs whole is before = sym (ap (λ t. past_separator all t cs) is) ∙ before

-- ---- without a point

abbrev is_last : ℕ → List ℕ → Bool
is_last c rest = is_some (digit_of plain_digits c) && list_all (λ d. is_none (digit_of plain_digits d)) rest

abbrev is_before : List ℕ → ℕ → List ℕ → Bool
is_before sep c rest = is_some (digit_of plain_digits c) && begins_fraction plain_digits sep rest

point_first : (sep cs rest : List ℕ) (c : ℕ) (a b : Bool) → cs ≡ c ∷ rest → a ≡ is_before sep c rest → b ≡ is_last c rest
    → without_point sep cs ≡ cond a (c ∷ rest) (cond b (c ∷ past_separator rest sep rest) (c ∷ without_point sep rest))
point_first sep cs rest c a b is before last =
    ap (without_point sep) is ∙ ap (λ x. cond x (c ∷ rest) (cond (is_last c rest) (c ∷ past_separator rest sep rest) (c ∷ without_point sep rest))) (sym before)
    ∙ ap (λ x. cond a (c ∷ rest) (cond x (c ∷ past_separator rest sep rest) (c ∷ without_point sep rest))) (sym last)

-- a fraction follows
pub point_before : (sep cs rest out after final whole : List ℕ) (c : ℕ) → cs ≡ c ∷ rest → true ≡ is_before sep c rest
    → out ++ encodes (without_point sep cs) ≡ whole → after ≡ out ++ encode c → final ≡ after ++ encodes rest → final ≡ whole
point_before sep cs rest out after final whole c is before same put more =
    more ∙ ap (λ t. t ++ encodes rest) put ∙ append_assoc out (encode c) (encodes rest)
    ∙ sym (ap (λ t. out ++ encodes t) (point_first sep cs rest c true (is_last c rest) is before refl)) ∙ same

pub point_last : (sep cs rest behind out after final whole : List ℕ) (c : ℕ) → cs ≡ c ∷ rest → false ≡ is_before sep c rest → true ≡ is_last c rest
    → behind ≡ past_separator rest sep rest → out ++ encodes (without_point sep cs) ≡ whole → after ≡ out ++ encode c → final ≡ after ++ encodes behind → final ≡ whole
point_last sep cs rest behind out after final whole c is none last past before put more =
    more ∙ ap (λ t. t ++ encodes behind) put ∙ append_assoc out (encode c) (encodes behind) ∙ ap (λ t. out ++ (encode c ++ encodes t)) past
    ∙ sym (ap (λ t. out ++ encodes t) (point_first sep cs rest c false true is none last)) ∙ before

pub point_other : (sep cs rest out after whole : List ℕ) (c : ℕ) → cs ≡ c ∷ rest → false ≡ is_before sep c rest → false ≡ is_last c rest
    → out ++ encodes (without_point sep cs) ≡ whole → after ≡ out ++ encode c → after ++ encodes (without_point sep rest) ≡ whole
point_other sep cs rest out after whole c is none other before put =
    ap (λ t. t ++ encodes (without_point sep rest)) put ∙ append_assoc out (encode c) (encodes (without_point sep rest))
    ∙ sym (ap (λ t. out ++ encodes t) (point_first sep cs rest c false false is none other)) ∙ before

pub point_end : (sep cs out whole : List ℕ) → cs ≡ [] → out ++ encodes (without_point sep cs) ≡ whole → out ≡ whole
point_end sep cs out whole is before = sym (append-nil out) ∙ sym (ap (λ t. out ++ encodes (without_point sep t)) is) ∙ before

-- ---- filled

filled_by : (sep cs : List ℕ) (c : ℕ) (o : Option ℕ) (b : Bool) → digit_of plain_digits c ≡ o → begins_fraction plain_digits sep (c ∷ cs) ≡ b
    → filled sep (c ∷ cs) ≡ cond (is_some o) (without_point sep (c ∷ cs)) (cond b (48 ∷ c ∷ cs) (c ∷ filled sep cs))
filled_by sep cs c (Some d) b digit begins =
    ap (λ o. without_point sep (cond (is_some o) (c ∷ cs) (cond (begins_fraction plain_digits sep (c ∷ cs)) (48 ∷ c ∷ cs) (c ∷ with_zero sep cs)))) digit
filled_by sep cs c None true digit begins =
    ap (λ o. without_point sep (cond (is_some o) (c ∷ cs) (cond (begins_fraction plain_digits sep (c ∷ cs)) (48 ∷ c ∷ cs) (c ∷ with_zero sep cs)))) digit
    ∙ ap (λ x. without_point sep (cond x (48 ∷ c ∷ cs) (c ∷ with_zero sep cs))) begins
    ∙ ap (λ x. cond x (48 ∷ c ∷ cs) (cond (list_all (λ d. is_none (digit_of plain_digits d)) (c ∷ cs)) (48 ∷ past_separator (c ∷ cs) sep (c ∷ cs)) (48 ∷ without_point sep (c ∷ cs)))) begins
filled_by sep cs c None false digit begins =
    ap (λ o. without_point sep (cond (is_some o) (c ∷ cs) (cond (begins_fraction plain_digits sep (c ∷ cs)) (48 ∷ c ∷ cs) (c ∷ with_zero sep cs)))) digit
    ∙ ap (λ x. without_point sep (cond x (48 ∷ c ∷ cs) (c ∷ with_zero sep cs))) begins
    ∙ ap (λ o. cond (is_some o && begins_fraction plain_digits sep (with_zero sep cs)) (c ∷ with_zero sep cs)
    (cond (is_some o && list_all (λ d. is_none (digit_of plain_digits d)) (with_zero sep cs)) (c ∷ past_separator (with_zero sep cs) sep (with_zero sep cs)) (c ∷ filled sep cs))) digit

filled_first : (sep cs rest : List ℕ) (c : ℕ) (a b : Bool) → cs ≡ c ∷ rest → a ≡ is_some (digit_of plain_digits c) → b ≡ begins_fraction plain_digits sep cs
    → filled sep cs ≡ cond a (without_point sep cs) (cond b (48 ∷ cs) (c ∷ filled sep rest))
filled_first sep cs rest c a b is digit begins =
    ap (filled sep) is ∙ filled_by sep rest c (digit_of plain_digits c) (begins_fraction plain_digits sep (c ∷ rest)) refl refl
    ∙ ap (λ x. cond x (without_point sep (c ∷ rest)) (cond (begins_fraction plain_digits sep (c ∷ rest)) (48 ∷ c ∷ rest) (c ∷ filled sep rest))) (sym digit)
    ∙ ap (λ t. cond a (without_point sep t) (cond (begins_fraction plain_digits sep t) (48 ∷ t) (c ∷ filled sep rest))) (sym is)
    ∙ ap (λ x. cond a (without_point sep cs) (cond x (48 ∷ cs) (c ∷ filled sep rest))) (sym begins)

pub filled_digit : (sep cs rest out final whole : List ℕ) (c : ℕ) → cs ≡ c ∷ rest → true ≡ is_some (digit_of plain_digits c)
    → out ++ encodes (filled sep cs) ≡ whole → final ≡ out ++ encodes (without_point sep cs) → final ≡ whole
filled_digit sep cs rest out final whole c is digit before put =
    put ∙ sym (ap (λ t. out ++ encodes t) (filled_first sep cs rest c true (begins_fraction plain_digits sep cs) is digit refl)) ∙ before

pub filled_here : (sep cs rest out after final whole : List ℕ) (c : ℕ) → cs ≡ c ∷ rest → false ≡ is_some (digit_of plain_digits c) → true ≡ begins_fraction plain_digits sep cs
    → out ++ encodes (filled sep cs) ≡ whole → after ≡ out ++ encode 48 → final ≡ after ++ encodes cs → final ≡ whole
filled_here sep cs rest out after final whole c is other begins before put more =
    more ∙ ap (λ t. t ++ encodes cs) put ∙ append_assoc out (encode 48) (encodes cs) ∙ sym (ap (λ t. out ++ encodes t) (filled_first sep cs rest c false true is other begins)) ∙ before

pub filled_other : (sep cs rest out after whole : List ℕ) (c : ℕ) → cs ≡ c ∷ rest → false ≡ is_some (digit_of plain_digits c) → false ≡ begins_fraction plain_digits sep cs
    → out ++ encodes (filled sep cs) ≡ whole → after ≡ out ++ encode c → after ++ encodes (filled sep rest) ≡ whole
filled_other sep cs rest out after whole c is other begins before put =
    ap (λ t. t ++ encodes (filled sep rest)) put ∙ append_assoc out (encode c) (encodes (filled sep rest))
    ∙ sym (ap (λ t. out ++ encodes t) (filled_first sep cs rest c false false is other begins)) ∙ before

pub filled_end : (sep cs out whole : List ℕ) → cs ≡ [] → out ++ encodes (filled sep cs) ≡ whole → out ≡ whole
filled_end sep cs out whole is before = sym (append-nil out) ∙ sym (ap (λ t. out ++ encodes (filled sep t)) is) ∙ before
