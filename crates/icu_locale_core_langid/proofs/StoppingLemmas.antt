-- What a reader that stopped has found: the meaning or the fault, in each mode.
use Rattle.std.proofs.Common.{◌≡◌, ℕ, suc, ◌+◌, arith, Bool, true, false, not, List, [], ◌∷◌, ◌++◌, Option, None, Some, cond, take, drop, sym, refl, ap, ◌∙◌, subst}
use Rattle.std.specs.List.{list_any, position_or_len}
use Rattle.std.proofs.lemmas.Bool.{or_parts}
use Rattle.icu_locale_core_grammar.specs.declared.error.ParseError.TheVariants.{InvalidLanguage, InvalidSubtag}
use Rattle.icu_locale_core_grammar.specs.Subtags.{Text, is_single}
use Rattle.icu_locale_core_grammar.specs.LanguagePart.{LanguageId, MeansLanguage}
use Rattle.icu_locale_core_grammar.specs.FaultyPiece.{HasFault}
use Rattle.icu_locale_core_grammar.specs.PartialReading.{ReadsFront, before_single, from_single}
use Rattle.icu_locale_core_grammar.specs.Stepping.{run}
use Rattle.icu_locale_core_grammar.specs.TagStages.{language_after}
use Rattle.icu_locale_core_grammar.proofs.LanguageReader.{language_reader}
use Rattle.icu_locale_core_grammar.proofs.SingleReader.{language_plain}
use Rattle.icu_locale_core_grammar.proofs.PartialReadingLemmas.{IsRefusedFirst, front_read}
use Rattle.icu_locale_core_grammar.proofs.CallerLemmas.{read_whole, none_left, language_refused, language_cut}
use Rattle.icu_locale_core_langid.specs.declared.modes.ParserMode.{ParserMode}
use Rattle.icu_locale_core_langid.specs.declared.modes.ParserMode.TheVariants.{LanguageIdentifier, Locale, Partial}
use Rattle.icu_locale_core_langid.specs.LanguageStep.{IsStuck, StopsWith}
use Rattle.icu_locale_core_langid.specs.Modes.{ReadsInMode, HasFaultInMode, may_leave}

-- what a reader of the same pieces found, at its stage
pub stopped : (from ps : List Text) (s t : Option LanguageId) (rest : List Text) → from ≡ ps → s ≡ t → StopsWith from s rest → StopsWith ps t rest
stopped from ps s t rest same is stops = subst (λ u. StopsWith ps u rest) is (subst (λ l. StopsWith l s rest) same stops)

-- ---- all pieces

pub whole_read : (ps : List Text) (id : LanguageId) → StopsWith ps (Some id) [] → MeansLanguage ps id
whole_read ps id s = read_whole language_reader ps s.taken (Some id) id (none_left ps s.taken s.parts) s.reached refl

pub piece_refused : (ps : List Text) (id : LanguageId) (p : Text) (rest : List Text) → StopsWith ps (Some id) (p ∷ rest) → HasFault MeansLanguage ps InvalidSubtag
piece_refused ps id p rest s = language_refused ps s.taken rest (Some id) p s.parts s.reached s.stuck

-- no language came
pub no_language : (ps : List Text) (rest : List Text) → StopsWith ps None rest → HasFault MeansLanguage ps InvalidLanguage
no_language ps [] s = language_cut ps s.taken (none_left ps s.taken s.parts) s.reached
no_language ps (p ∷ rest) s = language_refused ps s.taken rest None p s.parts s.reached s.stuck

-- ---- a front

stuck_first : (s : Option LanguageId) (rest : List Text) → IsStuck s rest → IsRefusedFirst language_after s rest
stuck_first s [] stuck = tt
stuck_first s (p ∷ rest) stuck = stuck

pub front_left : (ps : List Text) (id : LanguageId) (rest : List Text) → StopsWith ps (Some id) rest → ReadsFront MeansLanguage ps id rest
front_left ps id rest s =
    subst (λ l. ReadsFront MeansLanguage l id rest) (sym s.parts)
    (front_read language_reader s.taken rest (Some id) id s.reached refl (stuck_first (Some id) rest s.stuck))

-- ---- what is before a single character

take_next : (p : Text) (n : ℕ) (rest : List Text) → take (1 + n) (p ∷ rest) ≡ p ∷ take n rest
take_next p n rest = let e : 1 + n ≡ suc n = omega arith in ap (λ m. take m (p ∷ rest)) e

drop_next : (p : Text) (n : ℕ) (rest : List Text) → drop (1 + n) (p ∷ rest) ≡ drop n rest
drop_next p n rest = let e : 1 + n ≡ suc n = omega arith in ap (λ m. drop m (p ∷ rest)) e

-- pieces that are none, and then a list
before_joined : (taken rest : List Text) → list_any is_single taken ≡ false → before_single (taken ++ rest) ≡ taken ++ before_single rest
before_joined [] rest e = refl
before_joined (p ∷ ps) rest e =
    let parts = or_parts (is_single p) (list_any is_single ps) e in
    ap (λ b. take (cond (not b) (1 + position_or_len is_single (ps ++ rest)) 0) (p ∷ (ps ++ rest))) parts.0
    ∙ take_next p (position_or_len is_single (ps ++ rest)) (ps ++ rest) ∙ ap (λ l. p ∷ l) (before_joined ps rest parts.1)

from_joined : (taken rest : List Text) → list_any is_single taken ≡ false → from_single (taken ++ rest) ≡ from_single rest
from_joined [] rest e = refl
from_joined (p ∷ ps) rest e =
    let parts = or_parts (is_single p) (list_any is_single ps) e in
    ap (λ b. drop (cond (not b) (1 + position_or_len is_single (ps ++ rest)) 0) (p ∷ (ps ++ rest))) parts.0
    ∙ drop_next p (position_or_len is_single (ps ++ rest)) (ps ++ rest) ∙ from_joined ps rest parts.1

before_one : (p : Text) (rest : List Text) → is_single p ≡ true → before_single (p ∷ rest) ≡ []
before_one p rest e = ap (λ b. take (cond (not b) (1 + position_or_len is_single rest) 0) (p ∷ rest)) e

from_one : (p : Text) (rest : List Text) → is_single p ≡ true → from_single (p ∷ rest) ≡ p ∷ rest
from_one p rest e = ap (λ b. drop (cond (not b) (1 + position_or_len is_single rest) 0) (p ∷ rest)) e

before_other : (p : Text) (rest : List Text) → is_single p ≡ false → before_single (p ∷ rest) ≡ p ∷ before_single rest
before_other p rest e = ap (λ b. take (cond (not b) (1 + position_or_len is_single rest) 0) (p ∷ rest)) e ∙ take_next p (position_or_len is_single rest) rest

taken_plain : (ps : List Text) (s : Option LanguageId) (rest : List Text) (stops : StopsWith ps s rest) → list_any is_single stops.taken ≡ false
taken_plain ps s rest stops = language_plain stops.taken None s stops.reached

before_rest : (ps : List Text) (s : Option LanguageId) (rest : List Text) (stops : StopsWith ps s rest) → before_single ps ≡ stops.taken ++ before_single rest
before_rest ps s rest stops = ap before_single stops.parts ∙ before_joined stops.taken rest (taken_plain ps s rest stops)

from_rest : (ps : List Text) (s : Option LanguageId) (rest : List Text) (stops : StopsWith ps s rest) → from_single ps ≡ from_single rest
from_rest ps s rest stops = ap from_single stops.parts ∙ from_joined stops.taken rest (taken_plain ps s rest stops)

-- the rest begins no extension: all was before it
pub before_end : (ps : List Text) (id : LanguageId) → StopsWith ps (Some id) [] → MeansLanguage (before_single ps) id
before_end ps id s = read_whole language_reader (before_single ps) s.taken (Some id) id (none_left (before_single ps) s.taken (before_rest ps (Some id) [] s)) s.reached refl

pub from_end : (ps : List Text) (s : Option LanguageId) → StopsWith ps s [] → [] ≡ from_single ps
from_end ps s stops = sym (from_rest ps s [] stops)

pub before_extension : (ps : List Text) (id : LanguageId) (p : Text) (rest : List Text) → is_single p ≡ true → StopsWith ps (Some id) (p ∷ rest) → MeansLanguage (before_single ps) id
before_extension ps id p rest e s =
    read_whole language_reader (before_single ps) s.taken (Some id) id
    (none_left (before_single ps) s.taken (before_rest ps (Some id) (p ∷ rest) s ∙ ap (λ l. s.taken ++ l) (before_one p rest e))) s.reached refl

pub from_extension : (ps : List Text) (s : Option LanguageId) (p : Text) (rest : List Text) → is_single p ≡ true → StopsWith ps s (p ∷ rest) → p ∷ rest ≡ from_single ps
from_extension ps s p rest e stops = sym (from_rest ps s (p ∷ rest) stops ∙ from_one p rest e)

pub before_refused : (ps : List Text) (id : LanguageId) (p : Text) (rest : List Text) → is_single p ≡ false → StopsWith ps (Some id) (p ∷ rest) → HasFault MeansLanguage (before_single ps) InvalidSubtag
before_refused ps id p rest e s =
    language_refused (before_single ps) s.taken (before_single rest) (Some id) p
    (before_rest ps (Some id) (p ∷ rest) s ∙ ap (λ l. s.taken ++ l) (before_other p rest e)) s.reached s.stuck

before_none : (ps taken : List Text) (p : Text) (rest : List Text) (b : Bool) → is_single p ≡ b → before_single ps ≡ taken ++ before_single (p ∷ rest)
    → run language_after (Some None) taken ≡ Some None → language_after None p ≡ None → HasFault MeansLanguage (before_single ps) InvalidLanguage
before_none ps taken p rest true e parts reached stuck =
    language_cut (before_single ps) taken (none_left (before_single ps) taken (parts ∙ ap (λ l. taken ++ l) (before_one p rest e))) reached
before_none ps taken p rest false e parts reached stuck =
    language_refused (before_single ps) taken (before_single rest) None p (parts ∙ ap (λ l. taken ++ l) (before_other p rest e)) reached stuck

pub before_no_language : (ps : List Text) (rest : List Text) → StopsWith ps None rest → HasFault MeansLanguage (before_single ps) InvalidLanguage
before_no_language ps [] s =
    language_cut (before_single ps) s.taken (none_left (before_single ps) s.taken (before_rest ps None [] s)) s.reached
before_no_language ps (p ∷ rest) s = before_none ps s.taken p rest (is_single p) refl (before_rest ps None (p ∷ rest) s) s.reached s.stuck

-- ---- in a mode

pub read_in_mode : (mode : ParserMode) (ps : List Text) (id : LanguageId) (rest : List Text) → StopsWith ps (Some id) rest → may_leave mode rest ≡ true → ReadsInMode mode ps id rest
read_in_mode LanguageIdentifier ps id [] s e = (whole_read ps id s, refl)
read_in_mode LanguageIdentifier ps id (p ∷ rest) s e = cc
read_in_mode Locale ps id [] s e = (before_end ps id s, from_end ps (Some id) s)
read_in_mode Locale ps id (p ∷ rest) s e = (before_extension ps id p rest e s, from_extension ps (Some id) p rest e s)
read_in_mode Partial ps id rest s e = front_left ps id rest s

pub refused_in_mode : (mode : ParserMode) (ps : List Text) (id : LanguageId) (rest : List Text) → StopsWith ps (Some id) rest → may_leave mode rest ≡ false → HasFaultInMode mode ps InvalidSubtag
refused_in_mode LanguageIdentifier ps id [] s e = cc
refused_in_mode LanguageIdentifier ps id (p ∷ rest) s e = piece_refused ps id p rest s
refused_in_mode Locale ps id [] s e = cc
refused_in_mode Locale ps id (p ∷ rest) s e = before_refused ps id p rest e s
refused_in_mode Partial ps id [] s e = cc
refused_in_mode Partial ps id (p ∷ rest) s e = cc

pub none_in_mode : (mode : ParserMode) (ps : List Text) (rest : List Text) → StopsWith ps None rest → HasFaultInMode mode ps InvalidLanguage
none_in_mode LanguageIdentifier ps rest s = no_language ps rest s
none_in_mode Locale ps rest s = before_no_language ps rest s
none_in_mode Partial ps rest s = (no_language ps rest s, refl)
