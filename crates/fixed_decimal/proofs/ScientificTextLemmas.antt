-- A scientific text has two sides and one reading, and a printed one reads back.
use Rattle.std.proofs.Common.{◌≡◌, ℕ, List, [], ◌∷◌, ◌++◌, length, refl, sym, ap, ◌∙◌, subst, inl, inr}
use Rattle.writeable.specs.AnnotatedText.{bytes}
use Rattle.fixed_decimal_signed.specs.Number.{Number}
use Rattle.fixed_decimal_signed.specs.NumberText.{small_mark}
use Rattle.fixed_decimal_signed.specs.declared.ParseError.{ParseError}
use Rattle.fixed_decimal_signed.specs.declared.ParseError.TheVariants.{Limit, Syntax, Memory}
use Rattle.fixed_decimal_signed.proofs.TextPartsLemmas.{cons_head, cons_tail}
use Rattle.writeable.proofs.AnnotatedTextLemmas.{bytes_joined}
use Rattle.fixed_decimal.specs.IntegerText.{ReadsInteger, IsBeyondInteger}
use Rattle.fixed_decimal.specs.PlainParts.{StartsWithMark, IsNotScientific, without_limit}
use Rattle.fixed_decimal.specs.PlainText.{MarksExponent, HasNoMark}
use Rattle.fixed_decimal.specs.ScientificText.{ScientificValue, IsScientific, SpellsScientific, ReadsScientific, ReadsLongScientific, IsNoScientificText, scientific_text_of}
use Rattle.fixed_decimal_signed.specs.SignedText.{ReadsSigned, ReadsLongSigned, IsBeyondSigned, IsNoSignedText, signed_text_of}
use Rattle.fixed_decimal_signed.specs.SignedValue.{SignedValue}
use Rattle.fixed_decimal.proofs.PlainTextLemmas.{plain_fronts, plain_printed}
use Rattle.fixed_decimal.proofs.SignedReadOnceLemmas.{signed_reads_once, signed_not_beyond, signed_is_text, signed_printed, integer_not_beyond, same_printed}

-- the sides of a scientific text are those that the steps of reading found
found_left : (text left rest : List ℕ) → text ≡ left ++ rest → HasNoMark left → StartsWithMark rest → (other right : List ℕ) → SpellsScientific text other right → (left ≡ other) × (rest ≡ small_mark ∷ right)
found_left text left rest e p m other right h = plain_fronts left rest other (small_mark ∷ right) p h.left_plain m (inr (inl refl)) (sym e ∙ h.whole)

nothing_left : (right : List ℕ) → [] ≡ small_mark ∷ right → ⊥
nothing_left right e = cc

pub no_marks : (text left rest : List ℕ) → text ≡ left ++ rest → HasNoMark left → rest ≡ [] → IsNotScientific text
no_marks text left rest e p none other right h =
    nothing_left right (sym none ∙ (found_left text left rest e p (subst StartsWithMark (sym none) tt) other right h).1)

pub no_small_mark : (text left behind : List ℕ) (mark : ℕ) → text ≡ left ++ (mark ∷ behind) → HasNoMark left → MarksExponent mark → ¬ (mark ≡ small_mark) → IsNotScientific text
no_small_mark text left behind mark e p m ne other right h =
    ne (cons_head mark small_mark behind right (found_left text left (mark ∷ behind) e p m other right h).1)

append_none : (right : List ℕ) → right ≡ right ++ []
append_none [] = refl
append_none (c ∷ cs) = ap (λ t. c ∷ t) (append_none cs)

pub second_mark : (text left behind side more : List ℕ) (mark : ℕ) → text ≡ left ++ (mark ∷ behind) → HasNoMark left → MarksExponent mark → behind ≡ side ++ more → HasNoMark side → StartsWithMark more → ¬ (length more ≡ 0) → IsNotScientific text
second_mark text left behind side more mark e p m f q n some other right h =
    let same : behind ≡ right = cons_tail mark small_mark behind right (found_left text left (mark ∷ behind) e p m other right h).1 in
    let split = plain_fronts side more right [] q h.right_plain n tt (sym f ∙ same ∙ append_none right) in
    some (ap length split.1)

same_sides : (text left right other more : List ℕ) → SpellsScientific text left right → SpellsScientific text other more → (left ≡ other) × (right ≡ more)
same_sides text left right other more h k =
    let found = found_left text left (small_mark ∷ right) h.whole h.left_plain (inr (inl refl)) other more k in
    (found.0, cons_tail small_mark small_mark right more found.1)

-- a text none of whose readings has a side that reads
left_reads_not : (text left right : List ℕ) → SpellsScientific text left right → ((v : SignedValue Number) → ReadsSigned left v → ⊥) → IsNoScientificText text
left_reads_not text left right h lacks v k =
    lacks v.significand (subst (λ t. ReadsSigned t v.significand) (sym (same_sides text left right k.left k.right h k.spells).0) k.significand)

right_reads_not : (text left right : List ℕ) → SpellsScientific text left right → ((v : SignedValue Number) → ReadsInteger right v → ⊥) → IsNoScientificText text
right_reads_not text left right h lacks v k =
    lacks v.exponent (subst (λ t. ReadsInteger t v.exponent) (sym (same_sides text left right k.left k.right h k.spells).1) k.exponent)

left_no_text : (text left right : List ℕ) → SpellsScientific text left right → IsNoSignedText left → IsNoScientificText text
left_no_text text left right h lacks = left_reads_not text left right h (λ v. signed_is_text left v lacks)

left_beyond : (text left right : List ℕ) → SpellsScientific text left right → IsBeyondSigned left → IsNoScientificText text
left_beyond text left right h beyond = left_reads_not text left right h (λ v k. signed_not_beyond left v k beyond)

right_no_text : (text left right : List ℕ) → SpellsScientific text left right → IsNoSignedText right → IsNoScientificText text
right_no_text text left right h lacks = right_reads_not text left right h (λ v k. signed_is_text right v lacks k.reads)

right_beyond : (text left right : List ℕ) → SpellsScientific text left right → IsBeyondInteger right → IsNoScientificText text
right_beyond text left right h beyond = right_reads_not text left right h (λ v k. integer_not_beyond right v k beyond)

pub left_refused : (text left right : List ℕ) (refused : ParseError) → SpellsScientific text left right → (refused ≡ Syntax → IsNoSignedText left) → (refused ≡ Limit → IsBeyondSigned left) → without_limit refused ≡ Syntax → IsNoScientificText text
left_refused text left right Limit h syntax limit e = left_beyond text left right h (limit refl)
left_refused text left right Syntax h syntax limit e = left_no_text text left right h (syntax refl)
left_refused text left right Memory h syntax limit e = absurd (cc)

pub right_refused : (text left right : List ℕ) (refused : ParseError) → SpellsScientific text left right → (refused ≡ Syntax → IsNoSignedText right) → (refused ≡ Limit → IsBeyondInteger right) → without_limit refused ≡ Syntax → IsNoScientificText text
right_refused text left right Limit h syntax limit e = right_beyond text left right h (limit refl)
right_refused text left right Syntax h syntax limit e = right_no_text text left right h (syntax refl)
right_refused text left right Memory h syntax limit e = absurd (cc)

-- out of memory is that of a side
pub right_long : (text left right : List ℕ) (refused : ParseError) → SpellsScientific text left right → (refused ≡ Memory → ReadsLongSigned right) → without_limit refused ≡ Memory → ReadsLongScientific text
right_long text left right Limit h memory e = absurd (cc)
right_long text left right Syntax h memory e = absurd (cc)
right_long text left right Memory h memory e = record { left = left; right = right; spells = h; long = inr (memory refl) }

abbrev scientific_of : SignedValue Number → SignedValue Number → ScientificValue
scientific_of significand exponent = record { significand = significand; exponent = exponent }

pub same_scientific : (a b : ScientificValue) → a.significand ≡ b.significand → a.exponent ≡ b.exponent → a ≡ b
same_scientific a b e f =
    let first : scientific_of a.significand a.exponent ≡ scientific_of b.significand a.exponent = ap (λ s. scientific_of s a.exponent) e in
    let second : scientific_of b.significand a.exponent ≡ scientific_of b.significand b.exponent = ap (λ n. scientific_of b.significand n) f in
    first ∙ second

pub scientific_reads_once : (text : List ℕ) (a b : ScientificValue) → ReadsScientific text a → ReadsScientific text b → a ≡ b
scientific_reads_once text a b h k =
    let same = same_sides text h.left h.right k.left k.right h.spells k.spells in
    same_scientific a b
    (signed_reads_once k.left a.significand b.significand (subst (λ t. ReadsSigned t a.significand) same.0 h.significand) k.significand)
    (signed_reads_once k.right a.exponent b.exponent (subst (λ t. ReadsSigned t a.exponent) same.1 h.exponent.reads) k.exponent.reads)

pub scientific_printed : (v : ScientificValue) → IsScientific v → ReadsScientific (scientific_text_of v) v
scientific_printed v h = record {
  left = signed_text_of v.significand;
  right = signed_text_of v.exponent;
  spells = record { whole = refl; left_plain = plain_printed v.significand; right_plain = plain_printed v.exponent };
  significand = signed_printed v.significand h.significand;
  exponent = record { reads = signed_printed v.exponent h.exponent; whole = h.whole };
}

pub scientific_equal : (a b : ScientificValue) → IsScientific a → IsScientific b → scientific_text_of a ≡ scientific_text_of b → a ≡ b
scientific_equal a b h k e =
    same_printed ReadsScientific (scientific_text_of a) (scientific_text_of b) a b scientific_reads_once (scientific_printed a h) (scientific_printed b k) e

-- the events of a scientific decimal are the bytes of its printed text
pub scientific_events : (v : ScientificValue) → bytes (signed_text_of v.significand) ++ (bytes (small_mark ∷ []) ++ bytes (signed_text_of v.exponent)) ≡ bytes (scientific_text_of v)
scientific_events v =
    ap (λ es. bytes (signed_text_of v.significand) ++ es) (sym (bytes_joined (small_mark ∷ []) (signed_text_of v.exponent)))
    ∙ sym (bytes_joined (signed_text_of v.significand) (small_mark ∷ signed_text_of v.exponent))
