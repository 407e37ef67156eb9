-- The text of a number between affixes in which the unit is.
use Rattle.std.proofs.Common.{◌≡◌, ◌+◌, ◌≤◌, ◌++◌, length, length-append, sym, ap, ◌∙◌, arith}
use Rattle.writeable.specs.AnnotatedText.{bytes, text_of, without_parts}
use Rattle.writeable.proofs.AnnotatedTextLemmas.{bytes_joined, text_of_bytes}
use Rattle.fixed_decimal.specs.Number.{Number}
use Rattle.fixed_decimal.specs.SignedValue.{SignedValue}
use Rattle.icu_decimal.specs.PlainText.{PlainNumber, Tables, unsigned_events}
use Rattle.icu_decimal.proofs.TextLemmas.{unsigned_is_text}
use Rattle.icu_dimension_affixes.specs.UnitPatterns.{AffixPair}
use Rattle.icu_dimension_affixes.specs.UnitReading.{ReaderTexts, pair_for, reader_texts, text_by}
use Rattle.icu_dimension_affixes.specs.UnitReadingLaws.{ReadersReadWhatIsWritten}
use Rattle.icu_dimension_affixes.specs.UnitText.{UnitSettings, text_between, unit_decimal_text}
use Rattle.locale_numbers_formatter.specs.JoinedUnit.{JoinedNumber, joined_events}

-- its events are the bytes of one text
joined_bytes : (n : JoinedNumber) → bytes (text_between n.affixes (text_of (unsigned_events n.number))) ≡ joined_events n
joined_bytes n =
    bytes_joined n.affixes.before (text_of (unsigned_events n.number) ++ n.affixes.after)
    ∙ ap (λ es. bytes n.affixes.before ++ es) (bytes_joined (text_of (unsigned_events n.number)) n.affixes.after)

joined_between : (n : JoinedNumber) → text_of (joined_events n) ≡ text_between n.affixes (text_of (unsigned_events n.number))
joined_between n = ap text_of (sym (joined_bytes n)) ∙ text_of_bytes (text_between n.affixes (text_of (unsigned_events n.number)))

pub joined_is_partless : (n : JoinedNumber) → without_parts (joined_events n) ≡ joined_events n
joined_is_partless n = ap bytes (joined_between n) ∙ joined_bytes n

-- affixes make no text shorter
pub number_is_shorter : (n : JoinedNumber) → length (text_of (unsigned_events n.number)) ≤ length (text_of (joined_events n))
number_is_shorter n =
    let before = n.affixes.before in
    let number = text_of (unsigned_events n.number) in
    let after = n.affixes.after in
    let whole : length (text_of (joined_events n)) ≡ length before + length (number ++ after) = ap length (joined_between n) ∙ length-append before (number ++ after) in
    let both : length (number ++ after) ≡ length number + length after = length-append number after in
    omega (arith, whole, both)

-- between the affixes of a reader it is the text that the reader reads
pub joined_is_read : (r : ReaderTexts) (v : SignedValue Number) → text_of (joined_events (record { number = record { number = v.absolute; tables = r.tables }; affixes = pair_for r.pairs v.sign })) ≡ text_by r v
joined_is_read r v =
    let n : JoinedNumber = record { number = record { number = v.absolute; tables = r.tables }; affixes = pair_for r.pairs v.sign } in
    joined_between n ∙ ap (λ text. text_between n.affixes text) (unsigned_is_text n.number)

-- and that is the text that the tables of the reader write
pub joined_is_unit : (s : UnitSettings) (reader : ReaderTexts) (v : SignedValue Number) (tables : Tables) (number : PlainNumber) (pair : AffixPair)
    → reader ≡ reader_texts s → ReadersReadWhatIsWritten → tables ≡ s.tables → number ≡ record { number = v.absolute; tables = tables } → pair ≡ pair_for reader.pairs v.sign
    → text_of (joined_events (record { number = number; affixes = pair })) ≡ unit_decimal_text s v
joined_is_unit s reader v tables number pair known law same is between =
    let r : ReaderTexts = reader_texts s in
    let whole : PlainNumber = record { number = v.absolute; tables = s.tables } in
    let number_is : number ≡ whole = is ∙ ap (λ t. record { number = v.absolute; tables = t }) same in
    let pair_is : pair ≡ pair_for r.pairs v.sign = between ∙ ap (λ (k : ReaderTexts). pair_for k.pairs v.sign) known in
    ap (λ n. text_of (joined_events (record { number = n; affixes = pair }))) number_is
    ∙ ap (λ p. text_of (joined_events (record { number = whole; affixes = p }))) pair_is
    ∙ joined_is_read r v
    ∙ law s v

-- a number that is seen through its value
pub number_viewed : (inside v : SignedValue Number) (tables : Tables) {number : PlainNumber} → inside ≡ v
    → number ≡ record { number = inside.absolute; tables = tables } → number ≡ record { number = v.absolute; tables = tables }
number_viewed inside v tables viewed is = is ∙ ap (λ (w : SignedValue Number). record { number = w.absolute; tables = tables }) viewed

-- and the affixes of its sign
pub pair_viewed : (reader : ReaderTexts) (inside v : SignedValue Number) {pair : AffixPair} → inside ≡ v
    → pair ≡ pair_for reader.pairs inside.sign → pair ≡ pair_for reader.pairs v.sign
pair_viewed reader inside v viewed is = is ∙ ap (λ (w : SignedValue Number). pair_for reader.pairs w.sign) viewed
