use Rattle.std.proofs.Common.{Some, ap, ◌∙◌}
use Rattle.writeable.proofs.AnnotatedTextLemmas.{text_of_bytes}
use Rattle.icu_decimal_symbols.specs.Symbols.{SymbolStrings}
use Rattle.legumeyet_c_values.specs.Facts.{told_of}
use Rattle.legumeyet_c_values.specs.declared.fact_words.Fact.TheVariants.{DecimalSeparator, GroupingSeparator, MinusBefore, MinusAfter, PlusBefore, PlusAfter, Digits}
use Rattle.legumeyet_c_values.proofs.FactLemmas.{categories_told, fact_told}
use Rattle.legumeyet_c_values.proofs.PuttingLemmas.{put_by}
use Rattle.legumeyet_c_values.proofs.facts.put_fact.Goals as goal

pub returns-in-DecimalSeparator : goal.returns-in-DecimalSeparator
returns-in-DecimalSeparator c =
    put_by _ _ _ _ _
    (λ text is. fact_told (told_of c.args.facts.now) c.args.fact DecimalSeparator text c.in-DecimalSeparator.is (ap Some (is ∙ text_of_bytes _ ∙ c.decimal_separator.ensures ∙ ap (λ (s : SymbolStrings). s.decimal_separator) c.deref.ensures)))
    (λ error none. absurd none)
    c.put.ensures

pub returns-in-GroupingSeparator : goal.returns-in-GroupingSeparator
returns-in-GroupingSeparator c =
    put_by _ _ _ _ _
    (λ text is. fact_told (told_of c.args.facts.now) c.args.fact GroupingSeparator text c.in-GroupingSeparator.is (ap Some (is ∙ text_of_bytes _ ∙ c.grouping_separator.ensures ∙ ap (λ (s : SymbolStrings). s.grouping_separator) c.deref-in-GroupingSeparator.ensures)))
    (λ error none. absurd none)
    c.put-in-GroupingSeparator.ensures

pub returns-in-MinusBefore : goal.returns-in-MinusBefore
returns-in-MinusBefore c =
    put_by _ _ _ _ _
    (λ text is. fact_told (told_of c.args.facts.now) c.args.fact MinusBefore text c.in-MinusBefore.is (ap Some (is ∙ text_of_bytes _ ∙ c.minus_sign_prefix.ensures ∙ ap (λ (s : SymbolStrings). s.minus_sign_prefix) c.deref-in-MinusBefore.ensures)))
    (λ error none. absurd none)
    c.put-in-MinusBefore.ensures

pub returns-in-MinusAfter : goal.returns-in-MinusAfter
returns-in-MinusAfter c =
    put_by _ _ _ _ _
    (λ text is. fact_told (told_of c.args.facts.now) c.args.fact MinusAfter text c.in-MinusAfter.is (ap Some (is ∙ text_of_bytes _ ∙ c.minus_sign_suffix.ensures ∙ ap (λ (s : SymbolStrings). s.minus_sign_suffix) c.deref-in-MinusAfter.ensures)))
    (λ error none. absurd none)
    c.put-in-MinusAfter.ensures

pub returns-in-PlusBefore : goal.returns-in-PlusBefore
returns-in-PlusBefore c =
    put_by _ _ _ _ _
    (λ text is. fact_told (told_of c.args.facts.now) c.args.fact PlusBefore text c.in-PlusBefore.is (ap Some (is ∙ text_of_bytes _ ∙ c.plus_sign_prefix.ensures ∙ ap (λ (s : SymbolStrings). s.plus_sign_prefix) c.deref-in-PlusBefore.ensures)))
    (λ error none. absurd none)
    c.put-in-PlusBefore.ensures

pub returns-in-PlusAfter : goal.returns-in-PlusAfter
returns-in-PlusAfter c =
    put_by _ _ _ _ _
    (λ text is. fact_told (told_of c.args.facts.now) c.args.fact PlusAfter text c.in-PlusAfter.is (ap Some (is ∙ text_of_bytes _ ∙ c.plus_sign_suffix.ensures ∙ ap (λ (s : SymbolStrings). s.plus_sign_suffix) c.deref-in-PlusAfter.ensures)))
    (λ error none. absurd none)
    c.put-in-PlusAfter.ensures

pub returns-in-Digits : goal.returns-in-Digits
returns-in-Digits c =
    put_by _ _ _ _ _
    (λ text is. fact_told (told_of c.args.facts.now) c.args.fact Digits text c.in-Digits.is (ap Some (is ∙ text_of_bytes _)))
    (λ error none. absurd none)
    c.put-in-Digits.ensures

pub returns-in-Some : goal.returns-in-Some
returns-in-Some c =
    put_by _ _ _ _ _
    (λ text is. categories_told c.args.facts.now c.args.fact c.in-Some.rules text c.in-Categories.is c.in-Some.is (is ∙ text_of_bytes _))
    (λ error none. absurd none)
    c.put-in-Some.ensures
