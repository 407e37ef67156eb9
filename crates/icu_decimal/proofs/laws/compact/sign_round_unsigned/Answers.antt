use Rattle.icu_decimal.specs.HeldTables.{tables_of}
use Rattle.icu_decimal_plain.proofs.TextLemmas.{decimal_is_text}
use Rattle.icu_decimal.specs.HeldCompact.{compact_tables_of}
use Rattle.icu_decimal.proofs.CompactTextLemmas.{compact_is_text}
use Rattle.icu_decimal.proofs.laws.compact.sign_round_unsigned.Goals as goal

pub returns-clause-plain_text : goal.returns-clause-plain_text
returns-clause-plain_text c = λ f d. decimal_is_text (tables_of f) d

pub returns-clause-compact_text : goal.returns-clause-compact_text
returns-clause-compact_text c = λ f d. compact_is_text (compact_tables_of f) d
