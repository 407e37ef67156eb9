use Rattle.std.proofs.Common.{IfErr, subst}
use Rattle.icu_locale_core_grammar.specs.PartReaders.{ReadsUnicode}
use Rattle.icu_locale_core_subtag_lists.specs.Reading.{IsRefused}
use Rattle.icu_locale_core_extensions.proofs.unicode.Unicode.try_from_str.Goals as goal

pub returns-clause-fault : goal.returns-clause-fault
returns-clause-fault c = subst (λ t. IfErr c.try_from_utf8.result (IsRefused (ReadsUnicode t))) c.as_bytes.ensures.value c.try_from_utf8.ensures.fault
