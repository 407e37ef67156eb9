use Rattle.std.proofs.Common.{false, ◌≡◌, MatchOption, subst}
use Rattle.locale_numbers.specs.FormatterKeys.{finds}
use Rattle.locale_numbers.specs.KeptFormatters.{IsMadeFor}
use Rattle.locale_numbers.specs.declared.formatter_key.FormatterKey.{FormatterKey}
use Rattle.locale_numbers.proofs.KeptLemmas.{found_made}
use Rattle.locale_numbers.proofs.kept_formatter.FormatterMakerMakerHashedFormatterKeyKeptFormatter.make.Goals as goal

pub returns : goal.returns
returns g c =
    let book = g.T.Tables.book c.args.self.now.tables.now in
    let made = subst (λ (key : FormatterKey). MatchOption c.kept_formatter.result (finds book key ≡ false) (λ kept. IsMadeFor book key kept)) c.value.ensures c.kept_formatter.ensures in
    record { value = found_made book c.args.key c.kept_formatter.result made }
