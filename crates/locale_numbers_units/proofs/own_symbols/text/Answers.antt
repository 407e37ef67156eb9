use Rattle.std.proofs.Common.{◌≡◌, [], sym, subst}
use Rattle.std.specs.Prelude.{IfOk, string_bytes, unwrap_or}
use Rattle.serde_json.specs.View.{view}
use Rattle.locale_numbers_tables.specs.Fields.{plain_text_in}
use Rattle.locale_numbers_units.proofs.OwnLemmas.{shifted}
use Rattle.locale_numbers_units.proofs.own_symbols.text.Goals as goal

pub returns : goal.returns
returns c =
    subst (λ found. IfOk c.symbol.result (λ text. string_bytes text ≡ unwrap_or found []))
    (sym (shifted plain_text_in c.args.place (view c.args.own.now))) c.symbol.ensures
