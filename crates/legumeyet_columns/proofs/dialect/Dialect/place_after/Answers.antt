use Rattle.std.proofs.Common.{◌≡◌, false, sym}
use Rattle.legumeyet_columns.specs.Places.{has_quote}
use Rattle.legumeyet_columns.proofs.PlacesLemmas.{left_outside, no_quotes, rest_outside}
use Rattle.legumeyet_columns.proofs.dialect.Dialect.place_after.Goals as goal

pub returns-else-has_quote : goal.returns-else-has_quote
returns-else-has_quote c =
    let none : has_quote c.args.bytes.now ≡ false = cc in
    let outside = no_quotes c.args.self c.args.bytes.now none in
    record {
      quoted = sym outside;
      rest = λ rest. sym (rest_outside c.args.self _ rest outside);
      left = λ rest. sym (left_outside c.args.self _ rest outside);
    }
