use Rattle.std.proofs.lemmas.Str.Pattern.{starts_text}
use Rattle.locale_numbers_book.proofs.texts.entries.has_front.Goals as goal

pub returns : goal.returns
returns c = starts_text _ c.args.front.now c.args.line.now c.starts_with.ensures.cases
