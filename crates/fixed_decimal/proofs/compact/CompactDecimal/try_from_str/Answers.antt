use Rattle.std.proofs.Common.{rules}
use Rattle.fixed_decimal.specs.CompactText.{SpellsCompact}
use Rattle.fixed_decimal.proofs.CompactTextLemmas.{no_compact_text}
use Rattle.fixed_decimal.proofs.compact.CompactDecimal.try_from_str.Goals as goal

pub returns-in-Err-clause-syntax : goal.returns-in-Err-clause-syntax
returns-in-Err-clause-syntax c = λ e.
    let spells : SpellsCompact c.args.text.now c.in-Some.front.now c.in-Some.digits.now = search rules in
    no_compact_text c.args.text.now c.in-Some.front.now c.in-Some.digits.now spells (c.in-Err.ensures.syntax (search rules))
