use Rattle.std.proofs.Common.{◌≡◌, true, false, rules, ap, sym, ◌∙◌}
use Rattle.std.proofs.lemmas.Bool.{false≢true}
use Rattle.fixed_decimal.specs.Number.{Number}
use Rattle.fixed_decimal.specs.SignedValue.{SignedValue}
use Rattle.icu_decimal.specs.Operands.{operands_of}
use Rattle.locale_numbers_formatter.specs.HeldDigits.{compact_held, options_held}
use Rattle.locale_numbers_formatter.proofs.CompactDigitsLemmas.{none_seen, operands_seen}
use Rattle.locale_numbers_formatter.proofs.shown_operands.digits_operands.Goals as goal

pub returns-then-not-can_show-clause-operands : goal.returns-then-not-can_show-clause-operands
returns-then-not-can_show-clause-operands c =
    let cannot : c.can_show.result ≡ false = search rules in
    none_seen (compact_held c.args.formatter.now) (options_held c.args.formatter.now) c.args.value.now (λ whole. false≢true (sym cannot ∙ c.can_show.ensures.1 whole))

pub returns-clause-operands : goal.returns-clause-operands
returns-clause-operands c =
    let can : c.can_show.result ≡ true = search rules in
    let under = c.in_ok-under.under in
    operands_seen (compact_held c.args.formatter.now) (options_held c.args.formatter.now) c.args.value.now c.show.new.value under.entry c.in_ok-under.ensures.value under.exponent c.in_ok-under.ensures.exponent
    c.from_significand_and_exponent.result (c.from_significand_and_exponent.ensures ∙ ap (λ (v : SignedValue Number). operands_of v.absolute under.exponent) c.value.view_is) (c.can_show.ensures.0 can)
