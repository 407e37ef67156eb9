-- When two formatted numbers are one: where the numbers are, and the tables that they are written with.
-- Defined in docs/formatters.md, "Formatted numbers".
-- Cited by `==` of `FormattedUnsignedDecimal`.
use Rattle.std.specs.Prelude.{ℕ, zero, suc, Bool, ◌&&◌, ◌==◌, nat_eq}
use Rattle.std.proofs.Common.{◌≡◌, refl, ap, sym, ◌∙◌, Decides}
use Rattle.std.specs.Cmp.{IsEquivalence, decided, unsigned_Decides}
use Rattle.std.specs.Cmp.Lexicographic.{pointwise, bytes_decides}
use Rattle.std.proofs.lemmas.Bool.Decides.{Decides-and, Decides-like}
use Rattle.fixed_decimal.specs.Number.{Number}
use Rattle.icu_decimal_symbols.specs.declared.options.GroupingStrategy.{GroupingStrategy}
use Rattle.icu_decimal_symbols.specs.declared.options.GroupingStrategy.TheVariants.{Auto, Never, Always, Min2, OnAligned}
use Rattle.icu_decimal_symbols.specs.SameSymbols.{same_symbols}
use Rattle.icu_decimal_symbols.specs.SameSymbolsLaws.{same_symbols_decides}
use Rattle.icu_decimal_plain.specs.PlainText.{PlainNumber, Tables}

-- a number for each strategy, and the strategy of each number
abbrev pub strategy_number : GroupingStrategy → ℕ
strategy_number Auto = 0
strategy_number Never = 1
strategy_number Always = 2
strategy_number Min2 = 3
strategy_number OnAligned = 4

abbrev strategy_of : ℕ → GroupingStrategy
strategy_of zero = Auto
strategy_of (suc zero) = Never
strategy_of (suc (suc zero)) = Always
strategy_of (suc (suc (suc zero))) = Min2
strategy_of (suc (suc (suc (suc n)))) = OnAligned

there_and_back : (t : GroupingStrategy) → strategy_of (strategy_number t) ≡ t
there_and_back Auto = refl
there_and_back Never = refl
there_and_back Always = refl
there_and_back Min2 = refl
there_and_back OnAligned = refl

abbrev pub same_number : Number → Number → Bool
same_number a b = a.count == b.count && (a.low == b.low && a.high == b.high)

abbrev pub same_tables : Tables → Tables → Bool
same_tables a b =
    same_symbols a.symbols b.symbols && (pointwise nat_eq a.digits b.digits && strategy_number a.strategy == strategy_number b.strategy)

abbrev pub same_plain : PlainNumber → PlainNumber → Bool
same_plain a b = same_number a.number b.number && same_tables a.tables b.tables

same_number_decides : (a b : Number) → Decides (same_number a b) (a ≡ b)
same_number_decides a b = Decides-like (same_number a b)
    (λ h i. record { count = h.0 i; low = h.1.0 i; high = h.1.1 i })
    (λ e. (ap (λ v. v.count) e, (ap (λ v. v.low) e, ap (λ v. v.high) e)))
    (Decides-and _ _ (unsigned_Decides a.count b.count)
    (Decides-and _ _ (unsigned_Decides a.low b.low) (unsigned_Decides a.high b.high)))

same_strategy_decides : (a b : GroupingStrategy) → Decides (strategy_number a == strategy_number b) (a ≡ b)
same_strategy_decides a b = Decides-like (strategy_number a == strategy_number b)
    (λ h. sym (there_and_back a) ∙ ap strategy_of h ∙ there_and_back b)
    (λ e. ap strategy_number e)
    (unsigned_Decides (strategy_number a) (strategy_number b))

same_tables_decides : (a b : Tables) → Decides (same_tables a b) (a ≡ b)
same_tables_decides a b = Decides-like (same_tables a b)
    (λ h i. record { symbols = h.0 i; digits = h.1.0 i; strategy = h.1.1 i })
    (λ e. (ap (λ t. t.symbols) e, (ap (λ t. t.digits) e, ap (λ t. t.strategy) e)))
    (Decides-and _ _ (same_symbols_decides a.symbols b.symbols)
    (Decides-and _ _ (bytes_decides a.digits b.digits) (same_strategy_decides a.strategy b.strategy)))

pub same_plain_decides : (a b : PlainNumber) → Decides (same_plain a b) (a ≡ b)
same_plain_decides a b = Decides-like (same_plain a b)
    (λ h i. record { number = h.0 i; tables = h.1 i })
    (λ e. (ap (λ p. p.number) e, ap (λ p. p.tables) e))
    (Decides-and _ _ (same_number_decides a.number b.number) (same_tables_decides a.tables b.tables))

pub same_plain_equiv : IsEquivalence same_plain
same_plain_equiv = decided same_plain same_plain_decides
