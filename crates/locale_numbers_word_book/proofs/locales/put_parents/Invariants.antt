use Rattle.std.proofs.Common.{◌≡◌, ◌++◌, ◌-◌, filter}
use Rattle.icu_decimal.specs.Chains.{walk}
use Rattle.locale_numbers_word_book.specs.WordLocales.{is_no_root}
use Rattle.locale_numbers_word_book.proofs.locales.put_parents.Given as goal

abbrev pub invariant-loop-turn : goal.invariant-loop-turn
invariant-loop-turn g l =
    l.locales.items ++ filter is_no_root (walk (g.P.ParentProvider.next l.provider) (g.P.ParentProvider.limit l.provider - l._turn) l.current)
    ≡ l.initial.locales.items ++ filter is_no_root (walk (g.P.ParentProvider.next l.provider) (g.P.ParentProvider.limit l.provider) l.fn.first)
