use Rattle.std.proofs.Common.{◌≡◌, ◌++◌, ◌-◌, ◌+◌, ◌*◌, map, string_bytes, length}
use Rattle.std.specs.List.{filter_map}
use Rattle.std.specs.Str.Lines.{lines}
use Rattle.icu_decimal_chains.specs.Chains.{chain}
use Rattle.icu_locale_core.specs.DataText.{data_text}
use Rattle.locale_numbers_book.specs.SelectedText.{chain_by, listed, step_by}
use Rattle.locale_numbers_book.proofs.texts.chain.put_chain.Given as goal

abbrev pub invariant-loop-turn : goal.invariant-loop-turn
invariant-loop-turn l =
    record {
      names : map string_bytes l.names.items ++ map data_text (chain (step_by (lines l.parents)) (5 * length (lines l.parents) + 4 - l._turn) l.current)
          ≡ map string_bytes l.initial.names.items ++ map data_text (chain_by (lines l.parents) l.fn.start);
      entries : map (λ line. line.now) l.entries.items ++ filter_map (listed (lines l.parents)) (chain (step_by (lines l.parents)) (5 * length (lines l.parents) + 4 - l._turn) l.current)
          ≡ map (λ line. line.now) l.initial.entries.items ++ filter_map (listed (lines l.parents)) (chain_by (lines l.parents) l.fn.start);
    }
