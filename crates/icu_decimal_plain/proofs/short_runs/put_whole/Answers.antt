use Rattle.std.proofs.Common.{◌≡◌, ◌+◌, ◌-◌, ◌∙◌, IsUtf8, ap, arith, drop, length, refl, subst, sym, take}
use Rattle.std.proofs.lemmas.Str.{IsUtf8-append, IsUtf8-had}
use Rattle.std.specs.Int.Digits.{AllBelowBase}
use Rattle.fixed_decimal.proofs.DigitsLemmas.{below_drop, below_take}
use Rattle.icu_decimal_plain.specs.BorrowedTables.{borrowed_tables}
use Rattle.icu_decimal_grouping.specs.Grouper.{group_sizes}
use Rattle.icu_decimal_plain.proofs.DigitChunkLemmas.{few_others, length_down, part_shown, rest_shown, sizes_split}
use Rattle.icu_decimal_plain.proofs.PieceLemmas.{utf8_digits, utf8_groups}
use Rattle.icu_decimal_plain.proofs.PlainTextLemmas.{grouped_text, tens_down}
use Rattle.icu_decimal_plain.proofs.ShortRunLemmas.{front_shown, whole_put}
use Rattle.icu_decimal_plain.proofs.short_runs.put_whole.Goals as goal

pub block_of-block-requires-clause-few : goal.block_of-block-requires-clause-few
block_of-block-requires-clause-few c =
    let v = c.args.number.now in
    let long = ap length c.whole_digits-digits.ensures ∙ length_down v.count 32768 (v.high - 32767) in
    let few = c.requires.few in
    omega (arith, long, few)

pub block_of-block-requires-clause-tens : goal.block_of-block-requires-clause-tens
block_of-block-requires-clause-tens c =
    let v = c.args.number.now in
    subst (AllBelowBase 10) (sym c.whole_digits-digits.ensures) (tens_down v.count 32768 (v.high - 32767))

pub put_front-len-requires : goal.put_front-len-requires
put_front-len-requires c =
    let t = borrowed_tables c.args.tables.now in
    let v = c.args.number.now in
    let count = c.highest-count.result + 1 in
    let ds = c.whole_digits-digits.result in
    let first = c.unwrap_or-first.result in
    let others = c.next.new.self in
    let block = c.block_of-block.result in
    let value = c.highest-count.ensures.value in
    let few = c.requires.few in
    let cut : c.of-sizes.result ≡ group_sizes t.strategy t.symbols.grouping_sizes count = rw (← c.symbols.view_is) c.of-sizes.ensures in
    let split = sizes_split t.strategy t.symbols.grouping_sizes count first c.of-sizes.result others c.next.result (omega arith) cut c.next.ensures.steps c.unwrap_or-first.ensures in
    record {
      room = omega arith;
      few = omega (arith, split, value, few);
      tens = c.block_of-block.ensures.tens;
    }

pub put_after-requires : goal.put_after-requires
put_after-requires c =
    let t = borrowed_tables c.args.tables.now in
    let v = c.args.number.now in
    let count = c.highest-count.result + 1 in
    let first = c.unwrap_or-first.result in
    let others = c.next.new.self in
    let value = c.highest-count.ensures.value in
    let few = c.requires.few in
    let cut : c.of-sizes.result ≡ group_sizes t.strategy t.symbols.grouping_sizes count = rw (← c.symbols.view_is) c.of-sizes.ensures in
    let split = sizes_split t.strategy t.symbols.grouping_sizes count first c.of-sizes.result others c.next.result (omega arith) cut c.next.ensures.steps c.unwrap_or-first.ensures in
    let few_groups = few_others t.strategy t.symbols.grouping_sizes count c.of-sizes.result others c.next.result (omega arith) cut c.next.ensures.steps in
    let put = c.put_front-len.ensures.room in
    record {
      room = omega (arith, split, value, few, put, few_groups);
      within = omega (arith, value, few);
      whole = split;
      long = c.requires.separator.long;
      short = c.requires.separator.short;
      tens = c.block_of-block.ensures.tens;
    }

pub returns-clause-text : goal.returns-clause-text
returns-clause-text c =
    let t = borrowed_tables c.args.tables.now in
    let v = c.args.number.now in
    let count = c.highest-count.result + 1 in
    let ds = c.whole_digits-digits.result in
    let first = c.unwrap_or-first.result in
    let others = c.next.new.self in
    let block = c.block_of-block.result in
    let separator = take c.args.separator.len c.args.separator.bytes in
    let value = c.highest-count.ensures.value in
    let cut : c.of-sizes.result ≡ group_sizes t.strategy t.symbols.grouping_sizes count = rw (← c.symbols.view_is) c.of-sizes.ensures in
    let split = sizes_split t.strategy t.symbols.grouping_sizes count first c.of-sizes.result others c.next.result (omega arith) cut c.next.ensures.steps c.unwrap_or-first.ensures in
    let long = ap length c.whole_digits-digits.ensures ∙ length_down v.count 32768 (v.high - 32767) in
    let shown = front_shown ds block count (omega (arith, long, value)) c.block_of-block.ensures.front in
    let part = part_shown ds block first count (omega (arith, split)) shown in
    let rest = rest_shown ds block first count (omega (arith, split)) (omega (arith, long, value)) shown in
    whole_put first count separator t.digits ds block others (take c.put_front-len.result c.put_front-len.new.text) (take c.in_ok-end.end c.put_after.new.text)
    part rest c.put_front-len.ensures.text c.in_ok-end.ensures.text
    ∙ sym (grouped_text t v count first c.of-sizes.result others ds (drop first ds) separator c.next.result (omega (arith, value)) cut c.next.ensures.steps c.unwrap_or-first.ensures c.whole_digits-digits.ensures refl c.requires.separator.is)

pub returns-clause-utf8 : goal.returns-clause-utf8
returns-clause-utf8 c =
    let t = borrowed_tables c.args.tables.now in
    let v = c.args.number.now in
    let count = c.highest-count.result + 1 in
    let ds = c.whole_digits-digits.result in
    let first = c.unwrap_or-first.result in
    let others = c.next.new.self in
    let block = c.block_of-block.result in
    let table = c.args.tables.now.digits in
    let separator = take c.args.separator.len c.args.separator.bytes in
    let value = c.highest-count.ensures.value in
    let cut : c.of-sizes.result ≡ group_sizes t.strategy t.symbols.grouping_sizes count = rw (← c.symbols.view_is) c.of-sizes.ensures in
    let split = sizes_split t.strategy t.symbols.grouping_sizes count first c.of-sizes.result others c.next.result (omega arith) cut c.next.ensures.steps c.unwrap_or-first.ensures in
    let long = ap length c.whole_digits-digits.ensures ∙ length_down v.count 32768 (v.high - 32767) in
    let shown = front_shown ds block count (omega (arith, long, value)) c.block_of-block.ensures.front in
    let part = part_shown ds block first count (omega (arith, split)) shown in
    let rest = rest_shown ds block first count (omega (arith, split)) (omega (arith, long, value)) shown in
    let tens = subst (AllBelowBase 10) (sym c.whole_digits-digits.ensures) (tens_down v.count 32768 (v.high - 32767)) in
    let text = whole_put first count separator t.digits ds block others (take c.put_front-len.result c.put_front-len.new.text) (take c.in_ok-end.end c.put_after.new.text)
    part rest c.put_front-len.ensures.text c.in_ok-end.ensures.text in
    let fine = subst IsUtf8 (sym c.requires.separator.is) (IsUtf8-had _ c.requires.separator.utf8) in
    ∣ rw text (IsUtf8-append _ _ (utf8_digits t.digits (take first ds) (λ d below. IsUtf8-had _ (table.held d below).utf8) (below_take first ds tens))
    (utf8_groups separator t.digits others (drop first ds) fine (λ d below. IsUtf8-had _ (table.held d below).utf8) (below_drop first ds tens))) ∣₁

pub returns-clause-room : goal.returns-clause-room
returns-clause-room c =
    let t = borrowed_tables c.args.tables.now in
    let v = c.args.number.now in
    let count = c.highest-count.result + 1 in
    let first = c.unwrap_or-first.result in
    let others = c.next.new.self in
    let value = c.highest-count.ensures.value in
    let few = c.requires.few in
    let cut : c.of-sizes.result ≡ group_sizes t.strategy t.symbols.grouping_sizes count = rw (← c.symbols.view_is) c.of-sizes.ensures in
    let split = sizes_split t.strategy t.symbols.grouping_sizes count first c.of-sizes.result others c.next.result (omega arith) cut c.next.ensures.steps c.unwrap_or-first.ensures in
    let few_groups = few_others t.strategy t.symbols.grouping_sizes count c.of-sizes.result others c.next.result (omega arith) cut c.next.ensures.steps in
    let put = c.put_front-len.ensures.room in
    let end = c.in_ok-end.ensures.room in
    omega (arith, split, value, few, put, few_groups, end)
