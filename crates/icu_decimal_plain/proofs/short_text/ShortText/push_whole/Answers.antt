use Rattle.std.proofs.Common.{◌≡◌, ◌+◌, ◌-◌, ◌++◌, ◌∙◌, ap, append_assoc, arith, drop, length, length-drop, map, refl, subst, sym, take}
use Rattle.std.specs.Int.Digits.{AllBelowBase}
use Rattle.fixed_decimal.proofs.DigitsLemmas.{below_drop, below_take}
use Rattle.icu_decimal_grouping.specs.Grouper.{group_sizes}
use Rattle.icu_decimal_plain.specs.BorrowedTables.{borrowed_tables}
use Rattle.icu_decimal_plain.specs.LaterGroups.{groups_ahead}
use Rattle.icu_decimal_plain.specs.PlainText.{chained, digit_text}
use Rattle.icu_decimal_plain.proofs.DigitChunkLemmas.{length_down, part_shown, rest_shown, sizes_split}
use Rattle.icu_decimal_plain.proofs.PieceLemmas.{held_itself}
use Rattle.icu_decimal_plain.proofs.PlainTextLemmas.{grouped_text, tens_down}
use Rattle.icu_decimal_plain.proofs.short_text.ShortText.push_whole.Goals as goal

pub few_digits-chunk-requires-clause-enough : goal.few_digits-chunk-requires-clause-enough
few_digits-chunk-requires-clause-enough c =
    let v = c.args.number.now in
    let long = ap length c.whole_digits-digits.ensures ∙ length_down v.count 32768 (v.high - 32767) in
    omega (arith, long)

pub push_front-requires : goal.push_front-requires
push_front-requires c =
    let t = borrowed_tables c.args.tables.now in
    let v = c.args.number.now in
    let count = c.highest-count.result + 1 in
    let ds = c.whole_digits-digits.result in
    let first = c.unwrap_or-first.result in
    let cut : c.of-sizes.result ≡ group_sizes t.strategy t.symbols.grouping_sizes count = rw (← c.symbols.view_is) c.of-sizes.ensures in
    let split = sizes_split t.strategy t.symbols.grouping_sizes count first c.of-sizes.result c.next.new.self c.next.result (omega arith) cut c.next.ensures.steps c.unwrap_or-first.ensures in
    let part = part_shown ds c.few_digits-chunk.result first count (omega (arith, split)) c.few_digits-chunk.ensures.chunk in
    let shown = subst (AllBelowBase 10) (sym c.whole_digits-digits.ensures) (tens_down v.count 32768 (v.high - 32767)) in
    subst (AllBelowBase 10) (sym part) (below_take first ds shown)

pub push_groups-requires : goal.push_groups-requires
push_groups-requires c =
    let t = borrowed_tables c.args.tables.now in
    let v = c.args.number.now in
    let count = c.highest-count.result + 1 in
    let ds = c.whole_digits-digits.result in
    let first = c.unwrap_or-first.result in
    let chunk = c.few_digits-chunk.result in
    let cut : c.of-sizes.result ≡ group_sizes t.strategy t.symbols.grouping_sizes count = rw (← c.symbols.view_is) c.of-sizes.ensures in
    let split = sizes_split t.strategy t.symbols.grouping_sizes count first c.of-sizes.result c.next.new.self c.next.result (omega arith) cut c.next.ensures.steps c.unwrap_or-first.ensures in
    let long = ap length c.whole_digits-digits.ensures ∙ length_down v.count 32768 (v.high - 32767) in
    let value = c.highest-count.ensures.value in
    let rest = rest_shown ds chunk first count (omega (arith, split)) (omega (arith, long, value)) c.few_digits-chunk.ensures.chunk in
    let size = ap length rest ∙ length-drop first ds in
    let shown = subst (AllBelowBase 10) (sym c.whole_digits-digits.ensures) (tens_down v.count 32768 (v.high - 32767)) in
    record {
      separator = held_itself c.args.separator _ c.requires.separator;
      few = let few = c.requires.few in omega (arith, size, long, few);
      whole = omega (arith, size, split, long, value);
      tens = subst (AllBelowBase 10) (sym rest) (below_drop first ds shown);
    }

pub returns : goal.returns
returns c =
    let t = borrowed_tables c.args.tables.now in
    let v = c.args.number.now in
    let count = c.highest-count.result + 1 in
    let ds = c.whole_digits-digits.result in
    let first = c.unwrap_or-first.result in
    let others = c.next.new.self in
    let chunk = c.few_digits-chunk.result in
    let separator = take c.args.separator.len c.args.separator.bytes in
    let value = c.highest-count.ensures.value in
    let cut : c.of-sizes.result ≡ group_sizes t.strategy t.symbols.grouping_sizes count = rw (← c.symbols.view_is) c.of-sizes.ensures in
    let split = sizes_split t.strategy t.symbols.grouping_sizes count first c.of-sizes.result others c.next.result (omega arith) cut c.next.ensures.steps c.unwrap_or-first.ensures in
    let long = ap length c.whole_digits-digits.ensures ∙ length_down v.count 32768 (v.high - 32767) in
    let part = part_shown ds chunk first count (omega (arith, split)) c.few_digits-chunk.ensures.chunk in
    let rest = rest_shown ds chunk first count (omega (arith, split)) (omega (arith, long, value)) c.few_digits-chunk.ensures.chunk in
    let whole = grouped_text t v count first c.of-sizes.result others ds (drop first ds) separator c.next.result (omega (arith, value)) cut c.next.ensures.steps c.unwrap_or-first.ensures c.whole_digits-digits.ensures refl c.requires.separator.is in
    let group = chained (map (digit_text t.digits) (take first ds)) in
    let put = groups_ahead separator (digit_text t.digits) others (take (count - first) (drop first chunk)) in
    let joined : c.push_front.new.self ++ put ≡ c.args.self.now ++ (group ++ groups_ahead separator (digit_text t.digits) others (drop first ds))
    = ap (λ text. text ++ put) (c.in_ok-push_front.ensures ∙ ap (λ digits. c.args.self.now ++ chained (map (digit_text t.digits) digits)) part)
    ∙ append_assoc c.args.self.now group put
    ∙ ap (λ digits. c.args.self.now ++ (group ++ groups_ahead separator (digit_text t.digits) others digits)) rest in
    rw whole (rw joined at c.push_groups.ensures)
