use Rattle.std.proofs.Common.{◌≡◌, true, false, is_some, None, sym, ◌∙◌}
use Rattle.serde_json.specs.View.{items_view}
use Rattle.icu_decimal.specs.Reading.{is_same, pairs_of}
use Rattle.locale_numbers_tables.specs.Keys.{table_at}
use Rattle.locale_numbers_tables.specs.RulesEntries.{condition_in}
use Rattle.locale_numbers_tables.proofs.KeyLemmas.{is_same_symmetric}
use Rattle.locale_numbers_tables.proofs.RulesLemmas.{pairs_more}
use Rattle.locale_numbers_tables.proofs.TableLemmas.{no_table, none_from, once_more, one_more}
use Rattle.locale_numbers_tables.proofs.rules.conditions.Goals as goal

pub returns-then-has_category : goal.returns-then-has_category
returns-then-has_category c =
    let read = one_more condition_in c.args.items.now c.loop-item.item-index c.item-item.result (c.in-Some.category, c.in-Some.text.now) (pairs_of c.loop-item.list.items)
    c.loop-item-test.true c.item-item.is (sym c.in-Some.ensures) c.loop-item.invariant.all in
    let there : is_some (table_at is_same c.in-Some.category (pairs_of c.loop-item.list.items)) ≡ true = rw (← c.as_slice.ensures.value) (sym c.has_category.ensures ∙ c.if-has_category.true) in
    sym (no_table is_same is_same_symmetric condition_in (items_view c.args.items.now) (pairs_of c.loop-item.list.items) c.in-Some.category c.in-Some.text.now _ read there)

pub loop-item-preserved : goal.loop-item-preserved
loop-item-preserved c =
    let read = one_more condition_in c.args.items.now c.loop-item.item-index c.item-item.result (c.in-Some.category, c.in-Some.text.now) (pairs_of c.loop-item.list.items)
    c.loop-item-test.true c.item-item.is (sym c.in-Some.ensures) c.loop-item.invariant.all in
    let absent : is_some (table_at is_same c.in-Some.category (pairs_of c.loop-item.list.items)) ≡ false = rw (← c.as_slice.ensures.value) (sym c.has_category.ensures ∙ c.if-has_category.false) in
    let fresh : table_at is_same c.in-Some.category (pairs_of c.loop-item.list.items) ≡ None = none_from _ absent in
    record {
      all = rw (c.in_ok-push.ensures.items, pairs_more c.loop-item.list.items c.in-Some.category c.in-Some.text) read;
      once = rw (c.in_ok-push.ensures.items, pairs_more c.loop-item.list.items c.in-Some.category c.in-Some.text) (once_more is_same is_same_symmetric (pairs_of c.loop-item.list.items) c.in-Some.category c.in-Some.text.now fresh c.loop-item.invariant.once);
    }
