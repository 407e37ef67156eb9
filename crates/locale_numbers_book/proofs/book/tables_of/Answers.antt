use Rattle.std.proofs.Common.{option_map, unwrap_or}
use Rattle.serde_json.specs.Data.{no_items}
use Rattle.serde_json.specs.View.{items_view}
use Rattle.locale_numbers_book.proofs.BookLemmas.{made, none_of_six, passed_on, told_long, told_parents, told_short}
use Rattle.locale_numbers_book.proofs.book.tables_of.Goals as goal

pub returns-in-Ok-clause-value : goal.returns-in-Ok-clause-value
returns-in-Ok-clause-value c =
    let a = c.args.arrays in
    made (items_view a.first.items) (items_view a.second.items) (items_view a.third.items) (items_view a.fourth.items) (items_view a.fifth.items) (option_map (λ entries. items_view entries.items) a.sixth) _
    c.in_ok-symbols.ensures.value c.in_ok-digits.ensures.value c.in_ok-rules.ensures.value c.in_ok-short.ensures.value c.in_ok-long.ensures.value c.in-Ok.ensures.value

pub returns-in-Ok-clause-sound : goal.returns-in-Ok-clause-sound
returns-in-Ok-clause-sound c =
    let a = c.args.arrays in
    none_of_six (items_view a.first.items) (items_view a.second.items) (items_view a.third.items) (items_view a.fourth.items) (items_view a.fifth.items) (unwrap_or (option_map (λ entries. items_view entries.items) a.sixth) no_items)
    c.in_ok-symbols.ensures.sound c.in_ok-digits.ensures.sound c.in_ok-rules.ensures.sound c.in_ok-short.ensures.sound c.in_ok-long.ensures.sound c.in-Ok.ensures.sound

pub returns-in-Err-clause-fault : goal.returns-in-Err-clause-fault
returns-in-Err-clause-fault c =
    let a = c.args.arrays in
    told_parents (items_view a.first.items) (items_view a.second.items) (items_view a.third.items) (items_view a.fourth.items) (items_view a.fifth.items) (unwrap_or (option_map (λ entries. items_view entries.items) a.sixth) no_items) c.in-Err.fault
    c.in_ok-symbols.ensures.sound c.in_ok-digits.ensures.sound c.in_ok-rules.ensures.sound c.in_ok-short.ensures.sound c.in_ok-long.ensures.sound c.in-Err.ensures.fault

pub returns-in_err-short-clause-fault : goal.returns-in_err-short-clause-fault
returns-in_err-short-clause-fault c =
    let a = c.args.arrays in
    let told = told_short (items_view a.first.items) (items_view a.second.items) (items_view a.third.items) (items_view a.fourth.items) (items_view a.fifth.items) (unwrap_or (option_map (λ entries. items_view entries.items) a.sixth) no_items) _
    c.in_ok-symbols.ensures.sound c.in_ok-digits.ensures.sound c.in_ok-rules.ensures.sound c.in_err-short.ensures.fault in
    passed_on c.from_residual-in_err-short.result _ _ c.from_residual-in_err-short.ensures.1 told

pub returns-in_err-long-clause-fault : goal.returns-in_err-long-clause-fault
returns-in_err-long-clause-fault c =
    let a = c.args.arrays in
    let told = told_long (items_view a.first.items) (items_view a.second.items) (items_view a.third.items) (items_view a.fourth.items) (items_view a.fifth.items) (unwrap_or (option_map (λ entries. items_view entries.items) a.sixth) no_items) _
    c.in_ok-symbols.ensures.sound c.in_ok-digits.ensures.sound c.in_ok-rules.ensures.sound c.in_ok-short.ensures.sound c.in_err-long.ensures.fault in
    passed_on c.from_residual-in_err-long.result _ _ c.from_residual-in_err-long.ensures.1 told
