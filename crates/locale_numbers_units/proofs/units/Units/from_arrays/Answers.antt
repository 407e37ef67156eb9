use Rattle.serde_json.specs.View.{items_view}
use Rattle.locale_numbers_units.specs.Units.{accounts_faults, currencies_faults, digits_faults, percents_faults, symbols_faults}
use Rattle.locale_numbers_units.proofs.UnitsLemmas.{none_of_five, passed_on, told_fifth, told_fourth, told_second, told_third}
use Rattle.locale_numbers_units.proofs.units.Units.from_arrays.Goals as goal

pub returns-in-Ok-clause-value : goal.returns-in-Ok-clause-value
returns-in-Ok-clause-value c =
    let a = c.args.arrays in
    record {
      sound = none_of_five (percents_faults (items_view a.percents.items)) (currencies_faults (items_view a.currencies.items)) (accounts_faults (items_view a.accounts.items)) (symbols_faults (items_view a.symbols.items)) (digits_faults (items_view a.digits.items))
          c.in_ok-percents.ensures.sound c.in_ok-currencies.ensures.sound c.in_ok-accounts.ensures.sound c.in_ok-symbols.ensures.sound c.in-Ok.ensures.sound;
      percents_are = c.in_ok-percents.ensures.value;
      currencies_are = c.in_ok-currencies.ensures.value;
      accounts_are = c.in_ok-accounts.ensures.value;
      symbols_are = c.in_ok-symbols.ensures.value;
      digits_are = c.in-Ok.ensures.value;
    }

pub returns-in-Err-clause-fault : goal.returns-in-Err-clause-fault
returns-in-Err-clause-fault c =
    let a = c.args.arrays in
    told_fifth (percents_faults (items_view a.percents.items)) (currencies_faults (items_view a.currencies.items)) (accounts_faults (items_view a.accounts.items)) (symbols_faults (items_view a.symbols.items)) (digits_faults (items_view a.digits.items)) c.in-Err.fault
    c.in_ok-percents.ensures.sound c.in_ok-currencies.ensures.sound c.in_ok-accounts.ensures.sound c.in_ok-symbols.ensures.sound c.in-Err.ensures.fault

pub returns-in_err-currencies-clause-fault : goal.returns-in_err-currencies-clause-fault
returns-in_err-currencies-clause-fault c =
    let a = c.args.arrays in
    let told = told_second (percents_faults (items_view a.percents.items)) (currencies_faults (items_view a.currencies.items)) (accounts_faults (items_view a.accounts.items)) (symbols_faults (items_view a.symbols.items)) (digits_faults (items_view a.digits.items)) _
    c.in_ok-percents.ensures.sound c.in_err-currencies.ensures.fault in
    passed_on c.from_residual-in_err-currencies.result _ _ c.from_residual-in_err-currencies.ensures.1 told

pub returns-in_err-accounts-clause-fault : goal.returns-in_err-accounts-clause-fault
returns-in_err-accounts-clause-fault c =
    let a = c.args.arrays in
    let told = told_third (percents_faults (items_view a.percents.items)) (currencies_faults (items_view a.currencies.items)) (accounts_faults (items_view a.accounts.items)) (symbols_faults (items_view a.symbols.items)) (digits_faults (items_view a.digits.items)) _
    c.in_ok-percents.ensures.sound c.in_ok-currencies.ensures.sound c.in_err-accounts.ensures.fault in
    passed_on c.from_residual-in_err-accounts.result _ _ c.from_residual-in_err-accounts.ensures.1 told

pub returns-in_err-symbols-clause-fault : goal.returns-in_err-symbols-clause-fault
returns-in_err-symbols-clause-fault c =
    let a = c.args.arrays in
    let told = told_fourth (percents_faults (items_view a.percents.items)) (currencies_faults (items_view a.currencies.items)) (accounts_faults (items_view a.accounts.items)) (symbols_faults (items_view a.symbols.items)) (digits_faults (items_view a.digits.items)) _
    c.in_ok-percents.ensures.sound c.in_ok-currencies.ensures.sound c.in_ok-accounts.ensures.sound c.in_err-symbols.ensures.fault in
    passed_on c.from_residual-in_err-symbols.result _ _ c.from_residual-in_err-symbols.ensures.1 told
