-- Tables of patterns, and types that rise: `specs/CompactEntries.antt`.
use Rattle.std.proofs.Common.{◌≡◌, ◌≤◌, ℕ, suc, Bool, true, false, ◌&&◌, not, List, [], ◌∷◌, ◌++◌, nat_le, Option, Some, None, is_some, refl, sym, ap, ◌∙◌, subst, if◌then◌else◌, arith}
use Rattle.std.specs.BTreeMap.{insert_entry}
use Rattle.std.specs.Ordering.{nat_cmp}
use Rattle.std.specs.declared.cmp.Ordering.TheVariants.{Greater}
use Rattle.std.proofs.lemmas.Bool.{and_parts, and_from, le-leb, leb-true, not-true}
use Rattle.std.proofs.lemmas.Bool.Decides.{nat_tests}
use Rattle.icu_decimal.specs.declared.error.DataError.{DataError}
use Rattle.icu_decimal.specs.KeptEntries.{CompactTable, IsFaulty, IsTable, IsTableFault, NeverFalls, Patterns, TypePatterns, first_fault, table_of}
use Rattle.icu_decimal.specs.KeptSteps.{kept_of}
use Rattle.icu_decimal.proofs.KeptLemmas.{keeps_one, is_table, faulty_first}
use Rattle.locale_numbers_tables.specs.CompactEntries.{Row, never_fall_from, rise_from, table_made}
use Rattle.locale_numbers_tables.proofs.TableLemmas.{none_from}

-- ---- tables

order_tested : (least : ℕ) (xs : List TypePatterns) → NeverFalls least xs → never_fall_from least xs ≡ true
order_tested least [] order = refl
order_tested least (x ∷ xs) order = and_from (nat_le least x.exponent) _ (le-leb least x.exponent order.0) (order_tested x.exponent xs order.1)

test_orders : (least : ℕ) (xs : List TypePatterns) → never_fall_from least xs ≡ true → NeverFalls least xs
test_orders least [] test = tt
test_orders least (x ∷ xs) test =
    let parts = and_parts (nat_le least x.exponent) (never_fall_from x.exponent xs) test in
    (leb-true least x.exponent parts.0, test_orders x.exponent xs parts.1)

pub table_read : (zero : Option Patterns) (given : List TypePatterns) (table : CompactTable) → IsTable zero given table → table_made zero given ≡ Some table
table_read zero given table is =
    let same : is.kept ≡ kept_of zero given = keeps_one zero given is.kept is.keeps in
    let none : first_fault (kept_of zero given) ≡ None = ap first_fault (sym same) ∙ is.sound in
    let whole : table_of (kept_of zero given) ≡ table = ap table_of (sym same) ∙ sym is.whole in
    rw (order_tested 0 given is.order, none) (ap Some whole)

pub table_meant : (zero : Option Patterns) (given : List TypePatterns) (table : CompactTable) → table_made zero given ≡ Some table → IsTable zero given table
table_meant zero given table made = by (never_fall_from 0 given) (not (is_some (first_fault (kept_of zero given)))) refl refl made
  where
    by : (a b : Bool) → never_fall_from 0 given ≡ a → not (is_some (first_fault (kept_of zero given))) ≡ b
        → (if a && b then Some (table_of (kept_of zero given)) else None) ≡ Some table → IsTable zero given table
    by true true order sound same =
        let is : table_of (kept_of zero given) ≡ table = cc in
        subst (IsTable zero given) is (is_table zero given (test_orders 0 given order) (none_from _ (not-true _ sound)))
    by true false order sound same = cc
    by false b order sound same = cc

-- no table is made where there is a fault
falling_none : (zero : Option Patterns) (given : List TypePatterns) → ¬ (NeverFalls 0 given) → table_made zero given ≡ None
falling_none zero given falls = by (never_fall_from 0 given) refl
  where
    by : (a : Bool) → never_fall_from 0 given ≡ a → table_made zero given ≡ None
    by true order = absurd (falls (test_orders 0 given order))
    by false order = rw order refl

faulty_none : (zero : Option Patterns) (given : List TypePatterns) (fault : DataError) → IsFaulty zero given fault → table_made zero given ≡ None
faulty_none zero given fault is = rw (order_tested 0 given is.order, faulty_first zero given fault is) refl

pub no_table_made : (zero : Option Patterns) (given : List TypePatterns) (e : DataError) → IsTableFault e → (e ≡ DataError.Memory → ⊥)
    → (e ≡ DataError.Decreasing → ¬ (NeverFalls 0 given)) → (e ≡ DataError.AboveType → IsFaulty zero given DataError.AboveType)
    → (e ≡ DataError.TooManyZeros → IsFaulty zero given DataError.TooManyZeros) → table_made zero given ≡ None
no_table_made zero given DataError.IdentifierNotFound is memory falls above zeros = absurd is
no_table_made zero given DataError.InvalidRequest is memory falls above zeros = absurd is
no_table_made zero given DataError.Decreasing is memory falls above zeros = falling_none zero given (falls refl)
no_table_made zero given DataError.TooManyZeros is memory falls above zeros = faulty_none zero given DataError.TooManyZeros (zeros refl)
no_table_made zero given DataError.AboveType is memory falls above zeros = faulty_none zero given DataError.AboveType (above refl)
no_table_made zero given DataError.Memory is memory falls above zeros = absurd (memory refl)
no_table_made zero given DataError.Custom is memory falls above zeros = absurd is

-- ---- types that rise

-- those after are greater
least_after : (least : ℕ) (rows : List Row) (row : Row) (rest : List Row) → rise_from least (rows ++ row ∷ rest) ≡ true → least ≤ row.0
least_after least [] row rest rise = leb-true least row.0 (and_parts (nat_le least row.0) (rise_from (suc row.0) rest) rise).0
least_after least (first ∷ rows) row rest rise =
    let parts = and_parts (nat_le least first.0) (rise_from (suc first.0) (rows ++ row ∷ rest)) rise in
    let here = leb-true least first.0 parts.0 in
    let behind = least_after (suc first.0) rows row rest parts.1 in
    omega (arith, here, behind)

-- a type after the others is put at the end
pub put_last : (least : ℕ) (rows : List Row) (row : Row) (rest : List Row) → rise_from least (rows ++ row ∷ rest) ≡ true
    → insert_entry nat_cmp rows row.0 row.1 ≡ rows ++ row ∷ []
put_last least [] row rest rise = refl
put_last least (first ∷ rows) row rest rise =
    let parts = and_parts (nat_le least first.0) (rise_from (suc first.0) (rows ++ row ∷ rest)) rise in
    let behind : suc first.0 ≤ row.0 = least_after (suc first.0) rows row rest parts.1 in
    let above : nat_cmp row.0 first.0 ≡ Greater = grind (arith, nat_tests, behind) in
    rw above (ap (λ more. first ∷ more) (put_last (suc first.0) rows row rest parts.1))
