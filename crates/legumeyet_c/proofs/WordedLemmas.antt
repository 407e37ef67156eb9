-- What is written with the tables and the rules of a wording, and words: of a number, of a form and of a range.
use Rattle.std.proofs.Common.{◌≡◌, ◌≢◌, ℕ, List, Option, Some, None, Result, Ok, Err, IfOk, IfErr, refl, subst, ap, sym, ◌∙◌}
use Rattle.legumeyet_c_values.specs.Putting.{IsPut}
use Rattle.legumeyet_c_values.specs.declared.CallError.{CallError}
use Rattle.locale_numbers_formatter.specs.FormatText.{FormatTables}
use Rattle.legumeyet_c.specs.HeldFormats.{Plurals, Wording}

-- ---- with what is lent

-- a text
pub put_wording : (says : Option Plurals → FormatTables → List ℕ → Type 0) (fails : Option Plurals → FormatTables → CallError → Type 0) (w : Wording) (f : FormatTables) (p : Option Plurals)
    (before after : List ℕ) (was told : ℕ) (outcome : Result (Unit {0}) CallError) → f ≡ w.tables → p ≡ w.plurals → IsPut (says p f) (fails p f) before after was told outcome
    → IsPut (says w.plurals w.tables) (fails w.plurals w.tables) before after was told outcome
put_wording says fails w f p before after was told outcome is rules put =
    subst (λ (q : Option Plurals). IsPut (says q w.tables) (fails q w.tables) before after was told outcome) rules
    (subst (λ (t : FormatTables). IsPut (says p t) (fails p t) before after was told outcome) is put)

-- anything else that is said
pub ok_wording : {T : Type 0} (says : Option Plurals → FormatTables → T → Type 0) (w : Wording) (f : FormatTables) (p : Option Plurals) (outcome : Result T CallError)
    → f ≡ w.tables → p ≡ w.plurals → IfOk outcome (says p f) → IfOk outcome (says w.plurals w.tables)
ok_wording says w f p outcome is rules holds =
    subst (λ (q : Option Plurals). IfOk outcome (says q w.tables)) rules (subst (λ (t : FormatTables). IfOk outcome (says p t)) is holds)

pub err_wording : {T : Type 0} (fails : Option Plurals → FormatTables → CallError → Type 0) (w : Wording) (f : FormatTables) (p : Option Plurals) (outcome : Result T CallError)
    → f ≡ w.tables → p ≡ w.plurals → IfErr outcome (fails p f) → IfErr outcome (fails w.plurals w.tables)
err_wording fails w f p outcome is rules holds =
    subst (λ (q : Option Plurals). IfErr outcome (fails q w.tables)) rules (subst (λ (t : FormatTables). IfErr outcome (fails p t)) is holds)

-- a text that these tables write, whatever the rules
pub put_tables : (says : FormatTables → List ℕ → Type 0) (fails : FormatTables → CallError → Type 0) (f other : FormatTables)
    (before after : List ℕ) (was told : ℕ) (outcome : Result (Unit {0}) CallError) → f ≡ other → IsPut (says f) (fails f) before after was told outcome
    → IsPut (says other) (fails other) before after was told outcome
put_tables says fails f other before after was told outcome is put =
    subst (λ (t : FormatTables). IsPut (says t) (fails t) before after was told outcome) is put
