-- A reader or writer together with whether a call of it has failed, and how many more reads can give bytes.
-- Defined in docs/requests.md, "Readers and writers".
-- Cited by `Tracked`: `new` and `into_inner`.
use Rattle.std.specs.Prelude.{ℕ, Bool, refl}
use Rattle.std.specs.Coded.{Coded, code_by, coded×, coded_bool, coded_ℕ}

-- what is inside, whether a call of it has failed, and the count of reads
pub record Tracking (T : Type 0) : Type 0 where
  pub inner : T
  pub failed : Bool
  pub reads_left : ℕ

-- it is stored as its fields
abbrev pub tracking_code : {T : Type 0} → Coded T → Coded (Tracking T)
tracking_code {T} code =
    code_by (T × (Bool × ℕ)) (coded× code (coded× coded_bool coded_ℕ)) (λ t. (t.inner, (t.failed, t.reads_left))) (λ p. record { inner = p.0; failed = p.1.0; reads_left = p.1.1 }) (λ _. refl)
