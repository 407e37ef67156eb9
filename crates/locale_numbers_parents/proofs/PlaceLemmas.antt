-- How often a locale can be cut: `specs/Parents.antt`.
use Rattle.std.proofs.Common.{◌≡◌, ℕ, suc, ◌≤◌, Option, Some, None, if◌then◌else◌, subst, arith}
use Rattle.std.specs.Option.{is_some}
use Rattle.std.proofs.lemmas.Option.{same_Some}
use Rattle.icu_locale_core.specs.Subtags.{Text}
use Rattle.icu_locale_core.specs.TagPreferences.{Subdivision, DataLocaleMeaning}
use Rattle.icu_locale_core.specs.DataLocales.{truncated}

abbrev pub size : DataLocaleMeaning → ℕ
size d =
    if is_some d.subdivision then 4
    else if is_some d.variant then 3
    else if is_some d.region then 2
    else if is_some d.script then 1
    else 0

small_parts : (language : Text) (script region variant : Option Text) (subdivision : Option Subdivision)
    → size (record { language = language; script = script; region = region; variant = variant; subdivision = subdivision }) ≤ 4
small_parts l p r v (Some s) = omega arith
small_parts l p r (Some v) None = omega arith
small_parts l p (Some r) None None = omega arith
small_parts l (Some p) None None None = omega arith
small_parts l None None None None = omega arith

pub small : (d : DataLocaleMeaning) → size d ≤ 4
small d = small_parts d.language d.script d.region d.variant d.subdivision

falls_to : (n : ℕ) (d e : DataLocaleMeaning) → Some e ≡ Some d → suc (size e) ≤ n → suc (size d) ≤ n
falls_to n d e h le = subst (λ (x : DataLocaleMeaning). suc (size x) ≤ n) (same_Some e d h) le

falls_parts : (language : Text) (script region variant : Option Text) (subdivision : Option Subdivision) (d : DataLocaleMeaning)
    → truncated (record { language = language; script = script; region = region; variant = variant; subdivision = subdivision }) ≡ Some d
    → suc (size d) ≤ size (record { language = language; script = script; region = region; variant = variant; subdivision = subdivision })
falls_parts l p r (Some v) (Some s) d h = falls_to 4 d _ h (omega arith)
falls_parts l p (Some r) None (Some s) d h = falls_to 4 d _ h (omega arith)
falls_parts l (Some p) None None (Some s) d h = falls_to 4 d _ h (omega arith)
falls_parts l None None None (Some s) d h = falls_to 4 d _ h (omega arith)
falls_parts l p (Some r) (Some v) None d h = falls_to 3 d _ h (omega arith)
falls_parts l (Some p) None (Some v) None d h = falls_to 3 d _ h (omega arith)
falls_parts l None None (Some v) None d h = falls_to 3 d _ h (omega arith)
falls_parts l (Some p) (Some r) None None d h = falls_to 2 d _ h (omega arith)
falls_parts l None (Some r) None None d h = falls_to 2 d _ h (omega arith)
falls_parts l (Some p) None None None d h = falls_to 1 d _ h (omega arith)
falls_parts l None None None None d h = cc

pub falls : (x d : DataLocaleMeaning) → truncated x ≡ Some d → suc (size d) ≤ size x
falls x d h = falls_parts x.language x.script x.region x.variant x.subdivision d h
