-- What a step in place makes of a number is what is shown for it, and its text and parts: `specs/CompactDigits.antt`.
use Rattle.std.proofs.Common.{◌≡◌, ℕ, ◌-◌, ◌/◌, ◌%◌, ◌^◌, ◌<◌, ◌≤◌, ◌==◌, nat_lt, Bool, true, false, cond, List, Option, None, Some, refl, sym, ap, subst, ◌∙◌, arith}
use Rattle.std.proofs.lemmas.Bool.{eq-eqb, eqb-true, lt-ltb}
use Rattle.std.proofs.lemmas.Bool.Decides.{nat_tests}
use Rattle.fixed_decimal.specs.Number.{Number}
use Rattle.fixed_decimal.specs.SignedValue.{SignedValue}
use Rattle.icu_decimal.specs.CompactTables.{CompactTables}
use Rattle.icu_decimal.specs.CompactText.{padded, pattern_of}
use Rattle.icu_decimal.specs.ExactText.{exact_events}
use Rattle.icu_decimal.specs.Operands.{Operands, operands_of}
use Rattle.icu_decimal.specs.ShownChoice.{entry_of, exponent_of}
use Rattle.icu_decimal_compact_value.specs.declared.entry.CompactEntry.{CompactEntry}
use Rattle.locale_numbers_formats.specs.Changed.{MayGrowBy, changed}
use Rattle.locale_numbers_formats.specs.declared.options.NumberOptions.{NumberOptions}
use Rattle.locale_numbers_formats.specs.declared.options.Rounding.{Rounding}
use Rattle.locale_numbers_formats.specs.declared.options.Rounding.TheVariants.{Usual, Cash, AsGiven, At, Significant, Either}
use Rattle.locale_numbers_formatter.specs.CompactDigits.{DigitsShown, IsToMultiplesOf25, below_exponent, changed_under, digits_shown, divided, entry_beside, settled}
use Rattle.locale_numbers_formatter.specs.FormatParts.{events_around, events_of_digits, format_events}
use Rattle.locale_numbers_formatter.specs.FormatText.{Shown, compact_value, digits_tables, format_value, shown_by, shown_in}
use Rattle.locale_numbers_formatter.specs.HeldDigits.{written_at}
use Rattle.locale_numbers_formatter.specs.ShownOperands.{shown_operands, value_operands, value_seen}
use Rattle.locale_numbers_formatter.proofs.ExactFormLemmas.{events_under}

-- ---- memory

pub lengthens : (rounding : Rounding) (d : SignedValue Number) → MayGrowBy rounding None d → IsToMultiplesOf25 rounding
lengthens Usual d grows = grows
lengthens Cash d grows = grows
lengthens AsGiven d grows = grows
lengthens (At position mode increment) d grows = grows.twenty_five
lengthens (Significant digits mode) d grows = grows
lengthens (Either priority position digits mode) d grows = grows

-- ---- the steps

pub changed_is_under : (o : NumberOptions) (e : ℕ) (inside d new : SignedValue Number) (n : Number) → inside ≡ d → n ≡ padded (inside.absolute.count / 10 ^ e) e inside.absolute
    → new ≡ changed o None (record { sign = inside.sign; absolute = n }) → new ≡ changed_under o e d
unfolding changed_under
changed_is_under o e inside d new n viewed is changed_is =
    changed_is ∙ ap (λ a. changed o None (record { sign = inside.sign; absolute = a })) is ∙ ap (λ (v : SignedValue Number). changed o None (divided e v)) viewed

-- what a number has below its exponent
pub below_is : (entries kept : List CompactEntry) (d inside : SignedValue Number) (e : ℕ) → kept ≡ entries → inside ≡ d → e ≡ exponent_of (entry_beside kept 0 inside)
    → inside.absolute.count % 10 ^ e ≡ below_exponent entries d
below_is entries kept d inside e kept_is viewed exponent_is =
    ap (λ x. inside.absolute.count % 10 ^ x) exponent_is
    ∙ ap (λ xs. below_exponent xs inside) kept_is
    ∙ ap (below_exponent entries) viewed

module _ (o : NumberOptions) (s : SignedValue Number) (entry reached : Option CompactEntry) where
  abbrev of_reached : DigitsShown
  of_reached = record { significand = s; entry = reached }

  abbrev divided_again : DigitsShown
  divided_again = record { significand = changed_under o (exponent_of reached - exponent_of entry) s; entry = reached }

  goes_on : exponent_of entry < exponent_of reached → settled o s entry reached ≡ divided_again
  goes_on above = ap (λ b. cond b divided_again of_reached) (lt-ltb (exponent_of entry) (exponent_of reached) above)

  stays : exponent_of reached ≤ exponent_of entry → settled o s entry reached ≡ of_reached
  stays over =
      let test : nat_lt (exponent_of entry) (exponent_of reached) ≡ false = grind (arith, nat_tests) in
      ap (λ b. cond b divided_again of_reached) test

-- what is found on the way
pub record Found (entries : List CompactEntry) (o : NumberOptions) (d s : SignedValue Number) (e : ℕ) (entry reached : Option CompactEntry) : Type 0 where
  pub entry_is : entry ≡ entry_beside entries 0 d
  pub exponent_is : e ≡ exponent_of (entry_beside entries 0 d)
  pub changed_is : s ≡ changed_under o e d
  pub reached_is : reached ≡ entry_beside entries e s

module _ (entries : List CompactEntry) (o : NumberOptions) (d s : SignedValue Number) (e : ℕ) (entry reached : Option CompactEntry) (found : Found entries o d s e entry reached) where
  abbrev shown_with : ℕ → Option CompactEntry → DigitsShown
  shown_with x first = let v = changed_under o x d in settled o v first (entry_beside entries x v)

  pub of_number : e ≡ exponent_of entry
  of_number = found.exponent_is ∙ ap exponent_of (sym found.entry_is)

  settled_is : digits_shown entries o d ≡ settled o s entry reached
  unfolding digits_shown
  settled_is =
      ap (λ x. shown_with x (entry_beside entries 0 d)) (sym found.exponent_is)
      ∙ ap (shown_with e) (sym found.entry_is)
      ∙ ap (λ v. settled o v entry (entry_beside entries e v)) (sym found.changed_is)
      ∙ ap (settled o s entry) (sym found.reached_is)

  pub further : (more : ℕ) (v : SignedValue Number) → e < exponent_of reached → more ≡ exponent_of reached - e → v ≡ changed_under o more s → digits_shown entries o d ≡ record { significand = v; entry = reached }
  further more v above is changed_is =
      let x = of_number in
      let difference : exponent_of reached - exponent_of entry ≡ more = omega (arith, x, is) in
      settled_is ∙ goes_on o s entry reached (omega (arith, x, above))
      ∙ ap (λ k. record { significand = changed_under o k s; entry = reached }) difference
      ∙ ap (λ w. record { significand = w; entry = reached }) (sym changed_is)

  pub reached_alone : exponent_of reached ≤ e → digits_shown entries o d ≡ record { significand = s; entry = reached }
  reached_alone over = let x = of_number in settled_is ∙ stays o s entry reached (omega (arith, x, over))

-- by the indices of entries
module _ (entries kept : List CompactEntry) (o : NumberOptions) (d s d_inside s_inside : SignedValue Number) (e x : ℕ) (i j : Option ℕ) (kept_is : kept ≡ entries) (d_viewed : d_inside ≡ d) (s_viewed : s_inside ≡ s)
    (entry_found : entry_of kept i ≡ entry_beside kept 0 d_inside) (exponent_found : e ≡ exponent_of (entry_beside kept 0 d_inside)) (is_changed : s ≡ changed_under o e d)
    (reached_found : entry_of kept j ≡ entry_beside kept e s_inside) (reached_exponent : x ≡ exponent_of (entry_beside kept e s_inside)) where
  pub found_by : Found entries o d s e (entry_of entries i) (entry_of entries j)
  found_by = record {
    entry_is = subst (λ xs. entry_of xs i ≡ entry_beside xs 0 d_inside) kept_is entry_found ∙ ap (entry_beside entries 0) d_viewed;
    exponent_is =
        exponent_found ∙ ap (λ xs. exponent_of (entry_beside xs 0 d_inside)) kept_is ∙ ap (λ v. exponent_of (entry_beside entries 0 v)) d_viewed;
    changed_is = is_changed;
    reached_is = subst (λ xs. entry_of xs j ≡ entry_beside xs e s_inside) kept_is reached_found ∙ ap (entry_beside entries e) s_viewed;
  }

  pub reached_by : x ≡ exponent_of (entry_of entries j)
  reached_by =
      reached_exponent ∙ ap (λ xs. exponent_of (entry_beside xs e s_inside)) kept_is ∙ ap (λ v. exponent_of (entry_beside entries e v)) s_viewed
      ∙ ap exponent_of (sym found_by.reached_is)

-- ---- the text and its parts

abbrev pub put_in_pattern : CompactTables → NumberOptions → DigitsShown → Shown
put_in_pattern t o shown = shown_in (digits_tables t o) shown.significand (exponent_of shown.entry) (pattern_of t shown.entry (operands_of shown.significand.absolute 0))

module _ (t : CompactTables) (o : NumberOptions) (d s : SignedValue Number) (index : Option ℕ)
    (is : digits_shown t.patterns.entries o d ≡ record { significand = s; entry = entry_of t.patterns.entries index }) where
  pub digits_parts : exact_events (written_at t s index) ≡ format_events (digits_tables t o) d
  digits_parts =
      sym (events_under t (record { significand = s; exponent = exponent_of (entry_of t.patterns.entries index) }) (entry_of t.patterns.entries index))
      ∙ sym (ap (λ (shown : DigitsShown). let v = put_in_pattern t o shown in events_around (digits_tables t o) v (events_of_digits v)) is)

  pub significand_is : s ≡ (shown_by (digits_tables t o) d).significand
  significand_is = sym (ap (λ (shown : DigitsShown). shown.significand) is)

  module _ (x : ℕ) (exponent : x ≡ exponent_of (entry_of t.patterns.entries index)) where
    exponent_is : x ≡ (shown_by (digits_tables t o) d).exponent
    exponent_is = exponent ∙ sym (ap (λ (shown : DigitsShown). exponent_of shown.entry) is)

    seen_is : record { significand = s; exponent = x } ≡ value_seen (digits_tables t o) d
    seen_is = λ i. record { significand = significand_is i; exponent = exponent_is i }

    pub value_is : compact_value (record { significand = s; exponent = x }) ≡ format_value (digits_tables t o) d
    value_is = ap compact_value seen_is

    -- the operands of what is shown, where a number can be
    pub operands_seen : (seen : Operands) → seen ≡ operands_of s.absolute x → below_exponent t.patterns.entries d ≡ 0 → Some seen ≡ shown_operands (digits_tables t o) d
    operands_seen seen is_seen whole =
        let value = value_seen (digits_tables t o) d in
        ap Some (is_seen ∙ ap value_operands seen_is)
        ∙ sym (ap (λ b. cond b (Some (value_operands value)) None) (eq-eqb (below_exponent t.patterns.entries d) 0 whole))

pub none_seen : (t : CompactTables) (o : NumberOptions) (d : SignedValue Number) → (below_exponent t.patterns.entries d ≡ 0 → ⊥) → None ≡ shown_operands (digits_tables t o) d
none_seen t o d never = at (below_exponent t.patterns.entries d == 0) refl
  where
    at : (b : Bool) → (below_exponent t.patterns.entries d == 0) ≡ b → None ≡ cond b (Some (value_operands (value_seen (digits_tables t o) d))) None
    at true is = absurd (never (eqb-true (below_exponent t.patterns.entries d) 0 is))
    at false is = refl
