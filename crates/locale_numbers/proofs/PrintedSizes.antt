-- The sizes of the values printed: their order, how far off they are, and which print themselves: `specs/PrintedLaws.antt`.
use Rattle.std.proofs.Common.{◌≡◌, ℕ, ℤ, ◌*◌, ◌%◌, ◌^◌, ◌==◌, ◌≤◌, ◌&&◌, Bool, true, false, cond, None, Result, Ok, refl, sym, ap, ◌∙◌, subst}
use Rattle.std.proofs.lemmas.Option.{same_Some}
use Rattle.fixed_decimal.specs.Number.{Number}
use Rattle.fixed_decimal.specs.Rounding.{distance}
use Rattle.fixed_decimal.specs.SignedValue.{SignedValue}
use Rattle.icu_decimal.specs.CompactLaws.{ShownFormIsShownValue, ShownIsCompact}
use Rattle.icu_decimal.specs.CompactTables.{CompactTables}
use Rattle.icu_decimal.specs.KeptEntries.{CompactTable}
use Rattle.icu_decimal.specs.ShownChoice.{shown_under}
use Rattle.icu_decimal.specs.UnderTableLaws.{ShownValueShowsItself, TableKeepsOrder, TableShowsNear, TableShowsZero}
use Rattle.icu_decimal.specs.declared.error.DataError.{DataError}
use Rattle.locale_numbers_book.specs.Book.{BookTables}
use Rattle.locale_numbers_book.specs.Wanted.{wanted_of}
use Rattle.locale_numbers_formats.specs.Changed.{changed, changed_by, end_padded, end_trimmed, front_padded, front_trimmed, is_above_ones, settled_rounding, shown, signed_as, whole_shown, whole_trimmed, zeros_by}
use Rattle.locale_numbers_formats.specs.declared.CompactWidth.{CompactWidth}
use Rattle.locale_numbers_formats.specs.declared.LeadingZeros.{LeadingZeros}
use Rattle.locale_numbers_formats.specs.declared.LeadingZeros.TheVariants as leading
use Rattle.locale_numbers_formats.specs.declared.NumberOptions.{NumberOptions}
use Rattle.locale_numbers_formats.specs.declared.Rounding.{Rounding}
use Rattle.locale_numbers_formats.specs.declared.Rounding.TheVariants as rounding
use Rattle.locale_numbers_formats.specs.declared.Rounding.TheVariants.{Usual, AsGiven, At, Significant, Either}
use Rattle.locale_numbers_formats.specs.declared.SignAsked.{SignAsked}
use Rattle.locale_numbers_formats.specs.declared.SignAsked.TheVariants.{Keep, Show}
use Rattle.locale_numbers_formats.specs.declared.TrailingZeros.{TrailingZeros}
use Rattle.locale_numbers_formats.specs.declared.TrailingZeros.TheVariants as trailing
use Rattle.locale_numbers_requests.specs.Request.{Asked}
use Rattle.locale_numbers.specs.AskedFormats.{grouping_in}
use Rattle.locale_numbers.specs.Printed.{FindsCompact, PrintsSize, number_shown}
use Rattle.locale_numbers.specs.PrintedLaws.{PrintedIsNear, PrintedKeepsOrder, PrintedPrintsItself, ZeroIsPrintedForZero}
use Rattle.locale_numbers.proofs.FoundCompactLemmas.{found_patterns, patterns_of_found}
use Rattle.locale_numbers.proofs.PrintedLemmas.{size_is}

-- a sign, trimmed zeros and added ones are no part of the size
signed_size : (sign : SignAsked) (n : SignedValue Number) → (signed_as sign n).absolute.count ≡ n.absolute.count
signed_size Keep n = refl
signed_size (Show display) n = refl

front_size : (zeros : LeadingZeros) (asked : Rounding) (n : Number) → (front_trimmed zeros asked n).count ≡ n.count
front_size leading.Keep asked n = refl
front_size leading.Trim asked n = refl
front_size leading.TrimRoundedZero asked n = at (is_above_ones asked && (n.count == 0))
  where
    at : (b : Bool) → (cond b (front_trimmed leading.Trim asked n) n).count ≡ n.count
    at true = refl
    at false = refl

end_size : (zeros : TrailingZeros) (n : Number) → (end_trimmed zeros n).count ≡ n.count
end_size trailing.Keep n = refl
end_size trailing.Trim n = refl
end_size trailing.TrimWhole n = refl
end_size trailing.TrimAll n = refl

pad_size : (asked : Rounding) (digits : ℤ) (n : Number) → (end_padded asked digits n).count ≡ n.count
pad_size Usual digits n = refl
pad_size rounding.Cash digits n = refl
pad_size AsGiven digits n = refl
pad_size (At position mode increment) digits n = refl
pad_size (Significant significant mode) digits n = refl
pad_size (Either priority position significant mode) digits n = refl

whole_size : (n : Number) → (whole_trimmed n).count ≡ n.count
whole_size n = at (n.count % 10 ^ 32768 == 0)
  where
    at : (b : Bool) → (cond b (record n { low = 32768 }) n).count ≡ n.count
    at true = refl
    at false = refl

ended_size : (zeros : TrailingZeros) (n : Number) → (whole_shown zeros n).count ≡ n.count
ended_size trailing.Keep n = refl
ended_size trailing.Trim n = refl
ended_size trailing.TrimWhole n = whole_size n
ended_size trailing.TrimAll n = whole_size n

shown_size : (asked : Rounding) (options : NumberOptions) (n : Number) → (shown asked options n).count ≡ n.count
shown_size asked options n =
    let front : Number = front_trimmed options.leading_zeros asked n in
    let end : Number = end_trimmed (zeros_by asked options.zeros) front in
    let padded : Number = front_padded options.integer_digits end in
    ended_size options.zeros (end_padded asked options.fraction_digits padded)
    ∙ pad_size asked options.fraction_digits padded
    ∙ end_size (zeros_by asked options.zeros) front
    ∙ front_size options.leading_zeros asked n

unrounded_size : (options : NumberOptions) (n : SignedValue Number) → options.rounding ≡ Usual → (changed options None n).absolute.count ≡ n.absolute.count
unrounded_size options n e =
    ap (λ (asked : Rounding). (changed_by (settled_rounding asked n) options None n).absolute.count) e
    ∙ signed_size options.sign (record { sign = n.sign; absolute = shown Usual options n.absolute })
    ∙ shown_size Usual options n.absolute

one_ok : (r : Result CompactTable DataError) (a b : CompactTable) → r ≡ Ok a → r ≡ Ok b → a ≡ b
one_ok r a b f g = let same : ◌≡◌ {A = Result CompactTable DataError} (Ok a) (Ok b) = sym f ∙ g in cc

module _ (book : BookTables) (one other : Asked) (width : CompactWidth) (t u : CompactTables) (n m : SignedValue Number)
    (tag : one.tag ≡ other.tag) (finds : FindsCompact book one width t n) (more : FindsCompact book other width u m) where
  -- requests of one tag and form find the same patterns
  same_patterns : u.patterns ≡ t.patterns
  same_patterns =
      let same : finds.preferences ≡ more.preferences = same_Some finds.preferences more.preferences (sym finds.tag ∙ ap wanted_of tag ∙ more.tag) in
      one_ok (found_patterns width book more.preferences) u.patterns t.patterns
      (patterns_of_found width book more.preferences (grouping_in other) u more.found)
      (subst (λ p. found_patterns width book p ≡ Ok t.patterns) same (patterns_of_found width book finds.preferences (grouping_in one) t finds.found))

  -- so the second shows its number under the patterns of the first
  other_size : ShownIsCompact → ShownFormIsShownValue → (w : ℕ) → PrintsSize book other w → w ≡ shown_under 32768 t.patterns.entries (number_shown other m).absolute.count
  other_size compact value w prints =
      size_is book other width u m more compact value w prints
      ∙ ap (λ (p : CompactTable). shown_under 32768 p.entries (number_shown other m).absolute.count) same_patterns

pub printed_keeps_order : ShownIsCompact → ShownFormIsShownValue → TableKeepsOrder → PrintedKeepsOrder
printed_keeps_order compact value order book one other width t u n m v w tag whole also_whole finds more prints also least =
    let entries = t.patterns.entries in
    let a : v ≡ shown_under 32768 entries n.absolute.count =
    size_is book one width t n finds compact value v prints ∙ ap (shown_under 32768 entries) (unrounded_size one.format.options n whole) in
    let b : w ≡ shown_under 32768 entries m.absolute.count =
    other_size book one other width t u n m tag finds more compact value w also ∙ ap (shown_under 32768 entries) (unrounded_size other.format.options m also_whole) in
    subst (λ x. x ≤ w) (sym a) (subst (λ y. shown_under 32768 entries n.absolute.count ≤ y) (sym b) (order 32768 entries n.absolute.count m.absolute.count least))

pub printed_is_near : ShownIsCompact → ShownFormIsShownValue → TableShowsNear → PrintedIsNear
printed_is_near compact value near book asked width tables read v finds prints =
    let n : ℕ = (number_shown asked read).absolute.count in
    subst (λ x. 20 * distance n x ≤ n) (sym (size_is book asked width tables read finds compact value v prints)) (near 32768 tables.patterns.entries n)

pub zero_is_printed_for_zero : ShownIsCompact → ShownFormIsShownValue → TableShowsZero → ZeroIsPrintedForZero
zero_is_printed_for_zero compact value zero book asked width tables read v finds prints =
    let n : ℕ = (number_shown asked read).absolute.count in
    let is = size_is book asked width tables read finds compact value v prints in
    let both = zero 32768 tables.patterns.entries n in
    (λ z. both.0 (sym is ∙ z), λ z. is ∙ both.1 z)

pub printed_prints_itself : ShownIsCompact → ShownFormIsShownValue → ShownValueShowsItself → PrintedPrintsItself
printed_prints_itself compact value itself book one other width t u n m v w tag finds more prints also same =
    let count : ℕ = (number_shown one n).absolute.count in
    let again : ℕ = (number_shown other m).absolute.count in
    let shown : again ≡ shown_under 32768 t.patterns.entries count = same ∙ size_is book one width t n finds compact value v prints in
    other_size book one other width t u n m tag finds more compact value w also ∙ itself 32768 t.patterns.entries count again shown ∙ same
