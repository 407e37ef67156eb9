-- What a text is answered after a front, by the front's task, and what it wants memory for there: `specs/Front.antt`.
use Rattle.std.proofs.Common.{◌≡◌, ℕ, List, Option, None, Some, true, refl, sym, ap, ◌∙◌, subst}
use Rattle.std.specs.Prelude.{if◌then◌else◌, IfSome}
use Rattle.std.specs.Str.{is_utf8}
use Rattle.fixed_decimal.specs.Number.{Number}
use Rattle.fixed_decimal.specs.SignedValue.{SignedValue}
use Rattle.icu_decimal.specs.Rules.{Rules}
use Rattle.icu_plurals.specs.declared.PluralRange.{PluralRange}
use Rattle.icu_plurals.specs.declared.PluralRuleType.{PluralRuleType}
use Rattle.icu_plurals.specs.declared.PluralRuleType.TheVariants.{Cardinal, Ordinal}
use Rattle.locale_numbers_answers.specs.Answers.{answer_by}
use Rattle.locale_numbers_answers.specs.CategoryAnswer.{category_to, range_category_to}
use Rattle.locale_numbers_answers.specs.NumberReading.{reading_of}
use Rattle.locale_numbers_book.specs.Book.{BookTables}
use Rattle.locale_numbers_requests.specs.RangeEnds.{range_ends}
use Rattle.locale_numbers_requests.specs.declared.Refusal.TheVariants as refusal
use Rattle.locale_numbers_requests.specs.declared.Task.{Task}
use Rattle.locale_numbers_requests.specs.declared.Task.TheVariants.{Write, WriteExact, Read, ReadLenient, Category, RangeCategory}
use Rattle.locale_numbers.specs.Answer.{found_for, plural_rules_for, refused, second_for}
use Rattle.locale_numbers.specs.FormatterKeys.{key_in, purpose_of, rules_for}
use Rattle.locale_numbers.specs.Front.{FitsKey, HasKeyThat, MayTakeAfter, MayTakeIn, MayTakeKeyed, answer_after, answer_keyed, format_after, if_text, key_after, key_if_text, key_keyed}
use Rattle.locale_numbers.specs.KeptFormatters.{Kept, rules_found}
use Rattle.locale_numbers.specs.declared.formatter_key.FormatterKey.{FormatterKey}
use Rattle.locale_numbers.specs.declared.formatter_key.Purpose.TheVariants.{ReadsTyped}
use Rattle.locale_numbers.specs.declared.front.Front.{Front}

module _ (book : BookTables) (asked : Option Front) (front : Front) (key : FormatterKey) (text : List ℕ) (is : asked ≡ Some front) (keyed : front.key ≡ Some key) where
  -- ---- the key

  pub key_fits : IfSome asked (λ f. IfSome f.key (FitsKey f)) → FitsKey front key
  key_fits fits = subst (λ k. IfSome k (FitsKey front)) keyed (subst (λ a. IfSome a (λ f. IfSome f.key (FitsKey f))) is fits)

  -- what holds of the front's key holds of this one
  pub of_key : (P : FormatterKey → Type 0) → HasKeyThat P asked → P key
  of_key P holds = subst (λ k. IfSome k P) keyed (subst (HasKeyThat P) is holds)

  pub key_asked : (task : Task) → front.task ≡ task → key_after asked text ≡ key_if_text text (key_in task key text)
  key_asked task done =
      ap (λ a. key_after a text) is
      ∙ ap (λ k. key_if_text text (key_keyed front.task k text)) keyed
      ∙ ap (λ t. key_if_text text (key_in t key text)) done

  -- ---- the answer

  abbrev answer_as : Task → List ℕ → List ℕ
  answer_as task shown = answer_by task (format_after front key) (found_for key.shape book key.preferences) (second_for key.shape book key.preferences) (λ rule_type. plural_rules_for rule_type book key.preferences) shown

  pub answer_done : (task : Task) → front.task ≡ task → answer_after book asked text ≡ if_text text (answer_as task text)
  answer_done task done =
      ap (λ a. answer_after book a text) is
      ∙ ap (λ k. if_text text (answer_keyed book front k text)) keyed
      ∙ ap (λ t. if_text text (answer_as t text)) done

  -- of a text that is shown as one
  pub answer_shown : (task : Task) (shown : List ℕ) → front.task ≡ task → is_utf8 text ≡ true → shown ≡ text → answer_after book asked text ≡ answer_as task shown
  answer_shown task shown done utf8 whole =
      answer_done task done
      ∙ ap (λ b. if b then answer_as task text else refused refusal.Shape) utf8
      ∙ ap (answer_as task) (sym whole)

  -- ---- the memory

  pub may_take : (kept_for : FormatterKey → Option Kept) (task : Task) (value : SignedValue Number) → front.task ≡ task
      → MayTakeIn task (kept_for key) front.options.rounding (found_for key.shape book key.preferences) (second_for key.shape book key.preferences) text value → MayTakeAfter book kept_for asked text value
  may_take kept_for task value done wants =
      subst (λ a. MayTakeAfter book kept_for a text value) (sym is) (subst (λ k. MayTakeKeyed book kept_for front k text value) (sym keyed)
      (subst (λ t. MayTakeIn t (kept_for key) front.options.rounding (found_for key.shape book key.preferences) (second_for key.shape book key.preferences) text value) (sym done) wants))

  -- ---- what the formatter is for

  abbrev Fit : Type 0
  Fit = IfSome asked (λ f. IfSome f.key (FitsKey f))

  is_for : Fit → (task : Task) → front.task ≡ task → key.purpose ≡ purpose_of task
  is_for fits task done = (key_fits fits).purpose ∙ ap purpose_of done

  pub key_is_typed : Fit → front.task ≡ ReadLenient → key.purpose ≡ ReadsTyped
  key_is_typed fits done = is_for fits ReadLenient done

  pub write_is_ruleless : Fit → front.task ≡ Write → rules_for key.purpose ≡ None
  write_is_ruleless fits done = ap rules_for (is_for fits Write done)

  pub exact_is_ruleless : Fit → front.task ≡ WriteExact → rules_for key.purpose ≡ None
  exact_is_ruleless fits done = ap rules_for (is_for fits WriteExact done)

  pub read_is_ruleless : Fit → front.task ≡ Read → rules_for key.purpose ≡ None
  read_is_ruleless fits done = ap rules_for (is_for fits Read done)

  -- the rules of its key are those of the task
  rules_of_type : (rule_type : PluralRuleType) → rules_for (purpose_of (Category rule_type)) ≡ Some rule_type
  rules_of_type Cardinal = refl
  rules_of_type Ordinal = refl

  abbrev held_rules : Option (Rules × List PluralRange)
  held_rules = rules_found book key.preferences (rules_for key.purpose)

  pub rules_held : Fit → (rule_type : PluralRuleType) → front.task ≡ Category rule_type → held_rules ≡ plural_rules_for rule_type book key.preferences
  rules_held fits rule_type done =
      ap (rules_found book key.preferences) (ap rules_for (is_for fits (Category rule_type) done) ∙ rules_of_type rule_type)

  pub range_rules_held : Fit → front.task ≡ RangeCategory → held_rules ≡ plural_rules_for Cardinal book key.preferences
  range_rules_held fits done = ap (λ purpose. rules_found book key.preferences (rules_for purpose)) (is_for fits RangeCategory done)

  -- ---- categories

  pub category_done : Fit → (rule_type : PluralRuleType) → front.task ≡ Category rule_type
      → answer_after book asked text ≡ if_text text (category_to (found_for key.shape book key.preferences) held_rules front.options (reading_of text))
  category_done fits rule_type done =
      answer_done (Category rule_type) done
      ∙ ap (λ rules. if_text text (category_to (found_for key.shape book key.preferences) rules front.options (reading_of text))) (sym (rules_held fits rule_type done))

  pub range_shown : Fit → (shown : List ℕ) → front.task ≡ RangeCategory → is_utf8 text ≡ true → shown ≡ text
      → answer_after book asked text ≡ range_category_to (found_for key.shape book key.preferences) held_rules front.options (range_ends shown)
  range_shown fits shown done utf8 whole =
      answer_shown RangeCategory shown done utf8 whole
      ∙ ap (λ rules. range_category_to (found_for key.shape book key.preferences) rules front.options (range_ends shown)) (sym (range_rules_held fits done))
