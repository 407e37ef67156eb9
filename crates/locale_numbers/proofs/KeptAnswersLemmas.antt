-- What answers line by line counts formatters as its cache does: `specs/KeptAnswers.antt`.
use Rattle.std.proofs.Common.{◌≡◌, ℕ, Bool, true, false, if◌then◌else◌, List, ◌∷◌, map, Option, Some, refl, sym, ap, ap₂, ◌∙◌}
use Rattle.locale_numbers_book.specs.Book.{BookTables}
use Rattle.locale_numbers_cache.specs.Cached.{Cached, ChangesNothing, made_over, recent_of, recent_with, used}
use Rattle.locale_numbers_cache.specs.Laws.{kept_after}
use Rattle.locale_numbers_cache.specs.Recent.{recent_after}
use Rattle.locale_numbers.specs.FormatterKeys.{finds, key_of, same_keys}
use Rattle.locale_numbers.specs.KeptAnswers.{Keeping, keeping, keeping_in, keeping_over, keeps_after, makes_after}
use Rattle.locale_numbers.specs.KeptFormatters.{Kept}
use Rattle.locale_numbers.specs.declared.formatter_key.FormatterKey.{FormatterKey}

-- one use, and those after it
kept_so : (found : Bool) (capacity : ℕ) (recent : List FormatterKey) (key : FormatterKey) (uses : List FormatterKey)
    → kept_after same_keys capacity recent (if found then key ∷ uses else uses) ≡ kept_after same_keys capacity (if found then recent_after same_keys capacity recent key else recent) uses
kept_so true capacity recent key uses = refl
kept_so false capacity recent key uses = refl

-- what a cache keeps after one use of a key and then others is what it keeps after the others, by what the one left
pub used_once : (book : BookTables) (key : FormatterKey) (old new : Cached FormatterKey Kept) → recent_of new ≡ recent_with same_keys (finds book) old key → new.capacity ≡ old.capacity
    → ((more : List (Option FormatterKey)) → made_over same_keys (finds book) old (Some key ∷ more) ≡ made_over same_keys (finds book) new more)
    → (more : List (Option FormatterKey)) → keeping_over (keeping_in book old) (Some key ∷ more) ≡ keeping_over (keeping_in book new) more
used_once book key old new recent capacity made more =
    let keys : kept_after same_keys old.capacity (recent_of old) (used (finds book) (Some key ∷ more)) ≡ kept_after same_keys new.capacity (recent_of new) (used (finds book) more) =
    kept_so (finds book key) old.capacity (recent_of old) key (used (finds book) more)
    ∙ ap₂ (λ n kept. kept_after same_keys n kept (used (finds book) more)) (sym capacity) (sym recent) in
    λ i. record { book = book; capacity = sym capacity i; recent = keys i; made = made more i }

-- and a use that changes nothing
pub used_for_nothing : (book : BookTables) (key : FormatterKey) (cache : Cached FormatterKey Kept) → ChangesNothing same_keys (finds book) key cache
    → (more : List (Option FormatterKey)) → keeping_over (keeping_in book cache) (Some key ∷ more) ≡ keeping_over (keeping_in book cache) more
used_for_nothing book key cache none = used_once book key cache cache (sym none.recent) refl none.ahead

pub keeps : (made_of book : BookTables) → made_of ≡ book → (formatters : Cached FormatterKey Kept) (kept : Keeping) → keeping_in book formatters ≡ kept → (lines : List (List ℕ))
    → keeps_after (keeping_in made_of formatters) lines ≡ keeps_after kept lines
keeps made_of book own formatters kept view lines =
    ap (λ (b : BookTables). keeps_after (keeping_in b formatters) lines) own
    ∙ ap (λ (k : Keeping). keeps_after k lines) view

pub counts : (made_of book : BookTables) → made_of ≡ book → (formatters : Cached FormatterKey Kept) (kept : Keeping)
    → keeping book formatters.capacity (recent_of formatters) formatters.made ≡ kept → (lines : List (List ℕ))
    → made_over same_keys (finds made_of) formatters (map key_of lines) ≡ makes_after kept lines
counts made_of book own formatters kept view lines =
    ap (λ (b : BookTables). made_over same_keys (finds b) formatters (map key_of lines)) own
    ∙ ap (λ (k : Keeping). makes_after k lines) view
