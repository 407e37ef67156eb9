-- What is read after a singleton is what the whole text is read as.
use Rattle.std.proofs.Common.{◌≡◌, List, ◌∷◌, sym, ◌∙◌, subst, inl, inr}
use Rattle.icu_locale_core_grammar.specs.Subtags.{Text, spells}
use Rattle.icu_locale_core_grammar.specs.PartReaders.{IsExtension, ReadsOther}
use Rattle.icu_locale_core_grammar.specs.Pieces.{pieces}
use Rattle.icu_locale_core_grammar.specs.Meaning.{MeansOther}
use Rattle.icu_locale_core_grammar.specs.Collections.{Entry}
use Rattle.icu_locale_core_grammar.specs.declared.error.ParseError.{ParseError}
use Rattle.icu_locale_core_subtag_lists.specs.Reading.{IsRefused}
use Rattle.icu_locale_core_extensions.specs.Opening.{Opens, OpensOther}

same_tail : {A : Type 0} (a b : A) (xs ys : List A) → a ∷ xs ≡ b ∷ ys → xs ≡ ys
same_tail a b xs ys e = cc

module _ {M : Type 0} (singleton : Text) (Means : List Text → M → Type 0) where
  -- the text read as an extension
  abbrev pub Reads : List Text → M → Type 0
  Reads ps m = IsExtension (spells singleton) Means ps m

  pub opened : (ps : List Text) (m : M) → Reads ps m → (body : List Text) × Opens singleton ps body
  opened ps m r = (r.body, record { first = r.singleton; parts = sym r.parts; is = r.is; filled = r.filled })

  pub meant_after : (ps body : List Text) (m : M) → Opens singleton ps body → Reads ps m → Means body m
  meant_after ps body m o r = subst (λ l. Means l m) (same_tail _ _ _ _ (r.parts ∙ o.parts)) r.meant

-- ---- extensions that have no rule of their own

pub read_other : (text singleton : Text) (body : List Text) (o : Entry) → OpensOther (pieces text) singleton body → (singleton ≡ o.0) × MeansOther body o.1 → ReadsOther text o
read_other text singleton body o opening a = record {
  extension = record { singleton = opening.first; body = body; parts = sym opening.parts; is = opening.is; filled = opening.filled; meant = a.1 };
  singleton = opening.lowered ∙ a.0;
}

pub opened_other : (text : Text) (o : Entry) → ReadsOther text o → (body : List Text) × OpensOther (pieces text) o.0 body
opened_other text o r = (r.extension.body, record { first = r.extension.singleton; parts = sym r.extension.parts; is = r.extension.is; lowered = r.singleton; filled = r.extension.filled })

pub refused_other : (text singleton : Text) (body : List Text) (e : ParseError) → OpensOther (pieces text) singleton body → IsRefused (MeansOther body) e → IsRefused (ReadsOther text) e
refused_other text singleton body e opening (inl f) = inl f
refused_other text singleton body e opening (inr f) =
    inr (f.0, λ o r. f.1 o.1 (subst (λ l. MeansOther l o.1) (same_tail _ _ _ _ (r.extension.parts ∙ opening.parts)) r.extension.meant))
