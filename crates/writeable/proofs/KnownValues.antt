-- Known values of the definitions, row by row.
use Rattle.std.proofs.Common.{◌≡◌, [], ◌∷◌, ◌++◌, refl}
use Rattle.std.specs.Prelude.{codes}
use Rattle.std.specs.declared.cmp.Ordering.TheVariants.{Less, Equal, Greater}
use Rattle.writeable.specs.Affixed.{affixed}
use Rattle.writeable.specs.AnnotatedText.{bytes, opening, closing, annotated}
use Rattle.writeable.specs.HeldParts.{held_after}
use Rattle.writeable.specs.Order.{byte_order}
use Rattle.writeable.specs.PartName.{PartName}
use Rattle.writeable.specs.PartText.{part_texts}

-- two parts
outer : PartName
outer = record { category = codes "test"; value = codes "A" }

inner : PartName
inner = record { category = codes "test"; value = codes "B" }

-- open A, `a`, open B, `,`, close, `b`, close: `a,b` with A from 0 to 3 and B from 1 to 2
two_parts : annotated (opening outer ++ (bytes (codes "a") ++ (opening inner ++ (bytes (codes ",") ++ (closing ++ (bytes (codes "b") ++ closing))))))
    ≡ record { text = codes "a,b"; parts = record { start = 0; end = 3; part = outer } ∷ record { start = 1; end = 2; part = inner } ∷ [] }
unfolding bytes opening closing
two_parts = refl

-- the texts of those parts: A has `a,b`, and B has `,`
texts_of_two_parts : part_texts (codes "a,b") (record { start = 0; end = 3; part = outer } ∷ record { start = 1; end = 2; part = inner } ∷ [])
    ≡ record { part = outer; text = codes "a,b" } ∷ record { part = inner; text = codes "," } ∷ []
texts_of_two_parts = refl

-- the euro sign, three bytes, before `5` as the part A, and ` net` after it: A from 3 to 4
between_texts : annotated (affixed (λ part. opening part ++ (bytes (codes "5") ++ closing)) (record { before = 226 ∷ 130 ∷ 172 ∷ []; value = outer; behind = codes " net" }))
    ≡ record { text = 226 ∷ 130 ∷ 172 ∷ codes "5 net"; parts = record { start = 3; end = 4; part = outer } ∷ [] }
unfolding bytes opening closing
between_texts = refl

-- a part without bytes is not listed
empty_part : annotated (opening outer ++ (closing ++ bytes (codes "a"))) ≡ record { text = codes "a"; parts = [] }
unfolding bytes opening closing
empty_part = refl

-- a part that is still open is not listed; the closed one inside it is
open_part : annotated (opening outer ++ (bytes (codes "a") ++ (opening inner ++ (bytes (codes "b") ++ closing))))
    ≡ record { text = codes "ab"; parts = record { start = 1; end = 2; part = inner } ∷ [] }
unfolding bytes opening closing
open_part = refl

-- a closing where no part is open does nothing
stray_closing : annotated (closing ++ (opening outer ++ (bytes (codes "a") ++ (closing ++ (closing ++ bytes (codes "b"))))))
    ≡ record { text = codes "ab"; parts = record { start = 0; end = 1; part = outer } ∷ [] }
unfolding bytes opening closing
stray_closing = refl

-- what a sink has open: A from byte 0, B from byte 1, no interval listed before either
left_open : (held_after (opening outer ++ (bytes (codes "a") ++ opening inner))).open_parts
    ≡ record { start = 0; place = 0; part = outer } ∷ record { start = 1; place = 0; part = inner } ∷ []
unfolding bytes opening closing
left_open = refl

-- the first byte that differs decides, else the shorter text is less
same_text : byte_order (codes "en") (codes "en") ≡ Equal
same_text = refl

shorter : byte_order (codes "en") (codes "en-US") ≡ Less
shorter = refl

longer : byte_order (codes "en-US") (codes "en") ≡ Greater
longer = refl

first_difference : byte_order (codes "en-US") (codes "en+") ≡ Greater
first_difference = refl
