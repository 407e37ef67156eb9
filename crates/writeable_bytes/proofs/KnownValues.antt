-- Texts over bytes, from docs/annotated-text.md, "Bytes of the caller's".
use Rattle.std.proofs.Common.{◌≡◌, [], ◌∷◌, refl}
use Rattle.std.specs.Prelude.{codes}
use Rattle.writeable_bytes.specs.Laid.{laid_from}

over_more : laid_from 0 (codes "a,b") (codes "....") ≡ codes "a,b."
over_more = refl

over_fewer : laid_from 0 (codes "a,b") (codes "..") ≡ codes "a,"
over_fewer = refl

after_another : laid_from 2 (codes "b") (codes "a,..") ≡ codes "a,b."
after_another = refl

after_the_end : laid_from 3 (codes "b") (codes "a,.") ≡ codes "a,."
after_the_end = refl

no_text : laid_from 1 [] (codes "..") ≡ codes ".."
no_text = refl
