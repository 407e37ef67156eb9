-- Known values: names of locales, as `locale -a` lists them and POSIX has them, with their tags.
use Rattle.std.proofs.Common.{◌≡◌, [], refl}
use Rattle.std.specs.Prelude.{codes}
use Rattle.std.specs.Str.{chars}
use Rattle.legumeyet_options.specs.LocaleName.{tag_of}

name_of_german : tag_of (codes "de_DE") ≡ codes "de-DE"
unfolding chars lib.Utf8.encode
name_of_german = refl

name_with_codeset : tag_of (codes "de_DE.UTF-8") ≡ codes "de-DE"
unfolding chars lib.Utf8.encode
name_with_codeset = refl

name_with_modifier : tag_of (codes "de_DE@euro") ≡ codes "de-DE"
unfolding chars lib.Utf8.encode
name_with_modifier = refl

name_with_both : tag_of (codes "ca_ES.UTF-8@valencia") ≡ codes "ca-ES"
unfolding chars lib.Utf8.encode
name_with_both = refl

name_with_script : tag_of (codes "zh_Hant_TW") ≡ codes "zh-Hant-TW"
unfolding chars lib.Utf8.encode
name_with_script = refl

tag_itself : tag_of (codes "ar-EG-u-nu-thai") ≡ codes "ar-EG-u-nu-thai"
unfolding chars lib.Utf8.encode
tag_itself = refl

name_of_c : tag_of (codes "C") ≡ codes "en"
name_of_c = refl

name_of_c_with_codeset : tag_of (codes "C.UTF-8") ≡ codes "en"
name_of_c_with_codeset = refl

name_of_posix : tag_of (codes "POSIX") ≡ codes "en"
name_of_posix = refl

no_name : tag_of [] ≡ codes "en"
no_name = refl
