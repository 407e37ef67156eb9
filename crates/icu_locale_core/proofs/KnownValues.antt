-- What tags of at most one variant and one keyword prefer, at known values.
use Rattle.std.proofs.Common.{◌≡◌, None, Some, codes, refl}
use Rattle.icu_locale_core_grammar.specs.SingleVariant.{single_tag}
use Rattle.icu_locale_core_grammar.specs.TagPreferences.{locale_preferences_of, preferences_of}
use Rattle.icu_locale_core_langid.specs.SingleModes.{single}

-- en-US-u-rg-gbeng
pub override_kept : (locale_preferences_of (single_tag (single (codes "en", None, Some (codes "US"), None, Some (codes "rg", Some (codes "gbeng")))))).region_override
    ≡ Some (record { region = codes "GB"; suffix = codes "eng" })
override_kept = refl

-- of en-US-u-rg-gbeng the region is still US
pub region_stays : (locale_preferences_of (single_tag (single (codes "en", None, Some (codes "US"), None, Some (codes "rg", Some (codes "gbeng")))))).region ≡ Some (codes "US")
region_stays = refl

-- en-US-u-sd-ustx
pub subdivision_kept : (locale_preferences_of (single_tag (single (codes "en", None, Some (codes "US"), None, Some (codes "sd", Some (codes "ustx")))))).subdivision
    ≡ Some (record { region = codes "US"; suffix = codes "tx" })
subdivision_kept = refl

-- th-u-nu-thai
pub system_kept : (preferences_of (single_tag (single (codes "th", None, None, None, Some (codes "nu", Some (codes "thai")))))).numbering_system ≡ Some (codes "thai")
system_kept = refl

-- th-u-nu: no value reads as none
pub no_system : (preferences_of (single_tag (single (codes "th", None, None, None, Some (codes "nu", None))))).numbering_system ≡ None
no_system = refl

-- en-u-rg-gb: a region alone does not read
pub no_override : (locale_preferences_of (single_tag (single (codes "en", None, None, None, Some (codes "rg", Some (codes "gb")))))).region_override ≡ None
no_override = refl
