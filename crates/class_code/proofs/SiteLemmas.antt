-- Sites as the file says them.
use Rattle.std.proofs.Common.{◌≡◌, ℕ, Bool, true, false, Option, Some, None}
use Rattle.std.specs.Prelude.{if◌then◌else◌}
use Rattle.class_model.specs.declared.class_file.Class.{Class}
use Rattle.class_model.specs.declared.constant_pool.Pool.{Pool}
use Rattle.class_code.specs.Sites.{Site, is_sound_site, if_sound, written_site, site_at}

chosen : (test : Bool) (found site : Site) → (if test then Some found else None) ≡ Some site → Some found ≡ Some site
chosen true found site e = e
chosen false found site e = absurd cc

sound_written : (pool : Pool) (found : Option Site) (site : Site) → if_sound pool found ≡ Some site → found ≡ Some site
sound_written pool None site e = e
sound_written pool (Some found) site e = chosen (is_sound_site pool found) found site e

pub site_is_written : (class : Class) (bootstrap name_type : ℕ) (site : Site) → site_at class bootstrap name_type ≡ Some site → written_site class bootstrap name_type ≡ Some site
unfolding site_at
site_is_written class bootstrap name_type site e = sound_written class.pool (written_site class bootstrap name_type) site e
