-- What tables say of floats is what the constants say.
use Rattle.std.proofs.Common.{◌≡◌, ℕ, Bool, false, List, Option, Some, None, map, option_map, slice_get, refl, sym, ◌∙◌, ap}
use Rattle.std.specs.Prelude.{unwrap_or}
use Rattle.std.specs.List.{list_any}
use Rattle.std.proofs.lemmas.Option.{slice_get-map}
use Rattle.jvm_tables.specs.declared.code.Instr.{Instr}
use Rattle.class_model.specs.declared.attribute_forms.Bootstrap.{Bootstrap}
use Rattle.class_model.specs.declared.class_file.Class.{Class}
use Rattle.class_model.specs.Constants.{constant_at, is_some_that}
use Rattle.class_code.specs.declared.descriptors.Told.{Told}
use Rattle.class_code.specs.Bootstraps.{bootstraps_of, bootstrap_at, arguments_if_known, known_arguments}
use Rattle.class_code.specs.Constants.{constant_of}
use Rattle.class_code.specs.Descriptors.{told_by}
use Rattle.class_code.specs.Flags.{flag_of}
use Rattle.class_code.specs.Types.{has_float}
use Rattle.class_code.proofs.Flagged.{flagged}
use Rattle.class_code.proofs.WantsTold.{entry_there}
use Rattle.class_verify.specs.Floats.{is_float_load, has_float_arguments}
use Rattle.class_verify.specs.ConstantTables.{has_float_entry, float_arguments}

pub float_told : (d : Option (List ℕ)) → is_some_that (λ (t : Told). t.has_float) (option_map told_by d) ≡ is_some_that has_float d
float_told None = refl
float_told (Some text) = refl

pub arguments_flagged : (class : Class) (instr : Instr) → flag_of (float_arguments class) instr ≡ is_some_that (has_float_arguments class) (constant_of class instr)
unfolding float_arguments
arguments_flagged class instr = flagged (has_float_arguments class) class instr

-- what is kept for the entry of a number is so of its arguments
pub entry_flagged : (class : Class) (n : ℕ) → unwrap_or (slice_get (map (has_float_entry class.pool) (bootstraps_of class)) n) false
    ≡ list_any (λ k. is_some_that (is_float_load class.pool) (constant_at class.pool k)) (known_arguments class n)
unfolding known_arguments
entry_flagged class n =
    ap (λ (o : Option Bool). unwrap_or o false)
    (slice_get-map (has_float_entry class.pool) (bootstraps_of class) n ∙ ap (option_map (has_float_entry class.pool)) (sym (entry_there class n)))
    ∙ by_entry (bootstrap_at class n)
  where
    by_entry : (o : Option Bootstrap) → unwrap_or (option_map (has_float_entry class.pool) o) false
        ≡ list_any (λ k. is_some_that (is_float_load class.pool) (constant_at class.pool k)) (arguments_if_known class.pool o)
    by_entry None = refl
    by_entry (Some b) = refl
