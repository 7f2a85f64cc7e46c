-- Answers that are kept for each constant are those for the constant that an instruction names.
use Rattle.std.proofs.Common.{◌≡◌, ℕ, zero, suc, ◌-◌, Bool, false, List, Option, Some, None, map, option_map, slice_get, refl, ◌∙◌, ap, arith}
use Rattle.std.specs.Prelude.{unwrap_or}
use Rattle.std.proofs.lemmas.Option.{slice_get-map}
use Rattle.jvm_tables.specs.declared.code.Instr.{Instr}
use Rattle.jvm_tables.specs.declared.instruction.OpRow.{OpRow}
use Rattle.jvm_tables.specs.declared.instruction.ConstantUse.{ConstantUse}
use Rattle.jvm_tables.specs.declared.instruction.ConstantUse.TheVariants as uses
use Rattle.class_model.specs.declared.class_file.Class.{Class}
use Rattle.class_model.specs.declared.constant_pool.Constant.{Constant}
use Rattle.class_model.specs.declared.constant_pool.Pool.{Pool}
use Rattle.class_model.specs.Constants.{constant_at, is_some_that}
use Rattle.class_code.specs.Constants.{number_of, constant_of}
use Rattle.class_code.specs.Flags.{flag_at, flag_of, if_site, unknown_sites}
use Rattle.class_code.specs.Sites.{unknown_by, has_unknown_site}

by_item : {A : Type 0} (test : A → Bool) (o : Option A) → unwrap_or (option_map test o) false ≡ is_some_that test o
by_item test None = refl
by_item test (Some x) = refl

flagged_at : (test : Constant → Bool) (pool : Pool) (n : ℕ) → flag_at (map test pool.constants) n ≡ is_some_that test (constant_at pool n)
flagged_at test pool zero = refl
flagged_at test pool (suc n) = ap (λ (o : Option Bool). unwrap_or o false) (slice_get-map test pool.constants n) ∙ by_item test (slice_get pool.constants n)

pub flagged : (test : Constant → Bool) (class : Class) (instr : Instr) → flag_of (map test class.pool.constants) instr ≡ is_some_that test (constant_of class instr)
flagged test class instr = flagged_at test class.pool (number_of instr.first)

kept : (u : ConstantUse) (class : Class) (o : Option Constant) → if_site u (is_some_that (unknown_by uses.CallSite class) o) ≡ is_some_that (unknown_by u class) o
kept uses.CallSite class o = refl
kept u class None = refl
kept u class (Some c) = refl

pub site_flagged : (class : Class) (row : OpRow) (instr : Instr) → if_site row.constant (flag_of (unknown_sites class) instr) ≡ has_unknown_site class row instr
unfolding unknown_sites has_unknown_site
site_flagged class row instr =
    ap (if_site row.constant) (flagged (unknown_by uses.CallSite class) class instr) ∙ kept row.constant class (constant_of class instr)

-- what stands at a place of the answers is that of the constant of the next number
pub flag_kept : (flags : List Bool) (n : ℕ) (found : Option Bool) → (n ≡ 0 → ⊥) → found ≡ slice_get flags (n - 1) → unwrap_or found false ≡ flag_at flags n
flag_kept flags zero found some e = absurd (some refl)
flag_kept flags (suc n) found some e =
    let same : suc n - 1 ≡ n = omega arith in ap (λ (o : Option Bool). unwrap_or o false) (e ∙ ap (slice_get flags) same)
