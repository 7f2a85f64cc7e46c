-- Values of annotations.
use Rattle.std.proofs.Common.{◌≡◌, ℕ, zero, suc, ◌-◌, Result, Ok, Err, OnOk, refl, arith, sub-one}
use Rattle.class_model.specs.declared.constant_pool.Pool.{Pool}
use Rattle.class_model.specs.declared.annotation.Element.{Element, out-Element}
use Rattle.class_model.specs.Annotations.{IsElement, IsElementBy}
use Rattle.class_model.specs.Spelling as spelling
use Rattle.const_pool.specs.declared.write_fault.Part.{Part}
use Rattle.const_pool.specs.declared.write_fault.WriteFault.TheVariants.{BadShape}
use Rattle.class_write.specs.Order.{Refuses}
use Rattle.class_write.specs.Misfits as misfits

pub on_ok : {T E : Type 0} (r : Result T E) (P Q : Type 0) → (P → Q) → OnOk r P → OnOk r Q
on_ok (Ok x) P Q f p = f p
on_ok (Err e) P Q f p = tt

-- a value that may have a level is a layer
pub text_below : (depth : ℕ) (e : Element) → (depth ≡ 0 → ⊥) → spelling.element depth e ≡ spelling.element_by (spelling.element (depth - 1)) (out-Element e)
unfolding spelling.element
text_below zero e some = absurd (some refl)
text_below (suc depth) e some = rw sub-one refl

pub misfit_below : (pool : Pool) (part : Part) (depth : ℕ) (e : Element) → (depth ≡ 0 → ⊥)
    → misfits.element pool part depth e ≡ misfits.element_by (misfits.element pool part (depth - 1)) pool part (out-Element e)
unfolding misfits.element
misfit_below pool part zero e some = absurd (some refl)
misfit_below pool part (suc depth) e some = rw sub-one refl

pub shape_below : (pool : Pool) (depth : ℕ) (e : Element) → (depth ≡ 0 → ⊥) → IsElementBy (IsElement pool (depth - 1)) pool (out-Element e) → IsElement pool depth e
unfolding IsElement
shape_below pool zero e some is = absurd (some refl)
shape_below pool (suc depth) e some is = rw sub-one at is

pub no_depth : (pool : Pool) (part : Part) (depth : ℕ) (e : Element) → depth ≡ 0 → Refuses (BadShape part) (misfits.element pool part depth e)
unfolding misfits.element Refuses
no_depth pool part zero e none = refl
no_depth pool part (suc depth) e none = absurd (omega (arith, none))
