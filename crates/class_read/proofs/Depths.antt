-- A value of an annotation below the greatest depth.
use Rattle.std.proofs.Common.{◌≡◌, ℕ, zero, suc, ◌-◌, List, Result, Ok, refl, sym, ap, subst, ◌∙◌, arith}
use Rattle.class_model.specs.declared.constant_pool.Pool.{Pool}
use Rattle.class_text.specs.Reading.{Fault, Reading, ◌>>=◌, place}
use Rattle.class_text.specs.Readers.{u1_at}
use Rattle.class_text.specs.Elements.{tagged_by, element_at}
use Rattle.const_pool.specs.declared.class_fault.ClassFault.{ClassFault}
use Rattle.const_pool.specs.Faults.{Gives}

pub gives_as : {X A : Type 0} (view : X → A) (result : Result X ClassFault) (a b : Result A Fault) → a ≡ b → Gives view result a → Gives view result b
gives_as view result a b same g = subst (λ (r : Result _ Fault). Gives view result r) same g

pub deeper : (at : ℕ) (pool : Pool) (depth end : ℕ) (bytes : List ℕ) (tag : ℕ) (rest : List ℕ) (here : ℕ) → (depth ≡ 0 → ⊥) → u1_at end bytes ≡ Ok (tag, rest) → here ≡ place end bytes
    → tagged_by (element_at at pool (depth - 1)) pool here tag end rest ≡ element_at at pool depth end bytes
unfolding element_at
deeper at pool zero end bytes tag rest here some is same = absurd (some refl)
deeper at pool (suc depth) end bytes tag rest here some is same =
    let less : suc depth - 1 ≡ depth = omega arith in
    ap (λ (n : ℕ). tagged_by (element_at at pool n) pool here tag end rest) less
    ∙ ap (λ (p : ℕ). tagged_by (element_at at pool depth) pool p tag end rest) same
    ∙ sym (ap (λ (found : Reading ℕ). found >>= (λ t. tagged_by (element_at at pool depth) pool (place end bytes) t.0 end t.1)) is)
