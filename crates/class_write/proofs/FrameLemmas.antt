-- Frames.
use Rattle.std.proofs.Common.{◌≡◌, ℕ, ◌-◌, ◌≤◌, ◌<◌, true, false, ◌&&◌, eqb, ltb, leb, List, [], ◌∷◌, ◌++◌, length, refl, sym, ◌∙◌, append_assoc, arith, inl, inr, eqb-true}
use Rattle.std.proofs.lemmas.Bool.{cases_Bool, and_parts, and_from, ltb-true, lt-ltb, le-ltb, leb-true, le-leb}
use Rattle.class_model.specs.declared.constant_pool.Pool.{Pool}
use Rattle.class_model.specs.declared.stack_map.StackFrame.{StackFrame}
use Rattle.class_model.specs.declared.stack_map.FrameType.{FrameType}
use Rattle.class_model.specs.Attributes.{IsFrameType, has_layout}
use Rattle.class_model.specs.Spelling as spelling
use Rattle.class_write.specs.FrameText.{head_text, lists}
use Rattle.class_write.specs.Misfits as misfits

pub type_shaped : (pool : Pool) (t : FrameType) → misfits.is_frame_type pool t ≡ true → IsFrameType pool t
unfolding misfits.is_frame_type
type_shaped pool t is =
    let parts = and_parts (leb t.tag 8) _ is in
    record { tag = leb-true t.tag 8 parts.0; index = parts.1 }

pub type_fits : (pool : Pool) (t : FrameType) → IsFrameType pool t → misfits.is_frame_type pool t ≡ true
unfolding misfits.is_frame_type
type_fits pool t is = and_from (leb t.tag 8) _ (le-leb t.tag 8 is.tag) is.index

no_items : {A : Type 0} (items : List A) → eqb (length items) 0 ≡ true → items ≡ []
no_items [] e = refl
no_items (x ∷ items) e = absurd (let h = eqb-true (length (x ∷ items)) 0 e in omega (arith, h))

-- what a frame that isn't full writes
pub record IsSmall (f : StackFrame) : Type 0 where
  pub below : f.tag < 255
  pub locals : length f.locals ≤ 3
  pub stack : length f.stack ≤ 1
  pub none : f.tag < 128 → f.locals ≡ []

counts : (x y m n : ℕ) → (eqb x m && eqb y n) ≡ true → (x ≡ m) × (y ≡ n)
counts x y m n e = let parts = and_parts (eqb x m) (eqb y n) e in (eqb-true x m parts.0, eqb-true y n parts.1)

in_tag : (f : StackFrame) (delta items : ℕ) → f.tag < 128 → items ≤ 1 → (eqb f.delta delta && eqb (length f.locals) 0 && eqb (length f.stack) items) ≡ true → IsSmall f
in_tag f delta items low few e =
    let outer = and_parts (eqb f.delta delta && eqb (length f.locals) 0) (eqb (length f.stack) items) e in
    let inner = and_parts (eqb f.delta delta) (eqb (length f.locals) 0) outer.0 in
    let locals = eqb-true (length f.locals) 0 inner.1 in
    let stack = eqb-true (length f.stack) items outer.1 in
    record { below = omega (arith, low); locals = omega (arith, locals); stack = omega (arith, stack, few); none = λ h. no_items f.locals inner.1 }

beside : (f : StackFrame) (m n : ℕ) → ltb f.tag 128 ≡ false → f.tag < 255 → m ≤ 3 → n ≤ 1 → (eqb (length f.locals) m && eqb (length f.stack) n) ≡ true → IsSmall f
beside f m n high below few one e =
    let c = counts (length f.locals) (length f.stack) m n e in
    record { below = below; locals = omega (arith, c.0, few); stack = omega (arith, c.1, one); none = λ h. absurd (let t : true ≡ false = sym (lt-ltb f.tag 128 h) ∙ high in cc) }

pub small : (f : StackFrame) → has_layout f ≡ true → eqb f.tag 255 ≡ false → IsSmall f
unfolding has_layout
small f is other = elim (cases_Bool (ltb f.tag 64)) [
  | inl y ↦ in_tag f f.tag 0 (omega (arith, ltb-true f.tag 64 y)) (omega arith) (rw y at is)
  | inr n ↦ elim (cases_Bool (ltb f.tag 128)) [
    | inl y ↦ in_tag f (f.tag - 64) 1 (ltb-true f.tag 128 y) (omega arith) (rw (n, y) at is)
    | inr m ↦ elim (cases_Bool (ltb f.tag 247)) [
      | inl y ↦ absurd (let h : false ≡ true = rw (n, m, y) at is in cc)
      | inr k ↦ elim (cases_Bool (eqb f.tag 247)) [
        | inl y ↦ beside f 0 1 m (omega (arith, eqb-true f.tag 247 y)) (omega arith) (omega arith) (rw (n, m, k, y) at is)
        | inr l ↦ elim (cases_Bool (ltb f.tag 252)) [
          | inl y ↦ beside f 0 0 m (omega (arith, ltb-true f.tag 252 y)) (omega arith) (omega arith) (rw (n, m, k, l, y) at is)
          | inr o ↦ elim (cases_Bool (ltb f.tag 255)) [
            | inl y ↦ (let below = ltb-true f.tag 255 y in beside f (f.tag - 251) 0 m below (omega (arith, below)) (omega arith) (rw (n, m, k, l, o, y) at is))
            | inr p ↦ absurd (let h : false ≡ true = sym other ∙ rw (n, m, k, l, o, p) at is in cc)
          ]
        ]
      ]
    ]
  ]
]

-- the two halves of a frame are its text
pub whole : (f : StackFrame) → has_layout f ≡ true → head_text f ++ lists f ≡ spelling.frame f
unfolding spelling.frame
whole f is = elim (cases_Bool (eqb f.tag 255)) [
  | inl y ↦ (let e : f.tag ≡ 255 = eqb-true f.tag 255 y in
      let n : ltb f.tag 128 ≡ false = le-ltb f.tag 128 (omega (arith, e)) in
      let m : ltb f.tag 255 ≡ false = le-ltb f.tag 255 (omega (arith, e)) in
      rw (y, n, m) (simp append_assoc))
  | inr other ↦ elim (cases_Bool (ltb f.tag 128)) [
    | inl y ↦ (let none : f.locals ≡ [] = (small f is other).none (ltb-true f.tag 128 y) in rw (other, y, none) refl)
    | inr n ↦ (let m : ltb f.tag 255 ≡ true = lt-ltb f.tag 255 (small f is other).below in rw (other, n, m) (simp append_assoc))
  ]
]
