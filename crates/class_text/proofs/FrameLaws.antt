-- What holds of the readers of stack maps.
use Rattle.std.proofs.Common.{◌≡◌, ℕ, suc, eqb, ltb, ◌-◌, ◌^◌, ◌<◌, Bool, true, false, cond, ◌&&◌, List, [], ◌∷◌, ◌++◌, length, flat_map, Ok, Err, refl, sym, ap, subst, ◌∙◌, append_assoc, append-nil, eq-eqb, arith, inl, inr}
use Rattle.std.specs.List.{AllByRecursion}
use Rattle.std.specs.Int.{w16, to_be_bytes}
use Rattle.std.proofs.lemmas.Bool.{cases_Bool, eqb-true, eqb-false, and_parts, ltb-true, ltb-false, le-ltb}
use Rattle.std.proofs.lemmas.Bool.Decides.{nat_tests}
use Rattle.class_model.specs.declared.constant_pool.Pool.{Pool}
use Rattle.class_model.specs.declared.stack_map.StackFrame.{StackFrame}
use Rattle.class_model.specs.declared.stack_map.FrameType.{FrameType}
use Rattle.class_model.specs.Constants.{constant_at, is_class_constant}
use Rattle.class_model.specs.Annotations.{IsCounted}
use Rattle.class_model.specs.Attributes.{IsFrameType, IsFrame, has_layout}
use Rattle.class_model.specs.Spelling.{frame_type, frame, counted}
use Rattle.class_text.specs.Reading.{bad_tag}
use Rattle.class_text.specs.Readers.{u1_at, u2_at, index_at, many_at, counted_at}
use Rattle.class_text.specs.Frames.{leads_to_class, frame_type_of, typed_at, frame_type_at, frame_of, with_item_at, with_locals_at, full_at, behind_delta_at, framed_at, frame_at}
use Rattle.class_text.proofs.Steps.{class_type, new_type, not_chop, not_far_item, not_item, not_same}
use Rattle.class_text.proofs.Readers.{Reads, as_reads, give_reads, no_reads, made_reads, bind, bind_reads, either_reads, here_reads}
use Rattle.class_text.proofs.Parts.{u1_reads, u2_reads, index_reads, many_reads, each_counted, AllAfter, all_each, all_after}
use Rattle.class_text.proofs.Numbered.{IsFew, some_that, numbered}

class_reads : (pool : Pool) → IsFew pool → Reads (index_at (leads_to_class pool)) (λ n. leads_to_class pool n ≡ true) (to_be_bytes w16)
unfolding leads_to_class
class_reads pool few = index_reads (leads_to_class pool) (λ n e. numbered pool n few (some_that is_class_constant (constant_at pool n) e))

-- what a type has behind its tag
behind_tag : FrameType → List ℕ
behind_tag t = cond (ltb t.tag 7) [] (to_be_bytes w16 t.index)

IsTyped : Pool → ℕ → FrameType → Type 0
IsTyped pool tag t = (t.tag ≡ tag) × IsFrameType pool t

type_is : (t : FrameType) (tag index : ℕ) → t.tag ≡ tag → t.index ≡ index → t ≡ frame_type_of tag index
type_is t tag index e f = ap (λ n. frame_type_of n t.index) e ∙ ap (frame_type_of tag) f

plain_type : (pool : Pool) (tag : ℕ) (t : FrameType) → ltb tag 7 ≡ true → IsTyped pool tag t → t ≡ frame_type_of tag 0
unfolding IsTyped
plain_type pool tag t low q =
    let seven : eqb tag 7 ≡ false = grind (arith, nat_tests) in
    let eight : eqb tag 8 ≡ false = grind (arith, nat_tests) in
    let none : eqb t.index 0 ≡ true = rw (q.0, seven, eight) at q.1.index in
    type_is t tag 0 q.0 (eqb-true t.index 0 none)

plain_typed : (pool : Pool) (tag : ℕ) → ltb tag 7 ≡ true → IsTyped pool tag (frame_type_of tag 0)
unfolding IsTyped
plain_typed pool tag low =
    let seven : eqb tag 7 ≡ false = grind (arith, nat_tests) in
    let eight : eqb tag 8 ≡ false = grind (arith, nat_tests) in
    let small : tag < 7 = ltb-true tag 7 low in
    (refl, record { tag = omega arith; index = rw (seven, eight) refl })

class_typed : (pool : Pool) (tag : ℕ) (t : FrameType) → eqb tag 7 ≡ true → leads_to_class pool t.index ≡ true → t ≡ frame_type_of tag t.index → IsTyped pool tag t
unfolding IsTyped leads_to_class
class_typed pool tag t seven leads e =
    let same : t.tag ≡ tag = ap (λ (x : FrameType). x.tag) e in
    let is : tag ≡ 7 = eqb-true tag 7 seven in
    (same, record { tag = omega arith; index = rw (same, seven) leads })

typed_class : (pool : Pool) (tag : ℕ) (t : FrameType) → eqb tag 7 ≡ true → IsTyped pool tag t → (leads_to_class pool t.index ≡ true) × (t ≡ frame_type_of tag t.index)
unfolding IsTyped leads_to_class
typed_class pool tag t seven q = (rw (q.0, seven) at q.1.index, type_is t tag t.index q.0 refl)

new_typed : (pool : Pool) (tag : ℕ) (t : FrameType) → eqb tag 8 ≡ true → t.index < 2 ^ 16 → t ≡ frame_type_of tag t.index → IsTyped pool tag t
unfolding IsTyped
new_typed pool tag t eight low e =
    let same : t.tag ≡ tag = ap (λ (x : FrameType). x.tag) e in
    let is : tag ≡ 8 = eqb-true tag 8 eight in
    let seven : eqb tag 7 ≡ false = grind (arith, nat_tests) in
    let small : ltb t.index (2 ^ 16) ≡ true = grind (arith, nat_tests) in
    (same, record { tag = omega arith; index = rw (same, seven, eight) small })

typed_new : (pool : Pool) (tag : ℕ) (t : FrameType) → eqb tag 8 ≡ true → IsTyped pool tag t → (t.index < 2 ^ 16) × (t ≡ frame_type_of tag t.index)
unfolding IsTyped
typed_new pool tag t eight q =
    let is : tag ≡ 8 = eqb-true tag 8 eight in
    let seven : eqb tag 7 ≡ false = grind (arith, nat_tests) in
    (ltb-true t.index (2 ^ 16) (rw (q.0, seven, eight) at q.1.index), type_is t tag t.index q.0 refl)

untyped : (pool : Pool) (tag : ℕ) (t : FrameType) → ltb tag 7 ≡ false → eqb tag 7 ≡ false → eqb tag 8 ≡ false → IsTyped pool tag t → ⊥
unfolding IsTyped
untyped pool tag t low seven eight q = let most = q.1.tag in let same = q.0 in let a = ltb-false tag 7 low in let b = eqb-false tag 7 seven in let c = eqb-false tag 8 eight in omega (arith, most, same, a, b, c)

behind_none : (pool : Pool) (tag : ℕ) (t : FrameType) → ltb tag 7 ≡ true → IsTyped pool tag t → [] ≡ behind_tag t
unfolding IsTyped behind_tag
behind_none pool tag t low q = rw (q.0, low) refl

behind_some : (pool : Pool) (tag : ℕ) (t : FrameType) → ltb tag 7 ≡ false → IsTyped pool tag t → to_be_bytes w16 t.index ≡ behind_tag t
unfolding IsTyped behind_tag
behind_some pool tag t high q = rw (q.0, high) refl

typed_reads : (pool : Pool) → IsFew pool → (at tag : ℕ) → Reads (typed_at pool at tag) (IsTyped pool tag) behind_tag
unfolding typed_at
typed_reads pool few at tag =
    either_reads (ltb tag 7) (λ end bytes. Ok (frame_type_of tag 0, bytes)) (λ end bytes. cond (eqb tag 7) (class_type pool tag end bytes) (cond (eqb tag 8) (new_type tag end bytes) (Err (bad_tag at tag)))) (IsTyped pool tag) behind_tag
    (λ low. as_reads (λ end bytes. Ok (frame_type_of tag 0, bytes)) (λ t. t ≡ frame_type_of tag 0) (λ t. []) (IsTyped pool tag) behind_tag (give_reads (frame_type_of tag 0))
    (λ t e. subst (IsTyped pool tag) (sym e) (plain_typed pool tag low)) (λ t q. plain_type pool tag t low q) (λ t q. behind_none pool tag t low q))
    (λ high. either_reads (eqb tag 7) (class_type pool tag) (λ end bytes. cond (eqb tag 8) (new_type tag end bytes) (Err (bad_tag at tag))) (IsTyped pool tag) behind_tag
    (λ seven. as_reads (class_type pool tag) (λ t. (leads_to_class pool t.index ≡ true) × (t ≡ frame_type_of tag t.index)) (λ t. to_be_bytes w16 t.index) (IsTyped pool tag) behind_tag
    (made_reads (index_at (leads_to_class pool)) (λ n. leads_to_class pool n ≡ true) (to_be_bytes w16) (frame_type_of tag) (λ t. t.index) (λ n. refl) (class_reads pool few))
    (λ t p. class_typed pool tag t seven p.0 p.1) (λ t q. typed_class pool tag t seven q) (λ t q. behind_some pool tag t high q))
    (λ not_seven. either_reads (eqb tag 8) (new_type tag) (λ end bytes. Err (bad_tag at tag)) (IsTyped pool tag) behind_tag
    (λ eight. as_reads (new_type tag) (λ t. (t.index < 2 ^ 16) × (t ≡ frame_type_of tag t.index)) (λ t. to_be_bytes w16 t.index) (IsTyped pool tag) behind_tag
    (made_reads u2_at (λ n. n < 2 ^ 16) (to_be_bytes w16) (frame_type_of tag) (λ t. t.index) (λ n. refl) u2_reads)
    (λ t p. new_typed pool tag t eight p.0 p.1) (λ t q. typed_new pool tag t eight q) (λ t q. behind_some pool tag t high q))
    (λ not_eight. no_reads (bad_tag at tag) (IsTyped pool tag) behind_tag (λ t q. untyped pool tag t high not_seven not_eight q))))

tag_fits : (pool : Pool) (t : FrameType) → IsFrameType pool t → t.tag < 2 ^ 8
tag_fits pool t is = let most = is.tag in omega (arith, most)

typed_spelling : (t : FrameType) → (t.tag ∷ []) ++ behind_tag t ≡ frame_type t
unfolding behind_tag frame_type
typed_spelling t = elim (cases_Bool (ltb t.tag 7)) [ inl y ↦ rw y refl | inr n ↦ rw n refl ]

pub frame_type_reads : (pool : Pool) → IsFew pool → Reads (frame_type_at pool) (IsFrameType pool) frame_type
unfolding frame_type_at IsTyped
frame_type_reads pool few =
    here_reads (λ at. bind u1_at (typed_at pool at)) (IsFrameType pool) frame_type (λ at.
    as_reads (bind u1_at (typed_at pool at)) (λ t. (t.tag < 2 ^ 8) × IsTyped pool t.tag t) (λ t. (t.tag ∷ []) ++ behind_tag t) (IsFrameType pool) frame_type
    (bind_reads u1_at (λ n. n < 2 ^ 8) (λ n. n ∷ []) (typed_at pool at) (IsTyped pool) (λ tag. behind_tag) (λ t. t.tag) u1_reads (λ tag low. typed_reads pool few at tag) (λ tag t q. q.0))
    (λ t p. p.1.1) (λ t is. (tag_fits pool t is, (refl, is))) (λ t is. typed_spelling t))

-- ---- frames

types_reads : (pool : Pool) → IsFew pool → (n : ℕ) → Reads (many_at (frame_type_at pool) n) (λ ts. (length ts ≡ n) × AllByRecursion (IsFrameType pool) ts) (flat_map frame_type)
types_reads pool few n =
    as_reads (many_at (frame_type_at pool) n) (λ ts. (length ts ≡ n) × AllAfter (λ before. IsFrameType pool) [] ts) (flat_map frame_type) (λ ts. (length ts ≡ n) × AllByRecursion (IsFrameType pool) ts) (flat_map frame_type)
    (many_reads (λ before. frame_type_at pool) (λ before. IsFrameType pool) frame_type (λ before. frame_type_reads pool few) n [])
    (λ ts p. (p.0, all_each (IsFrameType pool) [] ts p.1)) (λ ts p. (p.0, all_after (IsFrameType pool) [] ts p.1)) (λ ts p. refl)

none_of : {A : Type 0} (xs : List A) → length xs ≡ 0 → xs ≡ []
none_of [] e = refl
none_of (x ∷ xs) e = absurd (let n : suc (length xs) ≡ 0 = e in omega arith)

frame_is : (f : StackFrame) (tag delta : ℕ) (locals stack : List FrameType) → f.tag ≡ tag → f.delta ≡ delta → f.locals ≡ locals → f.stack ≡ stack → f ≡ frame_of tag delta locals stack
frame_is f tag delta locals stack a b c d =
    ap (λ n. frame_of n f.delta f.locals f.stack) a ∙ ap (λ n. frame_of tag n f.locals f.stack) b ∙ ap (λ (l : List FrameType). frame_of tag delta l f.stack) c ∙ ap (frame_of tag delta locals) d

-- a frame of a tag, and one of a tag and a delta
IsFramed : Pool → ℕ → StackFrame → Type 0
IsFramed pool tag f = (f.tag ≡ tag) × IsFrame pool f

IsDelta : Pool → ℕ → ℕ → StackFrame → Type 0
IsDelta pool tag delta f = (f.tag ≡ tag) × (f.delta ≡ delta) × IsFrame pool f

-- what a frame has behind its delta, and behind its tag
delta_rest : StackFrame → List ℕ
delta_rest f = cond (ltb f.tag 255) (flat_map frame_type f.locals ++ flat_map frame_type f.stack) (counted frame_type f.locals ++ counted frame_type f.stack)

tag_rest : StackFrame → List ℕ
tag_rest f = cond (ltb f.tag 128) (flat_map frame_type f.stack) (to_be_bytes w16 f.delta ++ delta_rest f)

frame_spelling : (f : StackFrame) → (f.tag ∷ []) ++ tag_rest f ≡ frame f
unfolding tag_rest delta_rest frame
frame_spelling f = elim (cases_Bool (ltb f.tag 128)) [
  | inl y ↦ rw y refl
  | inr n ↦ elim (cases_Bool (ltb f.tag 255)) [
    | inl y ↦ rw (n, y) (ap (λ (l : List ℕ). f.tag ∷ l) (sym (append_assoc (to_be_bytes w16 f.delta) (flat_map frame_type f.locals) (flat_map frame_type f.stack))))
    | inr m ↦ rw (n, m) (ap (λ (l : List ℕ). f.tag ∷ l) (sym (append_assoc (to_be_bytes w16 f.delta) (counted frame_type f.locals) (counted frame_type f.stack))))
  ]
]

record IsHigh (tag : ℕ) : Type 0 where
  same : ltb tag 64 ≡ false
  item : ltb tag 128 ≡ false
  bad : ltb tag 247 ≡ false

is_high : (tag : ℕ) → ltb tag 247 ≡ false → IsHigh tag
is_high tag h = let le = ltb-false tag 247 h in record { same = le-ltb tag 64 (omega (arith, le)); item = le-ltb tag 128 (omega (arith, le)); bad = h }

no_types : (pool : Pool) → IsCounted (IsFrameType pool) []
no_types pool = (omega arith, tt)

one_type : (pool : Pool) (ts : List FrameType) (n : ℕ) → length ts ≡ n → n < 2 ^ 16 → AllByRecursion (IsFrameType pool) ts → IsCounted (IsFrameType pool) ts
one_type pool ts n e low all = (omega (arith, e, low), all)

three : (a b c : Bool) → (a && b && c) ≡ true → (a ≡ true) × (b ≡ true) × (c ≡ true)
three a b c e = let p = and_parts (a && b) c e in let q = and_parts a b p.0 in (q.0, q.1, p.1)

-- ---- tags 0 to 63

same_framed : (pool : Pool) (tag : ℕ) → ltb tag 64 ≡ true → IsFramed pool tag (frame_of tag tag [] [])
unfolding IsFramed has_layout
same_framed pool tag low =
    let small = ltb-true tag 64 low in
    (refl, record { layout = rw (low, eq-eqb tag tag refl) refl; delta = omega (arith, small); locals = no_types pool; stack = no_types pool })

framed_same : (pool : Pool) (tag : ℕ) (f : StackFrame) → ltb tag 64 ≡ true → IsFramed pool tag f → f ≡ frame_of tag tag [] []
unfolding IsFramed has_layout
framed_same pool tag f low q =
    let parts = three (eqb f.delta tag) (eqb (length f.locals) 0) (eqb (length f.stack) 0) (rw (q.0, low) at q.1.layout) in
    frame_is f tag tag [] [] q.0 (eqb-true f.delta tag parts.0) (none_of f.locals (eqb-true _ _ parts.1)) (none_of f.stack (eqb-true _ _ parts.2))

-- ---- tags 64 to 127, and 247

-- one stack item, and nothing else
record HasItem (pool : Pool) (tag delta : ℕ) (f : StackFrame) : Type 0 where
  one : length f.stack ≡ 1
  typed : AllByRecursion (IsFrameType pool) f.stack
  is : f ≡ frame_of tag delta [] f.stack

with_item_reads : (pool : Pool) → IsFew pool → (tag delta : ℕ) → Reads (with_item_at pool tag delta) (HasItem pool tag delta) (λ f. flat_map frame_type f.stack)
unfolding with_item_at
with_item_reads pool few tag delta =
    as_reads (with_item_at pool tag delta) (λ f. ((length f.stack ≡ 1) × AllByRecursion (IsFrameType pool) f.stack) × (f ≡ frame_of tag delta [] f.stack)) (λ f. flat_map frame_type f.stack) (HasItem pool tag delta) (λ f. flat_map frame_type f.stack)
    (made_reads (many_at (frame_type_at pool) 1) (λ ts. (length ts ≡ 1) × AllByRecursion (IsFrameType pool) ts) (flat_map frame_type) (frame_of tag delta []) (λ f. f.stack) (λ ts. refl) (types_reads pool few 1))
    (λ f p. record { one = p.0.0; typed = p.0.1; is = p.1 }) (λ f h. ((h.one, h.typed), h.is)) (λ f h. refl)

item_tag : (pool : Pool) (tag delta : ℕ) (f : StackFrame) → HasItem pool tag delta f → f.tag ≡ tag
item_tag pool tag delta f h = ap (λ (x : StackFrame). x.tag) h.is

item_framed : (pool : Pool) (tag : ℕ) (f : StackFrame) → ltb tag 64 ≡ false → ltb tag 128 ≡ true → HasItem pool tag (tag - 64) f → IsFramed pool tag f
unfolding IsFramed has_layout
item_framed pool tag f high low h =
    let same = item_tag pool tag (tag - 64) f h in
    let delta : f.delta ≡ tag - 64 = ap (λ (x : StackFrame). x.delta) h.is in
    let locals : f.locals ≡ [] = ap (λ (x : StackFrame). x.locals) h.is in
    let small = ltb-true tag 128 low in
    let some : eqb (length f.stack) 1 ≡ true = eq-eqb (length f.stack) 1 h.one in (
      same,
      record {
        layout = rw (same, high, low, delta, eq-eqb (tag - 64) (tag - 64) refl, locals, some) refl;
        delta = omega (arith, delta, small);
        locals = rw locals (no_types pool);
        stack = one_type pool f.stack 1 h.one (omega arith) h.typed;
      },
    )

framed_item : (pool : Pool) (tag : ℕ) (f : StackFrame) → ltb tag 64 ≡ false → ltb tag 128 ≡ true → IsFramed pool tag f → HasItem pool tag (tag - 64) f
unfolding IsFramed has_layout
framed_item pool tag f high low q =
    let parts = three (eqb f.delta (tag - 64)) (eqb (length f.locals) 0) (eqb (length f.stack) 1) (rw (q.0, high, low) at q.1.layout) in
    record { one = eqb-true _ _ parts.2; typed = q.1.stack.1; is = frame_is f tag (tag - 64) [] f.stack q.0 (eqb-true _ _ parts.0) (none_of f.locals (eqb-true _ _ parts.1)) refl }

item_delta : (pool : Pool) (tag delta : ℕ) (f : StackFrame) → IsHigh tag → delta < 2 ^ 16 → eqb tag 247 ≡ true → HasItem pool tag delta f → IsDelta pool tag delta f
unfolding IsDelta has_layout
item_delta pool tag delta f high low is h =
    let same = item_tag pool tag delta f h in
    let there : f.delta ≡ delta = ap (λ (x : StackFrame). x.delta) h.is in
    let locals : f.locals ≡ [] = ap (λ (x : StackFrame). x.locals) h.is in
    let some : eqb (length f.stack) 1 ≡ true = eq-eqb (length f.stack) 1 h.one in (
      same,
      there,
      record {
        layout = rw (same, high.same, high.item, high.bad, is, locals, some) refl;
        delta = omega (arith, there, low);
        locals = rw locals (no_types pool);
        stack = one_type pool f.stack 1 h.one (omega arith) h.typed;
      },
    )

delta_item : (pool : Pool) (tag delta : ℕ) (f : StackFrame) → IsHigh tag → eqb tag 247 ≡ true → IsDelta pool tag delta f → HasItem pool tag delta f
unfolding IsDelta has_layout
delta_item pool tag delta f high is q =
    let parts = and_parts (eqb (length f.locals) 0) (eqb (length f.stack) 1) (rw (q.0, high.same, high.item, high.bad, is) at q.2.layout) in
    record { one = eqb-true _ _ parts.1; typed = q.2.stack.1; is = frame_is f tag delta [] f.stack q.0 q.1 (none_of f.locals (eqb-true _ _ parts.0)) refl }

-- ---- tags 248 to 251

chop_delta : (pool : Pool) (tag delta : ℕ) → IsHigh tag → delta < 2 ^ 16 → eqb tag 247 ≡ false → ltb tag 252 ≡ true → IsDelta pool tag delta (frame_of tag delta [] [])
unfolding IsDelta has_layout
chop_delta pool tag delta high low other is = (refl, refl, record { layout = rw (high.same, high.item, high.bad, other, is) refl; delta = low; locals = no_types pool; stack = no_types pool })

delta_chop : (pool : Pool) (tag delta : ℕ) (f : StackFrame) → IsHigh tag → eqb tag 247 ≡ false → ltb tag 252 ≡ true → IsDelta pool tag delta f → f ≡ frame_of tag delta [] []
unfolding IsDelta has_layout
delta_chop pool tag delta f high other is q =
    let parts = and_parts (eqb (length f.locals) 0) (eqb (length f.stack) 0) (rw (q.0, high.same, high.item, high.bad, other, is) at q.2.layout) in
    frame_is f tag delta [] [] q.0 q.1 (none_of f.locals (eqb-true _ _ parts.0)) (none_of f.stack (eqb-true _ _ parts.1))

-- ---- tags 252 to 254

record HasLocals (pool : Pool) (tag delta many : ℕ) (f : StackFrame) : Type 0 where
  count : length f.locals ≡ many
  typed : AllByRecursion (IsFrameType pool) f.locals
  is : f ≡ frame_of tag delta f.locals []

with_locals_reads : (pool : Pool) → IsFew pool → (tag delta many : ℕ) → Reads (with_locals_at pool tag delta many) (HasLocals pool tag delta many) (λ f. flat_map frame_type f.locals)
unfolding with_locals_at
with_locals_reads pool few tag delta many =
    as_reads (with_locals_at pool tag delta many) (λ f. ((length f.locals ≡ many) × AllByRecursion (IsFrameType pool) f.locals) × (f ≡ frame_of tag delta f.locals [])) (λ f. flat_map frame_type f.locals) (HasLocals pool tag delta many) (λ f. flat_map frame_type f.locals)
    (made_reads (many_at (frame_type_at pool) many) (λ ts. (length ts ≡ many) × AllByRecursion (IsFrameType pool) ts) (flat_map frame_type) (λ ts. frame_of tag delta ts []) (λ f. f.locals) (λ ts. refl) (types_reads pool few many))
    (λ f p. record { count = p.0.0; typed = p.0.1; is = p.1 }) (λ f h. ((h.count, h.typed), h.is)) (λ f h. refl)

locals_delta : (pool : Pool) (tag delta : ℕ) (f : StackFrame) → IsHigh tag → delta < 2 ^ 16 → eqb tag 247 ≡ false → ltb tag 252 ≡ false → ltb tag 255 ≡ true → HasLocals pool tag delta (tag - 251) f → IsDelta pool tag delta f
unfolding IsDelta has_layout
locals_delta pool tag delta f high low other past is h =
    let same : f.tag ≡ tag = ap (λ (x : StackFrame). x.tag) h.is in
    let there : f.delta ≡ delta = ap (λ (x : StackFrame). x.delta) h.is in
    let stack : f.stack ≡ [] = ap (λ (x : StackFrame). x.stack) h.is in
    let small = ltb-true tag 255 is in
    let count : eqb (length f.locals) (tag - 251) ≡ true = eq-eqb (length f.locals) (tag - 251) h.count in (
      same,
      there,
      record {
        layout = rw (same, high.same, high.item, high.bad, other, past, is, count, stack) refl;
        delta = omega (arith, there, low);
        locals = one_type pool f.locals (tag - 251) h.count (omega (arith, small)) h.typed;
        stack = rw stack (no_types pool);
      },
    )

delta_locals : (pool : Pool) (tag delta : ℕ) (f : StackFrame) → IsHigh tag → eqb tag 247 ≡ false → ltb tag 252 ≡ false → ltb tag 255 ≡ true → IsDelta pool tag delta f → HasLocals pool tag delta (tag - 251) f
unfolding IsDelta has_layout
delta_locals pool tag delta f high other past is q =
    let parts = and_parts (eqb (length f.locals) (tag - 251)) (eqb (length f.stack) 0) (rw (q.0, high.same, high.item, high.bad, other, past, is) at q.2.layout) in
    record { count = eqb-true _ _ parts.0; typed = q.2.locals.1; is = frame_is f tag delta f.locals [] q.0 q.1 refl (none_of f.stack (eqb-true _ _ parts.1)) }

-- ---- tag 255

full_delta : (pool : Pool) (tag delta : ℕ) (f : StackFrame) → IsHigh tag → tag < 2 ^ 8 → delta < 2 ^ 16 → eqb tag 247 ≡ false → ltb tag 252 ≡ false → ltb tag 255 ≡ false
    → IsCounted (IsFrameType pool) f.locals → IsCounted (IsFrameType pool) f.stack → f ≡ frame_of tag delta f.locals f.stack → IsDelta pool tag delta f
unfolding IsDelta has_layout
full_delta pool tag delta f high byte low other past end locals stack is =
    let same : f.tag ≡ tag = ap (λ (x : StackFrame). x.tag) is in
    let there : f.delta ≡ delta = ap (λ (x : StackFrame). x.delta) is in
    let last : eqb tag 255 ≡ true = grind (arith, nat_tests) in
    (same, there, record { layout = rw (same, high.same, high.item, high.bad, other, past, end) last; delta = omega (arith, there, low); locals = locals; stack = stack })

full_reads : (pool : Pool) → IsFew pool → (tag delta : ℕ)
    → Reads (full_at pool tag delta) (λ f. IsCounted (IsFrameType pool) f.locals × (IsCounted (IsFrameType pool) f.stack × (f ≡ frame_of tag delta f.locals f.stack))) (λ f. counted frame_type f.locals ++ counted frame_type f.stack)
unfolding full_at
full_reads pool few tag delta =
    let types = each_counted (frame_type_at pool) (IsFrameType pool) frame_type (frame_type_reads pool few) in
    bind_reads (counted_at (frame_type_at pool)) (IsCounted (IsFrameType pool)) (counted frame_type) (λ locals. bind (counted_at (frame_type_at pool)) (λ stack end bytes. Ok (frame_of tag delta locals stack, bytes)))
    (λ locals f. IsCounted (IsFrameType pool) f.stack × (f ≡ frame_of tag delta locals f.stack)) (λ locals f. counted frame_type f.stack) (λ f. f.locals) types
    (λ locals p. made_reads (counted_at (frame_type_at pool)) (IsCounted (IsFrameType pool)) (counted frame_type) (frame_of tag delta locals) (λ f. f.stack) (λ ts. refl) types)
    (λ locals f q. ap (λ (x : StackFrame). x.locals) q.1)

-- ---- together

items_spelled : (pool : Pool) (tag delta : ℕ) (f : StackFrame) → ltb tag 255 ≡ true → HasItem pool tag delta f → flat_map frame_type f.stack ≡ delta_rest f
unfolding delta_rest
items_spelled pool tag delta f low h = let locals : f.locals ≡ [] = ap (λ (x : StackFrame). x.locals) h.is in rw (item_tag pool tag delta f h, low, locals) refl

locals_spelled : (pool : Pool) (tag delta many : ℕ) (f : StackFrame) → ltb tag 255 ≡ true → HasLocals pool tag delta many f → flat_map frame_type f.locals ≡ delta_rest f
unfolding delta_rest
locals_spelled pool tag delta many f low h =
    let same : f.tag ≡ tag = ap (λ (x : StackFrame). x.tag) h.is in
    let stack : f.stack ≡ [] = ap (λ (x : StackFrame). x.stack) h.is in
    rw (same, low, stack) (sym (append-nil (flat_map frame_type f.locals)))

behind_delta_reads : (pool : Pool) → IsFew pool → (tag delta : ℕ) → IsHigh tag → tag < 2 ^ 8 → delta < 2 ^ 16 → Reads (behind_delta_at pool tag delta) (IsDelta pool tag delta) delta_rest
unfolding behind_delta_at IsDelta delta_rest
behind_delta_reads pool few tag delta high byte low =
    either_reads (eqb tag 247) (with_item_at pool tag delta) (not_far_item pool tag delta) (IsDelta pool tag delta) delta_rest
    (λ is. let at = eqb-true tag 247 is in let less : ltb tag 255 ≡ true = grind (arith, nat_tests) in
    as_reads (with_item_at pool tag delta) (HasItem pool tag delta) (λ f. flat_map frame_type f.stack) (IsDelta pool tag delta) delta_rest (with_item_reads pool few tag delta)
    (λ f h. item_delta pool tag delta f high low is h) (λ f q. delta_item pool tag delta f high is q) (λ f q. items_spelled pool tag delta f less (delta_item pool tag delta f high is q)))
    (λ other. either_reads (ltb tag 252) (λ end bytes. Ok (frame_of tag delta [] [], bytes)) (not_chop pool tag delta) (IsDelta pool tag delta) delta_rest
    (λ is. let less : ltb tag 255 ≡ true = grind (arith, nat_tests) in
    as_reads (λ end bytes. Ok (frame_of tag delta [] [], bytes)) (λ f. f ≡ frame_of tag delta [] []) (λ f. []) (IsDelta pool tag delta) delta_rest (give_reads (frame_of tag delta [] []))
    (λ f e. subst (IsDelta pool tag delta) (sym e) (chop_delta pool tag delta high low other is)) (λ f q. delta_chop pool tag delta f high other is q)
    (λ f q. rw (delta_chop pool tag delta f high other is q, less) refl))
    (λ past. either_reads (ltb tag 255) (with_locals_at pool tag delta (tag - 251)) (full_at pool tag delta) (IsDelta pool tag delta) delta_rest
    (λ is. as_reads (with_locals_at pool tag delta (tag - 251)) (HasLocals pool tag delta (tag - 251)) (λ f. flat_map frame_type f.locals) (IsDelta pool tag delta) delta_rest (with_locals_reads pool few tag delta (tag - 251))
    (λ f h. locals_delta pool tag delta f high low other past is h) (λ f q. delta_locals pool tag delta f high other past is q) (λ f q. locals_spelled pool tag delta (tag - 251) f is (delta_locals pool tag delta f high other past is q)))
    (λ end. as_reads (full_at pool tag delta) _ _ (IsDelta pool tag delta) delta_rest (full_reads pool few tag delta)
    (λ f p. full_delta pool tag delta f high byte low other past end p.0 p.1.0 p.1.1) (λ f q. (q.2.locals, (q.2.stack, frame_is f tag delta f.locals f.stack q.0 q.1 refl refl))) (λ f q. rw (q.0, end) refl))))

with_delta_reads : (pool : Pool) → IsFew pool → (tag : ℕ) → IsHigh tag → tag < 2 ^ 8 → Reads (bind u2_at (behind_delta_at pool tag)) (IsFramed pool tag) tag_rest
unfolding IsFramed IsDelta tag_rest
with_delta_reads pool few tag high byte =
    as_reads (bind u2_at (behind_delta_at pool tag)) (λ f. (f.delta < 2 ^ 16) × IsDelta pool tag f.delta f) (λ f. to_be_bytes w16 f.delta ++ delta_rest f) (IsFramed pool tag) tag_rest
    (bind_reads u2_at (λ n. n < 2 ^ 16) (to_be_bytes w16) (behind_delta_at pool tag) (IsDelta pool tag) (λ delta. delta_rest) (λ f. f.delta) u2_reads (λ delta low. behind_delta_reads pool few tag delta high byte low) (λ delta f q. q.1))
    (λ f p. (p.1.0, p.1.2)) (λ f q. (q.1.delta, (q.0, refl, q.1))) (λ f q. rw (q.0, high.item) refl)

not_framed : (pool : Pool) (tag : ℕ) (f : StackFrame) → ltb tag 64 ≡ false → ltb tag 128 ≡ false → ltb tag 247 ≡ true → IsFramed pool tag f → ⊥
unfolding IsFramed has_layout
not_framed pool tag f a b c q = let bad : false ≡ true = rw (q.0, a, b, c) at q.1.layout in cc

framed_reads : (pool : Pool) → IsFew pool → (at tag : ℕ) → tag < 2 ^ 8 → Reads (framed_at pool at tag) (IsFramed pool tag) tag_rest
unfolding framed_at tag_rest IsFramed
framed_reads pool few at tag byte =
    either_reads (ltb tag 64) (λ end bytes. Ok (frame_of tag tag [] [], bytes)) (not_same pool at tag) (IsFramed pool tag) tag_rest
    (λ low. let item : ltb tag 128 ≡ true = grind (arith, nat_tests) in
    as_reads (λ end bytes. Ok (frame_of tag tag [] [], bytes)) (λ f. f ≡ frame_of tag tag [] []) (λ f. []) (IsFramed pool tag) tag_rest (give_reads (frame_of tag tag [] []))
    (λ f e. subst (IsFramed pool tag) (sym e) (same_framed pool tag low)) (λ f q. framed_same pool tag f low q) (λ f q. rw (framed_same pool tag f low q, item) refl))
    (λ high. either_reads (ltb tag 128) (with_item_at pool tag (tag - 64)) (not_item pool at tag) (IsFramed pool tag) tag_rest
    (λ low. as_reads (with_item_at pool tag (tag - 64)) (HasItem pool tag (tag - 64)) (λ f. flat_map frame_type f.stack) (IsFramed pool tag) tag_rest (with_item_reads pool few tag (tag - 64))
    (λ f h. item_framed pool tag f high low h) (λ f q. framed_item pool tag f high low q) (λ f q. rw (q.0, low) refl))
    (λ item. either_reads (ltb tag 247) (λ end bytes. Err (bad_tag at tag)) (bind u2_at (behind_delta_at pool tag)) (IsFramed pool tag) tag_rest
    (λ bad. no_reads (bad_tag at tag) (IsFramed pool tag) tag_rest (λ f q. not_framed pool tag f high item bad q))
    (λ past. with_delta_reads pool few tag (is_high tag past) byte)))

frame_tag : (pool : Pool) (f : StackFrame) → IsFrame pool f → f.tag < 2 ^ 8
unfolding has_layout
frame_tag pool f is = elim (cases_Bool (ltb f.tag 255)) [
  | inl y ↦ (let h = ltb-true f.tag 255 y in omega (arith, h))
  | inr n ↦ (let le = ltb-false f.tag 255 n in
      let high = is_high f.tag (le-ltb f.tag 247 (omega (arith, le))) in
      let other : eqb f.tag 247 ≡ false = grind (arith, nat_tests) in
      let past : ltb f.tag 252 ≡ false = le-ltb f.tag 252 (omega (arith, le)) in
      let last = eqb-true f.tag 255 (rw (high.same, high.item, high.bad, other, past, n) at is.layout) in omega (arith, last))
]

pub frame_reads : (pool : Pool) → IsFew pool → Reads (frame_at pool) (IsFrame pool) frame
unfolding frame_at IsFramed
frame_reads pool few =
    here_reads (λ at. bind u1_at (framed_at pool at)) (IsFrame pool) frame (λ at.
    as_reads (bind u1_at (framed_at pool at)) (λ f. (f.tag < 2 ^ 8) × IsFramed pool f.tag f) (λ f. (f.tag ∷ []) ++ tag_rest f) (IsFrame pool) frame
    (bind_reads u1_at (λ n. n < 2 ^ 8) (λ n. n ∷ []) (framed_at pool at) (IsFramed pool) (λ tag. tag_rest) (λ f. f.tag) u1_reads (λ tag byte. framed_reads pool few at tag byte) (λ tag f q. q.0))
    (λ f p. p.1.1) (λ f is. (frame_tag pool f is, (refl, is))) (λ f is. frame_spelling f))
