-- A shaped class has no misfit.
use Rattle.std.proofs.Common.{◌≡◌, ℕ, zero, suc, ◌+◌, ◌^◌, Bool, true, false, not, ◌&&◌, ◌||◌, cond, ltb, leb, List, [], ◌∷◌, ◌++◌, length, map, Option, None, refl, sym, ap, ◌∙◌, append_assoc, length-append}
use Rattle.std.specs.List.{AllByRecursion}
use Rattle.std.specs.Str.{bytes_eq}
use Rattle.std.proofs.lemmas.Bool.{and_from, lt-ltb, le-leb}
use Rattle.std.proofs.lemmas.List.{take_at}
use Rattle.class_model.specs.declared.constant_pool.Pool.{Pool}
use Rattle.class_model.specs.declared.stack_map.StackFrame.{StackFrame}
use Rattle.class_model.specs.declared.stack_map.FrameType.{FrameType}
use Rattle.class_model.specs.declared.annotation.Element.{Element, out-Element}
use Rattle.class_model.specs.declared.annotation.Element.TheOpen.{Element-F}
use Rattle.class_model.specs.declared.annotation.Note.{Note}
use Rattle.class_model.specs.declared.annotation.Pair.{Pair}
use Rattle.class_model.specs.declared.attribute_forms.Attribute.{Attribute, out-Attribute}
use Rattle.class_model.specs.declared.attribute_forms.Attribute.TheOpen.{Attribute-F}
use Rattle.class_model.specs.declared.attribute_forms.Handler.{Handler}
use Rattle.class_model.specs.declared.attribute_forms.Bootstrap.{Bootstrap}
use Rattle.class_model.specs.declared.class_file.Class.{Class}
use Rattle.class_model.specs.declared.class_file.Member.{Member}
use Rattle.class_model.specs.Layers.{AttributeLayer, ElementLayer}
use Rattle.class_model.specs.Constants.{IsPool}
use Rattle.class_model.specs.Annotations.{IsCounted, IsPairBy, IsNoteBy, IsElementBy, IsElement, IsAnnotation}
use Rattle.class_model.specs.Attributes.{Place, in_code, IsFrameType, IsFrame, IsHandler, IsBootstrap, IsCode, IsCodeAttribute, IsCodeAttributes, IsAttribute, IsAttributes, once_each, is_known, attribute_name}
use Rattle.class_model.specs.Shape.{IsField, IsMethod, IsMembers, Shaped, are_same, is_bare, is_code_layer, has_code, descriptor_text}
use Rattle.const_pool.specs.Writing as pools
use Rattle.const_pool.proofs.Written.{complete, misfit_few}
use Rattle.const_pool.specs.declared.write_fault.Part.{Part}
use Rattle.const_pool.specs.declared.write_fault.Holder.{Holder}
use Rattle.const_pool.specs.declared.write_fault.Holder.TheVariants as holders
use Rattle.const_pool.specs.declared.write_fault.AttributeId.{AttributeId}
use Rattle.const_pool.specs.declared.write_fault.WriteFault.{WriteFault}
use Rattle.class_write.specs.Contents.{HasContent, HasPlainContent}
use Rattle.class_write.specs.Misfits as misfits
use Rattle.class_write.specs.Misfits.{attribute_place, has_form, has_name, misfit}
use Rattle.class_write.specs.Order.{first_from, counted, is_again}
use Rattle.class_write.proofs.Faults.{none_both, unless_true}
use Rattle.class_write.proofs.FrameLemmas.{type_fits}
use Rattle.class_write.proofs.Once.{IsFair, once_map, once_before}
use Rattle.class_write.proofs.ContentLemmas.{form_parts, stands_from}
use Rattle.class_write.proofs.AttributeLemmas as attributes
use Rattle.class_write.proofs.MemberLemmas as members

-- ---- lists

first_none : {A : Type 0} (Is : A → Type 0) (misfit : ℕ → A → Option WriteFault) → ((n : ℕ) (x : A) → Is x → misfit n x ≡ None)
    → (number : ℕ) (items : List A) → AllByRecursion Is items → first_from misfit number items ≡ None
unfolding first_from
first_none Is misfit each number [] all = refl
first_none Is misfit each number (x ∷ items) all = none_both _ _ (each number x all.0) (first_none Is misfit each (number + 1) items all.1)

counted_none : {A : Type 0} (Is : A → Type 0) (misfit : ℕ → A → Option WriteFault) (part : Part) (items : List A) → ((n : ℕ) (x : A) → Is x → misfit n x ≡ None)
    → IsCounted Is items → counted part misfit items ≡ None
unfolding counted
counted_none Is misfit part items each is = none_both _ _ (unless_true _ _ (lt-ltb (length items) (2 ^ 16) is.0)) (first_none Is misfit each 0 items is.1)

-- the items behind a front, none of them the same as an earlier one
behind_none : {A : Type 0} (Is : A → Type 0) (counts : A → Bool) (same : A → A → Bool) (misfit : ℕ → A → Option WriteFault) (items : List A) → IsFair counts same
    → ((n : ℕ) (x : A) → Is x → is_again counts same items n x ≡ false → misfit n x ≡ None)
    → (front rest : List A) → items ≡ front ++ rest → once_each counts same items ≡ true → AllByRecursion Is rest → first_from misfit (length front) rest ≡ None
unfolding first_from
behind_none Is counts same misfit items fair each front [] e once all = refl
behind_none {A} Is counts same misfit items fair each front (x ∷ rest) e once all =
    let here : is_again counts same items (length front) x ≡ false =
    rw (e, take_at front (x ∷ rest) (length front) refl) (once_before counts same front x rest fair (rw e at once)) in
    let more : length (front ++ x ∷ []) ≡ length front + 1 = length-append front (x ∷ []) in
    let next : first_from misfit (length front + 1) rest ≡ None =
    rw (← more) (behind_none Is counts same misfit items fair each (front ++ x ∷ []) rest (e ∙ sym (append_assoc front (x ∷ []) rest)) once all.1) in
    none_both _ _ (each (length front) x all.0 here) next

once_none : {A : Type 0} (Is : A → Type 0) (counts : A → Bool) (same : A → A → Bool) (misfit : ℕ → A → Option WriteFault) (part : Part) (items : List A) → IsFair counts same
    → ((n : ℕ) (x : A) → Is x → is_again counts same items n x ≡ false → misfit n x ≡ None)
    → IsCounted Is items → once_each counts same items ≡ true → counted part misfit items ≡ None
unfolding counted
once_none Is counts same misfit part items fair each is once =
    none_both _ _ (unless_true _ _ (lt-ltb (length items) (2 ^ 16) is.0)) (behind_none Is counts same misfit items fair each [] items refl once is.1)

-- ---- stack maps, code and bootstrap methods

types_none : (pool : Pool) (part : Part) (types : List FrameType) → IsCounted (IsFrameType pool) types → misfits.frame_types pool part types ≡ None
types_none pool part types is = counted_none (IsFrameType pool) (λ n t. misfits.frame_type pool part t) part types (λ n t fits. unless_true _ _ (type_fits pool t fits)) is

frame_none : (pool : Pool) (part : Part) (f : StackFrame) → IsFrame pool f → misfits.frame pool part f ≡ None
unfolding misfits.frame
frame_none pool part f is = none_both _ _ (unless_true _ _ is.layout) (none_both _ _ (types_none pool part f.locals is.locals) (types_none pool part f.stack is.stack))

frames_none : (pool : Pool) (id : AttributeId) (frames : List StackFrame) → IsCounted (IsFrame pool) frames → misfits.frames pool id frames ≡ None
frames_none pool id frames is = counted_none (IsFrame pool) _ _ frames (λ n f fits. frame_none pool _ f fits) is

handlers_none : (pool : Pool) (id : AttributeId) (table : List Handler) → IsCounted (IsHandler pool) table → misfits.handlers pool id table ≡ None
handlers_none pool id table is = counted_none (IsHandler pool) _ _ table (λ n h fits. unless_true _ _ fits.catch_type) is

bootstrap_none : (pool : Pool) (part : Part) (b : Bootstrap) → IsBootstrap pool b → misfits.bootstrap pool part b ≡ None
unfolding misfits.bootstrap
bootstrap_none pool part b is = none_both _ _ (unless_true _ _ is.handle) (counted_none _ _ part b.arguments (λ n index fits. unless_true _ _ fits) is.arguments)

bootstraps_none : (pool : Pool) (id : AttributeId) (entries : List Bootstrap) → IsCounted (IsBootstrap pool) entries → misfits.bootstraps pool id entries ≡ None
bootstraps_none pool id entries is = counted_none (IsBootstrap pool) _ _ entries (λ n b fits. bootstrap_none pool _ b fits) is

-- ---- annotations

pair_none : (Within : Element → Type 0) (within : Element → Option WriteFault) (pool : Pool) (part : Part) (p : Pair) → ((e : Element) → Within e → within e ≡ None)
    → IsPairBy Within pool p → misfits.pair_by within pool part p ≡ None
unfolding misfits.pair_by
pair_none Within within pool part p each is = none_both _ _ (unless_true _ _ is.name) (each _ is.value)

note_none : (Within : Element → Type 0) (within : Element → Option WriteFault) (pool : Pool) (part : Part) (note : Note) → ((e : Element) → Within e → within e ≡ None)
    → IsNoteBy Within pool note → misfits.note_by within pool part note ≡ None
unfolding misfits.note_by
note_none Within within pool part note each is =
    none_both _ _ (unless_true _ _ is.kind) (counted_none (IsPairBy Within pool) _ part _ (λ n p fits. pair_none Within within pool part p each fits) is.pairs)

layer_none : (Within : Element → Type 0) (within : Element → Option WriteFault) (pool : Pool) (part : Part) (layer : ElementLayer) → ((e : Element) → Within e → within e ≡ None)
    → IsElementBy Within pool layer → misfits.element_by within pool part layer ≡ None
layer_none Within within pool part (Element-F.Const tag index) each is = unless_true _ _ is
layer_none Within within pool part (Element-F.Enum kind name) each is = none_both _ _ (unless_true _ _ is.0) (unless_true _ _ is.1)
layer_none Within within pool part (Element-F.OfClass class) each is = unless_true _ _ is
layer_none Within within pool part (Element-F.Nested note) each is = note_none Within within pool part note each is
layer_none Within within pool part (Element-F.Many values) each is = counted_none Within _ part values (λ n e fits. each e fits) is

element_none : (pool : Pool) (part : Part) (depth : ℕ) (e : Element) → IsElement pool depth e → misfits.element pool part depth e ≡ None
unfolding misfits.element IsElement
element_none pool part zero e is = absurd is
element_none pool part (suc depth) e is = layer_none (IsElement pool depth) (misfits.element pool part depth) pool part (out-Element e) (element_none pool part depth) is

annotations_none : (pool : Pool) (id : AttributeId) (list : List Note) → IsCounted (IsAnnotation pool) list → misfits.annotations pool id list ≡ None
annotations_none pool id list is = counted_none (IsAnnotation pool) _ _ list (λ n note fits. note_none _ _ pool _ note (λ e. element_none pool _ _ e) fits) is

-- ---- attributes

plain_none : (pool : Pool) (d : List ℕ) (id : AttributeId) (layer : AttributeLayer) → HasPlainContent pool d layer → misfits.plain pool d id layer ≡ None
plain_none pool d id (Attribute-F.Code name max_stack max_locals code table inner) is = absurd is.attributes
plain_none pool d id (Attribute-F.StackMap name frames) is = frames_none pool id frames is
plain_none pool d id (Attribute-F.ConstantValue name value) is = unless_true _ _ is
plain_none pool d id (Attribute-F.Bootstrap name entries) is = bootstraps_none pool id entries is
plain_none pool d id (Attribute-F.Annotations name list) is = annotations_none pool id list is
plain_none pool d id (Attribute-F.Other name bytes) is = refl

code_attribute_none : (pool : Pool) (method : ℕ) (list : List Attribute) (n : ℕ) (a : Attribute) → IsCodeAttribute pool a → misfits.is_second_of_name pool in_code list n a ≡ false
    → misfits.code_attribute_of pool (holders.Code method) list n a ≡ None
unfolding misfits.code_attribute_of
code_attribute_none pool method list n a is second =
    let parts = form_parts (λ inner. ⊥) pool (holders.Code method) [] (out-Attribute a) is.form in
    let place = attributes.place_from pool (holders.Code method) [] false list n a (stands_from pool (holders.Code method) [] false (out-Attribute a) parts.0 parts.1 refl) second in
    none_both _ _ (unless_true _ _ place) (none_both _ _ (plain_none pool [] _ (out-Attribute a) parts.2) (unless_true _ _ (lt-ltb _ (2 ^ 32) is.short)))

once_there : (pool : Pool) (place : Place) (list : List Attribute) → once_each (is_known place) bytes_eq (map (attribute_name pool) list) ≡ true
    → once_each (attributes.counts pool place) (attributes.same pool) list ≡ true
once_there pool place list once = sym (once_map (attribute_name pool) (is_known place) bytes_eq list) ∙ once

code_attributes_none : (pool : Pool) (method : ℕ) (list : List Attribute) → IsCodeAttributes pool list → misfits.code_attributes pool (holders.Code method) list ≡ None
code_attributes_none pool method list is =
    once_none (IsCodeAttribute pool) (attributes.counts pool in_code) (attributes.same pool) _ _ list (attributes.fair pool in_code)
    (λ n a fits second. code_attribute_none pool method list n a fits second) is.each (once_there pool in_code list is.once)

code_none : (pool : Pool) (id : AttributeId) (method stack locals : ℕ) (bytes : List ℕ) (table : List Handler) (inner : List Attribute) → id.holder ≡ holders.Method method
    → IsCode (IsCodeAttributes pool) pool stack locals bytes table inner → misfits.code pool id bytes table inner ≡ None
code_none pool id method stack locals bytes table inner e is =
    let length_fits : misfits.is_code_length (length bytes) ≡ true = and_from (ltb 0 (length bytes)) (leb (length bytes) 65535) (lt-ltb 0 (length bytes) is.some) (le-leb (length bytes) 65535 is.short) in
    none_both _ _ (unless_true _ _ length_fits) (none_both _ _ (handlers_none pool id table is.handlers) (rw e (code_attributes_none pool method inner is.attributes)))

content_none : (pool : Pool) (d : List ℕ) (holder : Holder) (n : ℕ) (layer : AttributeLayer) → has_form holder layer ≡ true → HasContent (IsCodeAttributes pool) pool d layer
    → misfits.content pool d (misfits.id_of holder n) layer ≡ None
content_none pool d holders.Class n (Attribute-F.Code name max_stack max_locals code table inner) form is = cc
content_none pool d (holders.Field k) n (Attribute-F.Code name max_stack max_locals code table inner) form is = cc
content_none pool d (holders.Method k) n (Attribute-F.Code name max_stack max_locals code table inner) form is = code_none pool _ k max_stack max_locals code table inner refl is
content_none pool d (holders.Code k) n (Attribute-F.Code name max_stack max_locals code table inner) form is = cc
content_none pool d holder n (Attribute-F.StackMap name frames) form is = frames_none pool _ frames is
content_none pool d holder n (Attribute-F.ConstantValue name value) form is = unless_true _ _ is
content_none pool d holder n (Attribute-F.Bootstrap name entries) form is = bootstraps_none pool _ entries is
content_none pool d holder n (Attribute-F.Annotations name list) form is = annotations_none pool _ list is
content_none pool d holder n (Attribute-F.Other name bytes) form is = refl

-- a shaped attribute that is no code of a bare method
record MayStand (pool : Pool) (place : Place) (bare : Bool) (a : Attribute) : Type 0 where
  shaped : IsAttribute pool place a
  allowed : not (bare && is_code_layer (out-Attribute a)) ≡ true

attribute_none : (pool : Pool) (holder : Holder) (d : List ℕ) (bare : Bool) (list : List Attribute) (n : ℕ) (a : Attribute) → MayStand pool (attribute_place holder d) bare a
    → misfits.is_second_of_name pool (attribute_place holder d) list n a ≡ false → misfits.attribute_of pool holder d bare list n a ≡ None
unfolding misfits.attribute_of
attribute_none pool holder d bare list n a is second =
    let parts = form_parts (IsCodeAttributes pool) pool holder d (out-Attribute a) is.shaped.form in
    let place = attributes.place_from pool holder d bare list n a (stands_from pool holder d bare (out-Attribute a) parts.0 parts.1 is.allowed) second in
    none_both _ _ (unless_true _ _ place) (none_both _ _ (content_none pool d holder n (out-Attribute a) parts.0 parts.2) (unless_true _ _ (lt-ltb _ (2 ^ 32) is.shaped.short)))

allowed_all : (pool : Pool) (place : Place) (bare : Bool) (list : List Attribute) → (bare && has_code list) ≡ false → AllByRecursion (IsAttribute pool place) list
    → AllByRecursion (MayStand pool place bare) list
allowed_all pool place bare [] none all = tt
allowed_all pool place bare (a ∷ list) none all =
    let parts = apart bare (is_code_layer (out-Attribute a)) (has_code list) none in
    (record { shaped = all.0; allowed = parts.0 }, allowed_all pool place bare list parts.1 all.1)
  where
    apart : (b x y : Bool) → (b && (x || y)) ≡ false → (not (b && x) ≡ true) × ((b && y) ≡ false)
    apart false x y e = (refl, refl)
    apart true true y e = absurd (let h : true ≡ false = e in cc)
    apart true false y e = (refl, e)

attributes_none : (pool : Pool) (holder : Holder) (d : List ℕ) (bare : Bool) (list : List Attribute) → (bare && has_code list) ≡ false → IsAttributes pool (attribute_place holder d) list
    → misfits.attributes pool holder d bare list ≡ None
attributes_none pool holder d bare list none is =
    once_none (MayStand pool (attribute_place holder d) bare) (attributes.counts pool (attribute_place holder d)) (attributes.same pool) _ _ list (attributes.fair pool (attribute_place holder d))
    (λ n a fits second. attribute_none pool holder d bare list n a fits second) (is.each.0, allowed_all pool (attribute_place holder d) bare list none is.each.1) (once_there pool (attribute_place holder d) list is.once)

-- ---- members

field_none : (pool : Pool) (double : Bool) (n : ℕ) (m : Member) → IsField pool m → double ≡ false → misfits.field pool double n m ≡ None
unfolding misfits.field
field_none pool double n m is single =
    none_both _ _ (unless_true _ _ is.name)
    (none_both _ _ (unless_true _ _ (and_from _ (not double) is.descriptor (ap not single))) (attributes_none pool (holders.Field n) (descriptor_text pool m) false m.attributes refl is.attributes))

fields_none : (pool : Pool) (list : List Member) → IsMembers (IsField pool) pool list → misfits.fields pool list ≡ None
fields_none pool list is =
    once_none (IsField pool) (λ m. true) (are_same pool) _ _ list (members.fair pool) (λ n m fits single. field_none pool _ n m fits single) is.each is.once

code_there : (bare has : Bool) → has ≡ not bare → ((bare && has) ≡ false) × (cond bare (not has) has ≡ true)
code_there true has e = (e, ap not e)
code_there false has e = (refl, e)

method_none : (pool : Pool) (double : Bool) (n : ℕ) (m : Member) → IsMethod pool m → double ≡ false → misfits.method pool double n m ≡ None
unfolding misfits.method
method_none pool double n m is single =
    let code = code_there (is_bare m.flags) (has_code m.attributes) is.code in
    none_both _ _ (unless_true _ _ is.name)
    (none_both _ _ (unless_true _ _ (and_from _ (not double) is.descriptor (ap not single)))
    (none_both _ _ (attributes_none pool (holders.Method n) [] (is_bare m.flags) m.attributes code.0 is.attributes) (unless_true _ _ code.1)))

methods_none : (pool : Pool) (list : List Member) → IsMembers (IsMethod pool) pool list → misfits.methods pool list ≡ None
methods_none pool list is =
    once_none (IsMethod pool) (λ m. true) (are_same pool) _ _ list (members.fair pool) (λ n m fits single. method_none pool _ n m fits single) is.each is.once

-- ---- the class

pub pool_none : (p : Pool) → IsPool p → pools.misfit p ≡ None
pool_none p is = sym (misfit_few p is.counted) ∙ complete p 1 false p.constants is.constants is.seconds is.targets

pub class_none : (c : Class) → Shaped c → misfit c ≡ None
unfolding misfit
class_none c is =
    let head = none_both _ _ (unless_true _ _ (and_from (leb 52 c.major) (leb c.major 65) (le-leb 52 c.major is.oldest) (le-leb c.major 65 is.newest)))
    (none_both _ _ (pool_none c.pool is.pool) (none_both _ _ (unless_true _ _ is.this_class) (unless_true _ _ is.super_class))) in
    let interfaces : misfits.interfaces c.pool c.interfaces ≡ None = counted_none _ _ _ c.interfaces (λ n index fits. unless_true _ _ fits) is.interfaces in
    let lists = none_both _ _ interfaces (none_both _ _ (fields_none c.pool c.fields is.fields) (none_both _ _ (methods_none c.pool c.methods is.methods) (attributes_none c.pool holders.Class [] false c.attributes refl is.attributes))) in
    none_both _ _ head lists
