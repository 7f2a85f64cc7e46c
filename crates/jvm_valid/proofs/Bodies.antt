-- The body of a task begins in a valid state.
use Rattle.std.proofs.Common.{◌≡◌, ℕ, true, cond, List, [], ◌∷◌, ◌++◌, Option, Some, None, refl, sym, ap, ◌∙◌, subst, arith}
use Rattle.std.specs.Prelude.{filter_map, option_map, unwrap_or, Contains}
use Rattle.jvm_tables.specs.declared.instruction.ValueKind.TheVariants as values
use Rattle.class_model.specs.declared.class_file.Class.{Class}
use Rattle.class_model.specs.Descriptors.{MethodType, method_type}
use Rattle.class_model.specs.Shape.{is_static}
use Rattle.class_code.specs.Types.{kind, signature, parameter_kinds}
use Rattle.class_verify.specs.Frames.{first_kinds}
use Rattle.jvm_heap.specs.Heaps.{empty}
use Rattle.native_model.specs.Worlds.{NamedHeap}
use Rattle.jvm_model.specs.Plans.{end_of}
use Rattle.jvm_model.specs.Programs.{oracle}
use Rattle.jvm_model.specs.States.{of_method, Shared, State, state}
use Rattle.jvm_model.specs.Frames.{goes, first_frame, started_by, started}
use Rattle.jvm_model.specs.Concatenating.{parameter_types}
use Rattle.jvm_model.specs.Bodies.{Task, first_shared}
use Rattle.jvm_valid.specs.Values.{AreValues}
use Rattle.jvm_valid.specs.Heaps.{IsHeap}
use Rattle.jvm_valid.specs.Sharing.{IsShared}
use Rattle.jvm_valid.specs.Frames.{StandsIn}
use Rattle.jvm_valid.specs.Laws.{EachBodyBegins}
use Rattle.jvm_valid.proofs.Growing.{Grows}
use Rattle.jvm_valid.proofs.Placing.{empty_is_heap}
use Rattle.jvm_valid.proofs.Arguments.{arguments_are}
use Rattle.jvm_valid.proofs.Begins.{first_stands}

none_begun : {X : Type 0} {x : X} → Contains [] x → ⊥
none_begun {X} {x} c = omega (arith, c.1)

-- no class is initialised yet
first_is_shared : (program : List Class) (task : Task) (h : NamedHeap) → IsHeap program h → IsShared program (first_shared task h)
first_is_shared program task h heap = record {
  heap = heap;
  classes = λ class begun. absurd (none_begun begun.1);
  statics = λ field is begun. absurd (none_begun begun.1);
}

-- the kinds of the parameters are those of their types
kinds_by : (m : Option MethodType)
    → filter_map kind (unwrap_or (option_map (λ t. t.parameters) m) []) ≡ unwrap_or (option_map (λ s. s.takes) (option_map signature m)) []
kinds_by None = refl
kinds_by (Some t) = refl

kinds_of_parameters : (descriptor : List ℕ) → filter_map kind (parameter_types descriptor) ≡ parameter_kinds descriptor
kinds_of_parameters descriptor = kinds_by (method_type descriptor)

static_kinds : (flags : ℕ) (descriptor : List ℕ) → is_static flags ≡ true → first_kinds flags descriptor ≡ parameter_kinds descriptor
static_kinds flags descriptor static = ap (λ b. cond b [] (values.Reference ∷ []) ++ parameter_kinds descriptor) static

pub each_body_begins : EachBodyBegins
unfolding oracle started
each_body_begins program task given ready verified is =
    let are : Grows program empty ready.1 × AreValues ready.1 (filter_map kind (parameter_types task.method.descriptor)) ready.0 =
    arguments_are program (parameter_types task.method.descriptor) given empty ready (empty_is_heap program) is.fit is.placed in
    let kinds : filter_map kind (parameter_types task.method.descriptor) ≡ first_kinds is.member.flags task.method.descriptor =
    kinds_of_parameters task.method.descriptor ∙ sym (static_kinds is.member.flags task.method.descriptor is.static) in
    let own : AreValues ready.1 (first_kinds is.member.flags task.method.descriptor) ready.0 =
    subst (λ ks. AreValues ready.1 ks ready.0) kinds are.1 in
    let stands : StandsIn program ready.1 (first_frame task.method is.row ready.0) =
    first_stands program ready.1 task.method ready.0 is.class is.member is.code is.row verified is.method is.told own in
    let s : Shared = first_shared task ready.1 in
    let first : State = state s (of_method (first_frame task.method is.row ready.0) ∷ []) in
    let ends_so : end_of (oracle program) (started_by [] s task.method ready.0 (Some is.row)) ≡ goes first = refl in
    let begins : end_of (oracle program) (started [] s task.method ready.0) ≡ goes first =
    ap (λ o. end_of (oracle program) (started_by [] s task.method ready.0 o)) is.told ∙ ends_so in
    (first, begins, record { shared = first_is_shared program task ready.1 are.0.heap; frames = (stands, refl) })
