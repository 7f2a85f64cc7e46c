-- How classes are initialised (JVMS 5.5).
use Rattle.std.specs.Prelude.{ℕ, pos, Bool, true, false, ◌&&◌, List, [], ◌∷◌, ◌++◌, map, codes, bytes_eq, Option, Some, None, option_map, option_and_then, if◌then◌else◌}
use Rattle.std.specs.Int.{w32, w64, cast_signed}
use Rattle.jvm_tables.specs.declared.instruction.ValueKind.{ValueKind}
use Rattle.jvm_tables.specs.declared.instruction.ValueKind.TheVariants as values
use Rattle.jvm_tables.specs.Externals.{external_of}
use Rattle.jvm_tables.specs.Natives.{is_throwable, is_list}
use Rattle.class_model.specs.declared.identifiers.MemberRef.{MemberRef}
use Rattle.class_code.specs.Named.{Named}
use Rattle.class_code.specs.Named as named
use Rattle.class_code.specs.Types.{kind_of}
use Rattle.line_text.specs.Lines.{units_of_name}
use Rattle.jvm_heap.specs.declared.slot.Slot.{Slot}
use Rattle.jvm_heap.specs.declared.slot.Slot.TheVariants.{Top, Int, Long, Ref}
use Rattle.jvm_heap.specs.Objects.{plain, throwable, enumerated, text, boxed_int, boxed_long, boxed_boolean, listed, builder}
use Rattle.jvm_heap.specs.Heaps.{constant_text}
use Rattle.native_model.specs.declared.budget.Budget.TheVariants as budgets
use Rattle.native_model.specs.Worlds.{NamedObject, NamedHeap}
use Rattle.native_model.specs.Thrown.{absent_class}
use Rattle.jvm_model.specs.Plans.{Layout, StaticField, Initialiser, Level, Plan}
use Rattle.jvm_model.specs.States.{InitialisingFrame, Frame, initialising, Shared, Pending, nothing}
use Rattle.jvm_model.specs.Frames.{Move, runs_dry, in_heap, raised, started}

-- static fields

abbrev pub same_member : MemberRef → MemberRef → Bool
same_member a b = bytes_eq a.owner b.owner && bytes_eq a.name b.name && bytes_eq a.descriptor b.descriptor

abbrev pub static_value : List (MemberRef × Slot) → MemberRef → Option Slot
static_value [] field = None
static_value (entry ∷ statics) field = if same_member entry.0 field then Some entry.1 else static_value statics field

abbrev pub with_static : List (MemberRef × Slot) → MemberRef → Slot → List (MemberRef × Slot)
with_static [] field slot = (field, slot) ∷ []
with_static (entry ∷ statics) field slot =
    if same_member entry.0 field then (field, slot) ∷ statics else entry ∷ with_static statics field slot

abbrev pub zero_of_kind : Option ValueKind → Slot
zero_of_kind None = Top
zero_of_kind (Some values.Int) = Int (pos 0)
zero_of_kind (Some values.Long) = Long (pos 0)
zero_of_kind (Some values.Reference) = Ref 0

-- the default value of a field (JVMS 2.3, 2.4); one of float or double is never read
abbrev pub zero_of_field : List ℕ → Slot
zero_of_field descriptor = zero_of_kind (kind_of descriptor)

abbrev pub made_of_constant : List ℕ → NamedHeap → Option Named → Option (Slot × NamedHeap)
made_of_constant descriptor h (Some (named.int n)) = Some (Int (cast_signed w32 n), h)
made_of_constant descriptor h (Some (named.long n)) = Some (Long (cast_signed w64 n), h)
made_of_constant descriptor h (Some (named.text bytes)) = option_map (λ made. (Ref made.0, made.1)) (constant_text (units_of_name bytes) h)
made_of_constant descriptor h _ = Some (zero_of_field descriptor, h)

abbrev pub field_ref : List ℕ → StaticField → MemberRef
field_ref class f = record { owner = class; name = f.name; descriptor = f.descriptor }

-- the static fields of a class with their constants, or else their default values
abbrev pub first_statics : List ℕ → List StaticField → NamedHeap → Option (List (MemberRef × Slot) × NamedHeap)
first_statics class [] h = Some ([], h)
first_statics class (f ∷ fields) h =
    option_and_then (λ one. option_map (λ more. ((field_ref class f, one.0) ∷ more.0, more.1)) (first_statics class fields one.1))
    (made_of_constant f.descriptor h f.constant)

abbrev pub begun_with : List ℕ → Shared → List (MemberRef × Slot) × NamedHeap → Shared
begun_with class s made =
    record { world = (in_heap made.1 s).world; statics = made.0 ++ s.statics; initialised = (class, false) ∷ s.initialised }

-- A class is in progress, with its static fields. None where the cells don't suffice.
abbrev pub begun : Initialiser → Shared → Option Shared
begun i s = option_map (begun_with i.class s) (first_statics i.class i.fields s.world.heap)

-- whether a class is initialised or in progress, and then whether it failed
abbrev pub status : List ℕ → List (List ℕ × Bool) → Option Bool
status class [] = None
status class (entry ∷ classes) = if bytes_eq entry.0 class then Some entry.1 else status class classes

-- the fields of objects

abbrev pub default_slots : List MemberRef → List Slot
default_slots fields = map (λ f. zero_of_field f.descriptor) fields

abbrev pub of_external : List ℕ → NamedObject
of_external class =
    if bytes_eq class (codes "java/lang/String") then text []
    else if bytes_eq class (codes "java/lang/StringBuilder") then builder []
    else if bytes_eq class (codes "java/lang/Integer") then boxed_int (pos 0)
    else if bytes_eq class (codes "java/lang/Long") then boxed_long (pos 0)
    else if bytes_eq class (codes "java/lang/Boolean") then boxed_boolean false
    else if is_list (external_of class) then listed class []
    else plain class []

-- a new object of a class: by the first external class at or above it a throwable, an enum or another
abbrev pub object_by : List ℕ → Layout → NamedObject
object_by class l =
    if is_throwable (external_of l.root) then throwable class (default_slots l.fields) 0 0
    else if bytes_eq l.root (codes "java/lang/Enum") then enumerated class (default_slots l.fields) 0 (pos 0)
    else if bytes_eq l.root class then of_external class
    else plain class (default_slots l.fields)

-- frames

abbrev pub frame_of : Level → Pending → InitialisingFrame
frame_of l pending =
    record { class = l.own.class; interfaces = l.interfaces; has_method = l.own.has_method; pending = pending }

abbrev pub initializer_of : List ℕ → MemberRef
initializer_of class = record { owner = class; name = codes "<clinit>"; descriptor = codes "()V" }

abbrev pub with_interfaces : List Initialiser → InitialisingFrame → InitialisingFrame
with_interfaces interfaces i = record { class = i.class; interfaces = interfaces; has_method = i.has_method; pending = i.pending }

abbrev pub running : InitialisingFrame → InitialisingFrame
running i = record { class = i.class; interfaces = []; has_method = false; pending = i.pending }

-- an interface initialises nothing else
abbrev pub interface_frame : Initialiser → InitialisingFrame
interface_frame x = record { class = x.class; interfaces = []; has_method = false; pending = nothing }

-- the class's own `<clinit>` runs, and where it has none or it has run, what was pending goes on
abbrev pub own_method : InitialisingFrame → List Frame → Shared → (Pending → Shared → Plan Move) → Plan Move
own_method i frames s done =
    if i.has_method then started (initialising (running i) ∷ frames) s (initializer_of i.class) [] else done i.pending s

abbrev pub interface_begun : Initialiser → List Initialiser → InitialisingFrame → List Frame → (Shared → Plan Move) → Option Shared → Shared → Plan Move
interface_begun x interfaces i frames next None s = runs_dry budgets.Cells s
interface_begun x interfaces i frames next (Some t) s =
    if x.has_method
    then started (initialising (interface_frame x) ∷ initialising (with_interfaces interfaces i) ∷ frames) t (initializer_of x.class) []
    else next t

abbrev pub interface_by : Option Bool → Initialiser → List Initialiser → InitialisingFrame → List Frame → (Shared → Plan Move) → Shared → Plan Move
interface_by None x interfaces i frames next s = interface_begun x interfaces i frames next (begun x s) s
interface_by (Some false) x interfaces i frames next s = next s
interface_by (Some true) x interfaces i frames next s = raised (initialising (with_interfaces interfaces i) ∷ frames) s (absent_class x.class)

-- the superinterfaces one after another, then its own method
abbrev pub interfaces_further : List Initialiser → InitialisingFrame → List Frame → (Pending → Shared → Plan Move) → Shared → Plan Move
interfaces_further [] i frames done s = own_method i frames s done
interfaces_further (x ∷ interfaces) i frames done s =
    interface_by (status x.class s.initialised) x interfaces i frames (λ t. interfaces_further interfaces i frames done t) s

-- a class goes on to be initialised, when its superclass is
unfoldable pub initialised_further : InitialisingFrame → List Frame → (Pending → Shared → Plan Move) → Shared → Plan Move
initialised_further i frames done s = interfaces_further i.interfaces i frames done s

abbrev pub begun_or_out : Option Shared → Shared → (Shared → Plan Move) → Plan Move
begun_or_out None s next = runs_dry budgets.Cells s
begun_or_out (Some t) s next = next t

abbrev pub level_by : Option Bool → Level → List Frame → Shared → (Shared → Plan Move) → (Shared → Plan Move) → Plan Move
level_by None l frames s begins done = begun_or_out (begun l.own s) s begins
level_by (Some false) l frames s begins done = done s
level_by (Some true) l frames s begins done = raised frames s (absent_class l.own.class)

-- Superclasses first: each class is in progress while those above it are initialised.
abbrev pub superclasses : List Level → List Frame → (Shared → Plan Move) → Shared → Plan Move
superclasses [] frames done s = done s
superclasses (l ∷ levels) frames done s =
    level_by (status l.own.class s.initialised) l frames s
    (superclasses levels (initialising (frame_of l nothing) ∷ frames) (initialised_further (frame_of l nothing) frames (λ pending t. done t)))
    done

-- A class by its levels is initialised, and then what is pending is done.
unfoldable pub initialised_by : List Level → List Frame → (Pending → Shared → Plan Move) → Pending → Shared → Plan Move
initialised_by [] frames done pending s = done pending s
initialised_by (l ∷ levels) frames done pending s =
    level_by (status l.own.class s.initialised) l frames s
    (superclasses levels (initialising (frame_of l pending) ∷ frames) (initialised_further (frame_of l pending) frames done))
    (λ t. done pending t)
