-- A method that is called begins in a valid state.
use Rattle.std.proofs.Common.{◌≡◌, Bool, true, false, cond, List, ◌∷◌, Option, Some, refl, sym, ap, ◌∙◌, subst}
use Rattle.std.specs.Prelude.{◌&&◌, flat_map, nat_lt}
use Rattle.jvm_tables.specs.declared.instruction.ValueKind.{ValueKind}
use Rattle.class_model.specs.declared.class_file.Class.{Class}
use Rattle.class_model.specs.declared.class_file.Member.{Member}
use Rattle.class_model.specs.declared.identifiers.MemberRef.{MemberRef}
use Rattle.class_model.specs.Shape.{descriptor_text}
use Rattle.class_code.specs.Codes.{CodeParts}
use Rattle.class_code.specs.Rows.{MethodRow}
use Rattle.class_code.specs.Types.{has_float}
use Rattle.class_verify.specs.declared.shape.Shape.{Shape}
use Rattle.class_verify.specs.Frames.{first_kinds}
use Rattle.class_verify.specs.Kinds.{all_fit, slots}
use Rattle.class_verify.specs.Laws.{IsMet}
use Rattle.class_verify.specs.LawsOfEntries.{IsEntry}
use Rattle.class_verify.specs.Misfits.{BodyFits}
use Rattle.class_verify.specs.Padding.{padded}
use Rattle.class_verify.specs.Programs.{IsVerified}
use Rattle.class_verify.specs.Verified.{limits_of, body_of}
use Rattle.class_verify.proofs.Entries.{each_entry_is_told}
use Rattle.class_verify.proofs.Given.{each_begins}
use Rattle.class_verify.proofs.Naming.{each_method_fits}
use Rattle.jvm_heap.specs.declared.slot.Slot.{Slot}
use Rattle.native_model.specs.declared.budget.Budget.TheVariants as budgets
use Rattle.native_model.specs.Worlds.{NamedHeap}
use Rattle.jvm_model.specs.Plans.{ends, end_of}
use Rattle.jvm_model.specs.Programs.{oracle, row_of_method}
use Rattle.jvm_model.specs.States.{of_method, Shared, State, state}
use Rattle.jvm_model.specs.Frames.{goes, runs_dry, counted, most_frames, first_locals, first_frame, started_by, started}
use Rattle.jvm_valid.specs.Values.{kinds_in, AreValues}
use Rattle.jvm_valid.specs.Frames.{IsMethod, StandsIn}
use Rattle.jvm_valid.specs.Valid.{IsValid}
use Rattle.jvm_valid.specs.Laws.{IsBegin, EachCallBegins}
use Rattle.jvm_valid.proofs.Slots.{kinds_in-first_locals, AreThere-first_locals}
use Rattle.jvm_valid.proofs.Methods.{class_among, member_among, descriptor_is, HasLimits, limits_are}

both : (a b : Bool) → (a && b) ≡ true → (a ≡ true) × (b ≡ true)
both true b e = (refl, e)
both false b e = cc

limit_is : (class : Class) (member : Member) (code : CodeParts) (row : MethodRow) → HasLimits code row → row.max_stack ≡ (body_of class member code).limits.stack
unfolding body_of
limit_is class member code row l = l.stack

-- a method's first frame fits the shape at its first instruction
pub first_stands : (program : List Class) (h : NamedHeap) (method : MemberRef) (xs : List Slot) (class : Class) (member : Member) (code : CodeParts) (row : MethodRow)
    → IsVerified program → IsMethod program method class member code → row_of_method program method ≡ Some row
    → AreValues h (first_kinds member.flags method.descriptor) xs → StandsIn program h (first_frame method row xs)
first_stands program h method xs class member code row verified is has are =
    let fits : (has_float (descriptor_text class.pool member) ≡ false) × BodyFits (body_of class member code) =
    each_method_fits program class member code verified (class_among program method class member code is) (member_among program method class member code is) is.has_code in
    let begun : (first : Shape) × ((body_of class member code).first ≡ Some first) × IsMet (body_of class member code) 0 first =
    each_begins (body_of class member code) fits.1 in
    let entry : IsEntry (limits_of code) (first_kinds member.flags (descriptor_text class.pool member)) begun.0 =
    each_entry_is_told class member code begun.0 begun.1 in
    let there : Shape = begun.2.0 in
    let fit : (all_fit begun.0.stack there.stack ≡ true) × (all_fit begun.0.locals there.locals ≡ true) =
    both (all_fit begun.0.stack there.stack) (all_fit begun.0.locals there.locals) begun.2.2 in
    let limits : HasLimits code row = limits_are program method class member code row is has in
    let named : descriptor_text class.pool member ≡ method.descriptor = descriptor_is program method class member code is in
    let locals : kinds_in (first_locals row.max_locals xs) ≡ begun.0.locals =
    kinds_in-first_locals h (first_kinds member.flags method.descriptor) xs row.max_locals are
    ∙ ap (λ n. padded n (flat_map slots (first_kinds member.flags method.descriptor))) limits.locals
    ∙ sym (entry.locals ∙ ap (λ d. padded code.max_locals (flat_map slots (first_kinds member.flags d))) named) in
    record {
      body = body_of class member code;
      shape = there;
      place = record {
        class = class;
        member = member;
        code = code;
        method = is;
        same = refl;
        there = begun.2.1;
        locals = ap (λ ks. all_fit ks there.locals) locals ∙ fit.1;
        limit = limit_is class member code row limits;
        variables = AreThere-first_locals h (first_kinds member.flags method.descriptor) xs row.max_locals are;
        operands = tt;
      };
      stack = ap (λ ks. all_fit ks there.stack) (sym entry.stack) ∙ fit.0;
    }

begins_by : (program : List Class) (wanted : Option ValueKind) (s : Shared) (t : State) (b : Bool) → IsValid program wanted t
    → IsBegin program wanted (end_of (oracle program) (cond b (ends (goes t)) (runs_dry budgets.Frames s)))
begins_by program wanted s t true valid = valid
begins_by program wanted s t false valid = tt

pub each_call_begins : EachCallBegins
unfolding oracle started
each_call_begins program wanted s frames method xs class member code row verified shared is has are await =
    let stands : StandsIn program s.world.heap (first_frame method row xs) =
    first_stands program s.world.heap method xs class member code row verified is has are in
    let valid : IsValid program wanted (state s (of_method (first_frame method row xs) ∷ frames)) =
    record { shared = shared; frames = (stands, await) } in
    subst (λ o. IsBegin program wanted (end_of (oracle program) (started_by frames s method xs o))) (sym has)
    (begins_by program wanted s (state s (of_method (first_frame method row xs) ∷ frames)) (nat_lt (counted frames) most_frames) valid)
