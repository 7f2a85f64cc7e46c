-- What the code's values say: how an attempt ends, what a reference leads to, and the origin of a lambda.
use Rattle.std.specs.Prelude.{◌≡◌, Option, Some, None, Result, Ok, Err, IfSome}
use Rattle.class_model.specs.declared.identifiers.MemberId.{MemberId}
use Rattle.class_model.specs.declared.identifiers.SiteId.{SiteId}
use Rattle.class_model.specs.declared.identifiers.MemberRef.{MemberRef}
use Rattle.class_index.specs.Naming as naming
use Rattle.class_code.specs.Parts.{member_ref, lambda_site}
use Rattle.native_model.specs.Ends.{thrown_of}
use Rattle.native_model.specs.Worlds.{Origin}
use Rattle.jvm_model.specs.Attempts.{Tried, fine, raises, runs_out, is_stuck}
use Rattle.jvm_resolve.specs.declared.stop.Stop.{Stop}
use Rattle.jvm_resolve.specs.declared.stop.Stop.TheVariants as stops
use Rattle.jvm_resolve.specs.declared.lookups.Target.{Target}
use Rattle.jvm_resolve.specs.declared.lookups.Target.TheVariants as targets
use Rattle.jvm_resolve.specs.declared.lookups.OriginView.{OriginView}
use Rattle.jvm_resolve.specs.declared.callee.Callee.{Callee}
use Rattle.jvm_resolve.specs.declared.callee.Callee.TheVariants as callees
use Rattle.jvm_model.specs.Calls as calls

-- how an attempt ends; nothing is said of want of memory
abbrev pub tried : {A B : Type 0} → (A → B) → Result A Stop → Option (Tried B)
tried view (Ok a) = Some (fine (view a))
tried view (Err (stops.Throws t)) = Some (raises (thrown_of t))
tried view (Err (stops.Spends b)) = Some (runs_out b)
tried view (Err stops.Stuck) = Some is_stuck
tried view (Err stops.Memory) = None

-- An attempt ends as is defined.
abbrev pub EndsAs : {A B : Type 0} → (A → B) → Result A Stop → Tried B → Type 0
EndsAs view result defined = IfSome (tried view result) (λ end. defined ≡ end)

abbrev pub target_of : (MemberId → MemberRef) → Target → naming.Target
target_of named targets.Nowhere = naming.nowhere
target_of named targets.Abstract = naming.abstract_one
target_of named targets.Several = naming.one_of_several
target_of named (targets.Own method flags) = naming.own_method (named method) flags
target_of named (targets.Outer method) = naming.outer_method (member_ref method)

abbrev pub origin_of : OriginView → Origin
origin_of o = record { caller = o.caller.now; site = lambda_site o.site }

abbrev pub callee_seen : (MemberId → MemberRef) → (SiteId → Origin) → Callee → calls.Callee
callee_seen named origin (callees.Own method flags) = calls.own (named method) flags
callee_seen named origin (callees.Native at) = calls.table_row at
callee_seen named origin (callees.Lambda site captured) = calls.lambda_method (origin site) captured
