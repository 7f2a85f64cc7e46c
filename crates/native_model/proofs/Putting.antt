-- Files and lines that are put into the world of a body.
use Rattle.std.proofs.Common.{◌≡◌, ℕ, Bool, true, false, List, [], ◌∷◌, ◌++◌, refl, sym, subst, ap, ◌∙◌}
use Rattle.std.specs.Prelude.{nat_le, if◌then◌else◌, Option, Some, None, Result, Ok, Err, IfOk, OnErr}
use Rattle.std.specs.FinMap.Entries as entries
use Rattle.class_model.specs.declared.identifiers.ClassId.{ClassId}
use Rattle.class_model.specs.declared.identifiers.SiteId.{SiteId}
use Rattle.tree_value.specs.Trees.{path_cmp}
use Rattle.jvm_heap.specs.Heaps.{Heap}
use Rattle.native_model.specs.declared.budget.Budget.TheVariants as budgets
use Rattle.native_model.specs.declared.fault.StepFault.{StepFault}
use Rattle.native_model.specs.declared.native_end.NativeEnd.{NativeEnd}
use Rattle.native_model.specs.Worlds.{Origin, Surround, World, Placed}
use Rattle.native_model.specs.Outside.{dest_bytes, most_dest_bytes, dest_put, log_bytes, most_log_bytes, logged}
use Rattle.native_model.specs.Answers.{gives_nothing}
use Rattle.native_model.specs.Outside.{with_dest, with_log}
use Rattle.native_model.specs.Ends.{named_world, end_of_putting, Answers}

module _ {N : Type 0} (class_name : N → ClassId → List ℕ) (site_origin : N → SiteId → Origin) (n : N) (h : Heap ClassId SiteId) (surround : Option Surround) (owner : Option (List ℕ)) where
  abbrev shown : List (List ℕ × List ℕ) → List (List ℕ) → Placed N
  shown dest log = record { names = n; world = named_world (class_name n) (site_origin n) h dest log surround owner }

  file_there : {E : Type 0} (k v : List ℕ) (r : Result Bool E) (dest new : List (List ℕ × List ℕ)) (log : List (List ℕ)) → IfOk r (λ is. is ≡ nat_le (dest_bytes (entries.put path_cmp k v dest)) most_dest_bytes) → IfOk r (λ is. new ≡ (if is then entries.put path_cmp k v dest else dest)) → OnErr r (new ≡ dest) → Answers (dest_put (entries.put path_cmp k v dest) (shown dest log).world) (end_of_putting budgets.Dest r) (shown dest log) (shown new log)
  file_there k v (Ok true) dest new log fits put err =
      record {
        answer = rw (sym fits) (ap (λ files. gives_nothing (shown files log).world) (sym put));
        kept = tt;
        unmade = tt;
        names = refl;
      }
  file_there k v (Ok false) dest new log fits put err =
      record { answer = rw (sym fits) refl; kept = ap (λ files. (shown files log).world) put; unmade = tt; names = refl }
  file_there k v (Err e) dest new log fits put err =
      record { answer = tt; kept = tt; unmade = ap (λ files. (shown files log).world) err; names = refl }

  pub file_put : {E : Type 0} (path k v : List ℕ) (r : Result Bool E) (dest new : List (List ℕ × List ℕ)) (log : List (List ℕ)) (w : Placed N) (end : Result NativeEnd StepFault) → k ≡ path → shown dest log ≡ w → IfOk r (λ is. is ≡ nat_le (dest_bytes (entries.put path_cmp k v dest)) most_dest_bytes) → IfOk r (λ is. new ≡ (if is then entries.put path_cmp k v dest else dest)) → OnErr r (new ≡ dest) → end ≡ end_of_putting budgets.Dest r → Answers (dest_put (entries.put path_cmp path v w.world.dest) w.world) end w (shown new log)
  file_put path k v r dest new log w end same is fits put err ends =
      subst (λ p. Answers (dest_put (entries.put path_cmp p v w.world.dest) w.world) end w (shown new log)) same
      (subst (λ u. Answers (dest_put (entries.put path_cmp k v u.world.dest) u.world) end u (shown new log)) is
      (subst (λ e. Answers (dest_put (entries.put path_cmp k v dest) (shown dest log).world) e (shown dest log) (shown new log)) (sym ends) (file_there k v r dest new log fits put err)))

  line_there : {E : Type 0} (line : List ℕ) (r : Result Bool E) (dest : List (List ℕ × List ℕ)) (log new : List (List ℕ)) → IfOk r (λ is. is ≡ nat_le (log_bytes (log ++ line ∷ [])) most_log_bytes) → IfOk r (λ is. new ≡ (if is then log ++ line ∷ [] else log)) → OnErr r (new ≡ log) → Answers (logged (log ++ line ∷ []) (shown dest log).world) (end_of_putting budgets.Log r) (shown dest log) (shown dest new)
  line_there line (Ok true) dest log new fits put err =
      record {
        answer = rw (sym fits) (ap (λ lines. gives_nothing (shown dest lines).world) (sym put));
        kept = tt;
        unmade = tt;
        names = refl;
      }
  line_there line (Ok false) dest log new fits put err =
      record { answer = rw (sym fits) refl; kept = ap (λ lines. (shown dest lines).world) put; unmade = tt; names = refl }
  line_there line (Err e) dest log new fits put err =
      record { answer = tt; kept = tt; unmade = ap (λ lines. (shown dest lines).world) err; names = refl }

  pub line_put : {E : Type 0} (line : List ℕ) (r : Result Bool E) (dest : List (List ℕ × List ℕ)) (log new : List (List ℕ)) (w : Placed N) (end : Result NativeEnd StepFault) → shown dest log ≡ w → IfOk r (λ is. is ≡ nat_le (log_bytes (log ++ line ∷ [])) most_log_bytes) → IfOk r (λ is. new ≡ (if is then log ++ line ∷ [] else log)) → OnErr r (new ≡ log) → end ≡ end_of_putting budgets.Log r → Answers (logged (w.world.log ++ line ∷ []) w.world) end w (shown dest new)
  line_put line r dest log new w end is fits put err ends =
      subst (λ u. Answers (logged (u.world.log ++ line ∷ []) u.world) end u (shown dest new)) is
      (subst (λ e. Answers (logged (log ++ line ∷ []) (shown dest log).world) e (shown dest log) (shown dest new)) (sym ends) (line_there line r dest log new fits put err))
