-- Methods of a verified program: their code fits, and their rows are of it.
use Rattle.std.proofs.Common.{◌≡◌, Bool, true, false, cond, ◌&&◌, List, [], ◌∷◌, Option, Some, None, refl, sym, ap, ◌∙◌, subst}
use Rattle.std.specs.Prelude.{find, bytes_eq, Contains, option_map, option_and_then}
use Rattle.std.proofs.lemmas.List.Elements.{Contains-push, Contains-append_left, Contains-append_right}
use Rattle.std.proofs.lemmas.Slice.Eq.{bytes_eq-Decides}
use Rattle.class_model.specs.declared.class_file.Class.{Class}
use Rattle.class_model.specs.declared.class_file.Member.{Member}
use Rattle.class_model.specs.declared.identifiers.MemberRef.{MemberRef}
use Rattle.class_model.specs.Programs.{find_class}
use Rattle.class_model.specs.Shape.{class_name, name_text, descriptor_text}
use Rattle.class_code.specs.Codes.{CodeParts}
use Rattle.class_code.specs.Rows.{Line, MethodRow, row_with, lines, method_row}
use Rattle.jvm_model.specs.Programs.{is_method, row_in, row_of_method}
use Rattle.jvm_valid.specs.Frames.{IsMethod}

module _ {X : Type 0} (test : X → Bool) where
  abbrev Passes : List X → X → Type 0
  Passes xs x = (test x ≡ true) × Contains xs x

  found_by : (b : Bool) (y : X) (xs : List X) (x : X) → test y ≡ b → (find test xs ≡ Some x → Passes xs x) → cond b (Some y) (find test xs) ≡ Some x
      → Passes (y ∷ xs) x
  found_by true y xs x t more e =
      let same : y ≡ x = cc in
      subst (Passes (y ∷ xs)) same (t, Contains-append_left (y ∷ []) xs y (Contains-push [] y))
  found_by false y xs x t more e =
      let rest : Passes xs x = more e in
      (rest.0, Contains-append_right (y ∷ []) xs x rest.1)

-- what is found passes, and is among those that are looked at
pub found_among : {X : Type 0} (test : X → Bool) (xs : List X) (x : X) → find test xs ≡ Some x → (test x ≡ true) × Contains xs x
found_among {X} test [] x e = let no : None ≡ Some x = e in cc
found_among {X} test (y ∷ xs) x e = found_by test (test y) y xs x refl (found_among test xs x) e

both_true : (a b : Bool) → (a && b) ≡ true → (a ≡ true) × (b ≡ true)
both_true true b e = (refl, e)
both_true false b e = cc

pub class_among : (program : List Class) (method : MemberRef) (class : Class) (member : Member) (code : CodeParts)
    → IsMethod program method class member code → Contains program class
unfolding find_class
class_among program method class member code is =
    (found_among (λ c. bytes_eq method.owner (class_name c)) program class is.owner).1

pub member_among : (program : List Class) (method : MemberRef) (class : Class) (member : Member) (code : CodeParts)
    → IsMethod program method class member code → Contains class.methods member
member_among program method class member code is = (found_among (is_method method class.pool) class.methods member is.found).1

-- a method has the descriptor by which it is named
pub descriptor_is : (program : List Class) (method : MemberRef) (class : Class) (member : Member) (code : CodeParts)
    → IsMethod program method class member code → descriptor_text class.pool member ≡ method.descriptor
descriptor_is program method class member code is =
    let passes : is_method method class.pool member ≡ true = (found_among (is_method method class.pool) class.methods member is.found).0 in
    let texts : (bytes_eq (name_text class.pool member) method.name ≡ true) × (bytes_eq (descriptor_text class.pool member) method.descriptor ≡ true) =
    both_true (bytes_eq (name_text class.pool member) method.name) (bytes_eq (descriptor_text class.pool member) method.descriptor) passes in
    (bytes_eq-Decides (descriptor_text class.pool member) method.descriptor).0 texts.1

-- the row has the limits of the code
pub record HasLimits (code : CodeParts) (row : MethodRow) : Type 0 where
  pub stack : row.max_stack ≡ code.max_stack
  pub locals : row.max_locals ≡ code.max_locals

limits_by : (class : Class) (member : Member) (code : CodeParts) (row : MethodRow) (told : Option (List Line)) → option_map (row_with class member code) told ≡ Some row
    → HasLimits code row
limits_by class member code row None e = let no : None ≡ Some row = e in cc
limits_by class member code row (Some ls) e =
    let same : row_with class member code ls ≡ row = cc in
    record { stack = ap (λ (r : MethodRow). r.max_stack) (sym same); locals = ap (λ (r : MethodRow). r.max_locals) (sym same) }

pub limits_are : (program : List Class) (method : MemberRef) (class : Class) (member : Member) (code : CodeParts) (row : MethodRow)
    → IsMethod program method class member code → row_of_method program method ≡ Some row → HasLimits code row
unfolding method_row
limits_are program method class member code row is e =
    let in_class : row_of_method program method ≡ row_in method class = ap (λ o. option_and_then (row_in method) o) is.owner in
    let of_member : row_in method class ≡ method_row class member = ap (λ o. option_and_then (method_row class) o) is.found in
    let of_code : method_row class member ≡ option_map (row_with class member code) (lines class code.code) =
    ap (λ o. option_and_then (λ c. option_map (row_with class member c) (lines class c.code)) o) is.has_code in
    limits_by class member code row (lines class code.code) (sym of_code ∙ sym of_member ∙ sym in_class ∙ e)
