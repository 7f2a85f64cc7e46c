-- The first method of several, and the first class, that doesn't fit.
use Rattle.std.proofs.Common.{◌≡◌, ℕ, ◌+◌, ◌<◌, ◌≤◌, true, false, List, ◌∷◌, ◌++◌, length, take, drop, get_or, Option, Some, None, Result, Ok, Err, refl, sym, ap, ◌∙◌, subst, arith}
use Rattle.std.specs.Prelude.{All, Contains, MatchOption, IfOk}
use Rattle.std.proofs.Math.Seq.{get_or-append_seam}
use Rattle.std.proofs.lemmas.List.{drop_more, take_all, take-append-drop, length-append}
use Rattle.std.proofs.lemmas.List.Elements.{All-more, All-contains}
use Rattle.class_model.specs.declared.class_file.Class.{Class}
use Rattle.class_model.specs.declared.class_file.Member.{Member}
use Rattle.class_model.specs.declared.identifiers.MethodId.{MethodId}
use Rattle.class_model.specs.Shape.{descriptor_text}
use Rattle.class_verify.specs.declared.cause.Cause.{Cause}
use Rattle.class_verify.specs.declared.cause.Cause.TheVariants as causes
use Rattle.class_verify.specs.declared.fault.VerifyFault.{VerifyFault}
use Rattle.class_verify.specs.declared.fault.VerifyFault.TheVariants as faults
use Rattle.class_verify.specs.Bodies.{Body}
use Rattle.class_verify.specs.Misfits.{BodyFits, IsFirstMisfit}
use Rattle.class_verify.specs.Programs.{IsFirstUnfit}
use Rattle.class_code.specs.Types.{has_float}
use Rattle.class_code.specs.Codes.{code_in, CodeParts}
use Rattle.class_verify.specs.Verified.{body_of, CodeFits, MethodFits, Fits, IsMethodMisfit, in_descriptor, in_code, IsNamed, fault_of, IsRefusal, named, memory, IsFirstIn, IsMisfitIn, IsMisfitOf}

-- a list round one of its items
pub around : {A : Type 0} (xs : List A) (i : ℕ) (x : A) → i < length xs → x ≡ get_or xs i x → xs ≡ take i xs ++ (x ∷ drop (i + 1) xs)
around xs i x h e =
    sym (take-append-drop i xs) ∙ ap (λ ys. take i xs ++ ys) (drop_more xs i x h ∙ ap (λ y. y ∷ drop (i + 1) xs) (sym e))

-- one more item of which a fact holds
pub one_more : {A : Type 0} (P : A → Type 0) (xs : List A) (i : ℕ) (x : A) → i < length xs → x ≡ get_or xs i x → All P (take i xs) → P x → All P (take (i + 1) xs)
one_more P xs i x h e before here = All-more P xs i x h before (subst P e here)

pub all_of_it : {A : Type 0} (P : A → Type 0) (xs : List A) (i : ℕ) → length xs ≤ i → All P (take i xs) → All P xs
all_of_it P xs i h all = subst (All P) (take_all i xs h) all

first_in : (class : Class) (methods : List Member) (i : ℕ) (m : Member) (id : MethodId) (pc : ℕ) (cause : Cause) → i < length methods → m ≡ get_or methods i m
    → All (MethodFits class) (take i methods) → IsMethodMisfit class m pc cause → IsNamed class m id → IsFirstIn class methods id pc cause
first_in class methods i m id pc cause h e before misfit n = record {
  front = take i methods;
  method = m;
  back = drop (i + 1) methods;
  order = around methods i m h e;
  before = before;
  named = n;
  misfit = misfit;
}

by_cause : (class : Class) (methods : List Member) (id : MethodId) (pc : ℕ) (cause : Cause) → IsFirstIn class methods id pc cause → IsMisfitIn class methods (fault_of id pc cause)
by_cause class methods id pc causes.FloatUsed f = (pc, f)
by_cause class methods id pc causes.BadCode f = f
by_cause class methods id pc causes.BadJump f = f
by_cause class methods id pc causes.UnknownBootstrap f = f
by_cause class methods id pc causes.BadFrame f = f

pub misfit_in : (class : Class) (methods : List Member) (i : ℕ) (m : Member) (pc : ℕ) (cause : Cause) (fault : VerifyFault) → i < length methods → m ≡ get_or methods i m
    → All (MethodFits class) (take i methods) → IsMethodMisfit class m pc cause → IsRefusal class m pc cause fault → IsMisfitIn class methods fault
misfit_in class methods i m pc cause fault h e before misfit (named id n) = by_cause class methods id pc cause (first_in class methods i m id pc cause h e before misfit n)
misfit_in class methods i m pc cause fault h e before misfit memory = tt

-- a method that fits has no misfit
unfit : (class : Class) (m : Member) (pc : ℕ) (cause : Cause) → MethodFits class m → IsMethodMisfit class m pc cause → ⊥
unfolding MethodFits
unfit class m pc cause fit (in_descriptor c e f) =
    let parts : (has_float (descriptor_text class.pool m) ≡ false) × ((pc : ℕ) (cause : Cause) → _ → ⊥) = subst (CodeFits class m) e fit in
    let clash : true ≡ false = sym f ∙ parts.0 in cc
unfit class m pc cause fit (in_code c p k e f first) =
    (subst (CodeFits class m) e fit).1 p k first.misfit

fits_among : (class : Class) (methods : List Member) (id : MethodId) (pc : ℕ) (cause : Cause) → All (MethodFits class) methods → IsFirstIn class methods id pc cause → ⊥
fits_among class methods id pc cause all f =
    let there : Contains (f.front ++ (f.method ∷ f.back)) f.method =
    (length f.front, omega (arith, length-append f.front (f.method ∷ f.back)), get_or-append_seam f.front f.method f.back f.method) in
    unfit class f.method pc cause (All-contains (MethodFits class) methods f.method all (subst (λ ms. Contains ms f.method) (sym f.order) there)) f.misfit

pub only_memory : (class : Class) (methods : List Member) (fault : VerifyFault) → All (MethodFits class) methods → IsMisfitIn class methods fault → fault ≡ faults.Memory
only_memory class methods (faults.FloatUsed id) all f = absurd (fits_among class methods id f.0 causes.FloatUsed all f.1)
only_memory class methods (faults.BadCode id pc) all f = absurd (fits_among class methods id pc causes.BadCode all f)
only_memory class methods (faults.BadJump id pc) all f = absurd (fits_among class methods id pc causes.BadJump all f)
only_memory class methods (faults.UnknownBootstrap id pc) all f = absurd (fits_among class methods id pc causes.UnknownBootstrap all f)
only_memory class methods (faults.BadFrame id pc) all f = absurd (fits_among class methods id pc causes.BadFrame all f)
only_memory class methods faults.Memory all f = refl

pub unfit_class : (classes : List Class) (i : ℕ) (class : Class) (fault : VerifyFault) → i < length classes → class ≡ get_or classes i class
    → All Fits (take i classes) → IsMisfitOf class fault → IsFirstUnfit classes fault
unfit_class classes i class fault h e before misfit = record {
  front = take i classes;
  class = class;
  back = drop (i + 1) classes;
  order = around classes i class h e;
  before = before;
  misfit = misfit;
}

-- a method without code fits
pub fits_without : (class : Class) (m : Member) → code_in m.attributes ≡ None → MethodFits class m
unfolding MethodFits
fits_without class m e = subst (CodeFits class m) (sym e) tt

pub misfit_of_descriptor : (class : Class) (m : Member) (c : CodeParts) → code_in m.attributes ≡ Some c → has_float (descriptor_text class.pool m) ≡ true
    → IsMethodMisfit class m 0 causes.FloatUsed
misfit_of_descriptor class m c e f = in_descriptor c e f

-- what is found in the code of a method is found of the method
pub judged : (class : Class) (m : Member) (c : CodeParts) (found : Option (ℕ × Cause)) → code_in m.attributes ≡ Some c → has_float (descriptor_text class.pool m) ≡ false
    → MatchOption found (BodyFits (body_of class m c)) (λ x. IsFirstMisfit (body_of class m c) x.0 x.1)
    → MatchOption found (MethodFits class m) (λ x. IsMethodMisfit class m x.0 x.1)
unfolding MethodFits
judged class m c None e f fits = subst (CodeFits class m) (sym e) (f, fits)
judged class m c (Some x) e f first = in_code c x.0 x.1 e f first

pub judged_ok : {E : Type 0} (class : Class) (m : Member) (c : CodeParts) (b : Body) (found : Result (Option (ℕ × Cause)) E) → b ≡ body_of class m c
    → code_in m.attributes ≡ Some c → has_float (descriptor_text class.pool m) ≡ false
    → IfOk found (λ o. MatchOption o (BodyFits b) (λ x. IsFirstMisfit b x.0 x.1))
    → IfOk found (λ o. MatchOption o (MethodFits class m) (λ x. IsMethodMisfit class m x.0 x.1))
judged_ok class m c b (Err fault) same e f is = tt
judged_ok class m c b (Ok found) same e f is =
    let J : Body → Type 0 = λ body. MatchOption found (BodyFits body) (λ x. IsFirstMisfit body x.0 x.1) in
    judged class m c found e f (subst J same is)
