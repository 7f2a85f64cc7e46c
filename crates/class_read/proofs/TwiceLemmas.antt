-- The least name that comes twice.
use Rattle.std.proofs.Common.{◌≡◌, ℕ, ◌+◌, ◌<◌, true, false, cond, List, [], ◌∷◌, length, drop, get_or, Option, Some, None, is_some, refl, sym, ap, ◌∙◌, subst, inl, inr, arith}
use Rattle.std.specs.Prelude.{All, is_none}
use Rattle.std.specs.Cmp.Lexicographic.{slice_cmp, nat_list_cmp_total}
use Rattle.std.specs.Ordering.{nat_cmp, is_gt}
use Rattle.std.proofs.lemmas.Bool.{cases_Bool}
use Rattle.std.proofs.lemmas.Cmp.{upto}
use Rattle.std.proofs.lemmas.List.{drop_more}
use Rattle.std.proofs.lemmas.List.Elements.{All-nil, All-cons, All-head, All-tail}
use Rattle.jvm_tables.specs.Externals.{external_of}
use Rattle.class_model.specs.declared.class_file.Class.{Class}
use Rattle.class_model.specs.ModifiedUtf8.{IsName}
use Rattle.class_model.specs.Programs.{HasDistinctNames, IsLeastDouble}
use Rattle.class_model.specs.Shape.{Shaped, class_name}
use Rattle.class_model.proofs.NameOfClass.{class_name-IsName}
use Rattle.class_index.specs.Least.{IsIn, IsLeast, lesser_of, least_from}
use Rattle.class_index.proofs.Leasts.{least_is, least_none, lesser_first, lesser_second}
use Rattle.class_verify.specs.Programs.{HasOwnNames}
use Rattle.class_read.specs.Twice.{external_names, IsTwice}

-- the least of the names up to a class that is next
abbrev pub next_least : Option (List ℕ) → Class → Option (List ℕ)
next_least least c = cond (is_some (external_of (class_name c))) (Some (lesser_of least (class_name c))) least

one_external : (least : Option (List ℕ)) (c : Class) (classes : List Class) → least_from least (external_names (c ∷ classes)) ≡ least_from (next_least least c) (external_names classes)
one_external least c classes = elim (cases_Bool (is_some (external_of (class_name c)))) [ inl t ↦ rw t refl | inr f ↦ rw f refl ]

pub external_more : (least next : Option (List ℕ)) (classes : List Class) (i : ℕ) (c : Class) → i < length classes → c ≡ get_or classes i c → next ≡ next_least least c
    → least_from least (external_names (drop i classes)) ≡ least_from next (external_names (drop (i + 1) classes))
external_more least next classes i c h is e =
    ap (λ (cs : List Class). least_from least (external_names cs)) (drop_more classes i c h ∙ ap (λ (x : Class). x ∷ drop (i + 1) classes) (sym is))
    ∙ one_external least c (drop (i + 1) classes)
    ∙ ap (λ (o : Option (List ℕ)). least_from o (external_names (drop (i + 1) classes))) (sym e)

-- the names of shaped classes are names
pub external_IsName : (classes : List Class) (name : List ℕ) → All Shaped classes → IsIn name (external_names classes) → IsName name
external_IsName [] name all is = absurd is
external_IsName (c ∷ classes) name all is = elim (cases_Bool (is_some (external_of (class_name c)))) [
  | inl t ↦ elim (rw t at is) [
    | inl e ↦ subst IsName e (class_name-IsName c (All-head Shaped c classes all))
    | inr more ↦ external_IsName classes name (All-tail Shaped c classes all) more
  ]
  | inr f ↦ external_IsName classes name (All-tail Shaped c classes all) (rw f at is)
]

pub least_external_IsName : (classes : List Class) (name : List ℕ) → All Shaped classes → least_from None (external_names classes) ≡ Some name → IsName name
least_external_IsName classes name all e = external_IsName classes name all (least_is (external_names classes) name e).among

abbrev Own : Class → Type 0
Own c = is_none (external_of (class_name c)) ≡ true

none_of : {A : Type 0} (o : Option A) → is_some o ≡ false → is_none o ≡ true
none_of None e = refl
none_of (Some x) e = cc

some_of : {A : Type 0} (o : Option A) → is_some o ≡ true → is_none o ≡ true → ⊥
some_of None s n = cc
some_of (Some x) s n = cc

own_of : (classes : List Class) → external_names classes ≡ [] → HasOwnNames classes
own_of [] e = All-nil Own
own_of (c ∷ classes) e = elim (cases_Bool (is_some (external_of (class_name c)))) [
  | inl t ↦ absurd (let some : class_name c ∷ external_names classes ≡ [] = rw t at e in cc)
  | inr f ↦ All-cons Own c classes (none_of (external_of (class_name c)) f) (own_of classes (rw f at e))
]

pub own_names : (classes : List Class) → least_from None (external_names classes) ≡ None → HasOwnNames classes
own_names classes e = own_of classes (least_none (external_names classes) e)

pub none_external : (classes : List Class) (name : List ℕ) → HasOwnNames classes → IsIn name (external_names classes) → ⊥
none_external [] name own is = is
none_external (c ∷ classes) name own is = elim (cases_Bool (is_some (external_of (class_name c)))) [
  | inl t ↦ some_of (external_of (class_name c)) t (All-head Own c classes own)
  | inr f ↦ none_external classes name (All-tail Own c classes own) (rw f at is)
]

-- the least external name, where no two classes have one name
pub external_least : (classes : List Class) (name : List ℕ) → HasDistinctNames classes → least_from None (external_names classes) ≡ Some name → IsLeast (IsTwice classes) name
external_least classes name distinct e =
    let is = least_is (external_names classes) name e in
    record {
      among = inr is.among;
      least = λ other twice. elim twice [ inl two ↦ absurd (omega (arith, two, distinct other)) | inr more ↦ is.least other more ];
    }

-- the lesser of the least name of two classes and the least external name
pub lesser_least : (classes : List Class) (name : List ℕ) (external : Option (List ℕ)) → IsLeastDouble name classes → external ≡ least_from None (external_names classes) → IsLeast (IsTwice classes) (lesser_of external name)
lesser_least classes name None double e =
    let none = least_none (external_names classes) (sym e) in
    record {
      among = inl double.twice;
      least = λ other twice. elim twice [ inl two ↦ double.least other two | inr more ↦ absurd (subst (IsIn other) none more) ];
    }
lesser_least classes name (Some external) double e =
    let is = least_is (external_names classes) external (sym e) in
    record {
      among = elim (cases_Bool (is_gt (slice_cmp nat_cmp external name))) [ inl t ↦ rw t (inl double.twice) | inr f ↦ rw f (inr is.among) ];
      least = λ other twice. elim twice [
        | inl two ↦ upto nat_list_cmp_total (lesser_of (Some external) name) name other (lesser_second (Some external) name) (double.least other two)
        | inr more ↦ upto nat_list_cmp_total (lesser_of (Some external) name) external other (lesser_first external name) (is.least other more)
      ];
    }
