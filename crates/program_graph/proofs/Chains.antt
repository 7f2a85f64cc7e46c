-- How what comes of each element follows along a list.
use Rattle.std.proofs.Common.{◌≡◌, List, [], ◌∷◌, ◌++◌, refl, sym, ◌∙◌, ap, append_assoc}
use Rattle.std.specs.declared.result.Result.{Result}
use Rattle.std.specs.declared.result.Result.TheVariants.{Ok, Err}
use Rattle.program_graph.specs.Results.{with_first, then_each}

-- what came of the elements so far, and then what comes of the others
abbrev pub prefixed : {A E : Type 0} → List A → Result (List A) E → Result (List A) E
prefixed before (Ok more) = Ok (before ++ more)
prefixed before (Err fault) = Err fault

pub prefixed_none : {A E : Type 0} (r : Result (List A) E) → prefixed [] r ≡ r
prefixed_none (Ok more) = refl
prefixed_none (Err fault) = refl

first_in : {A E : Type 0} (before : List A) (x : A) (more : Result (List A) E) → prefixed before (with_first x more) ≡ prefixed (before ++ x ∷ []) more
first_in before x (Ok more) = ap Ok (sym (append_assoc before (x ∷ []) more))
first_in before x (Err fault) = refl

pub prefixed_one : {A E : Type 0} (before : List A) (x : A) (one : Result A E) (more : Result (List A) E) → one ≡ Ok x
    → prefixed before (then_each one more) ≡ prefixed (before ++ x ∷ []) more
prefixed_one before x one more e = ap (λ r. prefixed before (then_each r more)) e ∙ first_in before x more

pub prefixed_fault : {A E : Type 0} (before : List A) (one : Result A E) (more : Result (List A) E) (fault : E) → one ≡ Err fault
    → prefixed before (then_each one more) ≡ Err fault
prefixed_fault before one more fault e = ap (λ r. prefixed before (then_each r more)) e
