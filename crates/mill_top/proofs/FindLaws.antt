-- Laws of what is found in lists.
use Rattle.std.proofs.Common.{◌≡◌, Bool, true, false, cond, ◌||◌, List, [], ◌∷◌, Option, Some, None, refl, sym, ap, subst, ◌∙◌}
use Rattle.std.specs.List.{AllByRecursion, cons_option, filter_map, find, list_any}
use Rattle.std.specs.Option.{option_map, option_or}
use Rattle.std.proofs.lemmas.Bool.{or_left, or_right}

-- neither of two is there
pub neither : {T : Type 0} (first second : Option T) → option_or first second ≡ None → (first ≡ None) × (second ≡ None)
neither None second e = (refl, e)
neither (Some x) second e = cc

pub unmapped : {T U : Type 0} (f : T → U) (found : Option T) → option_map f found ≡ None → found ≡ None
unmapped f None e = refl
unmapped f (Some x) e = cc

-- what is found passes the test
passes-by : {T : Type 0} (test : T → Bool) (own : T) (rest : Option T) (found : T) (own_passes : Bool) → test own ≡ own_passes
    → (rest ≡ Some found → test found ≡ true) → cond own_passes (Some own) rest ≡ Some found → test found ≡ true
passes-by test own rest found true is later e = let same : own ≡ found = cc in ap test (sym same) ∙ is
passes-by test own rest found false is later e = later e

pub passes : {T : Type 0} (test : T → Bool) (items : List T) (found : T) → find test items ≡ Some found → test found ≡ true
passes test [] found e = cc
passes test (own ∷ items) found e = passes-by test own (find test items) found (test own) refl (passes test items found) e

-- where no item passes a test, one that another test finds doesn't
fails-by : {T : Type 0} (test : T → Bool) (own : T) (rest none : Option T) (found : T) (own_found own_passes : Bool) → test own ≡ own_passes
    → (rest ≡ Some found → none ≡ None → test found ≡ false) → cond own_found (Some own) rest ≡ Some found → cond own_passes (Some own) none ≡ None
    → test found ≡ false
fails-by test own rest none found own_found true is later e n = cc
fails-by test own rest none found true false is later e n = let same : own ≡ found = cc in ap test (sym same) ∙ is
fails-by test own rest none found false false is later e n = later e n

pub fails : {T : Type 0} (search test : T → Bool) (items : List T) (found : T) → find search items ≡ Some found → find test items ≡ None → test found ≡ false
fails search test [] found e n = cc
fails search test (own ∷ items) found e n =
    fails-by test own (find search items) (find test items) found (search own) (test own) refl (fails search test items found) e n

-- what holds of each item holds of one that is found
holds-by : {T : Type 0} (P : T → Type 0) (own : T) (rest : Option T) (found : T) (own_passes : Bool) → P own → (rest ≡ Some found → P found)
    → cond own_passes (Some own) rest ≡ Some found → P found
holds-by P own rest found true one later e = let same : own ≡ found = cc in subst P same one
holds-by P own rest found false one later e = later e

pub holds-found : {T : Type 0} (P : T → Type 0) (test : T → Bool) (items : List T) (found : T) → AllByRecursion P items → find test items ≡ Some found → P found
holds-found P test [] found all e = cc
holds-found P test (own ∷ items) found all e = holds-by P own (find test items) found (test own) all.0 (holds-found P test items found all.1) e

-- what holds of all that a function gives holds of what it gives of a list
given-by : {T : Type 0} (P : T → Type 0) (given : Option T) (rest : List T) → ((x : T) → given ≡ Some x → P x) → AllByRecursion P rest
    → AllByRecursion P (cons_option given rest)
given-by P None rest one all = all
given-by P (Some x) rest one all = (one x refl, all)

pub holds-given : {S T : Type 0} (P : T → Type 0) (f : S → Option T) (items : List S) → ((item : S) (x : T) → f item ≡ Some x → P x)
    → AllByRecursion P (filter_map f items)
holds-given P f [] each = tt
holds-given P f (item ∷ items) each = given-by P (f item) (filter_map f items) (each item) (holds-given P f items each)

-- what holds of each item makes another thing hold of it
pub all-weaker : {T : Type 0} (P Q : T → Type 0) (items : List T) → ((x : T) → P x → Q x) → AllByRecursion P items → AllByRecursion Q items
all-weaker P Q [] weaker all = tt
all-weaker P Q (x ∷ items) weaker all = (weaker x all.0, all-weaker P Q items weaker all.1)

-- some item passes a test that is easier
any-easier-by : (a b c d : Bool) → (a ≡ true → c ≡ true) → (b ≡ true → d ≡ true) → (a || b) ≡ true → (c || d) ≡ true
any-easier-by true b c d first second e = or_left c d (first refl)
any-easier-by false b c d first second e = or_right c d (second e)

pub any-easier : {T : Type 0} (test easier : T → Bool) (items : List T) → ((x : T) → test x ≡ true → easier x ≡ true) → list_any test items ≡ true → list_any easier items ≡ true
any-easier test easier [] each e = cc
any-easier test easier (x ∷ items) each e =
    any-easier-by (test x) (list_any test items) (easier x) (list_any easier items) (each x) (any-easier test easier items each) e
