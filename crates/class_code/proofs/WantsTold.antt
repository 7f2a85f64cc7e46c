-- What an entry of the table of bootstrap methods wants tells which call sites have a site.
use Rattle.std.proofs.Common.{◌≡◌, ℕ, Bool, true, false, not, ◌&&◌, cond, List, [], ◌∷◌, ◌++◌, length, Option, Some, None, map, option_map, slice_get, refl, sym, ◌∙◌, ap}
use Rattle.std.specs.Prelude.{◌==◌, nat_le, count_by, is_none, option_and_then, unwrap_or}
use Rattle.std.specs.List.{list_all}
use Rattle.std.proofs.lemmas.Option.{slice_get-map}
use Rattle.class_model.specs.declared.attribute_forms.Bootstrap.{Bootstrap}
use Rattle.class_model.specs.declared.class_file.Class.{Class}
use Rattle.class_model.specs.declared.constant_pool.Pool.{Pool}
use Rattle.class_model.specs.declared.identifiers.MemberRef.{MemberRef}
use Rattle.class_model.specs.Constants.{constant_at, is_some_that}
use Rattle.class_code.specs.declared.descriptors.CallKinds.{CallKinds}
use Rattle.class_code.specs.declared.wants.SiteWants.{SiteWants}
use Rattle.class_code.specs.Bootstraps.{table_in, bootstraps_of, bootstrap_at, metafactory, concatenating, is_bootstrap_by}
use Rattle.class_code.specs.Constants.{name_at, descriptor_at}
use Rattle.class_code.specs.Descriptors.{call_kinds, call_of}
use Rattle.class_code.specs.Named.{HandleRef, handle_at, handle_with, method_type_at}
use Rattle.class_code.specs.Sites.{Site, lambda, concatenation, lambda_with, lambda_by, concatenation_with, concatenation_by, recipe_of, implementing_by, kinds_with, is_sound, is_object, are_kinds, are_results, are_arguments, wanted_by, returns_to, is_joined, is_joining, is_string, is_sound_site, if_sound, site_by, site_with, written_site, site_at}
use Rattle.class_code.specs.Types.{Signature, signature_of, gives}
use Rattle.class_code.specs.Wants.{Wants, nothing, lambda_type, concatenation_type, wants, is_sound_entry, handle_call, lambda_wants, wants_of_lambda, concatenation_wants, wants_of_concatenation, wants_of, is_wanted, has_site}

pub handle_told : (kind tag : ℕ) (m : Option MemberRef)
    → option_and_then handle_call (option_map (handle_with kind tag) m) ≡ option_map (λ (c : CallKinds). (kind, c)) (option_and_then (λ (r : MemberRef). call_of r.descriptor) m)
handle_told kind tag None = refl
handle_told kind tag (Some m) = refl

-- the same tests in another order
lambda_tests : (o k r x y a t : Bool) → o && k && r && x && y && a && t ≡ cond (k && r && x && y && t) (o && a) false
lambda_tests true true true true true true true = refl
lambda_tests true true true true true true false = refl
lambda_tests true true true true true false true = refl
lambda_tests true true true true true false false = refl
lambda_tests true true true true false a t = refl
lambda_tests true true true false y a t = refl
lambda_tests true true false x y a t = refl
lambda_tests true false r x y a t = refl
lambda_tests false true true true true a true = refl
lambda_tests false true true true true a false = refl
lambda_tests false true true true false a t = refl
lambda_tests false true true false y a t = refl
lambda_tests false true false x y a t = refl
lambda_tests false false r x y a t = refl

concatenation_tests : (s a c j : Bool) → (s && (a && c)) && j ≡ cond (c && j) (s && a) false
concatenation_tests true true true true = refl
concatenation_tests true true true false = refl
concatenation_tests true true false j = refl
concatenation_tests true false true true = refl
concatenation_tests true false true false = refl
concatenation_tests true false false j = refl
concatenation_tests false a true true = refl
concatenation_tests false a true false = refl
concatenation_tests false a false j = refl

nothing_wanted : (call : Option CallKinds) → is_some_that (is_wanted nothing) call ≡ false
nothing_wanted None = refl
nothing_wanted (Some c) = refl

if_wanted : (b : Bool) (w : Wants) (c : CallKinds) → is_wanted (cond b w nothing) c ≡ cond b (is_wanted w c) false
if_wanted true w c = refl
if_wanted false w c = refl

-- a site that is found is there if its parts go together
there : (pool : Pool) (site : Site) → is_none (if_sound pool (Some site)) ≡ not (is_sound_site pool site)
there pool site = by_test (is_sound_site pool site)
  where
    by_test : (b : Bool) → is_none (cond b (Some site) None) ≡ not b
    by_test true = refl
    by_test false = refl

lambda_told : (kind : ℕ) (site erased method instantiated : Option Signature)
    → is_some_that is_sound (kinds_with site erased (option_map (implementing_by kind) method) instantiated)
    ≡ is_some_that (is_wanted (lambda_wants (option_map call_kinds erased) (option_map (λ (c : CallKinds). (kind, c)) (option_map call_kinds method)) (option_map call_kinds instantiated)))
    (option_map call_kinds site)
unfolding is_sound
lambda_told kind None erased method instantiated = refl
lambda_told kind (Some s) None method instantiated = refl
lambda_told kind (Some s) (Some e) None instantiated = refl
lambda_told kind (Some s) (Some e) (Some m) None = refl
lambda_told kind (Some s) (Some e) (Some m) (Some i) =
    lambda_tests (is_some_that is_object s.returned) (are_kinds e.takes i.takes) (are_results (gives e) (gives i)) (nat_le 5 kind) (nat_le kind 9)
    (are_arguments (s.takes ++ i.takes) (wanted_by kind m.takes)) (returns_to kind (gives m) (gives i))
    ∙ sym (if_wanted (is_sound_entry (call_kinds e) kind (call_kinds m) (call_kinds i)) (lambda_type kind (call_kinds m) (call_kinds i)) (call_kinds s))

no_handle : (erased instantiated : Option CallKinds) → lambda_wants erased None instantiated ≡ nothing
no_handle None i = refl
no_handle (Some e) i = refl

no_type : (erased : Option CallKinds) (implementing : Option (ℕ × CallKinds)) → lambda_wants erased implementing None ≡ nothing
no_type None h = refl
no_type (Some e) None = refl
no_type (Some e) (Some h) = refl

abbrev is_unwanted : Option CallKinds → Wants → Bool
is_unwanted call w = not (is_some_that (is_wanted w) call)

unwanted : (call : Option CallKinds) (w : Wants) → w ≡ nothing → true ≡ is_unwanted call w
unwanted call w e = sym (ap (is_unwanted call) e ∙ ap not (nothing_wanted call))

by_parts : (pool : Pool) (name descriptor : List ℕ) (erased : Option (List ℕ)) (implementing : Option HandleRef) (instantiated : Option (List ℕ))
    → is_none (if_sound pool (option_map lambda (lambda_with name descriptor erased implementing instantiated)))
    ≡ is_unwanted (call_of descriptor) (lambda_wants (option_and_then call_of erased) (option_and_then handle_call implementing) (option_and_then call_of instantiated))
by_parts pool name descriptor None h i = unwanted (call_of descriptor) nothing refl
by_parts pool name descriptor (Some e) None i = unwanted (call_of descriptor) _ (no_handle (call_of e) (option_and_then call_of i))
by_parts pool name descriptor (Some e) (Some h) None = unwanted (call_of descriptor) _ (no_type (call_of e) (handle_call h))
by_parts pool name descriptor (Some e) (Some h) (Some i) =
    there pool (lambda (record { method = name; descriptor = descriptor; erased = e; implementing = h; instantiated = i }))
    ∙ ap not (lambda_told h.kind (signature_of descriptor) (signature_of e) (signature_of h.member.descriptor) (signature_of i))

by_lambda : (pool : Pool) (name descriptor arguments : List ℕ)
    → is_none (if_sound pool (option_map lambda (lambda_by pool name descriptor arguments))) ≡ is_unwanted (call_of descriptor) (wants_of_lambda pool arguments)
by_lambda pool name descriptor [] = unwanted (call_of descriptor) nothing refl
by_lambda pool name descriptor (a ∷ []) = unwanted (call_of descriptor) nothing refl
by_lambda pool name descriptor (a ∷ b ∷ []) = unwanted (call_of descriptor) nothing refl
by_lambda pool name descriptor (a ∷ b ∷ c ∷ []) = by_parts pool name descriptor (method_type_at pool a) (handle_at pool b) (method_type_at pool c)
by_lambda pool name descriptor (a ∷ b ∷ c ∷ d ∷ more) = unwanted (call_of descriptor) nothing refl

abbrev all_joined : Pool → List ℕ → Bool
all_joined pool numbers = list_all (λ n. is_some_that is_joined (constant_at pool n)) numbers

concatenation_told : (pool : Pool) (descriptor recipe numbers : List ℕ) (site : Option Signature)
    → is_some_that (is_joining (concatenation_with descriptor numbers recipe)) site && all_joined pool numbers
    ≡ is_some_that (is_wanted (concatenation_wants pool numbers (Some recipe))) (option_map call_kinds site)
concatenation_told pool descriptor recipe numbers None = refl
concatenation_told pool descriptor recipe numbers (Some s) =
    concatenation_tests (is_some_that is_string s.returned) (count_by (λ b. b == 1) recipe == length s.takes) (count_by (λ b. b == 2) recipe == length numbers) (all_joined pool numbers)
    ∙ sym (if_wanted (count_by (λ b. b == 2) recipe == length numbers && all_joined pool numbers) (concatenation_type (count_by (λ b. b == 1) recipe)) (call_kinds s))

by_recipe : (pool : Pool) (descriptor numbers : List ℕ) (recipe : Option (List ℕ))
    → is_none (if_sound pool (option_map concatenation (option_map (concatenation_with descriptor numbers) recipe)))
    ≡ is_unwanted (call_of descriptor) (concatenation_wants pool numbers recipe)
by_recipe pool descriptor numbers None = unwanted (call_of descriptor) nothing refl
by_recipe pool descriptor numbers (Some recipe) =
    there pool (concatenation (concatenation_with descriptor numbers recipe)) ∙ ap not (concatenation_told pool descriptor recipe numbers (signature_of descriptor))

by_concatenation : (pool : Pool) (descriptor arguments : List ℕ)
    → is_none (if_sound pool (option_map concatenation (concatenation_by pool descriptor arguments))) ≡ is_unwanted (call_of descriptor) (wants_of_concatenation pool arguments)
by_concatenation pool descriptor [] = unwanted (call_of descriptor) nothing refl
by_concatenation pool descriptor (recipe ∷ others) = by_recipe pool descriptor others (option_and_then (recipe_of pool) (constant_at pool recipe))

by_entry : (pool : Pool) (name descriptor : List ℕ) (b : Bootstrap)
    → is_none (if_sound pool (site_by pool name descriptor b)) ≡ is_unwanted (call_of descriptor) (wants_of pool b)
by_entry pool name descriptor b = by_tests (is_bootstrap_by pool metafactory b) (is_bootstrap_by pool concatenating b)
  where
    by_tests : (m c : Bool)
        → is_none (if_sound pool (cond m (option_map lambda (lambda_by pool name descriptor b.arguments))
        (cond c (option_map concatenation (concatenation_by pool descriptor b.arguments)) None)))
        ≡ is_unwanted (call_of descriptor) (cond m (wants_of_lambda pool b.arguments) (cond c (wants_of_concatenation pool b.arguments) nothing))
    by_tests true c = by_lambda pool name descriptor b.arguments
    by_tests false true = by_concatenation pool descriptor b.arguments
    by_tests false false = unwanted (call_of descriptor) nothing refl

with_parts : (pool : Pool) (name descriptor : Option (List ℕ)) (b : Option Bootstrap)
    → is_none (if_sound pool (site_with pool name descriptor b)) ≡ not (has_site name (option_map (wants_of pool) b) (option_and_then call_of descriptor))
with_parts pool None d b = refl
with_parts pool (Some n) None None = refl
with_parts pool (Some n) None (Some b) = refl
with_parts pool (Some n) (Some d) None = refl
with_parts pool (Some n) (Some d) (Some b) = by_entry pool n d b

-- a call site has no site where its type isn't what its entry wants
pub site_told : (class : Class) (bootstrap name_type : ℕ) → is_none (site_at class bootstrap name_type)
    ≡ not (has_site (name_at class.pool name_type) (option_map (wants_of class.pool) (bootstrap_at class bootstrap)) (option_and_then call_of (descriptor_at class.pool name_type)))
unfolding site_at written_site
site_told class bootstrap name_type = with_parts class.pool (name_at class.pool name_type) (descriptor_at class.pool name_type) (bootstrap_at class bootstrap)

pub entry_there : (class : Class) (n : ℕ) → bootstrap_at class n ≡ slice_get (bootstraps_of class) n
unfolding bootstrap_at
entry_there class n = by_table (table_in class.attributes)
  where
    by_table : (table : Option (List Bootstrap)) → option_and_then (λ entries. slice_get entries n) table ≡ slice_get (unwrap_or table []) n
    by_table None = refl
    by_table (Some entries) = refl

-- what is kept for the entry of a number is what that entry wants
pub entry_told : (class : Class) (kept : List SiteWants) (n : ℕ) → map wants kept ≡ map (wants_of class.pool) (bootstraps_of class)
    → option_map wants (slice_get kept n) ≡ option_map (wants_of class.pool) (bootstrap_at class n)
entry_told class kept n e =
    sym (slice_get-map wants kept n) ∙ ap (λ (all : List Wants). slice_get all n) e ∙ slice_get-map (wants_of class.pool) (bootstraps_of class) n
    ∙ ap (option_map (wants_of class.pool)) (sym (entry_there class n))
