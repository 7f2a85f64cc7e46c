-- What an entry of the table of bootstrap methods wants of the type of each of its call sites (JVMS 4.7.23, 6.5).
use Rattle.std.specs.Prelude.{ℕ, Bool, false, ◌&&◌, ◌==◌, nat_le, List, [], ◌∷◌, ◌++◌, length, count_by, Option, Some, None, option_map, option_and_then, if◌then◌else◌}
use Rattle.std.specs.List.{list_all}
use Rattle.class_model.specs.declared.attribute_forms.Bootstrap.{Bootstrap}
use Rattle.class_model.specs.declared.constant_pool.Pool.{Pool}
use Rattle.class_model.specs.Constants.{constant_at, is_some_that}
use Rattle.class_code.specs.declared.descriptors.CallKinds.{CallKinds}
use Rattle.class_code.specs.declared.wants.SiteWants.{SiteWants}
use Rattle.class_code.specs.declared.wants.SiteWants.TheVariants as views
use Rattle.class_code.specs.Bootstraps.{metafactory, concatenating, is_bootstrap_by}
use Rattle.class_code.specs.Descriptors.{call_of}
use Rattle.class_code.specs.Named.{HandleRef, handle_at, method_type_at}
use Rattle.class_code.specs.Sites.{wanted_by, are_arguments, returns_to, are_kinds, are_results, is_joined, recipe_of}

-- nothing where no type will do; of a lambda the kind of its handle, its method and its instantiated type; of a
-- concatenation how many arguments
pub data Wants : Type 0 where
  nothing : Wants
  lambda_type : ℕ → CallKinds → CallKinds → Wants
  concatenation_type : ℕ → Wants

abbrev pub wants : SiteWants → Wants
wants views.Nothing = nothing
wants (views.Lambda kind method instantiated) = lambda_type kind method.now instantiated.now
wants (views.Concatenation arguments) = concatenation_type arguments

-- the kind of a method handle, with what its method's descriptor says
abbrev pub handle_call : HandleRef → Option (ℕ × CallKinds)
handle_call h = option_map (λ call. (h.kind, call)) (call_of h.member.descriptor)

-- what the types and the handle of a lambda say by themselves
abbrev pub is_sound_entry : CallKinds → ℕ → CallKinds → CallKinds → Bool
is_sound_entry erased kind method instantiated =
    are_kinds erased.takes instantiated.takes && are_results erased.gives instantiated.gives
    && nat_le 5 kind && nat_le kind 9 && returns_to kind method.gives instantiated.gives

abbrev pub lambda_wants : Option CallKinds → Option (ℕ × CallKinds) → Option CallKinds → Wants
lambda_wants (Some erased) (Some implementing) (Some instantiated) =
    if is_sound_entry erased implementing.0 implementing.1 instantiated
    then lambda_type implementing.0 implementing.1 instantiated
    else nothing
lambda_wants _ _ _ = nothing

abbrev pub wants_of_lambda : Pool → List ℕ → Wants
wants_of_lambda pool (a ∷ b ∷ c ∷ []) =
    lambda_wants (option_and_then call_of (method_type_at pool a)) (option_and_then handle_call (handle_at pool b))
    (option_and_then call_of (method_type_at pool c))
wants_of_lambda pool _ = nothing

abbrev pub concatenation_wants : Pool → List ℕ → Option (List ℕ) → Wants
concatenation_wants pool numbers None = nothing
concatenation_wants pool numbers (Some recipe) =
    if count_by (λ b. b == 2) recipe == length numbers
    && list_all (λ n. is_some_that is_joined (constant_at pool n)) numbers
    then concatenation_type (count_by (λ b. b == 1) recipe)
    else nothing

abbrev pub wants_of_concatenation : Pool → List ℕ → Wants
wants_of_concatenation pool [] = nothing
wants_of_concatenation pool (recipe ∷ others) =
    concatenation_wants pool others (option_and_then (recipe_of pool) (constant_at pool recipe))

abbrev pub wants_of : Pool → Bootstrap → Wants
wants_of pool b =
    if is_bootstrap_by pool metafactory b then wants_of_lambda pool b.arguments
    else if is_bootstrap_by pool concatenating b then wants_of_concatenation pool b.arguments
    else nothing

-- the type of a call site is what its entry wants
abbrev pub is_wanted : Wants → CallKinds → Bool
is_wanted nothing site = false
is_wanted (lambda_type kind method instantiated) site =
    site.gives_object && are_arguments (site.takes ++ instantiated.takes) (wanted_by kind method.takes)
is_wanted (concatenation_type arguments) site = site.gives_string && arguments == length site.takes

-- a name and type, whose name is there, has the type that an entry wants
abbrev pub has_site : Option (List ℕ) → Option Wants → Option CallKinds → Bool
has_site (Some name) (Some wanted) call = is_some_that (is_wanted wanted) call
has_site _ _ call = false
