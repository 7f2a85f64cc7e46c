-- What the text of a number says as a descriptor.
use Rattle.std.proofs.Common.{◌≡◌, ℕ, zero, suc, ◌-◌, List, Option, Some, None, map, option_map, slice_get, refl, ◌∙◌, ap, arith}
use Rattle.std.specs.Prelude.{option_and_then}
use Rattle.std.proofs.lemmas.Option.{slice_get-map}
use Rattle.class_model.specs.declared.constant_pool.Constant.{Constant}
use Rattle.class_model.specs.declared.constant_pool.Pool.{Pool}
use Rattle.class_model.specs.Constants.{text_of, text_at}
use Rattle.class_code.specs.declared.descriptors.Told.{Told}
use Rattle.class_code.specs.Constants.{call_use}
use Rattle.class_code.specs.Types.{Signature, kind_of, signature_of}
use Rattle.class_code.specs.Descriptors.{call_kinds, call_of, told_by, use_of_call, descriptors_of}

abbrev said : Constant → Option Told
said c = option_map told_by (text_of c)

-- what a list of such says at a place, if anything
abbrev pub inner : Option (Option Told) → Option Told
inner None = None
inner (Some told) = told

joined : (o : Option Constant) → inner (option_map said o) ≡ option_map told_by (option_and_then text_of o)
joined None = refl
joined (Some c) = refl

pub no_text : (pool : Pool) → option_map told_by (text_at pool 0) ≡ None
unfolding text_at
no_text pool = refl

-- what stands at a place of the table is what the text of the next number says
pub text_told : (pool : Pool) (n m : ℕ) (found : Option (Option Told)) → m ≡ n → (n ≡ 0 → ⊥) → found ≡ slice_get (descriptors_of pool) (m - 1)
    → inner found ≡ option_map told_by (text_at pool n)
unfolding descriptors_of text_at
text_told pool zero m found at some e = absurd (some refl)
text_told pool (suc n) m found at some e =
    let same : m - 1 ≡ n = omega (arith, at) in
    ap inner (e ∙ ap (slice_get (map said pool.constants)) same ∙ slice_get-map said pool.constants n) ∙ joined (slice_get pool.constants n)

pub field_told : (d : Option (List ℕ)) → option_and_then (λ (t : Told). t.field) (option_map told_by d) ≡ option_and_then kind_of d
field_told None = refl
field_told (Some text) = refl

use_kept : (o : Option Signature) → option_map use_of_call (option_map call_kinds o) ≡ option_map call_use o
use_kept None = refl
use_kept (Some s) = refl

pub call_told : (d : Option (List ℕ))
    → option_map use_of_call (option_and_then (λ (t : Told). t.call) (option_map told_by d)) ≡ option_map call_use (option_and_then signature_of d)
call_told None = refl
call_told (Some text) = use_kept (signature_of text)

pub call_of_told : (d : Option (List ℕ)) → option_and_then (λ (t : Told). t.call) (option_map told_by d) ≡ option_and_then call_of d
call_of_told None = refl
call_of_told (Some text) = refl
