-- What a refusal says of the bytes.
use Rattle.std.specs.Prelude.{◌≡◌, ◌⊎◌, ◌++◌, ℕ, Bool, List, Result, Ok, Err}
use denote.Ref.{Bor}
use Rattle.class_text.specs.Reading.{Badness, Fault, cut_short, bad_tag, bad_text, bad_index, astray, bad_magic, bad_major, bad_attribute, second_attribute, code_missing, bytes_left, Reading}
use Rattle.const_pool.specs.declared.class_fault.ClassFault.{ClassFault}
use Rattle.const_pool.specs.declared.class_fault.ClassFault.TheVariants.{BadMagic, BadMajor, CutShort, BadTag, BadUtf8, BadIndex, BadAttribute, SecondAttribute, CodeMissing, BytesLeft, Memory}

-- A fact holds of this fault, for what was wanted there or for some reason; of a want of memory nothing is said.
abbrev pub IsOf : (Fault → Type 0) → ClassFault → Type 0
IsOf P BadMagic = P bad_magic
IsOf P (BadMajor version) = P (bad_major version)
IsOf P (CutShort at) = P (cut_short at)
IsOf P (BadTag at tag) = P (bad_tag at tag)
IsOf P (BadUtf8 at) = P (bad_text at)
IsOf P (BadIndex at) = P (bad_index at) ⊎ ((numbers : ℕ → Bool) × P (astray at numbers))
IsOf P (BadAttribute at) = (why : Badness) × P (bad_attribute at why)
IsOf P (SecondAttribute at) = P (second_attribute at)
IsOf P (CodeMissing at) = P (code_missing at)
IsOf P (BytesLeft at) = P (bytes_left at)
IsOf P Memory = Unit {0}

-- the reading has this fault
abbrev pub Fails : {A : Type 0} → ClassFault → Result A Fault → Type 0
Fails fault reading = IsOf (λ f. reading ≡ Err f) fault

-- What was returned, as `view` sees it, is what the reading gives, unless memory ran out.
abbrev pub Gives : {X A : Type 0} → (X → A) → Result X ClassFault → Result A Fault → Type 0
Gives view (Ok x) reading = reading ≡ Ok (view x)
Gives view (Err e) reading = Fails e reading

-- the same of what stands at the front of bytes, with the bytes after it
abbrev pub GivesFront : {A : Type 0} → Result (A × Bor (List ℕ)) ClassFault → Reading A → Type 0
GivesFront result reading = Gives (λ r. (r.0, r.1.now)) result reading

-- a value with a fact, unless memory ran out
abbrev pub IsOkUnlessMemory : {A : Type 0} → (A → Type 0) → Result A ClassFault → Type 0
IsOkUnlessMemory P (Ok x) = P x
IsOkUnlessMemory P (Err Memory) = Unit {0}
IsOkUnlessMemory P (Err _) = ⊥

-- items that were read before those of a reading
abbrev pub with_front : {A : Type 0} → List A → Reading (List A) → Reading (List A)
with_front front (Ok x) = Ok (front ++ x.0, x.1)
with_front front (Err e) = Err e
