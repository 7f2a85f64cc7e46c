-- What holds of the fault that was returned.
use Rattle.std.proofs.Common.{◌≡◌, Result, Ok, Err, refl, sym, ◌∙◌, inl, inr}
use Rattle.class_text.specs.Reading.{Fault, cut_short, bad_tag, bad_text, bad_index, astray, bad_magic, bad_major, bad_attribute, second_attribute, code_missing, bytes_left}
use Rattle.const_pool.specs.declared.class_fault.ClassFault.{ClassFault}
use Rattle.const_pool.specs.declared.class_fault.ClassFault.TheVariants.{BadMagic, BadMajor, CutShort, BadTag, BadUtf8, BadIndex, BadAttribute, SecondAttribute, CodeMissing, BytesLeft, Memory}
use Rattle.const_pool.specs.Faults.{IsOf, Fails}

-- what holds by a fact that is wider
implied : (P Q : Fault → Type 0) (e : ClassFault) → ((f : Fault) → P f → Q f) → IsOf P e → IsOf Q e
implied P Q BadMagic on is = on bad_magic is
implied P Q (BadMajor version) on is = on (bad_major version) is
implied P Q (CutShort at) on is = on (cut_short at) is
implied P Q (BadTag at tag) on is = on (bad_tag at tag) is
implied P Q (BadUtf8 at) on is = on (bad_text at) is
implied P Q (BadIndex at) on (inl is) = inl (on (bad_index at) is)
implied P Q (BadIndex at) on (inr (numbers, is)) = inr (numbers, on (astray at numbers) is)
implied P Q (BadAttribute at) on (why, is) = (why, on (bad_attribute at why) is)
implied P Q (SecondAttribute at) on is = on (second_attribute at) is
implied P Q (CodeMissing at) on is = on (code_missing at) is
implied P Q (BytesLeft at) on is = on (bytes_left at) is
implied P Q Memory on is = tt

-- a fault of one reading is that of another
pub fails_via : {A B : Type 0} (e : ClassFault) (r : Result A Fault) (s : Result B Fault) → ((f : Fault) → r ≡ Err f → s ≡ Err f) → Fails e r → Fails e s
fails_via e r s = implied (λ f. r ≡ Err f) (λ f. s ≡ Err f) e

-- What a fault of the reading says holds of the fault that was returned.
pub said : {A : Type 0} (P : Fault → Type 0) (e : ClassFault) (reading : Result A Fault) → ((f : Fault) → reading ≡ Err f → P f) → Fails e reading → IsOf P e
said P e reading = implied (λ f. reading ≡ Err f) P e

-- a reading that succeeds has no fault but a want of memory
pub never : {A : Type 0} (reading : Result A Fault) (x : A) (e : ClassFault) → reading ≡ Ok x → Fails e reading → e ≡ Memory
never reading x Memory ok f = refl
never reading x BadMagic ok f = absurd (let h = sym f ∙ ok in cc)
never reading x (BadMajor v) ok f = absurd (let h = sym f ∙ ok in cc)
never reading x (CutShort at) ok f = absurd (let h = sym f ∙ ok in cc)
never reading x (BadTag at tag) ok f = absurd (let h = sym f ∙ ok in cc)
never reading x (BadUtf8 at) ok f = absurd (let h = sym f ∙ ok in cc)
never reading x (BadIndex at) ok (inl f) = absurd (let h = sym f ∙ ok in cc)
never reading x (BadIndex at) ok (inr (numbers, f)) = absurd (let h = sym f ∙ ok in cc)
never reading x (BadAttribute at) ok (why, f) = absurd (let h = sym f ∙ ok in cc)
never reading x (SecondAttribute at) ok f = absurd (let h = sym f ∙ ok in cc)
never reading x (CodeMissing at) ok f = absurd (let h = sym f ∙ ok in cc)
never reading x (BytesLeft at) ok f = absurd (let h = sym f ∙ ok in cc)
