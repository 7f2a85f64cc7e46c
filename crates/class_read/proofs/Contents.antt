-- Why the content of an attribute is refused.
use Rattle.std.proofs.Common.{◌≡◌, ℕ, ◌<◌, Bool, true, false, ◌&&◌, eqb, ltb, leb, List, length, Ok, Err, refl, arith, inl, inr}
use Rattle.std.proofs.lemmas.Bool.{cases_Bool, leb-true}
use Rattle.class_model.specs.declared.attribute_forms.Attribute.{Attribute}
use Rattle.class_text.specs.Reading.{Badness, cut_within, goes_on, bad_length, cut_short, bad_attribute, Reading, place}
use Rattle.class_text.specs.Readers.{u4_at, whole}
use Rattle.class_text.specs.Attributes.{code_bytes_at}

-- something of the content is left over
pub not_all : (at stop : ℕ) (rest : List ℕ) (x : Attribute) (left : List ℕ) (reading : Reading Attribute) → reading ≡ Ok (x, left) → eqb (length left) 0 ≡ false → (why : Badness) × (whole at stop rest reading ≡ Err (bad_attribute at why))
unfolding whole
not_all at stop rest x left reading is some = (goes_on (place stop left) stop, rw (is, some) refl)

-- the content is cut
pub cut_off : (at stop : ℕ) (rest : List ℕ) (within : ℕ) (reading : Reading Attribute) → reading ≡ Err (cut_short within) → (why : Badness) × (whole at stop rest reading ≡ Err (bad_attribute at why))
unfolding whole
cut_off at stop rest within reading is = (cut_within within stop, rw is refl)

-- code of a length that code may not have
not_few : (len : ℕ) → 65535 < len → (ltb 0 len && leb len 65535) ≡ false
not_few len many = elim (cases_Bool (leb len 65535)) [
  | inl few ↦ absurd (omega (arith, many, leb-true len 65535 few))
  | inr large ↦ rw large (and_false (ltb 0 len))
]
  where
    and_false : (b : Bool) → (b && false) ≡ false
    and_false true = refl
    and_false false = refl

refused_length : (at end : ℕ) (bytes : List ℕ) (len : ℕ) (rest : List ℕ) → u4_at end bytes ≡ Ok (len, rest) → (ltb 0 len && leb len 65535) ≡ false → (why : Badness) × (code_bytes_at at end bytes ≡ Err (bad_attribute at why))
unfolding code_bytes_at
refused_length at end bytes len rest is out = (bad_length len, rw (is, out) refl)

pub no_code : (at end : ℕ) (bytes : List ℕ) (len : ℕ) (rest : List ℕ) → u4_at end bytes ≡ Ok (len, rest) → len ≡ 0 → (why : Badness) × (code_bytes_at at end bytes ≡ Err (bad_attribute at why))
no_code at end bytes len rest is none = refused_length at end bytes len rest is (rw none refl)

pub much_code : (at end : ℕ) (bytes : List ℕ) (len : ℕ) (rest : List ℕ) → u4_at end bytes ≡ Ok (len, rest) → 65535 < len → (why : Badness) × (code_bytes_at at end bytes ≡ Err (bad_attribute at why))
much_code at end bytes len rest is many = refused_length at end bytes len rest is (not_few len many)
