-- What reading a unit says of the whole text.
use Rattle.std.proofs.Common.{◌≡◌, ◌↔◌, ℕ, zero, suc, Bool, true, false, eqb, ◌^◌, ◌<◌, ◌≤◌, IsTrue, is_some, option_and_then, List, [], ◌∷◌, ◌++◌, length, flat_map, Option, Some, None, unwrap_or, option_map, IfSome, IfNone, refl, sym, ◌∙◌, ap, arith, length-append}
use denote.Ref.{Bor}
use Rattle.std.proofs.lemmas.Bool.Decides.{nat_tests}
use Rattle.class_model.specs.ModifiedUtf8.{unit, IsUnitAt, IsModifiedUtf8, Spells}
use Rattle.class_model.specs.Units.{unit_at, units_at, is_text}
use Rattle.class_model.proofs.UnitLemmas.{unit_at-unit, unit_at-spelled}

pub empty_text : IsModifiedUtf8 []
empty_text = ([], record { fit = tt; spelled = refl })

same_rest : (u v : ℕ) (r s : List ℕ) → (let p : ℕ × List ℕ = (u, r) in let q : ℕ × List ℕ = (v, s) in Some p ≡ Some q) → r ≡ s
same_rest u v r s e = ap (λ (o : Option (ℕ × List ℕ)). (unwrap_or o (u, r)).1) e

-- A text goes on behind its first unit.
pub text_behind : (bytes : List ℕ) (u : ℕ) (rest : List ℕ) → unit_at bytes ≡ Some (u, rest) → IsModifiedUtf8 bytes → IsModifiedUtf8 rest
unfolding unit_at
text_behind bytes u rest e ([], s) = absurd (let n : unit_at bytes ≡ None = rw s.spelled refl in cc)
text_behind bytes u rest e (v ∷ vs, s) =
    let at : unit_at bytes ≡ Some (v, flat_map unit vs) = rw s.spelled (unit_at-unit v (flat_map unit vs) s.fit.0) in
    (vs, record { fit = s.fit.1; spelled = same_rest _ _ _ _ (sym e ∙ at) })

-- A unit before a text is a text.
pub text_before : (bytes : List ℕ) (u : ℕ) (rest : List ℕ) → unit_at bytes ≡ Some (u, rest) → IsModifiedUtf8 rest → IsModifiedUtf8 bytes
text_before bytes u rest e (us, s) =
    let at = unit_at-spelled bytes u rest e in
    (u ∷ us, record { fit = (at.fits, s.fit); spelled = at.spelled ∙ ap (λ r. unit u ++ r) s.spelled })

-- Bytes at which no unit begins are no text, unless there are none.
pub no_text : (bytes : List ℕ) → unit_at bytes ≡ None → false ≡ eqb (length bytes) 0 → IsModifiedUtf8 bytes → ⊥
no_text [] e some ([], s) = cc
no_text (b ∷ bytes) e some ([], s) = let h : (b ∷ bytes) ≡ [] = s.spelled in cc
no_text bytes e some (v ∷ vs, s) =
    let at : unit_at bytes ≡ Some (v, flat_map unit vs) = rw s.spelled (unit_at-unit v (flat_map unit vs) s.fit.0) in cc

pub length-unit : (u : ℕ) → 0 < length (unit u)
unfolding unit
length-unit u = grind (arith, nat_tests)

-- Reading a unit leaves fewer bytes.
pub shorter_behind : (bytes : List ℕ) (u : ℕ) (rest : List ℕ) → unit_at bytes ≡ Some (u, rest) → length rest < length bytes
shorter_behind bytes u rest e =
    let at = unit_at-spelled bytes u rest e in
    omega (arith, length-unit u, ap length at.spelled ∙ length-append (unit u) rest)

-- what was read, seen by the bytes behind it
abbrev pub seen : Option (ℕ × Bor (List ℕ)) → Option (ℕ × List ℕ)
seen found = option_map (λ r. (r.0, r.1.now)) found

pub found_is_unit : (bytes : List ℕ) (found : Option (ℕ × Bor (List ℕ))) → seen found ≡ unit_at bytes → IfSome found (λ r. IsUnitAt bytes r.0 r.1.now)
found_is_unit bytes None e = tt
found_is_unit bytes (Some r) e = unit_at-spelled bytes r.0 r.1.now (sym e)

pub none_is_no_unit : (bytes : List ℕ) (found : Option (ℕ × Bor (List ℕ))) → seen found ≡ unit_at bytes
    → IfNone found ((u : ℕ) (rest : List ℕ) → u < 2 ^ 16 → bytes ≡ unit u ++ rest → ⊥)
none_is_no_unit bytes None e = λ u rest fits spelled. let at : unit_at bytes ≡ Some (u, rest) = rw spelled (unit_at-unit u rest fits) in cc
none_is_no_unit bytes (Some r) e = tt

-- Reading all units answers by the grammar.
units_spelled : (most : ℕ) (bytes units : List ℕ) → units_at most bytes ≡ Some units → IsModifiedUtf8 bytes
unfolding units_at
units_spelled zero [] units e = empty_text
units_spelled zero (b ∷ bytes) units e = cc
units_spelled (suc most) [] units e = empty_text
units_spelled (suc most) (b ∷ bytes) units e = first_spelled (b ∷ bytes) (unit_at (b ∷ bytes)) refl (units_at most) (units_spelled most) units e
  where
    first_spelled : (all : List ℕ) (found : Option (ℕ × List ℕ)) → unit_at all ≡ found → (read : List ℕ → Option (List ℕ))
        → ((rest us : List ℕ) → read rest ≡ Some us → IsModifiedUtf8 rest) → (units : List ℕ)
        → option_and_then (λ f. option_map (λ us. f.0 ∷ us) (read f.1)) found ≡ Some units → IsModifiedUtf8 all
    first_spelled all None at read spells units e = cc
    first_spelled all (Some (u, rest)) at read spells units e = text_before all u rest at (others (read rest) refl)
      where
        others : (more : Option (List ℕ)) → read rest ≡ more → IsModifiedUtf8 rest
        others None is = absurd (let none : None ≡ Some units = rw is at e in cc)
        others (Some us) is = spells rest us is

pub units_step : (most : ℕ) (bytes : List ℕ) (u : ℕ) (rest : List ℕ) → unit_at bytes ≡ Some (u, rest)
    → units_at (suc most) bytes ≡ option_map (λ us. u ∷ us) (units_at most rest)
unfolding units_at unit_at
units_step most [] u rest e = cc
units_step most (b ∷ bytes) u rest e = ap (λ found. option_and_then (λ f. option_map (λ us. f.0 ∷ us) (units_at most f.1)) found) e

map_some : (u : ℕ) (found : Option (List ℕ)) → is_some found ≡ true → is_some (option_map (λ us. u ∷ us) found) ≡ true
map_some u None e = cc
map_some u (Some us) e = refl

units_again : (units : List ℕ) (most : ℕ) (bytes : List ℕ) → Spells units bytes → length bytes ≤ most → is_some (units_at most bytes) ≡ true
unfolding units_at
units_again [] zero bytes s few = rw s.spelled refl
units_again [] (suc most) bytes s few = rw s.spelled refl
units_again (u ∷ us) zero bytes s few =
    absurd (omega (arith, length-unit u, ap length s.spelled ∙ length-append (unit u) (flat_map unit us), few))
units_again (u ∷ us) (suc most) bytes s few =
    let rest = flat_map unit us in
    let at : unit_at bytes ≡ Some (u, rest) = rw s.spelled (unit_at-unit u rest s.fit.0) in
    let more = units_again us most rest (record { fit = s.fit.1; spelled = refl }) (omega (arith, shorter_behind bytes u rest at)) in
    ap is_some (units_step most bytes u rest at) ∙ map_some u (units_at most rest) more

pub is_text-grammar : (bytes : List ℕ) → IsTrue (is_text bytes) ↔ IsModifiedUtf8 bytes
unfolding is_text
is_text-grammar bytes = (there (units_at (length bytes) bytes) refl, λ t. units_again t.0 (length bytes) bytes t.1 (omega arith))
  where
    there : (found : Option (List ℕ)) → units_at (length bytes) bytes ≡ found → is_some found ≡ true → IsModifiedUtf8 bytes
    there None at is = cc
    there (Some units) at is = units_spelled (length bytes) bytes units at

-- two tests of one fact answer alike
pub same_answer : {P : Type 0} (a b : Bool) → IsTrue a ↔ P → IsTrue b ↔ P → a ≡ b
same_answer true true p q = refl
same_answer true false p q = absurd (let h : false ≡ true = q.1 (p.0 refl) in cc)
same_answer false true p q = absurd (let h : false ≡ true = p.1 (q.0 refl) in cc)
same_answer false false p q = refl
