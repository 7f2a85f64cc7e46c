-- Names unit by unit, with slashes or with dots for them.
use Rattle.std.proofs.Common.{◌≡◌, ℕ, Bool, true, false, List, [], ◌∷◌, ◌++◌, map, refl, sym, ap, ◌∙◌, append_assoc, append-nil}
use Rattle.std.specs.Prelude.{Option, Some, None, is_some, unwrap_or, length}
use Rattle.class_model.specs.ModifiedUtf8.{IsModifiedUtf8}
use Rattle.class_model.specs.Units.{unit_at, units_at, is_text}
use Rattle.line_text.specs.Lines.{units_of_name}
use Rattle.line_text.proofs.Spelled.{units_of_name-behind, no_units}
use Rattle.native_model.specs.Texts.{dotted}
use Rattle.native_text.specs.Spelling.{spelling, spelled}

none_read : (dots : Bool) (o : Option (List ℕ)) → is_some o ≡ false → [] ≡ map (spelling dots) (unwrap_or o [])
none_read dots None is = refl
none_read dots (Some units) is = cc

pub no_name : (dots : Bool) (name : List ℕ) → is_text name ≡ false → [] ≡ spelled dots name
unfolding spelled units_of_name is_text
no_name dots name is = none_read dots (units_at (length name) name) is

same_units : (units : List ℕ) → map (spelling false) units ≡ units
same_units [] = refl
same_units (u ∷ units) = ap (λ l. u ∷ l) (same_units units)

pub as_it_is : (name : List ℕ) → spelled false name ≡ units_of_name name
unfolding spelled
as_it_is name = same_units (units_of_name name)

pub with_dots : (name : List ℕ) → spelled true name ≡ dotted name
unfolding spelled dotted
with_dots name = refl

spelled_behind : (dots : Bool) (bytes : List ℕ) (u : ℕ) (rest : List ℕ) → unit_at bytes ≡ Some (u, rest) → IsModifiedUtf8 bytes → spelled dots bytes ≡ spelling dots u ∷ spelled dots rest
unfolding spelled
spelled_behind dots bytes u rest is text = ap (map (spelling dots)) (units_of_name-behind bytes u rest is text)

none_spelled : (dots : Bool) (bytes : List ℕ) → unit_at bytes ≡ None → IsModifiedUtf8 bytes → spelled dots bytes ≡ []
unfolding spelled
none_spelled dots bytes is text = ap (map (spelling dots)) (no_units bytes is text)

pub unit_told : (dots : Bool) (bytes : List ℕ) (u : ℕ) (rest whole done put : List ℕ) → whole ≡ done ++ spelled dots bytes → unit_at bytes ≡ Some (u, rest) → IsModifiedUtf8 bytes → put ≡ done ++ spelling dots u ∷ [] → whole ≡ put ++ spelled dots rest
unit_told dots bytes u rest whole done put told is text more =
    told ∙ (ap (λ l. done ++ l) (spelled_behind dots bytes u rest is text) ∙ (sym (append_assoc done (spelling dots u ∷ []) (spelled dots rest)) ∙ ap (λ l. l ++ spelled dots rest) (sym more)))

pub all_told : (dots : Bool) (bytes whole done : List ℕ) → whole ≡ done ++ spelled dots bytes → unit_at bytes ≡ None → IsModifiedUtf8 bytes → done ≡ whole
all_told dots bytes whole done told is text =
    sym (told ∙ (ap (λ l. done ++ l) (none_spelled dots bytes is text) ∙ append-nil done))
