-- What is plain is printed as it is.
use Rattle.std.proofs.Common.{◌≡◌, ℕ, ◌<◌, List, [], ◌∷◌, flat_map, map, Some, refl, ◌∙◌, ap, arith}
use Rattle.std.specs.Prelude.{All}
use Rattle.std.specs.List.{AllByRecursion}
use Rattle.std.specs.Char.Utf16.{utf16_chars, lone_unit_char}
use Rattle.std.proofs.lemmas.Bool.Decides.{nat_tests}
use Rattle.std.proofs.lemmas.List.Elements.{recursion_from_All}
use Rattle.std.proofs.lemmas.Str.{utf16_chars-nil, utf16_chars_lone}
use Rattle.class_model.specs.ModifiedUtf8.{Spells}
use Rattle.class_model.proofs.UnitLemmas.{one}
use Rattle.line_text.specs.Lines.{line_of_byte, line_of_char, line_of_spelled, line_of_units, line_of_name, line_of_path, IsPlain}
use Rattle.line_text.proofs.Spelled.{units_of_name-spelled}
use Rattle.line_text.proofs.Characters.{line_of_low}

plain_byte : (b : ℕ) → IsPlain b → line_of_byte b ≡ b ∷ []
unfolding line_of_byte
plain_byte b is = grind (arith, nat_tests, is.from, is.below, is.other)

plain_bytes : (bytes : List ℕ) → AllByRecursion IsPlain bytes → flat_map line_of_byte bytes ≡ bytes
plain_bytes [] all = refl
plain_bytes (b ∷ bytes) all = rw (plain_byte b all.0, plain_bytes bytes all.1) refl

pub path_plain : (path : List ℕ) → All IsPlain path → line_of_path path ≡ path
path_plain path all = plain_bytes path (recursion_from_All IsPlain path all)

plain_char : (c : ℕ) → IsPlain c → line_of_char c ≡ c ∷ []
plain_char c is = line_of_low c (omega (arith, is.below)) ∙ plain_byte c is

plain_units : (bytes : List ℕ) → AllByRecursion IsPlain bytes → Spells bytes bytes
plain_units [] all = record { fit = tt; spelled = refl }
plain_units (b ∷ bytes) all = let more = plain_units bytes all.1 in record {
  fit = (omega (arith, all.0.below), more.fit);
  spelled = rw (one b (omega (arith, all.0.from)) (omega (arith, all.0.below)), ← more.spelled) refl;
}

plain_lone : (u : ℕ) → u < 0x7f → lone_unit_char u ≡ Some u
plain_lone u below = grind (arith, nat_tests)

plain_spelled : (units : List ℕ) → AllByRecursion IsPlain units → utf16_chars units ≡ map (λ u. Some u) units
plain_spelled [] all = utf16_chars-nil
plain_spelled (u ∷ us) all =
    utf16_chars_lone u us (λ pair. omega (arith, pair.0, all.0.below))
    ∙ rw (plain_lone u all.0.below) (ap (λ os. Some u ∷ os) (plain_spelled us all.1))

plain_line : (units : List ℕ) → AllByRecursion IsPlain units → flat_map line_of_spelled (map (λ u. Some u) units) ≡ units
plain_line [] all = refl
plain_line (u ∷ us) all = rw (plain_char u all.0, plain_line us all.1) refl

pub name_plain : (name : List ℕ) → All IsPlain name → line_of_name name ≡ name
unfolding line_of_units
name_plain name all =
    let plain = recursion_from_All IsPlain name all in
    ap line_of_units (units_of_name-spelled name name (plain_units name plain))
    ∙ ap (flat_map line_of_spelled) (plain_spelled name plain) ∙ plain_line name plain
