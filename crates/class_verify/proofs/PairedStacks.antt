-- What is taken of a stack that fits another, and what is put there.
use Rattle.std.proofs.Common.{◌≡◌, Bool, true, false, not, ◌&&◌, ◌||◌, cond, List, [], ◌∷◌, ◌++◌, Option, Some, None, refl, sym, ap, ◌∙◌, subst}
use Rattle.std.specs.Prelude.{option_and_then}
use Rattle.jvm_tables.specs.declared.instruction.ValueKind.{ValueKind}
use Rattle.jvm_tables.specs.declared.instruction.ValueKind.TheVariants as values
use Rattle.jvm_tables.proofs.Rows.{both}
use Rattle.class_verify.specs.declared.kinds.Kind.{Kind}
use Rattle.class_verify.specs.declared.kinds.Kind.TheVariants as kinds
use Rattle.class_verify.specs.declared.stack.Width.{Width}
use Rattle.class_verify.specs.declared.stack.Width.TheVariants as widths
use Rattle.class_verify.specs.Kinds.{is_top, is_long, is_single, is_pair, fits, all_fit}
use Rattle.class_verify.specs.Pairs.{is_paired_under, is_paired_stack}
use Rattle.class_verify.specs.Stacks.{below, below_value, below_values, with_value, with_values, group}
use Rattle.class_verify.proofs.Ordering.{exact}

-- no slot but a second one covers a long
pub bare_above : (k : Kind) (s : List Kind) → is_top k ≡ false → is_paired_under k s ≡ is_paired_stack s
bare_above k [] e = refl
bare_above k (x ∷ s) e = ap (λ b. (not (is_long x) || b) && is_paired_under x s) e

pub paired_under : (k : Kind) (s : List Kind) → is_paired_stack s ≡ true → is_paired_under k s ≡ true
paired_under k [] e = refl
paired_under k (kinds.Top ∷ s) e = e
paired_under k (kinds.Int ∷ s) e = e
paired_under k (kinds.Long ∷ s) e = cc
paired_under k (kinds.Reference ∷ s) e = e

-- A stack that is found, and fits the wanted one.
pub record Matched (found : Option (List Kind)) (wanted : List Kind) : Type 0 where
  pub stack : List Kind
  pub is : found ≡ Some stack
  pub fits : all_fit stack wanted ≡ true
  pub paired : is_paired_stack stack ≡ true

int_below : (s t rest : List Kind) → all_fit s t ≡ true → is_paired_stack s ≡ true → below kinds.Int t ≡ Some rest → Matched (below kinds.Int s) rest
int_below s [] rest f p b = cc
int_below s (kinds.Top ∷ t) rest f p b = cc
int_below s (kinds.Long ∷ t) rest f p b = cc
int_below s (kinds.Reference ∷ t) rest f p b = cc
int_below [] (kinds.Int ∷ t) rest f p b = cc
int_below (kinds.Top ∷ s) (kinds.Int ∷ t) rest f p b = cc
int_below (kinds.Long ∷ s) (kinds.Int ∷ t) rest f p b = cc
int_below (kinds.Reference ∷ s) (kinds.Int ∷ t) rest f p b = cc
int_below (kinds.Int ∷ s) (kinds.Int ∷ t) rest f p b =
    let same : t ≡ rest = cc in
    record { stack = s; is = refl; fits = subst (λ r. all_fit s r ≡ true) same f; paired = p }

reference_below : (s t rest : List Kind) → all_fit s t ≡ true → is_paired_stack s ≡ true → below kinds.Reference t ≡ Some rest → Matched (below kinds.Reference s) rest
reference_below s [] rest f p b = cc
reference_below s (kinds.Top ∷ t) rest f p b = cc
reference_below s (kinds.Long ∷ t) rest f p b = cc
reference_below s (kinds.Int ∷ t) rest f p b = cc
reference_below [] (kinds.Reference ∷ t) rest f p b = cc
reference_below (kinds.Top ∷ s) (kinds.Reference ∷ t) rest f p b = cc
reference_below (kinds.Long ∷ s) (kinds.Reference ∷ t) rest f p b = cc
reference_below (kinds.Int ∷ s) (kinds.Reference ∷ t) rest f p b = cc
reference_below (kinds.Reference ∷ s) (kinds.Reference ∷ t) rest f p b =
    let same : t ≡ rest = cc in
    record { stack = s; is = refl; fits = subst (λ r. all_fit s r ≡ true) same f; paired = sym (bare_above kinds.Reference s refl) ∙ p }

-- below a long's second slot, over which nothing is said
long_under : (a : Kind) (s t rest : List Kind) → all_fit s t ≡ true → is_paired_stack (a ∷ s) ≡ true → below kinds.Long t ≡ Some rest
    → Matched (option_and_then (below kinds.Long) (below kinds.Top (a ∷ s))) rest
long_under a s [] rest f p b = cc
long_under a s (kinds.Top ∷ t) rest f p b = cc
long_under a s (kinds.Int ∷ t) rest f p b = cc
long_under a s (kinds.Reference ∷ t) rest f p b = cc
long_under a [] (kinds.Long ∷ t) rest f p b = cc
long_under a (kinds.Top ∷ s) (kinds.Long ∷ t) rest f p b = cc
long_under a (kinds.Int ∷ s) (kinds.Long ∷ t) rest f p b = cc
long_under a (kinds.Reference ∷ s) (kinds.Long ∷ t) rest f p b = cc
long_under kinds.Int (kinds.Long ∷ s) (kinds.Long ∷ t) rest f p b = cc
long_under kinds.Long (kinds.Long ∷ s) (kinds.Long ∷ t) rest f p b = cc
long_under kinds.Reference (kinds.Long ∷ s) (kinds.Long ∷ t) rest f p b = cc
long_under kinds.Top (kinds.Long ∷ s) (kinds.Long ∷ t) rest f p b =
    let same : t ≡ rest = cc in
    record { stack = s; is = refl; fits = subst (λ r. all_fit s r ≡ true) same f; paired = sym (bare_above kinds.Long s refl) ∙ p }

long_below : (s t rest : List Kind) → all_fit s t ≡ true → is_paired_stack s ≡ true → option_and_then (below kinds.Long) (below kinds.Top t) ≡ Some rest
    → Matched (option_and_then (below kinds.Long) (below kinds.Top s)) rest
long_below s [] rest f p b = cc
long_below s (kinds.Int ∷ t) rest f p b = cc
long_below s (kinds.Long ∷ t) rest f p b = cc
long_below s (kinds.Reference ∷ t) rest f p b = cc
long_below [] (kinds.Top ∷ t) rest f p b = cc
long_below (a ∷ s) (kinds.Top ∷ t) rest f p b = long_under a s t rest (both (fits a kinds.Top) (all_fit s t) f).1 p b

pub value_below : (k : ValueKind) (s t rest : List Kind) → all_fit s t ≡ true → is_paired_stack s ≡ true → below_value k t ≡ Some rest → Matched (below_value k s) rest
value_below values.Int s t rest f p b = int_below s t rest f p b
value_below values.Long s t rest f p b = long_below s t rest f p b
value_below values.Reference s t rest f p b = reference_below s t rest f p b

pub values_below : (ks : List ValueKind) (s t rest : List Kind) → all_fit s t ≡ true → is_paired_stack s ≡ true → below_values ks t ≡ Some rest → Matched (below_values ks s) rest
values_below [] s t rest f p b =
    let same : t ≡ rest = cc in
    record { stack = s; is = refl; fits = subst (λ r. all_fit s r ≡ true) same f; paired = p }
values_below (k ∷ ks) s t rest f p b = by_below (below_value k t) refl b (λ under one g. values_below ks one.stack under rest one.fits one.paired g)
  where
    by_below : (found : Option (List Kind)) → below_value k t ≡ found → option_and_then (below_values ks) found ≡ Some rest
        → ((under : List Kind) (one : Matched (below_value k s) under) → below_values ks under ≡ Some rest → Matched (below_values ks one.stack) rest) → Matched (below_values (k ∷ ks) s) rest
    by_below None e g further = cc
    by_below (Some under) e g further =
        let one : Matched (below_value k s) under = value_below k s t under f p e in
        let more : Matched (below_values ks one.stack) rest = further under one g in
        record { stack = more.stack; is = ap (option_and_then (below_values ks)) one.is ∙ more.is; fits = more.fits; paired = more.paired }

value_put : (k : ValueKind) (s t : List Kind) → all_fit s t ≡ true → all_fit (with_value k s) (with_value k t) ≡ true
value_put values.Int s t f = f
value_put values.Long s t f = f
value_put values.Reference s t f = f

pub values_put : (ks : List ValueKind) (s t : List Kind) → all_fit s t ≡ true → all_fit (with_values ks s) (with_values ks t) ≡ true
values_put [] s t f = f
values_put (k ∷ ks) s t f = values_put ks (with_value k s) (with_value k t) (value_put k s t f)

value_paired : (k : ValueKind) (s : List Kind) → is_paired_stack s ≡ true → is_paired_stack (with_value k s) ≡ true
value_paired values.Int s p = p
value_paired values.Long s p = paired_under kinds.Long s p
value_paired values.Reference s p = paired_under kinds.Reference s p

pub values_paired : (ks : List ValueKind) (s : List Kind) → is_paired_stack s ≡ true → is_paired_stack (with_values ks s) ≡ true
values_paired [] s p = p
values_paired (k ∷ ks) s p = values_paired ks (with_value k s) (value_paired k s p)

-- A group on top that is the same on both stacks, with what is below it; it can be put on any stack.
pub record Grouped (width : Width) (s g rest : List Kind) : Type 0 where
  pub others : List Kind
  pub is : group width s ≡ Some (g, others)
  pub fits : all_fit others rest ≡ true
  pub paired : is_paired_stack others ≡ true
  pub puts : (x : List Kind) → is_paired_stack x ≡ true → is_paired_stack (g ++ x) ≡ true

abbrev Told : Width → List Kind → List Kind × List Kind → Type 0
Told width s found = Grouped width s found.0 found.1

one_on_top : (k : Kind) (s t : List Kind) → is_single k ≡ true → all_fit s t ≡ true → is_paired_stack (k ∷ s) ≡ true → Grouped widths.One (k ∷ s) (k ∷ []) t
one_on_top kinds.Top s t e f p = cc
one_on_top kinds.Long s t e f p = cc
one_on_top kinds.Int s t e f p = record { others = s; is = refl; fits = f; paired = p; puts = λ x q. q }
one_on_top kinds.Reference s t e f p =
    record { others = s; is = refl; fits = f; paired = sym (bare_above kinds.Reference s refl) ∙ p; puts = λ x q. paired_under kinds.Reference x q }

two_on_top : (k j : Kind) (s t : List Kind) → is_pair k j ≡ true → all_fit s t ≡ true → is_paired_stack (k ∷ j ∷ s) ≡ true → Grouped widths.Two (k ∷ j ∷ s) (k ∷ j ∷ []) t
two_on_top kinds.Top kinds.Top s t e f p = cc
two_on_top kinds.Top kinds.Int s t e f p = cc
two_on_top kinds.Top kinds.Reference s t e f p = cc
two_on_top kinds.Int kinds.Top s t e f p = cc
two_on_top kinds.Int kinds.Long s t e f p = cc
two_on_top kinds.Long kinds.Top s t e f p = cc
two_on_top kinds.Long kinds.Int s t e f p = cc
two_on_top kinds.Long kinds.Long s t e f p = cc
two_on_top kinds.Long kinds.Reference s t e f p = cc
two_on_top kinds.Reference kinds.Top s t e f p = cc
two_on_top kinds.Reference kinds.Long s t e f p = cc
two_on_top kinds.Top kinds.Long s t e f p =
    record { others = s; is = refl; fits = f; paired = sym (bare_above kinds.Long s refl) ∙ p; puts = λ x q. paired_under kinds.Long x q }
two_on_top kinds.Int kinds.Int s t e f p = record { others = s; is = refl; fits = f; paired = p; puts = λ x q. q }
two_on_top kinds.Int kinds.Reference s t e f p =
    record { others = s; is = refl; fits = f; paired = sym (bare_above kinds.Reference s refl) ∙ p; puts = λ x q. paired_under kinds.Reference x q }
two_on_top kinds.Reference kinds.Int s t e f p = record { others = s; is = refl; fits = f; paired = p; puts = λ x q. q }
two_on_top kinds.Reference kinds.Reference s t e f p =
    record { others = s; is = refl; fits = f; paired = sym (bare_above kinds.Reference s refl) ∙ p; puts = λ x q. paired_under kinds.Reference x q }

single_exact : (a k : Kind) → is_single k ≡ true → fits a k ≡ true → a ≡ k
single_exact a kinds.Top e f = cc
single_exact a kinds.Int e f = exact a kinds.Int refl f
single_exact a kinds.Long e f = cc
single_exact a kinds.Reference e f = exact a kinds.Reference refl f

-- over a long there is its second slot alone
covered : (a : Kind) (s : List Kind) → is_paired_stack (a ∷ kinds.Long ∷ s) ≡ true → a ≡ kinds.Top
covered kinds.Top s p = refl
covered kinds.Int s p = cc
covered kinds.Long s p = cc
covered kinds.Reference s p = cc

pair_exact : (a b k j : Kind) (s : List Kind) → is_pair k j ≡ true → fits a k ≡ true → fits b j ≡ true → is_paired_stack (a ∷ b ∷ s) ≡ true → (a ≡ k) × (b ≡ j)
pair_exact a b kinds.Top kinds.Top s e f g p = cc
pair_exact a b kinds.Top kinds.Int s e f g p = cc
pair_exact a b kinds.Top kinds.Reference s e f g p = cc
pair_exact a b kinds.Int kinds.Top s e f g p = cc
pair_exact a b kinds.Int kinds.Long s e f g p = cc
pair_exact a b kinds.Long kinds.Top s e f g p = cc
pair_exact a b kinds.Long kinds.Int s e f g p = cc
pair_exact a b kinds.Long kinds.Long s e f g p = cc
pair_exact a b kinds.Long kinds.Reference s e f g p = cc
pair_exact a b kinds.Reference kinds.Top s e f g p = cc
pair_exact a b kinds.Reference kinds.Long s e f g p = cc
pair_exact a b kinds.Top kinds.Long s e f g p =
    let below : b ≡ kinds.Long = exact b kinds.Long refl g in
    (covered a s (subst (λ x. is_paired_stack (a ∷ x ∷ s) ≡ true) below p), below)
pair_exact a b kinds.Int kinds.Int s e f g p = (single_exact a kinds.Int refl f, single_exact b kinds.Int refl g)
pair_exact a b kinds.Int kinds.Reference s e f g p = (single_exact a kinds.Int refl f, single_exact b kinds.Reference refl g)
pair_exact a b kinds.Reference kinds.Int s e f g p = (single_exact a kinds.Reference refl f, single_exact b kinds.Int refl g)
pair_exact a b kinds.Reference kinds.Reference s e f g p = (single_exact a kinds.Reference refl f, single_exact b kinds.Reference refl g)

pub grouped : (width : Width) (s t : List Kind) (found : List Kind × List Kind) → all_fit s t ≡ true → is_paired_stack s ≡ true → group width t ≡ Some found → Told width s found
grouped widths.Zero s t found f p e =
    let same : (let x : List Kind × List Kind = ([], t) in x ≡ found) = cc in
    subst (Told widths.Zero s) same (record { others = s; is = refl; fits = f; paired = p; puts = λ x q. q })
grouped widths.One s [] found f p e = cc
grouped widths.One [] (k ∷ t) found f p e = cc
grouped widths.One (a ∷ s) (k ∷ t) found f p e = by_single (is_single k) refl e
  where
    by_single : (b : Bool) → is_single k ≡ b → cond b (Some (let x : List Kind × List Kind = (k ∷ [], t) in x)) None ≡ Some found → Told widths.One (a ∷ s) found
    by_single false i g = cc
    by_single true i g =
        let same : (let x : List Kind × List Kind = (k ∷ [], t) in x ≡ found) = cc in
        let parts : (fits a k ≡ true) × (all_fit s t ≡ true) = both _ _ f in
        let own : a ≡ k = single_exact a k i parts.0 in
        let top : Grouped widths.One (k ∷ s) (k ∷ []) t = one_on_top k s t i parts.1 (subst (λ x. is_paired_stack (x ∷ s) ≡ true) own p) in
        subst (Told widths.One (a ∷ s)) same (subst (λ x. Grouped widths.One (x ∷ s) (k ∷ []) t) (sym own) top)
grouped widths.Two s [] found f p e = cc
grouped widths.Two s (k ∷ []) found f p e = cc
grouped widths.Two [] (k ∷ j ∷ t) found f p e = cc
grouped widths.Two (a ∷ []) (k ∷ j ∷ t) found f p e = absurd (no_more (both (fits a k) false f).1)
  where
    no_more : false ≡ true → ⊥
    no_more x = cc
grouped widths.Two (a ∷ b ∷ s) (k ∷ j ∷ t) found f p e = by_pair (is_pair k j) refl e
  where
    by_pair : (c : Bool) → is_pair k j ≡ c → cond c (Some (let x : List Kind × List Kind = (k ∷ j ∷ [], t) in x)) None ≡ Some found → Told widths.Two (a ∷ b ∷ s) found
    by_pair false i g = cc
    by_pair true i g =
        let same : (let x : List Kind × List Kind = (k ∷ j ∷ [], t) in x ≡ found) = cc in
        let parts : (fits a k ≡ true) × ((fits b j && all_fit s t) ≡ true) = both _ _ f in
        let rest : (fits b j ≡ true) × (all_fit s t ≡ true) = both _ _ parts.1 in
        let own : (a ≡ k) × (b ≡ j) = pair_exact a b k j s i parts.0 rest.0 p in
        let paired : is_paired_stack (k ∷ j ∷ s) ≡ true = subst (λ x. is_paired_stack (k ∷ x ∷ s) ≡ true) own.1 (subst (λ x. is_paired_stack (x ∷ b ∷ s) ≡ true) own.0 p) in
        let top : Grouped widths.Two (k ∷ j ∷ s) (k ∷ j ∷ []) t = two_on_top k j s t i rest.1 paired in
        let back : Grouped widths.Two (a ∷ j ∷ s) (k ∷ j ∷ []) t = subst (λ x. Grouped widths.Two (x ∷ j ∷ s) (k ∷ j ∷ []) t) (sym own.0) top in
        subst (Told widths.Two (a ∷ b ∷ s)) same (subst (λ x. Grouped widths.Two (a ∷ x ∷ s) (k ∷ j ∷ []) t) (sym own.1) back)
