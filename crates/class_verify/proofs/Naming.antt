-- What instructions of code that fits name by their constants.
use Rattle.std.proofs.Common.{◌≡◌, ℕ, ◌==◌, Bool, true, false, not, ◌||◌, cond, List, Option, Some, None, refl, sym, ap, ◌∙◌, subst}
use Rattle.std.specs.Prelude.{All, is_none, option_and_then, option_map}
use Rattle.std.specs.List.{list_any}
use Rattle.std.proofs.lemmas.List.Elements.{All-contains}
use Rattle.jvm_tables.specs.declared.code.Instr.{Instr}
use Rattle.jvm_tables.specs.declared.instruction.ConstantUse.{ConstantUse}
use Rattle.jvm_tables.specs.declared.instruction.ConstantUse.TheVariants as uses
use Rattle.jvm_tables.specs.declared.instruction.OpRow.{OpRow}
use Rattle.jvm_tables.specs.declared.instruction.ValueKind.{ValueKind}
use Rattle.jvm_tables.specs.declared.opcodes.TheConstants.{OPCODES}
use Rattle.jvm_tables.specs.Agreement.{uses_constant}
use Rattle.jvm_tables.specs.Opcodes.{row_of, every}
use Rattle.jvm_tables.proofs.Rows.{row_passes}
use Rattle.class_model.specs.declared.class_file.Class.{Class}
use Rattle.class_model.specs.declared.constant_pool.Constant.{Constant}
use Rattle.class_model.specs.declared.constant_pool.Constant.TheVariants as constants
use Rattle.class_model.specs.Constants.{is_some_that}
use Rattle.class_code.specs.Codes.{code_in}
use Rattle.class_code.specs.Constants.{Use, number_of, constant_of, descriptor_at, tags, descriptor_named, field_use, call_use, by_constant, nothing, said, values, both, use_of}
use Rattle.class_code.specs.Sites.{Site, site_at, unknown_by, has_unknown_site}
use Rattle.class_code.specs.Types.{Signature, kind_of, signature_of}
use Rattle.class_verify.specs.declared.shape.Shape.{Shape}
use Rattle.class_verify.specs.Bodies.{Body}
use Rattle.class_verify.specs.Effects.{is_slots}
use Rattle.class_verify.specs.Laws.{IsSafe}
use Rattle.class_verify.specs.LawsOfConstants.{NamesMember, NamesSite, names_method, EachFieldIsNamed, EachMethodIsNamed, EachSiteIsNamed, EachMethodFits}
use Rattle.class_verify.specs.LawsOfInstructions.{IsPlaced, IsLeft, IsExchanged}
use Rattle.class_verify.specs.Verified.{CodeFits, MethodFits, Fits}
use Rattle.class_verify.proofs.Lefts.{each_is_placed, each_leaves_by_parts, each_exchanges}

-- what names a constant moves no slots
abbrev moves_or_names : OpRow → Bool
moves_or_names row = not (uses_constant row.constant) || not (is_slots row.takes)

all_move_or_name : every moves_or_names OPCODES ≡ true
all_move_or_name = refl

row_moves_or_names : (op : ℕ) (row : OpRow) → row_of op ≡ Some row → moves_or_names row ≡ true
unfolding row_of
row_moves_or_names op row h = row_passes moves_or_names op OPCODES row all_move_or_name h

no_slots : (a b : Bool) → a ≡ true → (not a || not b) ≡ true → b ≡ false
no_slots true true e f = cc
no_slots true false e f = refl
no_slots false b e f = cc

-- the constant of an instruction that finds what it takes, and what it says
record Says (class : Class) (row : OpRow) (instr : Instr) : Type 0 where
  constant : Constant
  is : constant_of class instr ≡ Some constant
  told : Use
  says : by_constant row.constant row.operation (number_of instr.second) class.pool constant ≡ Some told
  said_so : said class row instr ≡ Some told

says_by_use : (class : Class) (row : OpRow) (instr : Instr) (found : Use) → uses_constant row.constant ≡ true → use_of class row instr ≡ Some found → Says class row instr
unfolding use_of
says_by_use class row instr found uses_one e = by_said (said class row instr) refl e
  where
    by_constant_of : (told : Use) (o : Option Constant) → constant_of class instr ≡ o → said class row instr ≡ Some told
        → option_and_then (by_constant row.constant row.operation (number_of instr.second) class.pool) o ≡ Some told → Says class row instr
    by_constant_of told None c s b = cc
    by_constant_of told (Some constant) c s b = record { constant = constant; is = c; told = told; says = b; said_so = s }

    by_said : (o : Option Use) → said class row instr ≡ o
        → option_and_then (λ (t : Use). both (values row.takes t.takes (number_of instr.second)) (values row.gives t.gives (number_of instr.second))) o ≡ Some found → Says class row instr
    by_said None s b = cc
    by_said (Some told) s b =
        by_constant_of told (constant_of class instr) refl s
        (sym (ap (λ c. cond c (option_and_then (by_constant row.constant row.operation (number_of instr.second) class.pool) (constant_of class instr)) (Some nothing)) uses_one) ∙ s)

says : (body : Body) (pc : ℕ) (shape : Shape) (instr : Instr) (row : OpRow) (after : Shape) → IsSafe body pc shape instr row after → uses_constant row.constant ≡ true → Says body.class row instr
says body pc shape instr row after safe uses_one =
    let placed : IsPlaced body.code pc instr row = each_is_placed body.code pc instr row safe.decodes in
    let parts : IsLeft body.class body.limits.stack row instr shape after = each_leaves_by_parts body.class body.limits.stack row instr shape after safe.leaves in
    let bare : is_slots row.takes ≡ false = no_slots (uses_constant row.constant) (is_slots row.takes) uses_one (row_moves_or_names instr.op row placed.own_row) in
    let given : IsExchanged body.class row instr shape.stack after.stack = each_exchanges body.class row instr shape.stack after.stack bare parts.stack in
    says_by_use body.class row instr given.values uses_one given.told

abbrev is_site : ConstantUse → Bool
is_site uses.CallSite = true
is_site _ = false

-- no call site is told where none may be named
no_site : (named : ConstantUse) (class : Class) (bootstrap name_type : ℕ) (descriptor : List ℕ) → is_site named ≡ false
    → descriptor_named named class.pool (constants.InvokeDynamic bootstrap name_type) ≡ Some descriptor → ⊥
no_site uses.Nothing class bootstrap name_type descriptor m d = cc
no_site uses.Loadable class bootstrap name_type descriptor m d = cc
no_site uses.LoadableLong class bootstrap name_type descriptor m d = cc
no_site uses.Class class bootstrap name_type descriptor m d = cc
no_site uses.Field class bootstrap name_type descriptor m d = cc
no_site uses.Method class bootstrap name_type descriptor m d = cc
no_site uses.AnyMethod class bootstrap name_type descriptor m d = cc
no_site uses.InterfaceMethod class bootstrap name_type descriptor m d = cc
no_site uses.CallSite class bootstrap name_type descriptor m d = cc

-- a descriptor that is told is that of a member with one of the tags
member_named : (named : ConstantUse) (class : Class) (row : OpRow) (instr : Instr) (constant : Constant) (descriptor : List ℕ) → row.constant ≡ named → is_site named ≡ false
    → constant_of class instr ≡ Some constant → descriptor_named named class.pool constant ≡ Some descriptor → NamesMember class row instr descriptor
member_named named class row instr (constants.Ref tag owner name_type) descriptor r m c d = decided (list_any (λ t. t == tag) (tags named)) refl d
  where
    decided : (b : Bool) → list_any (λ t. t == tag) (tags named) ≡ b → cond b (descriptor_at class.pool name_type) None ≡ Some descriptor → NamesMember class row instr descriptor
    decided false t e = cc
    decided true t e =
        record { tag = tag; owner = owner; name_type = name_type; constant = c; tagged = ap (λ u. list_any (λ n. n == tag) (tags u)) r ∙ t; told = e }
member_named named class row instr (constants.InvokeDynamic bootstrap name_type) descriptor r m c d = absurd (no_site named class bootstrap name_type descriptor m d)
member_named _ class row instr _ descriptor r m c d = cc

-- a descriptor with the type of a method, and what it says
record Typed (told_by : Option (List ℕ)) (told : Use) : Type 0 where
  descriptor : List ℕ
  signature : Signature
  is : told_by ≡ Some descriptor
  type : signature_of descriptor ≡ Some signature
  values_so : told ≡ call_use signature

typed : (o : Option (List ℕ)) (told : Use) → option_map call_use (option_and_then signature_of o) ≡ Some told → Typed o told
typed None told e = cc
typed (Some descriptor) told e = by_type (signature_of descriptor) refl e
  where
    by_type : (found : Option Signature) → signature_of descriptor ≡ found → option_map call_use found ≡ Some told → Typed (Some descriptor) told
    by_type None s f = cc
    by_type (Some signature) s f =
        let same : call_use signature ≡ told = cc in
        record { descriptor = descriptor; signature = signature; is = refl; type = s; values_so = sym same }

record TypedField (told_by : Option (List ℕ)) (told : Use) : Type 0 where
  descriptor : List ℕ
  kind : ValueKind
  is : told_by ≡ Some descriptor
  type : kind_of descriptor ≡ Some kind
  values_so : told ≡ field_use kind

typed_field : (o : Option (List ℕ)) (told : Use) → option_map field_use (option_and_then kind_of o) ≡ Some told → TypedField o told
typed_field None told e = cc
typed_field (Some descriptor) told e = by_type (kind_of descriptor) refl e
  where
    by_type : (found : Option ValueKind) → kind_of descriptor ≡ found → option_map field_use found ≡ Some told → TypedField (Some descriptor) told
    by_type None s f = cc
    by_type (Some kind) s f =
        let same : field_use kind ≡ told = cc in
        record { descriptor = descriptor; kind = kind; is = refl; type = s; values_so = sym same }

pub each_field_is_named : EachFieldIsNamed
each_field_is_named body pc shape instr row after safe r =
    let said_here : Says body.class row instr = says body pc shape instr row after safe (ap uses_constant r) in
    let field : TypedField (descriptor_named uses.Field body.class.pool said_here.constant) said_here.told =
    typed_field (descriptor_named uses.Field body.class.pool said_here.constant) said_here.told
    (sym (ap (λ u. by_constant u row.operation (number_of instr.second) body.class.pool said_here.constant) r) ∙ said_here.says) in
    record {
      descriptor = field.descriptor;
      kind = field.kind;
      member = member_named uses.Field body.class row instr said_here.constant field.descriptor r refl said_here.is field.is;
      type = field.type;
      values = said_here.said_so ∙ ap Some field.values_so;
    }

method_uses : (named : ConstantUse) → names_method named ≡ true → (uses_constant named ≡ true) × (is_site named ≡ false)
method_uses uses.Method e = (refl, refl)
method_uses uses.AnyMethod e = (refl, refl)
method_uses uses.InterfaceMethod e = (refl, refl)
method_uses _ e = cc

method_typed : (named : ConstantUse) (class : Class) (row : OpRow) (instr : Instr) (constant : Constant) (told : Use) → names_method named ≡ true
    → by_constant named row.operation (number_of instr.second) class.pool constant ≡ Some told → Typed (descriptor_named named class.pool constant) told
method_typed uses.Method class row instr constant told e s = typed (descriptor_named uses.Method class.pool constant) told s
method_typed uses.AnyMethod class row instr constant told e s = typed (descriptor_named uses.AnyMethod class.pool constant) told s
method_typed uses.InterfaceMethod class row instr constant told e s = typed (descriptor_named uses.InterfaceMethod class.pool constant) told s
method_typed _ class row instr constant told e s = cc

pub each_method_is_named : EachMethodIsNamed
each_method_is_named body pc shape instr row after safe m =
    let uses_so : (uses_constant row.constant ≡ true) × (is_site row.constant ≡ false) = method_uses row.constant m in
    let said_here : Says body.class row instr = says body pc shape instr row after safe uses_so.0 in
    let method : Typed (descriptor_named row.constant body.class.pool said_here.constant) said_here.told =
    method_typed row.constant body.class row instr said_here.constant said_here.told m said_here.says in
    record {
      descriptor = method.descriptor;
      signature = method.signature;
      member = member_named row.constant body.class row instr said_here.constant method.descriptor refl uses_so.1 said_here.is method.is;
      type = method.type;
      values = said_here.said_so ∙ ap Some method.values_so;
    }

-- a site that is told is known
site_named : (class : Class) (row : OpRow) (instr : Instr) (constant : Constant) (told : Use) → row.constant ≡ uses.CallSite → constant_of class instr ≡ Some constant
    → has_unknown_site class row instr ≡ false → Typed (descriptor_named uses.CallSite class.pool constant) told → said class row instr ≡ Some told → NamesSite class row instr
unfolding has_unknown_site
site_named class row instr (constants.InvokeDynamic bootstrap name_type) told r c known t s =
    by_site (site_at class bootstrap name_type) refl
    (sym (ap (λ u. is_some_that (unknown_by u class) (constant_of class instr)) r ∙ ap (is_some_that (unknown_by uses.CallSite class)) c) ∙ known)
  where
    by_site : (found : Option Site) → site_at class bootstrap name_type ≡ found → is_none found ≡ false → NamesSite class row instr
    by_site None f n = cc
    by_site (Some site) f n = record {
      bootstrap = bootstrap;
      name_type = name_type;
      site = site;
      descriptor = t.descriptor;
      signature = t.signature;
      constant = c;
      known = f;
      told = t.is;
      type = t.type;
      values = s ∙ ap Some t.values_so;
    }
site_named class row instr _ told r c known t s = absurd (nothing_told t.is)
  where
    nothing_told : None ≡ Some t.descriptor → ⊥
    nothing_told e = cc

pub each_site_is_named : EachSiteIsNamed
each_site_is_named body pc shape instr row after safe r =
    let said_here : Says body.class row instr = says body pc shape instr row after safe (ap uses_constant r) in
    let site : Typed (descriptor_named uses.CallSite body.class.pool said_here.constant) said_here.told =
    typed (descriptor_named uses.CallSite body.class.pool said_here.constant) said_here.told
    (sym (ap (λ u. by_constant u row.operation (number_of instr.second) body.class.pool said_here.constant) r) ∙ said_here.says) in
    site_named body.class row instr said_here.constant said_here.told r said_here.is safe.known_site site said_here.said_so

pub each_method_fits : EachMethodFits
unfolding MethodFits
each_method_fits classes class m c verified among of_class code =
    let fits : All (MethodFits class) class.methods = All-contains Fits classes class verified.fits among in
    let own : CodeFits class m (code_in m.attributes) = All-contains (MethodFits class) class.methods m fits of_class in
    subst (CodeFits class m) code own
