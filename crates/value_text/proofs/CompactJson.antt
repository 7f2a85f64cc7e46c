-- Reading the compact text of a JSON value gives that value back.
use Rattle.std.proofs.Common.{◌≡◌, ℕ, suc, ◌^◌, ◌<◌, ◌≤◌, max, pos, negsuc, List, [], ◌∷◌, Bool, true, false, IsUtf8, Option, Some, option_map, option_and_then, Less, Greater, refl, sym, ap, ap₂, ◌∙◌, subst, arith, append-nil}
use Rattle.std.specs.Prelude.{⊤}
use Rattle.std.specs.Ordering.{nat_cmp, ordering_reverse}
use Rattle.std.specs.Cmp.Lexicographic.{slice_cmp}
use Rattle.std.proofs.lemmas.Cmp.{nat_list_cmp_total}
use Rattle.json.specs.Lex.{tokens}
use Rattle.json.specs.Json as json
use Rattle.json.specs.Tree as tree
use Rattle.json.specs.Tree.{json_tokens, HasNumbers, ItemsHaveNumbers, MembersHaveNumbers}
use Rattle.json.specs.Print.{IsNumber, quoted}
use Rattle.json.proofs.Printed.Utf8.{IsUtf8-are_ascii, IsUtf8-boolean, IsUtf8-quoted}
use Rattle.std.proofs.lemmas.Str.{IsUtf8-append, IsUtf8-nil, IsUtf8-from_ascii}
use Rattle.std.proofs.lemmas.Fmt.{IsAscii-decimal, IsAscii-signed}
use Rattle.json.proofs.Printed.Tokens.{tokens-print}
use Rattle.json.proofs.Printed.Trees.{value-json_tokens, ArePrintable-json_tokens}
use Rattle.json.proofs.Printed.Decimals.{IsNumber-decimal, IsNumber-signed_decimal}
use Rattle.serde_json.specs.Data.{Num, unsigned, negative, float, Data, null, boolean, number, string, array, object, Items, no_items, item, Members, no_members, member, put, depth, items_depth, members_depth}
use Rattle.serde_json.specs.Read.{read, max_depth, number_of, of_json, of_items, of_members}
use Rattle.serde_json.specs.Written.{number_text, comma_if, items_text, members_text, outline, items_outline, members_outline, compact_text}
use Rattle.serde_json.proofs.Numbers.{number_of-decimal, number_of-negative}
use Rattle.serde_json.proofs.Texts.{print-outline}

-- ---- values that a text can give back: integers of 64 bits, and keys in byte order, each once

abbrev pub IsPlainNumber : Num → Type 0
IsPlainNumber (unsigned n) = n < 2 ^ 64
IsPlainNumber (negative (pos n)) = ⊥
IsPlainNumber (negative (negsuc n)) = n < 2 ^ 63
IsPlainNumber (float x) = ⊥

-- k is less than the first key
abbrev pub IsBelow : List ℕ → Members → Type 0
IsBelow k no_members = ⊤
IsBelow k (member l d ms) = slice_cmp nat_cmp k l ≡ Less

-- each text in it, keys too, is UTF-8
abbrev mutual
  pub HasUtf8 : Data → Type 0
  HasUtf8 null = ⊤
  HasUtf8 (boolean b) = ⊤
  HasUtf8 (number n) = ⊤
  HasUtf8 (string s) = IsUtf8 s
  HasUtf8 (array ds) = ItemsHaveUtf8 ds
  HasUtf8 (object ms) = MembersHaveUtf8 ms

  pub ItemsHaveUtf8 : Items → Type 0
  ItemsHaveUtf8 no_items = ⊤
  ItemsHaveUtf8 (item d ds) = HasUtf8 d × ItemsHaveUtf8 ds

  pub MembersHaveUtf8 : Members → Type 0
  MembersHaveUtf8 no_members = ⊤
  MembersHaveUtf8 (member k d ms) = IsUtf8 k × HasUtf8 d × MembersHaveUtf8 ms

abbrev mutual
  pub IsPlain : Data → Type 0
  IsPlain null = ⊤
  IsPlain (boolean b) = ⊤
  IsPlain (number n) = IsPlainNumber n
  IsPlain (string s) = ⊤
  IsPlain (array ds) = ArePlainItems ds
  IsPlain (object ms) = ArePlainMembers ms

  pub ArePlainItems : Items → Type 0
  ArePlainItems no_items = ⊤
  ArePlainItems (item d ds) = IsPlain d × ArePlainItems ds

  pub ArePlainMembers : Members → Type 0
  ArePlainMembers no_members = ⊤
  ArePlainMembers (member k d ms) = IsPlain d × IsBelow k ms × ArePlainMembers ms

-- ---- numbers

IsNumber-number_text : (n : Num) → IsPlainNumber n → IsNumber (number_text n)
IsNumber-number_text (unsigned n) h = IsNumber-decimal n h
IsNumber-number_text (negative (pos n)) h = absurd h
IsNumber-number_text (negative (negsuc n)) h = IsNumber-signed_decimal (negsuc n) h
IsNumber-number_text (float x) h = absurd h

number_of-number_text : (n : Num) → IsPlainNumber n → number_of (number_text n) ≡ Some n
number_of-number_text (unsigned n) h = number_of-decimal n h
number_of-number_text (negative (pos n)) h = absurd h
number_of-number_text (negative (negsuc n)) h = number_of-negative n h
number_of-number_text (float x) h = absurd h

mutual
  HasNumbers-outline : (d : Data) → IsPlain d → HasNumbers (outline d)
  HasNumbers-outline null h = tt
  HasNumbers-outline (boolean b) h = tt
  HasNumbers-outline (number n) h = IsNumber-number_text n h
  HasNumbers-outline (string s) h = tt
  HasNumbers-outline (array ds) h = ItemsHaveNumbers-outline ds h
  HasNumbers-outline (object ms) h = MembersHaveNumbers-outline ms h

  ItemsHaveNumbers-outline : (ds : Items) → ArePlainItems ds → ItemsHaveNumbers (items_outline ds)
  ItemsHaveNumbers-outline no_items h = tt
  ItemsHaveNumbers-outline (item d ds) h = (HasNumbers-outline d h.0, ItemsHaveNumbers-outline ds h.1)

  MembersHaveNumbers-outline : (ms : Members) → ArePlainMembers ms → MembersHaveNumbers (members_outline ms)
  MembersHaveNumbers-outline no_members h = tt
  MembersHaveNumbers-outline (member k d ms) h = (HasNumbers-outline d h.0, MembersHaveNumbers-outline ms h.2)

-- ---- depth

mutual
  depth-outline : (d : Data) → tree.depth (outline d) ≡ depth d
  depth-outline null = refl
  depth-outline (boolean b) = refl
  depth-outline (number n) = refl
  depth-outline (string s) = refl
  depth-outline (array ds) = ap suc (items_depth-outline ds)
  depth-outline (object ms) = ap suc (members_depth-outline ms)

  items_depth-outline : (ds : Items) → tree.items_depth (items_outline ds) ≡ items_depth ds
  items_depth-outline no_items = refl
  items_depth-outline (item d ds) = ap₂ max (depth-outline d) (items_depth-outline ds)

  members_depth-outline : (ms : Members) → tree.members_depth (members_outline ms) ≡ members_depth ms
  members_depth-outline no_members = refl
  members_depth-outline (member k d ms) = ap₂ max (depth-outline d) (members_depth-outline ms)

-- ---- members that come in order go in at the end

abbrev joined : Members → Members → Members
joined no_members ms = ms
joined (member k d ds) ms = member k d (joined ds ms)

joined_assoc : (a b c : Members) → joined (joined a b) c ≡ joined a (joined b c)
joined_assoc no_members b c = refl
joined_assoc (member k d ds) b c = ap (member k d) (joined_assoc ds b c)

-- each key is less than k
abbrev AreAllBelow : Members → List ℕ → Type 0
AreAllBelow no_members k = ⊤
AreAllBelow (member l d ms) k = (slice_cmp nat_cmp l k ≡ Less) × AreAllBelow ms k

AreAllBelow-next : (ms : Members) (k l : List ℕ) → AreAllBelow ms k → slice_cmp nat_cmp k l ≡ Less → AreAllBelow ms l
AreAllBelow-next no_members k l h below = tt
AreAllBelow-next (member m d ms) k l h below = (nat_list_cmp_total.trans m k l h.0 below, AreAllBelow-next ms k l h.1 below)

AreAllBelow-joined : (ms : Members) (k l : List ℕ) (d : Data) → AreAllBelow ms l → slice_cmp nat_cmp k l ≡ Less → AreAllBelow (joined ms (member k d no_members)) l
AreAllBelow-joined no_members k l d h below = (below, tt)
AreAllBelow-joined (member m e ms) k l d h below = (h.0, AreAllBelow-joined ms k l d h.1 below)

put_last : (k : List ℕ) (d : Data) (ms : Members) → AreAllBelow ms k → put k d ms ≡ joined ms (member k d no_members)
put_last k d no_members h = refl
put_last k d (member l e ms) h =
    let after : slice_cmp nat_cmp k l ≡ Greater = nat_list_cmp_total.antisymm k l ∙ ap ordering_reverse h.0 in
    rw after (ap (member l e) (put_last k d ms h.1))

-- the keys found are less than each of those to come
abbrev AreAllBefore : Members → Members → Type 0
AreAllBefore found no_members = ⊤
AreAllBefore found (member k d ms) = AreAllBelow found k

AreAllBefore-joined : (found ms : Members) (k : List ℕ) (d : Data) → AreAllBelow found k → IsBelow k ms → AreAllBefore (joined found (member k d no_members)) ms
AreAllBefore-joined found no_members k d h below = tt
AreAllBefore-joined found (member l e ms) k d h below = AreAllBelow-joined found k l d (AreAllBelow-next found k l h below) below

joined_none : (ms : Members) → joined ms no_members ≡ ms
joined_none no_members = refl
joined_none (member k d ms) = ap (member k d) (joined_none ms)

none_before : (ms : Members) → AreAllBefore no_members ms
none_before no_members = tt
none_before (member k d ms) = tt

mutual
  of_json-outline : (d : Data) → IsPlain d → of_json (outline d) ≡ Some d
  of_json-outline null h = refl
  of_json-outline (boolean b) h = refl
  of_json-outline (number n) h = ap (option_map number) (number_of-number_text n h)
  of_json-outline (string s) h = refl
  of_json-outline (array ds) h = ap (option_map array) (of_items-outline ds h)
  of_json-outline (object ms) h = ap (option_map object) (of_members-outline ms no_members h (none_before ms))

  of_items-outline : (ds : Items) → ArePlainItems ds → of_items (items_outline ds) ≡ Some ds
  of_items-outline no_items h = refl
  of_items-outline (item d ds) h =
      ap (option_and_then (λ e. option_map (item e) (of_items (items_outline ds)))) (of_json-outline d h.0)
      ∙ ap (option_map (item d)) (of_items-outline ds h.1)

  of_members-outline : (ms found : Members) → ArePlainMembers ms → AreAllBefore found ms → of_members (members_outline ms) found ≡ Some (joined found ms)
  of_members-outline no_members found h before = ap Some (sym (joined_none found))
  of_members-outline (member k d ms) found h before =
      let grown = joined found (member k d no_members) in
      ap (option_and_then (λ e. of_members (members_outline ms) (put k e found))) (of_json-outline d h.0)
      ∙ ap (of_members (members_outline ms)) (put_last k d found before)
      ∙ of_members-outline ms grown h.2 (AreAllBefore-joined found ms k d before h.1)
      ∙ ap Some (joined_assoc found (member k d no_members) ms)

-- ---- the whole text

tokens-compact_text : (d : Data) → IsPlain d → tokens (compact_text d) ≡ json_tokens (outline d)
tokens-compact_text d h = ap tokens (sym (print-outline d)) ∙ tokens-print _ (ArePrintable-json_tokens (outline d) (HasNumbers-outline d h))

-- the value of a text that nests no deeper than the number
abbrev read_within : ℕ → List ℕ → Option Data
read_within deep text = option_and_then of_json (option_and_then (λ p. json.if_last p.0 p.1) (json.value deep (tokens text)))

read_to : (deep : ℕ) (d : Data) → IsPlain d → depth d ≤ deep → read_within deep (compact_text d) ≡ Some d
read_to deep d h shallow =
    ap (λ o. option_and_then of_json (option_and_then (λ p. json.if_last p.0 p.1) o))
    (ap (json.value deep) (tokens-compact_text d h ∙ sym (append-nil _))
    ∙ value-json_tokens (outline d) deep [] (subst (λ (n : ℕ). n ≤ deep) (sym (depth-outline d)) shallow))
    ∙ of_json-outline d h

pub read-compact_text : (d : Data) → IsPlain d → depth d ≤ max_depth → read (compact_text d) ≡ Some d
read-compact_text d h shallow = read_to max_depth d h shallow

-- a text has one value
pub compact_text-injective : (d e : Data) → IsPlain d → IsPlain e → compact_text d ≡ compact_text e → d ≡ e
compact_text-injective d e plain other same =
    let deep = max (depth d) (depth e) in
    let first = read_to deep d plain (omega arith) in
    let second = read_to deep e other (omega arith) in
    let both : Some d ≡ Some e = sym first ∙ ap (read_within deep) same ∙ second in
    cc

-- ---- UTF-8

IsUtf8-number_text : (n : Num) → IsPlainNumber n → IsUtf8 (number_text n)
IsUtf8-number_text (unsigned n) h = IsUtf8-from_ascii _ (IsAscii-decimal n h)
IsUtf8-number_text (negative (pos n)) h = absurd h
IsUtf8-number_text (negative (negsuc n)) h = IsUtf8-from_ascii _ (IsAscii-signed (negsuc n) h)
IsUtf8-number_text (float x) h = absurd h

IsUtf8-comma_if : (b : Bool) → IsUtf8 (comma_if b)
IsUtf8-comma_if true = IsUtf8-are_ascii _ refl
IsUtf8-comma_if false = IsUtf8-nil

mutual
  pub IsUtf8-compact_text : (d : Data) → IsPlain d → HasUtf8 d → IsUtf8 (compact_text d)
  IsUtf8-compact_text null h texts = IsUtf8-are_ascii _ refl
  IsUtf8-compact_text (boolean b) h texts = IsUtf8-boolean b
  IsUtf8-compact_text (number n) h texts = IsUtf8-number_text n h
  IsUtf8-compact_text (string s) h texts = IsUtf8-quoted s texts
  IsUtf8-compact_text (array ds) h texts = IsUtf8-append (91 ∷ []) _ (IsUtf8-are_ascii _ refl) (IsUtf8-items_text false ds h texts)
  IsUtf8-compact_text (object ms) h texts = IsUtf8-append (123 ∷ []) _ (IsUtf8-are_ascii _ refl) (IsUtf8-members_text false ms h texts)

  IsUtf8-items_text : (later : Bool) (ds : Items) → ArePlainItems ds → ItemsHaveUtf8 ds → IsUtf8 (items_text later ds)
  IsUtf8-items_text later no_items h texts = IsUtf8-are_ascii _ refl
  IsUtf8-items_text later (item d ds) h texts =
      IsUtf8-append (comma_if later) _ (IsUtf8-comma_if later) (IsUtf8-append _ _ (IsUtf8-compact_text d h.0 texts.0) (IsUtf8-items_text true ds h.1 texts.1))

  IsUtf8-members_text : (later : Bool) (ms : Members) → ArePlainMembers ms → MembersHaveUtf8 ms → IsUtf8 (members_text later ms)
  IsUtf8-members_text later no_members h texts = IsUtf8-are_ascii _ refl
  IsUtf8-members_text later (member k d ms) h texts =
      IsUtf8-append (comma_if later) _ (IsUtf8-comma_if later) (IsUtf8-append (quoted k) _ (IsUtf8-quoted k texts.0) (IsUtf8-append (58 ∷ []) _ (IsUtf8-are_ascii _ refl)
      (IsUtf8-append _ _ (IsUtf8-compact_text d h.0 texts.1) (IsUtf8-members_text true ms h.2 texts.2))))
