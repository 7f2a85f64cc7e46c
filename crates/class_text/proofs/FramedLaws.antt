-- What holds of the readers of attributes behind their name and length, and of lists of them.
use Rattle.std.proofs.Common.{◌≡◌, ℕ, ◌^◌, ◌<◌, Bool, true, false, cond, ◌&&◌, List, [], ◌∷◌, ◌++◌, length, map, codes, bytes_eq, Ok, Err, refl, sym, append_assoc, append-nil}
use Rattle.std.specs.List.{AllByRecursion}
use Rattle.std.specs.Int.{w16, w32, to_be_bytes}
use Rattle.class_model.specs.declared.constant_pool.Pool.{Pool}
use Rattle.class_model.specs.declared.attribute_forms.Attribute.{Attribute, out-Attribute}
use Rattle.class_model.specs.Attributes.{Place, is_known, attribute_name, IsAttributesBy}
use Rattle.class_model.specs.Spelling as spelling
use Rattle.class_text.specs.Reading.{bad_attribute, barred_code, second_attribute}
use Rattle.class_text.specs.Readers.{Reader, u4_at, index_at, counted_after, within}
use Rattle.class_text.specs.Elements.{leads_to_text}
use Rattle.class_text.specs.Attributes.{text_or_empty, is_first, named_at, attribute_by}
use Rattle.class_text.proofs.Readers.{Reads, ReadsAll, as_reads, give_reads, bind, bind_reads, unless_reads, except_reads, here_reads}
use Rattle.class_text.proofs.Steps.{judged}
use Rattle.class_text.proofs.Parts.{u4_reads, counted_reads, within_reads, AllAfter, all_split, all_joined, all_as, all_mapped, all_unmapped}
use Rattle.class_text.proofs.Once.{once_from, once_after}
use Rattle.class_text.proofs.Numbered.{IsFew}
use Rattle.class_text.proofs.ElementLaws.{text_reads}

-- no known attribute of its name stands before it
abbrev pub is_beside : Pool → Place → List Attribute → Attribute → Bool
is_beside pool stand before a = is_first (is_known stand) bytes_eq (map (attribute_name pool) before) (attribute_name pool a)

-- where code is barred it has another name
abbrev pub is_code_barred : Pool → Bool → Attribute → Bool
is_code_barred pool barred a = barred && bytes_eq (codes "Code") (attribute_name pool a)

module _ (pool : Pool) (few : IsFew pool) (stand : Place) (barred : Bool) (content : ℕ → ℕ → Reader Attribute) (Form : Attribute → Type 0) (s : Attribute → List ℕ)
    (contents : (name at : ℕ) → leads_to_text pool name ≡ true → ReadsAll (content name at) (λ a. (spelling.name_of (out-Attribute a) ≡ name) × Form a) s)
    (has_name : (a : Attribute) → Form a → leads_to_text pool (spelling.name_of (out-Attribute a)) ≡ true) where
  abbrev name : Attribute → ℕ
  name a = spelling.name_of (out-Attribute a)

  -- what is said of an attribute by itself, and beside others
  abbrev IsOne : Attribute → Type 0
  IsOne a = Form a × (length (s a) < 2 ^ 32)

  abbrev IsBeside : List Attribute → Attribute → Type 0
  IsBeside before a = (is_beside pool stand before a ≡ true) × (is_code_barred pool barred a ≡ false)

  abbrev framed : Attribute → List ℕ
  framed a = spelling.framed (name a) (s a)

  sized : ℕ → ℕ → Reader Attribute
  sized n at = bind u4_at (λ len. within at len (content n at))

  sized_reads : (n at : ℕ) → leads_to_text pool n ≡ true → Reads (sized n at) (λ a. (length (s a) < 2 ^ 32) × (((name a ≡ n) × Form a) × (length (s a) ≡ length (s a)))) (λ a. to_be_bytes w32 (length (s a)) ++ s a)
  unfolding sized
  sized_reads n at named =
      bind_reads u4_at (λ len. len < 2 ^ 32) (to_be_bytes w32) (λ len. within at len (content n at)) (λ len a. ((name a ≡ n) × Form a) × (length (s a) ≡ len)) (λ len. s) (λ a. length (s a))
      u4_reads (λ len low. within_reads at len (content n at) (λ a. (name a ≡ n) × Form a) s (contents n at named)) (λ len a q. q.1)

  abbrev pub IsNew : List Attribute → ℕ → Type 0
  IsNew before n = (leads_to_text pool n ≡ true) × ((is_first (is_known stand) bytes_eq (map (attribute_name pool) before) (text_or_empty pool n) ≡ true) × ((barred && bytes_eq (codes "Code") (text_or_empty pool n)) ≡ false))

  judged_reads : (before : List Attribute) (at n : ℕ) → Reads (judged pool stand barred before at n) (λ m. (is_first (is_known stand) bytes_eq (map (attribute_name pool) before) (text_or_empty pool n) ≡ true) × (((barred && bytes_eq (codes "Code") (text_or_empty pool n)) ≡ false) × (m ≡ n))) (λ m. [])
  judged_reads before at n =
      unless_reads (is_first (is_known stand) bytes_eq (map (attribute_name pool) before) (text_or_empty pool n)) (second_attribute at) (λ end bytes. cond (barred && bytes_eq (codes "Code") (text_or_empty pool n)) (Err (bad_attribute at barred_code)) (Ok (n, bytes))) _ _
      (λ first. except_reads (barred && bytes_eq (codes "Code") (text_or_empty pool n)) (bad_attribute at barred_code) (λ end bytes. Ok (n, bytes)) (λ m. m ≡ n) (λ m. []) (λ plain. give_reads n))

  pub named_reads : (before : List Attribute) → Reads (named_at pool stand barred before) (IsNew before) (to_be_bytes w16)
  unfolding named_at
  named_reads before =
      here_reads (λ at. bind (index_at (leads_to_text pool)) (judged pool stand barred before at)) (IsNew before) (to_be_bytes w16) (λ at.
      as_reads (bind (index_at (leads_to_text pool)) (judged pool stand barred before at)) _ _ (IsNew before) (to_be_bytes w16)
      (bind_reads (index_at (leads_to_text pool)) (λ n. leads_to_text pool n ≡ true) (to_be_bytes w16) (judged pool stand barred before at) (λ n m. (is_first (is_known stand) bytes_eq (map (attribute_name pool) before) (text_or_empty pool n) ≡ true) × (((barred && bytes_eq (codes "Code") (text_or_empty pool n)) ≡ false) × (m ≡ n))) (λ n m. []) (λ m. m)
      (text_reads pool few) (λ n named. judged_reads before at n) (λ n m q. q.1.1))
      (λ n p. (p.0, (p.1.0, p.1.1.0))) (λ n q. (q.0, (q.1.0, (q.1.1, refl)))) (λ n q. append-nil (to_be_bytes w16 n)))

  pub attribute_reads : (before : List Attribute) → Reads (attribute_by content pool stand barred before) (λ a. IsOne a × IsBeside before a) framed
  unfolding attribute_by sized is_first
  attribute_reads before =
      here_reads (λ at. bind (named_at pool stand barred before) (λ n. sized n at)) (λ a. IsOne a × IsBeside before a) framed (λ at.
      as_reads (bind (named_at pool stand barred before) (λ n. sized n at)) (λ a. IsNew before (name a) × ((length (s a) < 2 ^ 32) × (((name a ≡ name a) × Form a) × (length (s a) ≡ length (s a))))) (λ a. to_be_bytes w16 (name a) ++ (to_be_bytes w32 (length (s a)) ++ s a)) (λ a. IsOne a × IsBeside before a) framed
      (bind_reads (named_at pool stand barred before) (IsNew before) (to_be_bytes w16) (λ n. sized n at) (λ n a. (length (s a) < 2 ^ 32) × (((name a ≡ n) × Form a) × (length (s a) ≡ length (s a)))) (λ n a. to_be_bytes w32 (length (s a)) ++ s a) name
      (named_reads before) (λ n new. sized_reads n at new.0) (λ n a q. q.1.0.0))
      (λ a p. ((p.1.1.0.1, p.1.0), (p.0.1.0, p.0.1.1)))
      (λ a q. ((has_name a q.0.0, (q.1.0, q.1.1)), (q.0.1, ((refl, q.0.0), refl))))
      (λ a q. sym (append_assoc (to_be_bytes w16 (name a)) (to_be_bytes w32 (length (s a))) (s a))))

  -- counted attributes, where `Each` says of an attribute what `Form` and the length do
  pub attributes_read : (Each : Attribute → Type 0) → ((a : Attribute) → IsOne a → Each a) → ((a : Attribute) → Each a → IsOne a) → (spell : Attribute → List ℕ) → ((a : Attribute) → framed a ≡ spell a)
      → Reads (counted_after (attribute_by content pool stand barred)) (λ xs. IsAttributesBy Each pool stand xs × AllByRecursion (λ a. is_code_barred pool barred a ≡ false) xs) (spelling.counted spell)
  attributes_read Each to from spell same =
      as_reads (counted_after (attribute_by content pool stand barred)) (λ xs. (length xs < 2 ^ 16) × AllAfter (λ b a. IsOne a × IsBeside b a) [] xs) (spelling.counted spell) (λ xs. IsAttributesBy Each pool stand xs × AllByRecursion (λ a. is_code_barred pool barred a ≡ false) xs) (spelling.counted spell)
      (counted_reads (attribute_by content pool stand barred) (λ b a. IsOne a × IsBeside b a) spell (λ before. as_reads (attribute_by content pool stand barred before) (λ a. IsOne a × IsBeside before a) framed (λ a. IsOne a × IsBeside before a) spell (attribute_reads before) (λ a p. p) (λ a p. p) (λ a p. same a)))
      on back (λ xs p. refl)
    where
      names : List Attribute → List (List ℕ)
      names = map (attribute_name pool)

      on : (xs : List Attribute) → (length xs < 2 ^ 16) × AllAfter (λ b a. IsOne a × IsBeside b a) [] xs → IsAttributesBy Each pool stand xs × AllByRecursion (λ a. is_code_barred pool barred a ≡ false) xs
      on xs p =
          let parts = all_split IsOne IsBeside [] xs p.1 in
          let beside = split_beside [] xs parts.1 in
          (record { each = (p.0, all_as IsOne Each to xs parts.0); once = (once_from (is_known stand) bytes_eq [] (names xs) (all_mapped (attribute_name pool) (λ b n. is_first (is_known stand) bytes_eq b n ≡ true) [] xs beside.0)).0 }, beside.1)
        where
          split_beside : (before ys : List Attribute) → AllAfter IsBeside before ys → AllAfter (λ b a. is_beside pool stand b a ≡ true) before ys × AllByRecursion (λ a. is_code_barred pool barred a ≡ false) ys
          split_beside before [] all = (tt, tt)
          split_beside before (y ∷ ys) all = let q = split_beside (before ++ y ∷ []) ys all.1 in ((all.0.0, q.0), (all.0.1, q.1))

      back : (xs : List Attribute) → IsAttributesBy Each pool stand xs × AllByRecursion (λ a. is_code_barred pool barred a ≡ false) xs → (length xs < 2 ^ 16) × AllAfter (λ b a. IsOne a × IsBeside b a) [] xs
      back xs q =
          let first = all_unmapped (attribute_name pool) (λ b n. is_first (is_known stand) bytes_eq b n ≡ true) [] xs (once_after (is_known stand) bytes_eq [] (names xs) q.0.once tt) in
          (q.0.each.0, all_joined IsOne IsBeside [] xs (all_as Each IsOne from xs q.0.each.1) (join_beside [] xs first q.1))
        where
          join_beside : (before ys : List Attribute) → AllAfter (λ b a. is_beside pool stand b a ≡ true) before ys → AllByRecursion (λ a. is_code_barred pool barred a ≡ false) ys → AllAfter IsBeside before ys
          join_beside before [] f all = tt
          join_beside before (y ∷ ys) f all = ((f.0, all.0), join_beside (before ++ y ∷ []) ys f.1 all.1)
