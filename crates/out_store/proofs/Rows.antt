-- What a row of puts or removals keeps, if each of them keeps it, and which names it leaves.
use Rattle.std.proofs.Common.{◌≡◌, ◌≢◌, ℕ, zero, suc, inl, inr, List, [], ◌∷◌, map, Contains, Option, Some, None, refl, sym, ap, subst, ◌∙◌, arith}
use Rattle.std.specs.List.{AllByRecursion}
use Rattle.io_traits.specs.Files.{File, Files, insert, remove, put_in, take_out, LeftByPut, LeftByRemove}
use Rattle.out_store.specs.Changes.{puts_in, takes_out, LeftByPuts, LeftByRemoves, at_name, OthersStay}
use Rattle.out_store.proofs.FileLaws.{get_insert_other, get_remove_other}

-- ---- elements

pub contains_here : {X : Type 0} (x : X) (xs : List X) → Contains (x ∷ xs) x
contains_here x xs = (zero, omega arith, refl)

pub contains_later : {X : Type 0} (x y : X) (xs : List X) → Contains xs y → Contains (x ∷ xs) y
contains_later x y xs (k, within, is) = (suc k, omega (arith, within), is)

pub contains_map : {X Y : Type 0} (f : X → Y) (xs : List X) (x : X) → Contains xs x → Contains (map f xs) (f x)
contains_map f [] x (k, within, is) = absurd (omega (arith, within))
contains_map f (y ∷ xs) x (zero, within, is) = (zero, omega arith, ap f is)
contains_map f (y ∷ xs) x (suc k, within, is) = contains_later (f y) (f x) (map f xs) (contains_map f xs x (k, omega (arith, within), is))

pub contains_unmap : {X Y : Type 0} (f : X → Y) (xs : List X) (y : Y) → Contains (map f xs) y → (x : X) × Contains xs x × (f x ≡ y)
contains_unmap f [] y (k, within, is) = absurd (omega (arith, within))
contains_unmap f (x ∷ xs) y (zero, within, is) = (x, contains_here x xs, is)
contains_unmap f (x ∷ xs) y (suc k, within, is) = let rest = contains_unmap f xs y (k, omega (arith, within), is) in (rest.0, contains_later x rest.0 xs rest.1, rest.2)

-- ---- what each put and each removal keeps

-- the content is told, and P holds of it
abbrev pub In : (Files → Type 0) → Option Files → Type 0
In P None = ⊥
In P (Some files) = P files

pub record Safe (P : Files → Type 0) (file : File) : Type 0 where
  pub put : (files : Files) → P files → P (insert files file.0 file.1)
  pub removal : (files : Files) → P files → P (remove files file.0)

pub keep_put : (P : Files → Type 0) (file : File) → Safe P file → (old new : Option Files) → LeftByPut file.0 file.1 old new → In P old → In P new
keep_put P file safe old new (inl same) h = subst (In P) (sym same) h
keep_put P file safe None new (inr left) h = absurd h
keep_put P file safe (Some files) new (inr (inl put)) h = subst (In P) (sym put) (safe.put files h)
keep_put P file safe (Some files) new (inr (inr taken)) h = subst (In P) (sym taken) (safe.removal files h)

pub keep_in : (P : Files → Type 0) (file : File) → Safe P file → (old : Option Files) → In P old → In P (put_in file.0 file.1 old)
keep_in P file safe None h = absurd h
keep_in P file safe (Some files) h = safe.put files h

pub keep_puts : (P : Files → Type 0) (puts : List File) → AllByRecursion (Safe P) puts → (old new : Option Files) → LeftByPuts puts old new → In P old → In P new
keep_puts P [] safe old new left h = subst (In P) (sym left) h
keep_puts P (file ∷ puts) safe old new (inl here) h = keep_put P file safe.0 old new here h
keep_puts P (file ∷ puts) safe old new (inr later) h = keep_puts P puts safe.1 (put_in file.0 file.1 old) new later (keep_in P file safe.0 old h)

pub keep_all : (P : Files → Type 0) (puts : List File) → AllByRecursion (Safe P) puts → (old : Option Files) → In P old → In P (puts_in puts old)
keep_all P [] safe old h = h
keep_all P (file ∷ puts) safe old h = keep_all P puts safe.1 (put_in file.0 file.1 old) (keep_in P file safe.0 old h)

pub record SafeGone (P : Files → Type 0) (name : List ℕ) : Type 0 where
  pub removal : (files : Files) → P files → P (remove files name)

pub keep_out : (P : Files → Type 0) (name : List ℕ) → SafeGone P name → (old : Option Files) → In P old → In P (take_out name old)
keep_out P name safe None h = absurd h
keep_out P name safe (Some files) h = safe.removal files h

pub keep_remove : (P : Files → Type 0) (name : List ℕ) → SafeGone P name → (old new : Option Files) → LeftByRemove name old new → In P old → In P new
keep_remove P name safe old new (inl same) h = subst (In P) (sym same) h
keep_remove P name safe old new (inr taken) h = subst (In P) (sym taken) (keep_out P name safe old h)

pub keep_removes : (P : Files → Type 0) (gone : List (List ℕ)) → AllByRecursion (SafeGone P) gone → (old new : Option Files) → LeftByRemoves gone old new → In P old → In P new
keep_removes P [] safe old new left h = subst (In P) (sym left) h
keep_removes P (name ∷ gone) safe old new (inl here) h = keep_remove P name safe.0 old new here h
keep_removes P (name ∷ gone) safe old new (inr later) h = keep_removes P gone safe.1 (take_out name old) new later (keep_out P name safe.0 old h)

pub keep_all_out : (P : Files → Type 0) (gone : List (List ℕ)) → AllByRecursion (SafeGone P) gone → (old : Option Files) → In P old → In P (takes_out gone old)
keep_all_out P [] safe old h = h
keep_all_out P (name ∷ gone) safe old h = keep_all_out P gone safe.1 (take_out name old) (keep_out P name safe.0 old h)

-- ---- the names that a row leaves

at_put : (name : List ℕ) (file : File) (content : Option Files) → name ≢ file.0 → at_name name (put_in file.0 file.1 content) ≡ at_name name content
at_put name file None other = refl
at_put name file (Some files) other = ap Some (get_insert_other files file.0 file.1 name other)

at_out : (name gone : List ℕ) (content : Option Files) → name ≢ gone → at_name name (take_out gone content) ≡ at_name name content
at_out name gone None other = refl
at_out name gone (Some files) other = ap Some (get_remove_other files gone name other)

at_left : (name : List ℕ) (file : File) (old new : Option Files) → name ≢ file.0 → LeftByPut file.0 file.1 old new → at_name name new ≡ at_name name old
at_left name file old new other (inl same) = ap (at_name name) same
at_left name file old new other (inr (inl put)) = ap (at_name name) put ∙ at_put name file old other
at_left name file old new other (inr (inr taken)) = ap (at_name name) taken ∙ at_out name file.0 old other

abbrev pub put_names : List File → List (List ℕ)
put_names puts = map (λ file. file.0) puts

pub others_left : (puts : List File) (old new : Option Files) → LeftByPuts puts old new → OthersStay (λ name. Contains (put_names puts) name) old new
others_left [] old new left name other = ap (at_name name) left
others_left (file ∷ puts) old new (inl here) name other = at_left name file old new (λ e. other (zero, omega arith, sym e)) here
others_left (file ∷ puts) old new (inr later) name other =
    others_left puts (put_in file.0 file.1 old) new later name (λ in_rest. other (contains_later file.0 name (put_names puts) in_rest))
    ∙ at_put name file old (λ e. other (zero, omega arith, sym e))

out_left : (name gone : List ℕ) (old new : Option Files) → name ≢ gone → LeftByRemove gone old new → at_name name new ≡ at_name name old
out_left name gone old new other (inl same) = ap (at_name name) same
out_left name gone old new other (inr taken) = ap (at_name name) taken ∙ at_out name gone old other

pub others_left_out : (gone : List (List ℕ)) (old new : Option Files) → LeftByRemoves gone old new → OthersStay (λ name. Contains gone name) old new
others_left_out [] old new left name other = ap (at_name name) left
others_left_out (x ∷ gone) old new (inl here) name other = out_left name x old new (λ e. other (zero, omega arith, sym e)) here
others_left_out (x ∷ gone) old new (inr later) name other =
    others_left_out gone (take_out x old) new later name (λ in_rest. other (contains_later x name gone in_rest))
    ∙ at_out name x old (λ e. other (zero, omega arith, sym e))

pub others_out : (gone : List (List ℕ)) (old : Option Files) → OthersStay (λ name. Contains gone name) old (takes_out gone old)
others_out [] old name other = refl
others_out (x ∷ gone) old name other =
    others_out gone (take_out x old) name (λ in_rest. other (contains_later x name gone in_rest)) ∙ at_out name x old (λ e. other (zero, omega arith, sym e))
