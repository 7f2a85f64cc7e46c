-- Lists that are read item by item.
use Rattle.std.proofs.Common.{◌≡◌, ℕ, zero, suc, ◌+◌, ◌-◌, ◌<◌, ◌≤◌, List, [], ◌∷◌, ◌++◌, Result, Ok, Err, refl, sym, ap, subst, ◌∙◌, append_assoc, append-nil, arith}
use Rattle.class_text.specs.Reading.{Reading, ◌>>=◌}
use Rattle.class_text.specs.Readers.{Reader, many_after}
use Rattle.const_pool.specs.declared.class_fault.ClassFault.{ClassFault}
use Rattle.const_pool.specs.Faults.{Fails, with_front}
use Rattle.const_pool.proofs.Faults.{fails_via}

joined : {A : Type 0} (front : List A) (x : A) (others : Reading (List A)) → with_front (front ++ x ∷ []) others ≡ with_front front (others >>= (λ o. Ok (x ∷ o.0, o.1)))
joined front x (Ok o) = ap (λ (l : List _). Ok (l, o.1)) (append_assoc front (x ∷ []) o.0)
joined front x (Err f) = refl

-- one more item was read
pub read_on : {A : Type 0} (one : List A → Reader A) (front : List A) (left end : ℕ) (bytes : List ℕ) (x : A) (rest : List ℕ) (total : Reading (List A)) → one front end bytes ≡ Ok (x, rest)
    → with_front front (many_after one front (suc left) end bytes) ≡ total → with_front (front ++ x ∷ []) (many_after one (front ++ x ∷ []) left end rest) ≡ total
unfolding many_after
read_on one front left end bytes x rest total is so_far =
    joined front x (many_after one (front ++ x ∷ []) left end rest)
    ∙ ap (with_front front) (sym (ap (λ found. found >>= (λ first. many_after one (front ++ first.0 ∷ []) left end first.1 >>= (λ others. Ok (first.0 ∷ others.0, others.1)))) is))
    ∙ so_far

-- an item was refused
pub read_fails : {A : Type 0} (one : List A → Reader A) (front : List A) (left end : ℕ) (bytes : List ℕ) (e : ClassFault) (total : Reading (List A)) → 0 < left → Fails e (one front end bytes)
    → with_front front (many_after one front left end bytes) ≡ total → Fails e total
unfolding many_after
read_fails one front zero end bytes e total some is so_far = absurd (omega arith)
read_fails one front (suc left) end bytes e total some is so_far =
    fails_via e (one front end bytes) total
    (λ f is. sym so_far ∙ ap (with_front front) (ap (λ found. found >>= (λ first. many_after one (front ++ first.0 ∷ []) left end first.1 >>= (λ others. Ok (first.0 ∷ others.0, others.1)))) is)) is

-- no item is left
pub read_all : {A : Type 0} (one : List A → Reader A) (front : List A) (left end : ℕ) (bytes : List ℕ) (total : Reading (List A)) → left ≡ 0 → with_front front (many_after one front left end bytes) ≡ total → total ≡ Ok (front, bytes)
unfolding many_after
read_all one front zero end bytes total none so_far = sym so_far ∙ ap (λ (l : List _). Ok (l, bytes)) (append-nil front)
read_all one front (suc left) end bytes total none so_far = absurd (omega arith)

pub none_before : {A : Type 0} (read : Reading (List A)) → with_front [] read ≡ read
none_before (Ok x) = refl
none_before (Err f) = refl

-- the same in a loop over so many numbers

pub next : {A : Type 0} (one : List A → Reader A) (front : List A) (count i end : ℕ) (bytes : List ℕ) (x : A) (rest : List ℕ) (total : Reading (List A)) → i < count → one front end bytes ≡ Ok (x, rest)
    → with_front front (many_after one front (count - i) end bytes) ≡ total → with_front (front ++ x ∷ []) (many_after one (front ++ x ∷ []) (count - (i + 1)) end rest) ≡ total
next one front count i end bytes x rest total within is so_far =
    let more : count - i ≡ suc (count - (i + 1)) = omega arith in
    read_on one front (count - (i + 1)) end bytes x rest total is (subst (λ (n : ℕ). with_front front (many_after one front n end bytes) ≡ total) more so_far)

pub refused : {A : Type 0} (one : List A → Reader A) (front : List A) (count i end : ℕ) (bytes : List ℕ) (e : ClassFault) (total : Reading (List A)) → i < count → Fails e (one front end bytes)
    → with_front front (many_after one front (count - i) end bytes) ≡ total → Fails e total
refused one front count i end bytes e total within = read_fails one front (count - i) end bytes e total (omega arith)

pub done : {A : Type 0} (one : List A → Reader A) (front : List A) (count i end : ℕ) (bytes : List ℕ) (total : Reading (List A)) → count ≤ i → with_front front (many_after one front (count - i) end bytes) ≡ total → total ≡ Ok (front, bytes)
done one front count i end bytes total past = read_all one front (count - i) end bytes total (omega arith)

-- nothing was read yet
pub started : {A : Type 0} (one : List A → Reader A) (front : List A) (count end : ℕ) (bytes : List ℕ) → front ≡ []
    → with_front front (many_after one front (count - 0) end bytes) ≡ many_after one [] count end bytes
started one front count end bytes none =
    let same : count - 0 ≡ count = omega arith in
    ap (λ (l : List _). with_front l (many_after one l (count - 0) end bytes)) none ∙ none_before (many_after one [] (count - 0) end bytes)
    ∙ ap (λ (n : ℕ). many_after one [] n end bytes) same
