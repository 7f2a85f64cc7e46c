-- The first of several faults.
use Rattle.std.proofs.Common.{◌≡◌, Bool, true, false, Option, Some, None, Result, Ok, Err, IfErr, IsErrAnd, IsOkUnless, refl, sym, ◌∙◌, subst}
use Rattle.const_pool.specs.declared.write_fault.Part.{Part}
use Rattle.const_pool.specs.declared.write_fault.WriteFault.{WriteFault}
use Rattle.const_pool.specs.declared.write_fault.WriteFault.TheVariants.{TooLarge, BadShape, Memory}
use Rattle.const_pool.specs.Writing.{Names}
use Rattle.class_write.specs.Order.{unless, ◌<|>◌, Refuses}

pub refuses_here : (e : WriteFault) (a b : Option WriteFault) → Refuses e a → Refuses e (a <|> b)
unfolding Refuses ◌<|>◌
refuses_here Memory a b r = tt
refuses_here (TooLarge part) None b r = absurd (let h : None ≡ Some (TooLarge part) = r in cc)
refuses_here (TooLarge part) (Some f) b r = r
refuses_here (BadShape part) None b r = absurd (let h : None ≡ Some (BadShape part) = r in cc)
refuses_here (BadShape part) (Some f) b r = r

pub refuses_later : (e : WriteFault) (a b : Option WriteFault) → a ≡ None → Refuses e b → Refuses e (a <|> b)
unfolding ◌<|>◌
refuses_later e a b none r = rw none r

pub none_both : (a b : Option WriteFault) → a ≡ None → b ≡ None → (a <|> b) ≡ None
unfolding ◌<|>◌
none_both a b none also = rw (none, also) refl

pub none_parts : (a b : Option WriteFault) → (a <|> b) ≡ None → (a ≡ None) × (b ≡ None)
unfolding ◌<|>◌
none_parts None b e = (refl, e)
none_parts (Some f) b e = absurd (let h : Some f ≡ None = e in cc)

pub unless_true : (test : Bool) (fault : WriteFault) → test ≡ true → unless test fault ≡ None
unfolding unless
unless_true test fault is = rw is refl

pub unless_false : (test : Bool) (fault : WriteFault) → test ≡ false → unless test fault ≡ Some fault
unfolding unless
unless_false test fault is = rw is refl

pub unless_none : (test : Bool) (fault : WriteFault) → unless test fault ≡ None → test ≡ true
unfolding unless
unless_none true fault e = refl
unless_none false fault e = absurd (let h : Some fault ≡ None = e in cc)

pub refuses_shape : (part : Part) (test : Bool) → test ≡ false → Refuses (BadShape part) (unless test (BadShape part))
unfolding Refuses
refuses_shape part test is = unless_false test (BadShape part) is

pub refuses_size : (part : Part) (test : Bool) → test ≡ false → Refuses (TooLarge part) (unless test (TooLarge part))
unfolding Refuses
refuses_size part test is = unless_false test (TooLarge part) is

pub refuses_itself : (part : Part) → Refuses (BadShape part) (Some (BadShape part))
unfolding Refuses
refuses_itself part = refl

pub refuses_memory : (e : WriteFault) (found : Option WriteFault) → e ≡ Memory → Refuses e found
unfolding Refuses
refuses_memory e found is = rw is tt

pub refuses_named : (e : WriteFault) (found : Option WriteFault) → Names e found → Refuses e found
unfolding Refuses
refuses_named Memory found names = tt
refuses_named (TooLarge part) found names = names
refuses_named (BadShape part) found names = names

pub refuses_as : (e : WriteFault) (a b : Option WriteFault) → a ≡ b → Refuses e a → Refuses e b
refuses_as e a b same refuses = subst (Refuses e) same refuses

-- a fault that is passed on
pub passed_on : {T : Type 0} (r : Result T WriteFault) (x : WriteFault) (found : Option WriteFault) → IsErrAnd r (λ e. e ≡ x) → Refuses x found
    → IfErr r (λ e. Refuses e found)
passed_on (Ok t) x found is refuses = tt
passed_on (Err e) x found is refuses = subst (λ (f : WriteFault). Refuses f found) (sym is) refuses

pub memory_passed_on : {T : Type 0} (r : Result T WriteFault) (found : Option WriteFault) → IsErrAnd r (λ e. e ≡ Memory) → IfErr r (λ e. Refuses e found)
memory_passed_on (Ok t) found is = tt
memory_passed_on (Err e) found is = refuses_memory e found is

pub only_memory : (e : WriteFault) (found : Option WriteFault) → Refuses e found → found ≡ None → e ≡ Memory
unfolding Refuses
only_memory Memory found refuses none = refl
only_memory (TooLarge part) found refuses none = absurd (let h : Some (TooLarge part) ≡ None = sym refuses ∙ none in cc)
only_memory (BadShape part) found refuses none = absurd (let h : Some (BadShape part) ≡ None = sym refuses ∙ none in cc)

pub unless_memory : {T : Type 0} (r : Result T WriteFault) (x : WriteFault) → IsErrAnd r (λ e. e ≡ x) → x ≡ Memory → IsOkUnless r Memory
unless_memory (Ok t) x is memory = tt
unless_memory (Err e) x is memory = is ∙ memory

pub ruleset faults = (refuses_here, refuses_later, none_both, unless_true, refuses_shape, refuses_size, refuses_memory, passed_on, memory_passed_on)
