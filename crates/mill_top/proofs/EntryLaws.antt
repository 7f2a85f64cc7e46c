-- Laws of entries that read, over a store that may tell its content.
use Rattle.std.proofs.Common.{◌≡◌, ◌≢◌, ℕ, ℤ, List, Option, Some, None, IfSome, refl, sym, subst}
use Rattle.io_traits.specs.Files.{Files}
use Rattle.value_text.specs.Short.{as_short, int}
use Rattle.out_entry.specs.declared.entry.Entry.{Entry}
use Rattle.out_store.specs.Generations.{Reads}
use Rattle.out_store.proofs.StandingLaws.{one_entry}
use Rattle.mill_top.specs.declared.takes.FoundEntry.TheVariants.{Missing, Other, Same}
use Rattle.mill_top.specs.declared.outcome.Outcome.{Outcome}
use Rattle.mill_top.specs.Takes.{ReadsInt, HoldsNoInt, Why, IsGivenBy}

-- an entry of this input hash that holds no int
pub no_int_why : (task input : List ℕ) (content : Option Files) (entry : Entry) → IfSome content (λ files. Reads files task entry)
    → entry.input ≡ input → HoldsNoInt entry → IfSome content (λ files. Why files task input Missing)
no_int_why task input None entry reads same none = tt
no_int_why task input (Some files) entry reads same none = λ other own.
    let is : other ≡ entry = one_entry files task other entry own reads in
    subst (λ (e : Entry). (e.input ≡ input) × HoldsNoInt e) (sym is) (same, none)

-- an entry of another input hash
pub other_why : (task input : List ℕ) (content : Option Files) (entry : Entry) → IfSome content (λ files. Reads files task entry)
    → entry.input ≢ input → IfSome content (λ files. Why files task input (Other entry.input))
other_why task input None entry reads differs = tt
other_why task input (Some files) entry reads differs = (differs, (entry, reads, refl))

-- an entry of this input hash
pub same_why : (task input : List ℕ) (content : Option Files) (entry : Entry) (value : ℤ) → IfSome content (λ files. Reads files task entry)
    → as_short entry.value ≡ int value → entry.input ≡ input → IfSome content (λ files. Why files task input (Same input))
same_why task input None entry value reads holds same = tt
same_why task input (Some files) entry value reads holds same =
    let own : ReadsInt files task entry value = record { reads = reads; holds = holds } in
    (refl, (entry, value, own, same))

pub same_given : (task input : List ℕ) (content : Option Files) (outcome : Outcome) (entry : Entry) (value : ℤ) → IfSome content (λ files. Reads files task entry)
    → as_short entry.value ≡ int value → entry.input ≡ input → IsGivenBy content task (Same input) outcome value
same_given task input None outcome entry value reads holds same = tt
same_given task input (Some files) outcome entry value reads holds same = (entry, record { reads = reads; holds = holds }, same)
