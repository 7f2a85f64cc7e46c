-- What a cleaning leaves.
use Rattle.std.proofs.Common.{◌≡◌, ℕ, ◌⊎◌, inl, inr, List, [], ◌∷◌, Contains, Option, Some, None, Result, Ok, Err, OnOk, OnErr, sym, ap₂, subst, zero, suc, arith}
use Rattle.std.specs.List.{AllByRecursion}
use Rattle.io_traits.specs.Files.{Files, take_out}
use Rattle.out_store.specs.Changes.{takes_out, LeftByRemoves, OthersStay}
use Rattle.out_store.specs.Names.{IsTaskName, entry_name, log_name}
use Rattle.out_store.specs.Numbers.{Knows, KnowsIn}
use Rattle.out_store.specs.Standing.{Row, Stands, StandsIn}
use Rattle.out_store.specs.declared.numbers.Numbers.{Numbers}
use Rattle.out_store.proofs.PublishStands.{knows_remove}
use Rattle.out_store.proofs.Rows.{In, SafeGone, keep_removes, others_left_out}
use Rattle.out_store.proofs.StandingLaws.{stands_unread, stands_remove, log_aside}

-- all was taken away
pub all_out : (gone : List (List ℕ)) (old new : Option Files) → new ≡ takes_out gone old → LeftByRemoves gone old new
all_out [] old new is = is
all_out (name ∷ gone) old new is = inr (all_out gone (take_out name old) new is)

-- whole or refused
pub either_way : {T E : Type 0} (r : Result T E) (gone : List (List ℕ)) (old new : Option Files) → OnOk r (new ≡ takes_out gone old) → OnErr r (LeftByRemoves gone old new) → LeftByRemoves gone old new
either_way (Ok x) gone old new ok err = all_out gone old new ok
either_way (Err e) gone old new ok err = err

one_of_two : (a b name : List ℕ) → Contains (a ∷ b ∷ []) name → (name ≡ a) ⊎ (name ≡ b)
one_of_two a b name (zero, within, is) = inl (sym is)
one_of_two a b name (suc zero, within, is) = inr (sym is)
one_of_two a b name (suc (suc k), within, is) = absurd (omega (arith, within))

pub in_stands : (rows : List Row) (lost : List (List ℕ)) (content : Option Files) → StandsIn content rows lost → In (λ files. Stands files rows lost) content
in_stands rows lost None h = h
in_stands rows lost (Some files) h = h

pub stands_in : (rows : List Row) (lost : List (List ℕ)) (content : Option Files) → In (λ files. Stands files rows lost) content → StandsIn content rows lost
stands_in rows lost None h = h
stands_in rows lost (Some files) h = h

pub in_knows : (numbers : Numbers) (content : Option Files) → KnowsIn content numbers → In (λ files. Knows files numbers) content
in_knows numbers None h = h
in_knows numbers (Some files) h = h

pub knows_in : (numbers : Numbers) (content : Option Files) → In (λ files. Knows files numbers) content → KnowsIn content numbers
knows_in numbers None h = h
knows_in numbers (Some files) h = h

pub all_forget : (numbers : Numbers) (gone : List (List ℕ)) → AllByRecursion (SafeGone (λ files. Knows files numbers)) gone
all_forget numbers [] = tt
all_forget numbers (name ∷ gone) = (record { removal = λ files knows. knows_remove files name numbers knows }, all_forget numbers gone)

-- numbers stay known where names are taken away
pub knows_out : (numbers : Numbers) (gone : List (List ℕ)) (old new : Option Files) → LeftByRemoves gone old new → KnowsIn old numbers → KnowsIn new numbers
knows_out numbers gone old new left knows = knows_in numbers new (keep_removes (λ files. Knows files numbers) gone (all_forget numbers gone) old new left (in_knows numbers old knows))

module _ (task : List ℕ) (old new : Option Files) (left : LeftByRemoves (entry_name task ∷ log_name task ∷ []) old new) where
  pub clean_others : OthersStay (λ name. (name ≡ entry_name task) ⊎ (name ≡ log_name task)) old new
  clean_others name other = others_left_out (entry_name task ∷ log_name task ∷ []) old new left name (λ among. other (one_of_two (entry_name task) (log_name task) name among))

  pub clean_stands : (rows : List Row) (lost : List (List ℕ)) → IsTaskName task → StandsIn old rows lost → StandsIn new rows lost
  clean_stands rows lost named stands =
      stands_in rows lost new (keep_removes (λ files. Stands files rows lost) (entry_name task ∷ log_name task ∷ [])
      (record { removal = λ files h. stands_unread files task rows lost named h }, (record { removal = λ files h. stands_remove files (log_name task) rows lost (log_aside files task named) h }, tt))
      old new left (in_stands rows lost old stands))

pub two_names : (a b c d : List ℕ) → a ≡ c → b ≡ d → a ∷ b ∷ [] ≡ c ∷ d ∷ []
two_names a b c d first second = ap₂ (λ (x y : List ℕ). x ∷ y ∷ []) first second

pub left_at : (gone names : List (List ℕ)) (old new : Option Files) → gone ≡ names → LeftByRemoves gone old new → LeftByRemoves names old new
left_at gone names old new same left = subst (λ (ns : List (List ℕ)). LeftByRemoves ns old new) same left
